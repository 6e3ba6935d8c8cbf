-- A line without marks is read as one record: its parts between commas.
use Rattle.std.proofs.Common.{◌≡◌, ◌∙◌, ℕ, zero, suc, ◌==◌, ◌||◌, Bool, true, false, List, [], ◌∷◌, ◌++◌, Option, Some}
use Rattle.std.proofs.Common.{length, eqb-true, refl, ap, sym, append-nil, append_assoc, add-one, arith}
use Rattle.std.specs.List.{list_any}
use Rattle.std.proofs.lemmas.Bool.{or_parts}
use Rattle.std.proofs.lemmas.List.Folds.{list_any-append}
use Rattle.csv.specs.Machine.{Read, next_record}
use Rattle.csv.specs.Reading.{default_config, records, records_from}
use Rattle.csv.specs.declared.parser.State.TheVariants as st
use Rattle.hsp_csv.specs.Records.{Fields}
use Rattle.hsp_csv.specs.Plain.{is_comma, is_mark}
use Rattle.hsp_csv.specs.Row.{row_of, shape_of}
use Rattle.hsp_csv.specs.Row.Shape.{blank, one, two, other}

-- a list has none of some octets where its first is none and its rest has none
first_of : (p : ℕ → Bool) (c : ℕ) (rest : List ℕ) → list_any p (c ∷ rest) ≡ false → p c ≡ false
first_of p c rest e = (or_parts (p c) (list_any p rest) e).0

-- what no octet of a line is, none of its rest is
rest_of : (p : ℕ → Bool) (c : ℕ) (rest : List ℕ) → list_any p (c ∷ rest) ≡ false → list_any p rest ≡ false
rest_of p c rest e = (or_parts (p c) (list_any p rest) e).1

-- what no octet of two parts is, none of either part is
halves : (p : ℕ → Bool) (a b : List ℕ) → list_any p (a ++ b) ≡ false → (list_any p a ≡ false) × (list_any p b ≡ false)
halves p a b e = or_parts (list_any p a) (list_any p b) (sym (list_any-append p a b) ∙ e)

-- an octet is no quote, no carriage return and no line feed
record IsPlain (c : ℕ) : Type 0 where
  quote : (c == 34) ≡ false
  back : (c == 13) ≡ false
  feed : (c == 10) ≡ false

-- an octet without a meaning of its own is taken as it is
plain : (c : ℕ) → is_mark c ≡ false → IsPlain c
plain c e =
    let a = or_parts ((c == 34) || (c == 13)) (c == 10) e in
    let b = or_parts (c == 34) (c == 13) a.0 in
    record { quote = b.0; back = b.1; feed = a.1 }

-- ---- one octet

-- such an octet is put behind its field
joins : (fields : Fields) (field rest : List ℕ) (c : ℕ) → IsPlain c → is_comma c ≡ false
    → next_record default_config st.InField fields field (c ∷ rest)
    ≡ next_record default_config st.InField fields (field ++ c ∷ []) rest
unfolding next_record
joins fields field rest c is apart = rw (apart, is.back, is.feed) refl

-- a comma ends its field
parts : (fields : Fields) (field rest : List ℕ)
    → next_record default_config st.InField fields field (44 ∷ rest)
    ≡ next_record default_config st.StartField (fields ++ field ∷ []) [] rest
unfolding next_record
parts fields field rest = refl

-- a field or a record begins
begins : (fields : Fields) (c : ℕ) (rest : List ℕ) → (c == 34) ≡ false
    → next_record default_config st.StartField fields [] (c ∷ rest)
    ≡ next_record default_config st.InField fields [] (c ∷ rest)
unfolding next_record
begins fields c rest e = rw e refl

-- a first octet begins a field
begins_record : (c : ℕ) (rest : List ℕ) → IsPlain c
    → next_record default_config st.StartRecord [] [] (c ∷ rest)
    ≡ next_record default_config st.StartField [] [] (c ∷ rest)
unfolding next_record
begins_record c rest is = rw (is.back, is.feed) refl

-- the end of a line ends its last field
ends : (fields : Fields) (field : List ℕ)
    → next_record default_config st.InField fields field [] ≡ Some (fields ++ field ∷ [], st.StartRecord, [])
unfolding next_record
ends fields field = refl

-- behind a last comma stands an empty field
ends_empty : (fields : Fields)
    → next_record default_config st.StartField fields [] [] ≡ Some (fields ++ [] ∷ [], st.StartRecord, [])
unfolding next_record
ends_empty fields = refl

-- ---- fields

-- the octets of a field
runs : (fields : Fields) (field x tail : List ℕ) → list_any is_mark x ≡ false → list_any is_comma x ≡ false
    → next_record default_config st.InField fields field (x ++ tail)
    ≡ next_record default_config st.InField fields (field ++ x) tail
runs fields field [] tail m e = ap (λ f. next_record default_config st.InField fields f tail) (sym (append-nil field))
runs fields field (c ∷ x) tail m e =
    joins fields field (x ++ tail) c (plain c (first_of is_mark c x m)) (first_of is_comma c x e)
    ∙ runs fields (field ++ c ∷ []) x tail (rest_of is_mark c x m) (rest_of is_comma c x e)
    ∙ ap (λ f. next_record default_config st.InField fields f tail) (append_assoc field (c ∷ []) x)

-- a field before a comma
pub before_comma : (fields : Fields) (x rest : List ℕ) → list_any is_mark x ≡ false → list_any is_comma x ≡ false
    → next_record default_config st.StartField fields [] (x ++ 44 ∷ rest)
    ≡ next_record default_config st.StartField (fields ++ x ∷ []) [] rest
before_comma fields [] rest m e = begins fields 44 rest refl ∙ parts fields [] rest
before_comma fields (c ∷ x) rest m e =
    begins fields c (x ++ 44 ∷ rest) (plain c (first_of is_mark c x m)).quote ∙ runs fields [] (c ∷ x) (44 ∷ rest) m e
    ∙ parts fields (c ∷ x) rest

-- the last field
last_field : (fields : Fields) (x : List ℕ) → list_any is_mark x ≡ false → list_any is_comma x ≡ false
    → next_record default_config st.StartField fields [] x ≡ Some (fields ++ x ∷ [], st.StartRecord, [])
last_field fields [] m e = ends_empty fields
last_field fields (c ∷ x) m e =
    begins fields c x (plain c (first_of is_mark c x m)).quote
    ∙ ap (λ octets. next_record default_config st.InField fields [] octets) (sym (append-nil (c ∷ x)))
    ∙ runs fields [] (c ∷ x) [] m e ∙ ends fields (c ∷ x)

-- a record of some fields and at least one more
abbrev HasMore : Fields → Option Read → Type 0
HasMore fields read = (next : List ℕ) × (more : Fields) × (read ≡ Some (fields ++ next ∷ more, st.StartRecord, []))

-- a field that begins goes on as any field
starts : (fields : Fields) (x : List ℕ) → list_any is_mark x ≡ false
    → HasMore fields (next_record default_config st.InField fields [] x)
    → HasMore fields (next_record default_config st.StartField fields [] x)
starts fields [] m has = ([], [], ends_empty fields)
starts fields (c ∷ x) m has = (has.0, has.1, begins fields c x (plain c (first_of is_mark c x m)).quote ∙ has.2)

-- a field goes on by its next octet, which is a comma or not
by_octet : (fields : Fields) (field x : List ℕ) (c : ℕ) → list_any is_mark (c ∷ x) ≡ false
    → HasMore (fields ++ field ∷ []) (next_record default_config st.InField (fields ++ field ∷ []) [] x)
    → HasMore fields (next_record default_config st.InField fields (field ++ c ∷ []) x) → (b : Bool) → is_comma c ≡ b
    → HasMore fields (next_record default_config st.InField fields field (c ∷ x))
by_octet fields field x c m after_comma within true is =
    let here : c ≡ 44 = eqb-true c 44 is in
    let rest = starts (fields ++ field ∷ []) x (rest_of is_mark c x m) after_comma in (
      field,
      rest.0 ∷ rest.1,
      ap (λ o. next_record default_config st.InField fields field (o ∷ x)) here ∙ parts fields field x ∙ rest.2
          ∙ ap (λ (f : Fields). Some (f, st.StartRecord, [])) (append_assoc fields (field ∷ []) (rest.0 ∷ rest.1)),
    )
by_octet fields field x c m after_comma within false apart =
    (within.0, within.1, joins fields field x c (plain c (first_of is_mark c x m)) apart ∙ within.2)

-- a line without marks has at least one field more
goes_on : (fields : Fields) (field x : List ℕ) → list_any is_mark x ≡ false
    → HasMore fields (next_record default_config st.InField fields field x)
goes_on fields field [] m = (field, [], ends fields field)
goes_on fields field (c ∷ x) m =
    by_octet fields field x c m (goes_on (fields ++ field ∷ []) [] x (rest_of is_mark c x m))
    (goes_on fields (field ++ c ∷ []) x (rest_of is_mark c x m)) (is_comma c) refl

-- so has one whose field begins
some_more : (fields : Fields) (x : List ℕ) → list_any is_mark x ≡ false
    → HasMore fields (next_record default_config st.StartField fields [] x)
some_more fields x m = starts fields x m (goes_on fields [] x m)

-- ---- lines

-- behind the end no record is left
none_at_end : (steps : ℕ) → records_from default_config steps st.StartRecord [] ≡ []
unfolding records_from next_record
none_at_end zero = refl
none_at_end (suc steps) = refl

-- a line that is read whole has one record
one_record : (line : List ℕ) (fields : Fields)
    → next_record default_config st.StartRecord [] [] line ≡ Some (fields, st.StartRecord, [])
    → records default_config line ≡ fields ∷ []
unfolding records_from
one_record line fields e = rw (add-one (length line), e, none_at_end (length line)) refl

-- a line with octets begins a record
is_begun : (line : List ℕ) → list_any is_mark line ≡ false → (length line ≡ 0 → ⊥)
    → next_record default_config st.StartRecord [] [] line ≡ next_record default_config st.StartField [] [] line
is_begun [] m some = absurd (some refl)
is_begun (c ∷ x) m some = begins_record c x (plain c (first_of is_mark c x m))

-- no octets have no record
row_of_none : row_of [] ≡ blank
unfolding records_from next_record
row_of_none = refl

-- an empty line has no record
pub row_of_empty : (line : List ℕ) → length line ≡ 0 → row_of line ≡ blank
row_of_empty [] e = row_of_none
row_of_empty (c ∷ x) e = absurd (omega arith)

-- a line without a comma is one field
pub row_of_one : (line : List ℕ) → list_any is_mark line ≡ false → (length line ≡ 0 → ⊥)
    → list_any is_comma line ≡ false → row_of line ≡ one line
row_of_one line m some e = ap shape_of (one_record line (line ∷ []) (is_begun line m some ∙ last_field [] line m e))

-- a line with a comma is not empty
not_empty : (x rest : List ℕ) → length (x ++ 44 ∷ rest) ≡ 0 → ⊥
not_empty [] rest e = omega arith
not_empty (c ∷ x) rest e = omega arith

-- a line with one comma is two fields
pub row_of_two : (line first second : List ℕ) → list_any is_mark line ≡ false → line ≡ first ++ 44 ∷ second
    → list_any is_comma first ≡ false → list_any is_comma second ≡ false → row_of line ≡ two first second
row_of_two line first second m e e_first e_second =
    let m' : list_any is_mark (first ++ 44 ∷ second) ≡ false = rw (← e) m in
    let later = rest_of is_mark 44 second (halves is_mark first (44 ∷ second) m').1 in
    let read =
    is_begun (first ++ 44 ∷ second) m' (not_empty first second)
    ∙ before_comma [] first second (halves is_mark first (44 ∷ second) m').0 e_first
    ∙ last_field (first ∷ []) second later e_second in
    ap row_of e ∙ ap shape_of (one_record (first ++ 44 ∷ second) (first ∷ second ∷ []) read)

-- a line with more commas is another row
pub row_of_more : (line first rest second third : List ℕ) → list_any is_mark line ≡ false → line ≡ first ++ 44 ∷ rest
    → list_any is_comma first ≡ false → rest ≡ second ++ 44 ∷ third → list_any is_comma second ≡ false
    → row_of line ≡ other
row_of_more line first rest second third m e e_first e' e_second =
    let all : line ≡ first ++ 44 ∷ (second ++ 44 ∷ third) = e ∙ ap (λ r. first ++ 44 ∷ r) e' in
    let m' : list_any is_mark (first ++ 44 ∷ (second ++ 44 ∷ third)) ≡ false = rw (← all) m in
    let later = rest_of is_mark 44 (second ++ 44 ∷ third) (halves is_mark first (44 ∷ (second ++ 44 ∷ third)) m').1 in
    let more =
    some_more (first ∷ second ∷ []) third (rest_of is_mark 44 third (halves is_mark second (44 ∷ third) later).1) in
    let read = is_begun (first ++ 44 ∷ (second ++ 44 ∷ third)) m' (not_empty first (second ++ 44 ∷ third))
    ∙ before_comma [] first (second ++ 44 ∷ third) (halves is_mark first (44 ∷ (second ++ 44 ∷ third)) m').0 e_first
    ∙ before_comma (first ∷ []) second third (halves is_mark second (44 ∷ third) later).0 e_second ∙ more.2 in
    ap row_of all
    ∙ ap shape_of (one_record (first ++ 44 ∷ (second ++ 44 ∷ third)) (first ∷ second ∷ more.0 ∷ more.1) read)
