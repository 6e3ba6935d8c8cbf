-- Lines, rows, and responders that take them.
use Rattle.std.proofs.Common.{◌≡◌, ℕ, zero, suc, min, ◌+◌, ◌-◌, ◌<◌, ◌≤◌, ◌==◌, Bool, true, false, cond, ltb, not, Some}
use Rattle.std.proofs.Common.{None, get_or, take, drop, length-drop, List, [], ◌∷◌, ◌++◌, length, if◌then◌else◌, refl}
use Rattle.std.proofs.Common.{ap, sym, ◌∙◌, subst, append_assoc, append-nil, arith, add-one, eq-eqb, eqb-true}
use Rattle.std.proofs.Common.{true≢false}
use Rattle.std.specs.List.{concat, position, position_or_len}
use Rattle.std.proofs.Math.Seq.{take-append-add, take-length}
use Rattle.std.proofs.lemmas.List.{drop-drop, length-take, take_all, take_min}
use Rattle.std.proofs.lemmas.List.Folds.{concat-append}
use Rattle.std.proofs.lemmas.List.Quantifiers.{position-Some}
use Rattle.std.proofs.lemmas.Bool.{ltb-false}
use Rattle.hsp_talk.specs.Talk.{AreTaken, RefusesRow, TakesRow, cut, is_line_feed, last_line, rows_of, whole_lines}
use Rattle.hsp_talk.specs.Refusals.{IsRefusal}
use Rattle.hsp_talk.specs.Turns.{AreCut, AreOwed, IsRefused, rows_ended_by}
use Rattle.hsp_talk.specs.declared.limits.TheConstants.{LONGEST_ROW}
use Rattle.hsp_talk.specs.declared.stop.Refusal.{Refusal}
use Rattle.hsp_talk.specs.declared.stop.Refusal.TheVariants as refusal

-- ---- lines

-- the lines of two pieces are those of the first, and those of the second behind what it began
pub lines_then : (begun xs ys : List ℕ)
    → whole_lines begun (xs ++ ys) ≡ whole_lines begun xs ++ whole_lines (last_line begun xs) ys
lines_then begun [] ys = refl
lines_then begun (x ∷ xs) ys =
    elim (x == 10) as (λ b. (if b then begun ∷ whole_lines [] (xs ++ ys) else whole_lines (begun ++ x ∷ []) (xs ++ ys))
    ≡ (if b then begun ∷ whole_lines [] xs else whole_lines (begun ++ x ∷ []) xs)
    ++ whole_lines (if b then last_line [] xs else last_line (begun ++ x ∷ []) xs) ys) [
      | true ↦ ap (λ lines. begun ∷ lines) (lines_then [] xs ys)
      | false ↦ lines_then (begun ++ x ∷ []) xs ys
    ]

-- the line that two pieces begin is the one that the second begins behind the first
pub last_then : (begun xs ys : List ℕ) → last_line begun (xs ++ ys) ≡ last_line (last_line begun xs) ys
last_then begun [] ys = refl
last_then begun (x ∷ xs) ys =
    elim (x == 10) as (λ b. (if b then last_line [] (xs ++ ys) else last_line (begun ++ x ∷ []) (xs ++ ys))
    ≡ last_line (if b then last_line [] xs else last_line (begun ++ x ∷ []) xs) ys) [
      | true ↦ last_then [] xs ys
      | false ↦ last_then (begun ++ x ∷ []) xs ys
    ]

-- rows of two runs of lines stand one after the other
pub rows_of-append : (rs bs : List (List ℕ)) → rows_of (rs ++ bs) ≡ rows_of rs ++ rows_of bs
rows_of-append [] bs = refl
rows_of-append ([] ∷ rs) bs = rows_of-append rs bs
rows_of-append ((x ∷ xs) ∷ rs) bs = ap (λ rows. cut (x ∷ xs) ∷ rows) (rows_of-append rs bs)

-- ---- cut lines

-- a beginning is the same whether the first part was cut before
taken_again : (n : ℕ) (a b : List ℕ) → take n (take n a ++ b) ≡ take n (a ++ b)
taken_again zero a b = refl
taken_again (suc n) [] b = refl
taken_again (suc n) (x ∷ a) b = ap (λ t. x ∷ t) (taken_again n a b)

-- a line that is cut and goes on
pub cut_then : (a b : List ℕ) → cut (cut a ++ b) ≡ cut (a ++ b)
unfolding cut
cut_then a b = taken_again (LONGEST_ROW + 1) a b

-- what was cut stays as it is
pub cut_twice : (a : List ℕ) → cut (cut a) ≡ cut a
cut_twice a = ap cut (sym (append-nil (cut a))) ∙ cut_then a [] ∙ ap cut (append-nil a)

-- a line within the limit is not cut
pub cut_short : (a : List ℕ) → length a ≤ LONGEST_ROW + 1 → cut a ≡ a
unfolding cut
cut_short a few = take_all (LONGEST_ROW + 1) a few

-- a cut line is within the limit
pub within_cut : (a : List ℕ) → length (cut a) ≤ LONGEST_ROW + 1
unfolding cut
within_cut a = omega (arith, length-take (LONGEST_ROW + 1) a)

-- of octets after a line as many are left as there is room
taken_after : (n : ℕ) (a b : List ℕ) → length a ≤ n → take n (a ++ b) ≡ a ++ take (n - length a) b
taken_after n a b few =
    let e : n ≡ length a + (n - length a) =
    omega arith in ap (λ k. take k (a ++ b)) e ∙ take-append-add a b (n - length a)

-- as many octets as there are, up to a bound, are the beginning up to the bound
taken_least : (n count : ℕ) (b : List ℕ) → count ≡ min (length b) n → take count b ≡ take n b
taken_least n count b e = let least : count ≡ min n (length b) = omega arith in rw least (take_min n b)

-- filling a line up to the limit cuts the longer line
pub cut_within : (a b : List ℕ) (count : ℕ) → length a ≤ LONGEST_ROW + 1
    → count ≡ min (length b) (LONGEST_ROW + 1 - length a) → a ++ take count b ≡ cut (a ++ b)
unfolding cut
cut_within a b count few is =
    ap (λ t. a ++ t) (taken_least (LONGEST_ROW + 1 - length a) count b is) ∙ sym (taken_after (LONGEST_ROW + 1) a b few)

-- the octets after a place
pub all_after : (octets more : List ℕ) (place : ℕ) → more ≡ drop place octets
    → take (length more - 1) (drop 1 more) ≡ drop (suc place) octets
all_after octets more place is =
    rw (← length-drop 1 more) (take-length (drop 1 more)) ∙ ap (drop 1) is ∙ drop-drop 1 place octets
    ∙ ap (λ k. drop k octets) (add-one place)

-- lines that are cut to the same, and go on
goes_on_so : (a b more : List ℕ) → cut a ≡ cut b → cut (a ++ more) ≡ cut (b ++ more)
goes_on_so a b more e = sym (cut_then a more) ∙ ap (λ c. cut (c ++ more)) e ∙ cut_then b more

-- a cut line with an octet is not empty
not_none_cut : (n y : ℕ) (b : List ℕ) → take (suc n) [] ≡ take (suc n) (y ∷ b) → ⊥
not_none_cut n y b e = let none : [] ≡ y ∷ take n b = e in cc none

-- lines that are cut to the same are the same row
pub row_so : (a b : List ℕ) (lines : List (List ℕ)) → cut a ≡ cut b → rows_of (a ∷ lines) ≡ rows_of (b ∷ lines)
unfolding cut
row_so [] [] lines e = refl
row_so [] (y ∷ b) lines e = absurd (not_none_cut LONGEST_ROW y b e)
row_so (x ∷ a) [] lines e = absurd (not_none_cut LONGEST_ROW x a (sym e))
row_so (x ∷ a) (y ∷ b) lines e = ap (λ row. row ∷ rows_of lines) e

-- rows go by what lines are cut to
pub rows_so : (a b octets : List ℕ) → cut a ≡ cut b → rows_of (whole_lines a octets) ≡ rows_of (whole_lines b octets)
rows_so a b [] e = refl
rows_so a b (x ∷ xs) e =
    elim (x == 10)
    as (λ t. rows_of (if t then a ∷ whole_lines [] xs else whole_lines (a ++ x ∷ []) xs)
    ≡ rows_of (if t then b ∷ whole_lines [] xs else whole_lines (b ++ x ∷ []) xs)) [
      | true ↦ row_so a b (whole_lines [] xs) e
      | false ↦ rows_so (a ++ x ∷ []) (b ++ x ∷ []) xs (goes_on_so a b (x ∷ []) e)
    ]

-- what a last line is cut to goes by what its beginning is cut to
pub last_so : (a b octets : List ℕ) → cut a ≡ cut b → cut (last_line a octets) ≡ cut (last_line b octets)
last_so a b [] e = e
last_so a b (x ∷ xs) e =
    elim (x == 10)
    as (λ t. cut (if t then last_line [] xs else last_line (a ++ x ∷ []) xs)
    ≡ cut (if t then last_line [] xs else last_line (b ++ x ∷ []) xs)) [
      | true ↦ refl
      | false ↦ last_so (a ++ x ∷ []) (b ++ x ∷ []) xs (goes_on_so a b (x ∷ []) e)
    ]

-- the rows that a piece ends go by what the line before it is cut to
pub ended_so : (a b piece : List ℕ) → cut a ≡ cut b → rows_ended_by a piece ≡ rows_ended_by b piece
ended_so a b [] e = row_so a b [] e
ended_so a b (x ∷ xs) e = rows_so a b (x ∷ xs) e

-- ---- where the first line ends

abbrev first_end : List ℕ → ℕ
first_end octets = position_or_len is_line_feed octets

pub record EndsAt (line octets : List ℕ) (place : ℕ) : Type 0 where
  pub lines : whole_lines line octets ≡ (line ++ take place octets) ∷ whole_lines [] (drop (suc place) octets)
  pub last : last_line line octets ≡ last_line [] (drop (suc place) octets)

-- the first line feed ends the line
ends_there : (line octets : List ℕ) (place : ℕ) → place < length octets → is_line_feed (get_or octets place 0) ≡ true
    → ((k : ℕ) → k < place → is_line_feed (get_or octets k 0) ≡ false) → EndsAt line octets place
ends_there line [] place less here before = absurd (omega arith)
ends_there line (x ∷ octets) zero less here before =
    record { lines = rw (here, append-nil line) refl; last = rw here refl }
ends_there line (x ∷ octets) (suc place) less here before =
    let first = before 0 (omega arith) in
    let more = ends_there (line ++ x ∷ []) octets place (omega arith) here (λ k lt. before (suc k) (omega arith)) in
    record {
      lines =
          rw first
          (more.lines
          ∙ ap (λ l. l ∷ whole_lines [] (drop (suc place) octets)) (append_assoc line (x ∷ []) (take place octets)));
      last = rw first more.last;
    }

-- the line ends where a line feed is found first
pub ends_at : (line octets : List ℕ) (place : ℕ) → position is_line_feed octets ≡ Some place → EndsAt line octets place
ends_at line octets place e =
    let p = position-Some is_line_feed octets place 0 e in ends_there line octets place p.0 p.1 p.2

pub record HasNoEnd (line octets : List ℕ) : Type 0 where
  pub lines : whole_lines line octets ≡ []
  pub last : last_line line octets ≡ line ++ octets

-- an octet that is no line feed leaves a line without an end
by_no_octet : (line octets : List ℕ) (x later : ℕ) (b : Bool) → (x == 10) ≡ b
    → ((later < length octets → ⊥) → HasNoEnd (line ++ x ∷ []) octets)
    → (cond (not b) (1 + later) 0 < length (x ∷ octets) → ⊥)
    → HasNoEnd line (x ∷ octets)
by_no_octet line octets x later true is rest none = absurd (none (omega arith))
by_no_octet line octets x later false is rest none =
    let more = rest (λ less. none (omega arith)) in
    record { lines = rw is more.lines; last = rw is (more.last ∙ append_assoc line (x ∷ []) octets) }

-- a line has no end where the octets have no line feed
no_end_there : (line octets : List ℕ) → (first_end octets < length octets → ⊥) → HasNoEnd line octets
no_end_there line [] none = record { lines = refl; last = sym (append-nil line) }
no_end_there line (x ∷ octets) none =
    by_no_octet line octets x (first_end octets) (x == 10) refl (no_end_there (line ++ x ∷ []) octets) none

-- a line has no end where no line feed is found
pub no_end : (line octets : List ℕ) → position is_line_feed octets ≡ None → HasNoEnd line octets
no_end line octets e = by (ltb (first_end octets) (length octets)) refl e
  where
    by : (b : Bool) → ltb (first_end octets) (length octets) ≡ b → cond b (Some (first_end octets)) None ≡ None
        → HasNoEnd line octets
    by true is same = cc same
    by false is same = no_end_there line octets (λ less. let most = ltb-false _ _ is in omega arith)

-- nothing is cut to nothing
pub cut_none : cut [] ≡ []
unfolding cut
cut_none = refl

-- a line that no octets follow
pub cut_at_end : (line piece : List ℕ) → length piece ≡ 0 → length line ≤ LONGEST_ROW + 1
    → line ≡ cut (last_line line piece)
cut_at_end line [] none few = sym (cut_short line few)
cut_at_end line (x ∷ piece) none few = absurd (omega arith)

-- ---- rows

-- a line with octets, within the limit, is a row
pub one_row : (line : List ℕ) → (length line ≡ 0 → ⊥) → length line ≤ LONGEST_ROW + 1 → rows_of (line ∷ []) ≡ line ∷ []
one_row [] ne few = absurd (ne refl)
one_row (x ∷ xs) ne few = ap (λ row. row ∷ []) (cut_short (x ∷ xs) few)

-- ---- responders

module _ {D : Type 0} (Takes : TakesRow D) where
  -- rows that are taken in two runs are taken in one
  pub taken_then : (first : D) (rs : List (List ℕ)) (at : D) (for_as bs : List (List ℕ)) (last : D)
      (for_bs : List (List ℕ)) →
      AreTaken Takes first rs at for_as → AreTaken Takes at bs last for_bs
      → AreTaken Takes first (rs ++ bs) last (for_as ++ for_bs)
  taken_then first [] at [] bs last for_bs so after = subst (λ d. AreTaken Takes d bs last for_bs) so after
  taken_then first (a ∷ rs) at (x ∷ xs) bs last for_bs so after =
      (so.0, so.1, taken_then so.0 rs at xs bs last for_bs so.2 after)
  taken_then first [] at (x ∷ xs) bs last for_bs so after = absurd so
  taken_then first (a ∷ rs) at [] bs last for_bs so after = absurd so

  -- each row that is taken has one answer
  pub as_many : (first : D) (rs : List (List ℕ)) (last : D) (answers : List (List ℕ))
      → AreTaken Takes first rs last answers → length rs ≡ length answers
  as_many first [] last [] so = refl
  as_many first (a ∷ rs) last (x ∷ xs) so = let rest = as_many so.0 rs last xs so.2 in omega arith
  as_many first [] last (x ∷ xs) so = absurd so
  as_many first (a ∷ rs) last [] so = absurd so

  -- no rows owe nothing more
  pub none_owed : (at : D) (owed : List ℕ) → AreOwed Takes at at [] owed owed
  none_owed at owed = ([], refl, sym (append-nil owed))

  -- what two runs of rows owe is owed one after the other
  pub owed_then : (first at last : D) (rs bs : List (List ℕ)) (owed now after : List ℕ) →
      AreOwed Takes first at rs owed now → AreOwed Takes at last bs now after
      → AreOwed Takes first last (rs ++ bs) owed after
  owed_then first at last rs bs owed now after so more = (
    so.0 ++ more.0,
    taken_then first rs at so.0 bs last more.0 so.1 more.1,
    more.2 ∙ ap (λ o. o ++ concat more.0) so.2 ∙ append_assoc owed (concat so.0) (concat more.0)
        ∙ ap (λ o. owed ++ o) (sym (concat-append so.0 more.0)),
  )

  -- a row is taken
  pub one_owed : (first last : D) (line owed answer now : List ℕ) → (length line ≡ 0 → ⊥)
      → length line ≤ LONGEST_ROW + 1 → Takes first line last answer → now ≡ owed ++ answer →
      AreOwed Takes first last (rows_of (line ∷ [])) owed now
  one_owed first last line owed answer now ne few so is =
      subst (λ rows. AreOwed Takes first last rows owed now) (sym (one_row line ne few))
      (answer ∷ [], (last, so, refl), is ∙ ap (λ a. owed ++ a) (sym (append-nil answer)))

  -- ---- the lines of a piece

  -- the lines so far were taken, and `rest` is left
  pub record SoFar (first at : D) (all : List (List ℕ)) (begins line rest owed now : List ℕ) : Type 0 where
    pub rows : List (List ℕ)
    pub left : all ≡ rows ++ rows_of (whole_lines line rest)
    pub taken : AreOwed Takes first at rows owed now
    pub begun : begins ≡ cut (last_line line rest)

  -- at the beginning no row was taken
  pub so_far : (first : D) (line octets rest owed : List ℕ) → octets ≡ rest →
      SoFar first first (rows_of (whole_lines line octets)) (cut (last_line line octets)) line rest owed owed
  so_far first line octets rest owed e = record {
    rows = [];
    left = ap (λ r. rows_of (whole_lines line r)) e;
    taken = none_owed first owed;
    begun = ap (λ r. cut (last_line line r)) e;
  }

  module _ (first at : D) (all : List (List ℕ)) (begins line rest owed now : List ℕ)
      (so : SoFar first at all begins line rest owed now) (place : ℕ) (next : position is_line_feed rest ≡ Some place)
      (ended : List ℕ) (is : ended ≡ cut (line ++ take place rest)) where
    -- the rows from the line that ends on
    rows_from : all ≡ so.rows ++ rows_of (ended ∷ []) ++ rows_of (whole_lines [] (drop (suc place) rest))
    rows_from =
        so.left ∙ ap (λ l. so.rows ++ rows_of l) (ends_at line rest place next).lines
        ∙ ap (λ r. so.rows ++ r)
        (sym
        (row_so ended (line ++ take place rest) (whole_lines [] (drop (suc place) rest))
        (ap cut is ∙ cut_twice (line ++ take place rest))))
        ∙ ap (λ r. so.rows ++ r) (rows_of-append (ended ∷ []) (whole_lines [] (drop (suc place) rest)))
        ∙ sym (append_assoc so.rows (rows_of (ended ∷ [])) (rows_of (whole_lines [] (drop (suc place) rest))))

    -- a line ends, and `left` is left of the octets
    pub line_ends : (after : D) (owing begun left : List ℕ) → AreOwed Takes at after (rows_of (ended ∷ [])) now owing
        → begun ≡ [] → left ≡ drop (suc place) rest → SoFar first after all begins begun left owed owing
    line_ends after owing begun left more none from = rw (none, from) (record {
      rows = so.rows ++ rows_of (ended ∷ []);
      left = rows_from;
      taken = owed_then first at after so.rows (rows_of (ended ∷ [])) owed now owing so.taken more;
      begun = so.begun ∙ ap cut (ends_at line rest place next).last;
    })

  -- no line ends any more
  pub all_taken : (first at : D) (all : List (List ℕ)) (begins line rest owed now : List ℕ)
      → SoFar first at all begins line rest owed now → position is_line_feed rest ≡ None
      → AreOwed Takes first at all owed now
  all_taken first at all begins line rest owed now so none =
      subst (λ rows. AreOwed Takes first at rows owed now)
      (sym (so.left ∙ ap (λ l. so.rows ++ rows_of l) (no_end line rest none).lines ∙ append-nil so.rows)) so.taken

  -- where no line feed is left, the rest begins the next row
  pub all_begun : (first at : D) (all : List (List ℕ)) (begins line rest owed now : List ℕ)
      → SoFar first at all begins line rest owed now → position is_line_feed rest ≡ None
      → cut (line ++ rest) ≡ begins
  all_begun first at all begins line rest owed now so none = sym (so.begun ∙ ap cut (no_end line rest none).last)

  -- ---- refusals

  module _ {F : Type 0} (Refuses : RefusesRow D F) where
    -- a row that was refused stays refused, whatever comes later
    refused_then : (at : D) (rows more : List (List ℕ)) (last : D) (by : Refusal F) → IsRefused Refuses at rows last by
        → IsRefused Refuses at (rows ++ more) last by
    refused_then at rows more last (refusal.Fault fault) so = (so.0, so.1 ++ more, ap (λ r. r ++ more) so.2, so.3)
    refused_then at rows more last refusal.OutOfMemory so = so

    -- a row is refused at once
    pub cut_here : (at last : D) (rows : List (List ℕ)) (owed : List ℕ) (by : Refusal F)
        → IsRefused Refuses at rows last by → AreCut Takes Refuses at last rows owed owed by
    cut_here at last rows owed by so =
        record { at = at; rows = []; later = rows; parted = refl; taken = none_owed at owed; refused = so }

    -- rows were taken, and after one is refused
    pub cut_after : (first at last : D) (taken rows later all : List (List ℕ)) (owed now after : List ℕ)
        (by : Refusal F) → all ≡ taken ++ rows ++ later →
        AreOwed Takes first at taken owed now → AreCut Takes Refuses at last rows now after by
        → AreCut Takes Refuses first last all owed after by
    cut_after first at last taken rows later all owed now after by e so cut = record {
      at = cut.at;
      rows = taken ++ cut.rows;
      later = cut.later ++ later;
      parted =
          e ∙ ap (λ r. taken ++ r ++ later) cut.parted
          ∙ ap (λ r. r ++ later) (sym (append_assoc taken cut.rows cut.later))
          ∙ append_assoc (taken ++ cut.rows) cut.later later;
      taken = owed_then first at cut.at taken cut.rows owed now after so cut.taken;
      refused = refused_then cut.at cut.later later last by cut.refused;
    }

    -- the next line ends, and its row is taken or refused
    pub line_cut : (first at last : D) (all : List (List ℕ)) (begins line rest owed now after : List ℕ) (by : Refusal F)
        (so : SoFar first at all begins line rest owed now) (place : ℕ)
        → position is_line_feed rest ≡ Some place → (ended : List ℕ) → ended ≡ cut (line ++ take place rest)
        → AreCut Takes Refuses at last (rows_of (ended ∷ [])) now after by
        → AreCut Takes Refuses first last all owed after by
    line_cut first at last all begins line rest owed now after by so place next ended is cut =
        cut_after first at last so.rows (rows_of (ended ∷ [])) (rows_of (whole_lines [] (drop (suc place) rest))) all
        owed now after by
        (rows_from first at all begins line rest owed now so place next ended is) so.taken cut

-- ---- tests

-- a number that is not zero by the test
pub not_none : (n : ℕ) → (n == 0) ≡ false → (n ≡ 0 → ⊥)
not_none n f e = true≢false (sym (eq-eqb n 0 e) ∙ f)

-- a number that is zero by the test
pub is_none : (n : ℕ) → (n == 0) ≡ true → n ≡ 0
is_none n t = eqb-true n 0 t

-- why a responder refuses a row
pub refused_by : {D F : Type 0} (Refuses : RefusesRow D F) (at last : D) (line : List ℕ) (by : Refusal F)
    → (length line ≡ 0 → ⊥) → length line ≤ LONGEST_ROW + 1 → IsRefusal (Refuses at line last) by →
    IsRefused Refuses at (rows_of (line ∷ [])) last by
refused_by Refuses at last line (refusal.Fault fault) some few so = (line, [], one_row line some few, so)
refused_by Refuses at last line refusal.OutOfMemory some few so = tt
