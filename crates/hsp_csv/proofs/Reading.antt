-- Each record takes octets of the text, so that as many steps as there are octets, and one, list every record.
use Rattle.std.proofs.Common.{◌≡◌, ◌<◌, ◌+◌, ◌⊎◌, inl, inr, ℕ, zero, suc, List, [], ◌∷◌, length, Option, Some, None}
use Rattle.std.proofs.Common.{Bool, true, false, IsSome, refl, sym, ap, ◌∙◌, add-one, arith, cond}
use Rattle.std.proofs.lemmas.Bool.{false≢true}
use Rattle.csv.specs.Machine.{Read, next_record, step, is_end, ends_at_end, fields_after, field_after}
use Rattle.csv.specs.Reading.{NextIs, ReadRecord, ReadsNext, default_config, is_flexible, pending_of, reader_source}
use Rattle.csv.specs.Reading.{reader_state, records_from, records_next, source_of, took_first}
use Rattle.csv.specs.declared.reader.Reader.{Reader}
use Rattle.csv.specs.declared.parser.Config.{Config}
use Rattle.csv.specs.declared.parser.State.{State}
use Rattle.csv.specs.declared.parser.State.TheVariants as state
use Rattle.hsp_csv.specs.Records.{Fields, IsReading, TakesRecord, records_from_state}

-- after a record fewer octets are left, or the text is at its end
abbrev IsNearerTheEnd : List ℕ → Read → Type 0
IsNearerTheEnd octets read = (length read.2 < length octets) ⊎ ((read.1 ≡ state.StartRecord) × (read.2 ≡ []))

-- a reading has one value
same_read : (x y : Read) → Some x ≡ Some y → x ≡ y
same_read x y e = cc

-- the end of a text ends a record only where a record has begun
record_at_end : (begun : Bool) (x y : Read) → cond begun (Some x) None ≡ Some y → x ≡ y
record_at_end true x y e = cc
record_at_end false x y e = cc

-- what is nearer to the end is nearer by one octet more
nearer_by_one : (octet : ℕ) (octets : List ℕ) (read : Read) → IsNearerTheEnd octets read
    → IsNearerTheEnd (octet ∷ octets) read
nearer_by_one octet octets read (inl fewer) = inl (omega arith)
nearer_by_one octet octets read (inr ended) = inr ended

-- each record brings the reading nearer to the end
record_nears_end : (config : Config) (s : State) (fields : Fields) (field octets : List ℕ) (read : Read)
    → next_record config s fields field octets ≡ Some read → IsNearerTheEnd octets read
unfolding next_record
record_nears_end config s fields field [] read e =
    let same = record_at_end (ends_at_end s) _ read e in
    inr (ap (λ (r : Read). r.1) (sym same), ap (λ (r : Read). r.2) (sym same))
record_nears_end config s fields field (octet ∷ rest) read e =
    by_action (is_end (step config s octet).1) refl (record_nears_end config (step config s octet).0 _ _ rest read)
  where
    by_action : (ended : Bool) → is_end (step config s octet).1 ≡ ended
        → (next_record config (step config s octet).0 (fields_after (step config s octet).1 fields field)
        (field_after (step config s octet).1 octet field) rest ≡ Some read → IsNearerTheEnd rest read)
        → IsNearerTheEnd (octet ∷ rest) read
    by_action true is later =
        let same = same_read _ read (rw is at e) in
        let left : length read.2 ≡ length rest = ap (λ (r : Read). length r.2) (sym same) in
        inl (omega arith)
    by_action false is later = nearer_by_one octet rest read (later (rw is at e))

-- at its end a text has no further record
none_at_end : (config : Config) (steps : ℕ) → records_from config steps state.StartRecord [] ≡ []
unfolding records_from next_record
none_at_end config zero = refl
none_at_end config (suc steps) = refl

-- any two numbers of steps above the number of octets list the same records
steps_enough : (config : Config) (n m : ℕ) (s : State) (octets : List ℕ) → length octets < n → length octets < m
    → records_from config n s octets ≡ records_from config m s octets
unfolding records_from
steps_enough config zero m s octets h k = absurd (omega arith)
steps_enough config (suc n) zero s octets h k = absurd (omega arith)
steps_enough config (suc n) (suc m) s octets h k =
    by_read (next_record config s [] [] octets) refl (steps_enough config n m)
  where
    by_read : (read : Option Read) → next_record config s [] [] octets ≡ read
        → ((s2 : State) (rest : List ℕ) → length rest < n → length rest < m
        → records_from config n s2 rest ≡ records_from config m s2 rest)
        → records_next (records_from config n) read ≡ records_next (records_from config m) read
    by_read None e later = refl
    by_read (Some read) e later =
        elim (record_nears_end config s [] [] octets read e) [
          | inl fewer ↦ ap (λ (t : List Fields). read.0 ∷ t) (later read.1 read.2 (omega arith) (omega arith))
          | inr ended ↦ rw (ended.0, ended.1, none_at_end config n, none_at_end config m) refl
        ]

-- a record that is read stands before the records of what it leaves
first_record : (s : State) (octets : List ℕ) (read : Read) → next_record default_config s [] [] octets ≡ Some read
    → records_from_state s (Some octets) ≡ read.0 ∷ records_from_state read.1 (Some read.2)
unfolding records_from
first_record s octets read e =
    rw (add-one (length octets), e) (elim (record_nears_end default_config s [] [] octets read e) [
      | inl fewer ↦
          ap (λ (t : List Fields). read.0 ∷ t)
          (steps_enough default_config (length octets) (length read.2 + 1) read.1 read.2 (omega arith) (omega arith))
      | inr ended ↦ rw (ended.0, ended.1, none_at_end default_config (length octets), none_at_end default_config 1) refl
    ])

-- where no record is read, none is left
no_record : (s : State) (octets : List ℕ) → next_record default_config s [] [] octets ≡ None
    → records_from_state s (Some octets) ≡ []
unfolding records_from
no_record s octets e = rw (add-one (length octets), e) refl

-- the records before and after a read of known octets
abbrev Leaves : State → State → Option (List ℕ) → Option (List ℕ) → Bool → Fields → Type 0
Leaves s s2 before after true fields =
    (records_from_state s before ≡ fields ∷ records_from_state s2 after) × IsSome after
Leaves s s2 before after false fields = records_from_state s before ≡ []

-- the records that are left begin with the one that was read
next_leaves : (s s2 : State) (before after : List ℕ) (found : Bool) (fields : Fields) (read : Option Read)
    → next_record default_config s [] [] before ≡ read → NextIs read found fields s2 after
    → Leaves s s2 (Some before) (Some after) found fields
next_leaves s s2 before after true fields None e next = cc next
next_leaves s s2 before after false fields None e next = no_record s before e
next_leaves s s2 before after true fields (Some read) e next =
    (rw (next.1, next.2, next.3) (first_record s before read e), refl)
next_leaves s s2 before after false fields (Some read) e next = cc next.0

-- so they do where the octets are known
read_leaves : (s s2 : State) (before after : Option (List ℕ)) (found : Bool) (fields : Fields) → IsSome before
    → ReadsNext default_config s before after found fields s2 → Leaves s s2 before after found fields
read_leaves s s2 None after found fields known reads = absurd (false≢true known)
read_leaves s s2 (Some before) None found fields known reads = absurd reads
read_leaves s s2 (Some before) (Some after) found fields known reads =
    next_leaves s s2 before after found fields _ refl reads

-- a read by the crate takes the next of the records that are left
pub takes_record : {R : Type 0} (remaining : R → Option (List ℕ)) (old new : Reader R) (found : Bool) (fields : Fields)
    → IsReading old → ReadRecord remaining old new found fields → TakesRecord remaining old new found fields
takes_record remaining old new true fields is read = λ known.
    let leaves =
    read_leaves (reader_state old) (reader_state new) (source_of remaining old)
    (pending_of (remaining (reader_source new)) new) true fields known (rw is.by_default at read.0) in
    (rw read.1 leaves.0, rw read.1 leaves.1)
takes_record remaining old new false fields is read = λ known.
    read_leaves (reader_state old) (reader_state new) (source_of remaining old)
    (pending_of (remaining (reader_source new)) new) false fields known (rw is.by_default at read.0)

-- a reader that read goes on reading in the same way
pub still_reading : {R : Type 0} (remaining : R → Option (List ℕ)) (old new : Reader R) (found : Bool) (fields : Fields)
    → IsReading old → ReadRecord remaining old new found fields → took_first new ≡ true
    → is_flexible new ≡ is_flexible old → IsReading new
still_reading remaining old new found fields is read first flexible =
    record {
      ready = inl first;
      untrimmed = read.3 ∙ is.untrimmed;
      by_default = read.2 ∙ is.by_default;
      flexible = flexible ∙ is.flexible;
    }
