-- Each record with places takes octets of the text, so that as many steps as there are octets, and one, list every one.
use Rattle.std.proofs.Common.{◌≡◌, ◌<◌, ◌+◌, ◌⊎◌, inl, inr, ℕ, zero, suc, List, [], ◌∷◌, length, Option, Some, None}
use Rattle.std.proofs.Common.{option_map}
use Rattle.std.proofs.Common.{Bool, true, false, refl, sym, ap, add-one, arith, cond}
use Rattle.csv.specs.Machine.{ends_at_end}
use Rattle.csv.specs.declared.parser.State.{State}
use Rattle.csv.specs.declared.parser.State.TheVariants as state
use Rattle.hsp_csv.specs.Places.{Placed, TakesPlaced, Walk, ends_record, fresh, placed_behind, placed_from, placed_next}
use Rattle.hsp_csv.specs.Places.{placed_of_walk, walk_after, walk_at_end, walk_to_end}
use Rattle.hsp_csv.specs.Walks.{EndsText, GivesNext, LeadOn}
use Rattle.hsp_csv.specs.declared.place.Place.{Place}

abbrev Ended : Type 0
Ended = Walk × List ℕ

-- after a record fewer octets are left, or the text is at its end
abbrev IsNearer : List ℕ → Ended → Type 0
IsNearer octets read = (length read.1 < length octets) ⊎ ((read.0.state ≡ state.StartRecord) × (read.1 ≡ []))

-- a reading has one value
same_read : (x y : Ended) → Some x ≡ Some y → x ≡ y
same_read x y e = cc

-- the end of a text ends a record only where one has begun
read_at_end : (begun : Bool) (x y : Ended) → cond begun (Some x) None ≡ Some y → x ≡ y
read_at_end true x y e = cc
read_at_end false x y e = cc

-- what is nearer to the end is nearer by one octet more
nearer_by_one : (octet : ℕ) (octets : List ℕ) (read : Ended) → IsNearer octets read → IsNearer (octet ∷ octets) read
nearer_by_one octet octets read (inl fewer) = inl (omega arith)
nearer_by_one octet octets read (inr ended) = inr ended

-- each record brings the reading nearer to the end
walk_nears_end : (walk : Walk) (octets : List ℕ) (read : Ended) → walk_to_end walk octets ≡ Some read
    → IsNearer octets read
unfolding walk_to_end
walk_nears_end walk [] read e =
    let same = read_at_end (ends_at_end walk.state) (walk_at_end walk, []) read e in
    inr (ap (λ (r : Ended). r.0.state) (sym same), ap (λ (r : Ended). r.1) (sym same))
walk_nears_end walk (octet ∷ rest) read e =
    by_end (ends_record walk octet) refl (walk_nears_end (walk_after walk octet) rest read)
  where
    by_end : (ended : Bool) → ends_record walk octet ≡ ended
        → (walk_to_end (walk_after walk octet) rest ≡ Some read → IsNearer rest read)
        → IsNearer (octet ∷ rest) read
    by_end true is later =
        let same = same_read (walk_after walk octet, rest) read (rw is at e) in
        let left : length read.1 ≡ length rest = ap (λ (r : Ended). length r.1) (sym same) in
        inl (omega arith)
    by_end false is later = nearer_by_one octet rest read (later (rw is at e))

-- at its end a text has no further record
none_at_end : (most : ℕ) (at : Place) → placed_from most state.StartRecord at [] ≡ []
unfolding placed_from walk_to_end
none_at_end zero at = refl
none_at_end (suc most) at = refl

-- any two numbers of steps above the number of octets list the same records
steps_enough : (n m : ℕ) (s : State) (at : Place) (octets : List ℕ) → length octets < n → length octets < m
    → placed_from n s at octets ≡ placed_from m s at octets
unfolding placed_from
steps_enough zero m s at octets h k = absurd (omega arith)
steps_enough (suc n) zero s at octets h k = absurd (omega arith)
steps_enough (suc n) (suc m) s at octets h k =
    by_read (walk_to_end (fresh s at) octets) refl (steps_enough n m)
  where
    by_read : (read : Option Ended) → walk_to_end (fresh s at) octets ≡ read
        → ((s2 : State) (at2 : Place) (rest : List ℕ) → length rest < n → length rest < m
        → placed_from n s2 at2 rest ≡ placed_from m s2 at2 rest)
        → placed_next (placed_from n) read ≡ placed_next (placed_from m) read
    by_read None e later = refl
    by_read (Some read) e later =
        elim (walk_nears_end (fresh s at) octets read e) [
          | inl fewer ↦
              ap (λ (t : List Placed). placed_of_walk read.0 ∷ t)
              (later read.0.state read.0.at read.1 (omega arith) (omega arith))
          | inr ended ↦ rw (ended.0, ended.1, none_at_end n read.0.at, none_at_end m read.0.at) refl
        ]

-- a record that is read stands before those of what it leaves
first_placed : (s : State) (at : Place) (octets : List ℕ) (read : Ended) → walk_to_end (fresh s at) octets ≡ Some read
    → placed_behind s at octets ≡ placed_of_walk read.0 ∷ placed_behind read.0.state read.0.at read.1
unfolding placed_from
first_placed s at octets read e =
    rw (add-one (length octets), e) (elim (walk_nears_end (fresh s at) octets read e) [
      | inl fewer ↦
          ap (λ (t : List Placed). placed_of_walk read.0 ∷ t)
          (steps_enough (length octets) (length read.1 + 1) read.0.state read.0.at read.1 (omega arith) (omega arith))
      | inr ended ↦
          rw (ended.0, ended.1, none_at_end (length octets) read.0.at, none_at_end 1 read.0.at) refl
    ])

-- where no record is read, none is left
no_placed : (s : State) (at : Place) (octets : List ℕ) → walk_to_end (fresh s at) octets ≡ None
    → placed_behind s at octets ≡ []
unfolding placed_from
no_placed s at octets e = rw (add-one (length octets), e) refl

-- an octet that does not end the record leads it on
pub leads_on : (old left rest : Option (List ℕ)) (begun walk : Walk) (octet : ℕ) → LeadOn old begun left walk
    → GivesNext left rest (Some octet) → ends_record walk octet ≡ false → LeadOn old begun rest (walk_after walk octet)
unfolding walk_to_end
leads_on None left rest begun walk octet leads next goes = tt
leads_on (Some xs) None rest begun walk octet leads next goes = absurd leads
leads_on (Some xs) (Some ys) None begun walk octet leads next goes = absurd next
leads_on (Some xs) (Some ys) (Some zs) begun walk octet leads next goes = rw (leads, next, goes) refl

-- an octet that ends it leaves the records behind it
pub takes_ended : (old left rest : Option (List ℕ)) (s : State) (at : Place) (walk new : Walk) (octet : ℕ)
    → LeadOn old (fresh s at) left walk → GivesNext left rest (Some octet) → ends_record walk octet ≡ true
    → new ≡ walk_after walk octet
    → TakesPlaced (option_map (placed_behind s at) old) (option_map (placed_behind new.state new.at) rest) true
    (placed_of_walk new)
unfolding walk_to_end
takes_ended None left rest s at walk new octet leads next ends is = tt
takes_ended (Some xs) None rest s at walk new octet leads next ends is = absurd leads
takes_ended (Some xs) (Some ys) None s at walk new octet leads next ends is = absurd next
takes_ended (Some xs) (Some ys) (Some zs) s at walk new octet leads next ends is =
    rw is (first_placed s at xs (walk_after walk octet, zs) (rw (leads, next, ends) refl))

-- at the end of the text the record ends, or there is none
pub takes_last : (old left rest : Option (List ℕ)) (s : State) (at : Place) (walk new : Walk) (found : Bool)
    → LeadOn old (fresh s at) left walk → GivesNext left rest None → EndsText walk new found
    → TakesPlaced (option_map (placed_behind s at) old) (option_map (placed_behind new.state new.at) rest) found
    (placed_of_walk new)
unfolding walk_to_end
takes_last None left rest s at walk new found leads next ends = tt
takes_last (Some xs) None rest s at walk new found leads next ends = absurd leads
takes_last (Some xs) (Some ys) rest s at walk new false leads next ends =
    no_placed s at xs (rw (leads, next.0, ends) refl)
takes_last (Some xs) (Some ys) rest s at walk new true leads next ends =
    rw (next.1, ends.1) (first_placed s at xs (walk_at_end walk, []) (rw (leads, next.0, ends.0) refl))
