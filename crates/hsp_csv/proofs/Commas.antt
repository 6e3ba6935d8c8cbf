-- Where the first comma of a line stands.
use Rattle.std.proofs.Common.{◌≡◌, ℕ, zero, suc, ◌+◌, ◌-◌, ◌<◌, Bool, true, false, cond, ltb, List, [], ◌∷◌, ◌++◌, Some}
use Rattle.std.proofs.Common.{None, length, get_or, drop, take, eqb-true, refl, ap, arith, add-one, length-drop}
use Rattle.std.proofs.Math.Seq.{take-length}
use Rattle.std.proofs.lemmas.Bool.{ltb-false}
use Rattle.std.proofs.lemmas.List.Quantifiers.{position-Some}
use Rattle.std.specs.List.{list_any, position, position_or_len}
use Rattle.hsp_csv.specs.Plain.{is_comma}

-- octets from a comma at a place on, which is the first
abbrev IsPartedAt : List ℕ → ℕ → Type 0
IsPartedAt x place = (x ≡ take place x ++ 44 ∷ drop (suc place) x) × (list_any is_comma (take place x) ≡ false)

-- the octets before a comma at a place, the comma, and those behind it
parted : (x : List ℕ) (place : ℕ) → place < length x → is_comma (get_or x place 0) ≡ true
    → ((k : ℕ) → k < place → is_comma (get_or x k 0) ≡ false) → IsPartedAt x place
parted [] place less here before = absurd (omega arith)
parted (c ∷ x) zero less here before = (ap (λ o. o ∷ x) (eqb-true c 44 here), refl)
parted (c ∷ x) (suc place) less here before =
    let more = parted x place (omega arith) here (λ k lt. before (suc k) (omega arith)) in
    (ap (λ o. c ∷ o) more.0, rw (before 0 (omega arith)) more.1)

-- the first comma parts a line
pub parted_at : (x : List ℕ) (place : ℕ) → position is_comma x ≡ Some place → IsPartedAt x place
parted_at x place e = let p = position-Some is_comma x place 0 e in parted x place p.0 p.1 p.2

-- the octets after a place
pub all_after : (x : List ℕ) (place : ℕ) → take (length x - (place + 1)) (drop (place + 1) x) ≡ drop (suc place) x
all_after x place = rw (add-one place, ← length-drop (suc place) x) (take-length (drop (suc place) x))

-- a line without a first comma has none
by_first : (c : ℕ) (x : List ℕ) → (position_or_len is_comma (c ∷ x) < length (c ∷ x) → ⊥)
    → ((position_or_len is_comma x < length x → ⊥) → list_any is_comma x ≡ false) → (b : Bool) → is_comma c ≡ b
    → list_any is_comma (c ∷ x) ≡ false
by_first c x none rest true is = absurd (none (rw is (omega arith)))
by_first c x none rest false is = rw is (rest (λ less. none (rw is (omega arith))))

-- where no place has a comma, the line has none
none_in : (x : List ℕ) → (position_or_len is_comma x < length x → ⊥) → list_any is_comma x ≡ false
none_in [] none = refl
none_in (c ∷ x) none = by_first c x none (none_in x) (is_comma c) refl

-- a line in which no comma is found has none
pub not_parted : (x : List ℕ) → position is_comma x ≡ None → list_any is_comma x ≡ false
not_parted x e = by (ltb (position_or_len is_comma x) (length x)) refl e
  where
    by : (b : Bool) → ltb (position_or_len is_comma x) (length x) ≡ b
        → cond b (Some (position_or_len is_comma x)) None ≡ None → list_any is_comma x ≡ false
    by true is same = cc same
    by false is same = none_in x (λ less. let most = ltb-false _ _ is in omega arith)
