-- A byte order mark at the start of a text.
use Rattle.std.proofs.Common.{◌≡◌, ℕ, ◌==◌, ◌&&◌, true, false, List, [], ◌∷◌, take, drop, eqb, inl, inr, refl}
use Rattle.std.specs.Cmp.Lexicographic.{pointwise}
use Rattle.std.proofs.lemmas.Bool.{and_parts, cases_Bool}
use Rattle.csv.specs.Reading.{strip_bom}

-- one mark is passed over, and the text begins after it
pub after_mark : (rest : List ℕ) → strip_bom (239 ∷ 187 ∷ 191 ∷ rest) ≡ rest
unfolding strip_bom
after_mark rest = refl

-- a text that begins with a mark
pub marked : (octets : List ℕ) → pointwise eqb (take 3 octets) (239 ∷ 187 ∷ 191 ∷ []) ≡ true
    → drop 3 octets ≡ strip_bom octets
unfolding strip_bom
marked [] e = cc e
marked (a ∷ []) e = let p = and_parts (a == 239) false e in cc (p.1)
marked (a ∷ b ∷ []) e =
    let p = and_parts (a == 239) ((b == 187) && false) e in
    let q = and_parts (b == 187) false p.1 in
    cc (q.1)
marked (a ∷ b ∷ c ∷ rest) e =
    let p = and_parts (a == 239) ((b == 187) && ((c == 191) && true)) e in
    let q = and_parts (b == 187) ((c == 191) && true) p.1 in
    let r = and_parts (c == 191) true q.1 in
    rw (p.0, q.0, r.0) refl

-- a text that begins otherwise stays as it is
pub unmarked : (octets : List ℕ) → pointwise eqb (take 3 octets) (239 ∷ 187 ∷ 191 ∷ []) ≡ false
    → octets ≡ strip_bom octets
unfolding strip_bom
unmarked [] e = refl
unmarked (a ∷ []) e = refl
unmarked (a ∷ b ∷ []) e = refl
unmarked (a ∷ b ∷ c ∷ rest) e = elim (cases_Bool (a == 239)) [
  | inl x ↦ elim (cases_Bool (b == 187)) [
    | inl y ↦ elim (cases_Bool (c == 191)) [
      | inl z ↦ cc (rw (x, y, z) at e)
      | inr z ↦ rw (x, y, z) refl
    ]
    | inr y ↦ rw (x, y) refl
  ]
  | inr x ↦ rw x refl
]
