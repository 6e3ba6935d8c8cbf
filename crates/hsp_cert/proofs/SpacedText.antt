-- Text cut at its first space.
use Rattle.std.proofs.Common.{◌≡◌, ◌<◌, ℕ, zero, suc, List, [], ◌∷◌, ◌++◌, length, get_or, take, drop, Option, Some}
use Rattle.std.proofs.Common.{None, refl, sym, ap, ◌∙◌, ◌+◌, ◌-◌, arith, eq-eqb, inl, inr}
use Rattle.std.specs.List.{AllByRecursion}
use Rattle.std.proofs.lemmas.Bool.{ne_eqb, cases_eq}
use Rattle.std.proofs.lemmas.Grind.{common_steps}
use Rattle.hsp_cert.specs.Lexing.{cut}

-- no octet is a space
abbrev pub NoSpace : List ℕ → Type 0
NoSpace xs = AllByRecursion (λ x. x ≡ 32 → ⊥) xs

-- text up to its first space, then the rest
pub cut_spaced : (a b : List ℕ) → NoSpace a → cut (a ++ 32 ∷ b) ≡ (a, Some b)
cut_spaced [] b h = refl
cut_spaced (x ∷ a) b h = rw (ne_eqb x 32 h.0, cut_spaced a b h.1) refl

-- text without a space is one part
pub cut_whole : (a : List ℕ) → NoSpace a → cut a ≡ (a, None)
cut_whole [] h = refl
cut_whole (x ∷ a) h = rw (ne_eqb x 32 h.0, cut_whole a h.1) refl

-- the parts put together again
abbrev pub rejoined : List ℕ → Option (List ℕ) → List ℕ
rejoined a None = a
rejoined a (Some b) = a ++ 32 ∷ b

-- an octet before a cut text stands before its first part
rejoined-cons : (x : ℕ) (a : List ℕ) (o : Option (List ℕ)) → rejoined (x ∷ a) o ≡ x ∷ rejoined a o
rejoined-cons x a None = refl
rejoined-cons x a (Some b) = refl

-- the parts of a cut text make the text again
pub cut_rejoined : (t : List ℕ) → t ≡ rejoined (cut t).0 (cut t).1
cut_rejoined [] = refl
cut_rejoined (x ∷ t) = elim (cases_eq x 32) [
  | inl space ↦ rw (eq-eqb x 32 space) (ap (λ (y : ℕ). y ∷ t) space)
  | inr other ↦
      rw (ne_eqb x 32 other) (ap (λ (y : List ℕ). x ∷ y) (cut_rejoined t) ∙ sym (rejoined-cons x (cut t).0 (cut t).1))
]

-- a text is cut at its first space
cut_first : (t : List ℕ) (i : ℕ) → i < length t → get_or t i 0 ≡ 32 → ((k : ℕ) → k < i → get_or t k 0 ≡ 32 → ⊥)
    → cut t ≡ (take i t, Some (drop (suc i) t))
cut_first [] i lt at none = absurd (omega arith)
cut_first (x ∷ t) zero lt at none = rw (eq-eqb x 32 at) refl
cut_first (x ∷ t) (suc i) lt at none =
    rw (ne_eqb x 32 (none 0 (omega arith)), cut_first t i (omega arith) at (λ k h. none (suc k) (omega arith))) refl

-- what stands behind a place are all later octets
rest_of : (t : List ℕ) (i : ℕ) → i < length t → take (length t - (i + 1)) (drop (i + 1) t) ≡ drop (suc i) t
rest_of t i h = grind (arith, common_steps)

-- where the first space stands at a place
pub cut_at : (t : List ℕ) (i : ℕ) → i < length t → get_or t i 0 ≡ 32 → ((k : ℕ) → k < i → get_or t k 0 ≡ 32 → ⊥)
    → cut t ≡ (take i t, Some (take (length t - (i + 1)) (drop (i + 1) t)))
cut_at t i lt at none = rw (rest_of t i lt) (cut_first t i lt at none)

-- a text without a space is not cut
pub cut_nowhere : (t : List ℕ) → ((k : ℕ) → k < length t → get_or t k 0 ≡ 32 → ⊥) → cut t ≡ (t, None)
cut_nowhere [] none = refl
cut_nowhere (x ∷ t) none =
    rw (ne_eqb x 32 (none 0 (omega arith)), cut_nowhere t (λ k h. none (suc k) (omega arith))) refl
