-- Answers one after the other, each after all questions before it.
use Rattle.std.proofs.Common.{◌≡◌, ◌∙◌, ◌++◌, List, [], ◌∷◌, map, ap, ap₂, refl, sym}
use Rattle.std.proofs.lemmas.List.{append-nil, append_assoc}
use Rattle.hsp_log.specs.Entries.{each_after}

-- the answers to questions in two parts
pub each_parts : {A B : Type 0} (answer : List A → A → B) (before a b : List A)
    → each_after answer before (a ++ b) ≡ each_after answer before a ++ each_after answer (before ++ a) b
each_parts answer before [] b = rw (append-nil before) refl
each_parts {A} {B} answer before (one ∷ a) b =
    ap (λ (more : List B). answer before one ∷ more) (
    each_parts answer (before ++ one ∷ []) a b
    ∙ ap (λ (earlier : List A). each_after answer (before ++ one ∷ []) a ++ each_after answer earlier b)
    (append_assoc before (one ∷ []) a))

-- where another one answers as this one does after some questions
module _ {A B : Type 0} (answer other : List A → A → B) (first : List A)
    (same : (earlier : List A) (one : A) → answer (first ++ earlier) one ≡ other earlier one) where
  -- answers that agree after all questions before agree on the later ones
  pub each_same : (earlier more : List A) → each_after answer (first ++ earlier) more ≡ each_after other earlier more
  each_same earlier [] = refl
  each_same earlier (one ∷ more) =
      ap₂ (λ (x : B) (xs : List B). x ∷ xs) (same earlier one)
      (ap (λ (before : List A). each_after answer before more) (append_assoc first earlier (one ∷ []))
      ∙ each_same (earlier ++ one ∷ []) more)

  -- it answers what comes behind them
  pub each_goes_on : (more : List A)
      → each_after answer [] (first ++ more) ≡ each_after answer [] first ++ each_after other [] more
  each_goes_on more =
      each_parts answer [] first more
      ∙ ap (λ (later : List B). each_after answer [] first ++ later)
      (ap (λ (before : List A). each_after answer before more) (sym (append-nil first)) ∙ each_same [] more)

-- answers that differ by a function give lists that differ by it
pub each_map : {A B C : Type 0} (f : B → C) (answer : List A → A → B) (other : List A → A → C)
    → ((earlier : List A) (one : A) → other earlier one ≡ f (answer earlier one))
    → (earlier more : List A) → each_after other earlier more ≡ map f (each_after answer earlier more)
each_map f answer other same earlier [] = refl
each_map {A} {B} {C} f answer other same earlier (one ∷ more) =
    ap₂ (λ (x : C) (xs : List C). x ∷ xs) (same earlier one) (each_map f answer other same (earlier ++ one ∷ []) more)
