-- Lists that grow at their ends.
use Rattle.std.proofs.Common.{◌≡◌, ℕ, ◌+◌, ◌<◌, ◌⊎◌, inl, inr, List, [], ◌∷◌, ◌++◌, length, slice_index, replicate}
use Rattle.std.proofs.Common.{refl, ap, sym, ◌∙◌, arith, length-append}
use Rattle.std.proofs.lemmas.Bool.{cases_eq, cases_lt}
use Rattle.std.proofs.lemmas.List.{get_or_append_left, get_or-append-add, get_or-replicate, length-replicate}
use Rattle.hsp_network.specs.Layout.{Appends}

-- nothing was appended yet
pub appends_none : (old : List ℕ) (f : ℕ → ℕ) → Appends old old 0 f
appends_none old f = record { many = omega arith; kept = λ k l. refl; added = λ k l. absurd (omega arith) }

-- a place in a list with one number more
pub longer : (xs : List ℕ) (x k : ℕ) → k < length (xs ++ x ∷ []) →
    ((k < length xs) × (slice_index (xs ++ x ∷ []) k ≡ slice_index xs k))
    ⊎ ((k ≡ length xs) × (slice_index (xs ++ x ∷ []) k ≡ x))
longer xs x k l = elim (cases_lt k (length xs)) [
  | inl old ↦ inl (old, get_or_append_left xs (x ∷ []) 0 k old)
  | inr new ↦
      let is : k ≡ length xs + 0 = omega (arith, l, new, length-append xs (x ∷ [])) in
      inr (omega arith, ap (λ i. slice_index (xs ++ x ∷ []) i) is ∙ get_or-append-add xs (x ∷ []) 0 0)
]

-- one number more
pub appends_one : (old now new : List ℕ) (n : ℕ) (f : ℕ → ℕ) (x : ℕ) → Appends old now n f → new ≡ now ++ x ∷ []
    → x ≡ f n → Appends old new (n + 1) f
appends_one old now new n f x a is same = record {
  many = rw is (omega (arith, length-append now (x ∷ []), a.many));
  kept = λ k l. rw is (get_or_append_left now (x ∷ []) 0 k (omega (arith, a.many)) ∙ a.kept k l);
  added = λ k l. elim (cases_eq k n) [
    | inl e ↦
        let place : length old + k ≡ length now + 0 = omega (arith, a.many) in
        rw is (ap (λ i. slice_index (now ++ x ∷ []) i) place ∙ get_or-append-add now (x ∷ []) 0 0 ∙ same ∙ ap f (sym e))
    | inr ne ↦
        rw is (get_or_append_left now (x ∷ []) 0 (length old + k) (omega (arith, a.many)) ∙ a.added k (omega arith))
  ];
}

-- a list of one number
pub same_number : (n x : ℕ) (xs : List ℕ) → xs ≡ replicate n x
    → (length xs ≡ n) × ((k : ℕ) → k < n → slice_index xs k ≡ x)
same_number n x xs is = (rw is (length-replicate n x), λ k l. rw is (get_or-replicate n k x 0 l))
