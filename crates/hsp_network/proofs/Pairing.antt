-- The pairs of a heap beside the keys of the nodes that are held.
use Rattle.std.proofs.Common.{◌≡◌, ◌≢◌, ℕ, ◌<◌, ◌≤◌, inl, inr, Bool, true, false, List, [], ◌∷◌, length, Option, Some}
use Rattle.std.proofs.Common.{None, refl, ap, sym, ◌∙◌, arith, eqb-true, eq-eqb, lt-ltb, slice_index_or, slice_set}
use Rattle.std.proofs.Common.{IsSomeAnd, subst, get_or-set_same, get_or-set_other}
use Rattle.std.proofs.lemmas.Bool.{and_parts, and_from, or_cases, or_left, or_right, cases_eq, cases_lt}
use Rattle.std.proofs.lemmas.List.{get_or_past}
use Rattle.std.proofs.lemmas.List.Sorted.{list_any-IsPermutation}
use Rattle.std.specs.List.{list_any}
use Rattle.std.specs.List.Sorted.{IsPermutation}
use Rattle.std.specs.BinaryHeap.{IsUpperBound}
use Rattle.std.specs.declared.cmp.Ordering.{Ordering}
use Rattle.std.specs.declared.cmp.Reverse.{Reverse}
use Rattle.std.specs.Ordering.{nat_cmp, ordering_then, is_lt}
use Rattle.hsp_network.specs.Frontier.{Changes, Pairs, is_pair, later_pair}
use Rattle.hsp_network.proofs.Searching.{cases_option}

-- a pair of the node and key is one of the pairs still where another one left
module _ (held : ℕ → Option ℕ) (xs : List (Reverse (ℕ × ℕ))) (paired : Pairs held xs) where
  -- a node's new key comes with a pair of its own
  pub pairs_pushed : (pair : Reverse (ℕ × ℕ)) (ys : List (Reverse (ℕ × ℕ))) → IsPermutation (pair ∷ xs) ys
      → (held' : ℕ → Option ℕ) →
      Changes held held' pair.0.1 (Some pair.0.0) → Pairs held' ys
  pairs_pushed pair ys same held' change = λ v key h.
      sym (list_any-IsPermutation (is_pair v key) (pair ∷ xs) ys same) ∙ elim (cases_eq v pair.0.1) [
        | inl e ↦
            let here : held' v ≡ held' pair.0.1 = ap held' e in
            let at = change.at in
            let this : Some key ≡ Some pair.0.0 = sym h ∙ here ∙ at in
            let k : pair.0.0 ≡ key = cc in
            or_left (is_pair v key pair) _ (and_from _ _ (eq-eqb _ _ k) (eq-eqb _ _ (sym e)))
        | inr ne ↦ or_right (is_pair v key pair) _ (paired v key (sym (change.others v ne) ∙ h))
      ]

  -- a pair that is of no held node's key may go
  pub pairs_popped : (pair : Reverse (ℕ × ℕ)) (ys : List (Reverse (ℕ × ℕ))) → IsPermutation xs (pair ∷ ys)
      → (held' : ℕ → Option ℕ) →
      ((v key : ℕ) → held' v ≡ Some key → (held v ≡ Some key) × (pair.0.0 ≡ key → pair.0.1 ≡ v → ⊥)) → Pairs held' ys
  pairs_popped pair ys same held' still = λ v key h.
      let s = still v key h in
      elim (or_cases (is_pair v key pair) _
      (sym (list_any-IsPermutation (is_pair v key) xs (pair ∷ ys) same) ∙ paired v key s.0)) [
        | inl this ↦ let parts = and_parts _ _ this in absurd (s.1 (eqb-true _ _ parts.0) (eqb-true _ _ parts.1))
        | inr other ↦ other
      ]

  -- with no pairs left no node is held
  pub none_held : length xs ≡ 0 → (v : ℕ) → held v ≡ None
  none_held empty v = elim (cases_option (held v)) [
    | inl none ↦ none
    | inr w ↦ absurd (let there = paired v w.0 w.1 in let none = no_pair xs (is_pair v w.0) empty in cc)
  ]
    where
      no_pair : (ys : List (Reverse (ℕ × ℕ))) (test : Reverse (ℕ × ℕ) → Bool) → length ys ≡ 0 → list_any test ys ≡ false
      no_pair [] test e = refl
      no_pair (y ∷ ys) test e = absurd (omega arith)

-- where no pair's node is held, none is
pub all_forgotten : (held held' : ℕ → Option ℕ) (xs : List (Reverse (ℕ × ℕ))) → Pairs held xs →
    ((v key : ℕ) → held' v ≡ Some key → held v ≡ Some key)
    → ((v key : ℕ) → list_any (is_pair v key) xs ≡ true → held' v ≡ None) → (v : ℕ) → held' v ≡ None
all_forgotten held held' xs paired kept gone v = elim (cases_option (held' v)) [
  | inl none ↦ none
  | inr w ↦ gone v w.0 (paired v w.0 (kept v w.0 w.1))
]

-- where no node is held, the heap pairs with nothing
pub none_paired : (held : ℕ → Option ℕ) (xs : List (Reverse (ℕ × ℕ))) → ((v : ℕ) → held v ≡ None) → Pairs held xs
none_paired held xs none v key h = absurd (let n = none v in cc)

-- what does not come before has a key that is no greater
not_after : (x y : ℕ) (o : Ordering) → is_lt (ordering_then (nat_cmp y x) o) ≡ false → x ≤ y
not_after x y o h = elim (cases_lt y x) [
  | inl less ↦ absurd (let t : is_lt (ordering_then (nat_cmp y x) o) ≡ true = rw (lt-ltb y x less) refl in cc)
  | inr more ↦ more
]

-- no pair on the heap has a smaller key than its first
pub first_is_least : (pair : Reverse (ℕ × ℕ)) (xs : List (Reverse (ℕ × ℕ))) → IsUpperBound later_pair pair xs
    → (v key : ℕ) →
    list_any (is_pair v key) xs ≡ true → pair.0.0 ≤ key
first_is_least pair [] bound v key there = absurd cc
first_is_least pair (x ∷ xs) bound v key there = elim (or_cases (is_pair v key x) _ there) [
  | inl this ↦
      let parts = and_parts _ _ this in
      let k : x.0.0 ≡ key = eqb-true _ _ parts.0 in
      rw (← k) (not_after pair.0.0 x.0.0 _ bound.0)
  | inr other ↦ first_is_least pair xs bound.1 v key other
]

-- a node's new key
pub changes_set : (keys : List (Option ℕ)) (node : ℕ) (entry : Option ℕ) → node < length keys →
    Changes (λ v. slice_index_or keys v None) (λ v. slice_index_or (slice_set keys node entry) v None) node entry
changes_set keys node entry l = record {
  at = get_or-set_same keys node entry None l;
  others = λ v ne. get_or-set_other keys node v entry None ne;
}

-- a node that is held has a place
pub held_in : (keys : List (Option ℕ)) (node key : ℕ) → slice_index_or keys node None ≡ Some key → node < length keys
held_in keys node key h = elim (cases_lt node (length keys)) [
  | inl l ↦ l
  | inr past ↦ absurd (let p = get_or_past keys node None past in cc)
]

-- a node that lost its key
pub still_held : (keys : List (Option ℕ)) (node v key : ℕ) → node < length keys
    → slice_index_or (slice_set keys node None) v None ≡ Some key →
    (slice_index_or keys v None ≡ Some key) × (v ≢ node)
still_held keys node v key l h =
    let c = changes_set keys node None l in
    elim (cases_eq v node) [
      | inl e ↦ absurd (let here : slice_index_or (slice_set keys node None) v None ≡ None = rw e c.at in cc)
      | inr ne ↦ (sym (c.others v ne) ∙ h, ne)
    ]

-- a key that may be lowered is that of a held node
pub lowered_in : (keys : List (Option ℕ)) (node key : ℕ)
    → IsSomeAnd (slice_index_or keys node None) (λ present. key ≤ present) → node < length keys
lowered_in keys node key h = elim (cases_lt node (length keys)) [
  | inl l ↦ l
  | inr past ↦
      let P : Option ℕ → Type 0 = λ o. IsSomeAnd o (λ present. key ≤ present) in
      absurd (subst P (get_or_past keys node None past) h)
]
