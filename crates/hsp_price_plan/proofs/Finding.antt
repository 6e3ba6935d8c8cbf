-- Groups found by their regions and servers, as one after another is added.
use Rattle.std.proofs.Common.{◌≡◌, ◌∙◌, ◌+◌, ◌<◌, ℕ, zero, suc, Bool, true, false, List, [], ◌∷◌, ◌++◌, None, Some}
use Rattle.std.proofs.Common.{ap, ap₂, cond, inl, inr, length, refl, slice_index_or, sym, arith}
use Rattle.std.specs.Prelude.{◌&&◌, position}
use Rattle.std.specs.List.{list_any, position_from}
use Rattle.std.proofs.lemmas.Bool.{cases_Bool, true≢false}
use Rattle.std.specs.Str.{bytes_eq}
use Rattle.std.proofs.lemmas.Cmp.{nat_list_eq_equiv}
use Rattle.std.proofs.lemmas.Iterator.Adapters.{position_from-zero}
use Rattle.std.proofs.lemmas.List.Quantifiers.{position-Some}
use Rattle.hsp_instance.specs.Building.{or_else}
use Rattle.hsp_prices.specs.Least.{servers_of}
use Rattle.hsp_price_check.specs.FirstRows.{FirstRow, HasAdded}
use Rattle.hsp_price_check.proofs.FirstOfKinds.{place_next}
use Rattle.hsp_prices.specs.Groups.{Group, is_same}
use Rattle.hsp_price_plan.specs.Grouping.{HasGroups, is_keyed, no_group, with_count_at}
use Rattle.hsp_price_plan.proofs.Joining.{with_group}

-- ---- the numbers of groups

-- a key is of a group exactly where the group is found by it
keyed_by : (region servers : List ℕ) (own : Group)
    → (bytes_eq region own.region && bytes_eq servers (servers_of own.arcs)) ≡ is_keyed region servers own
keyed_by region servers own =
    ap₂ (λ a b. a && b) (nat_list_eq_equiv.symm region own.region)
    (nat_list_eq_equiv.symm servers (servers_of own.arcs))

-- the numbers of one group more
pub one_group : (groups : List Group) (own : Group) (old new : List FirstRow) → HasGroups groups old
    → HasAdded old new own.region (servers_of own.arcs) (length groups) → HasGroups (groups ++ own ∷ []) new
one_group groups own old new has added region servers =
    let keyed = is_keyed region servers in
    added region servers
    ∙ ap₂ (λ o b. or_else o (cond b (Some (length groups)) None)) (has region servers)
    (keyed_by region servers own)
    ∙ sym (place_next keyed groups own)

-- ---- the groups with one more, by what is found

-- where no place is found the test passes nowhere
nowhere : {A : Type 0} (p : A → Bool) (n : ℕ) (xs : List A) → position_from p n xs ≡ None → list_any p xs ≡ false
nowhere p n [] none = refl
nowhere p n (x ∷ xs) none = grind (arith, nowhere p (n + 1) xs)

module _ (own : Group) where
  -- the first group that is the same asks for more
  with_first : (groups : List Group) (n : ℕ) → n < length groups
      → is_same (slice_index_or groups n no_group) own ≡ true
      → ((k : ℕ) → k < n → is_same (slice_index_or groups k no_group) own ≡ false)
      → with_count_at groups n own.demand ≡ with_group own groups
  with_first [] n inside same before = absurd (omega arith)
  with_first (g ∷ groups) zero inside same before = rw same refl
  with_first (g ∷ groups) (suc n) inside same before =
      rw (before 0 (omega arith))
      (ap (λ more. g ∷ more)
      (with_first groups n (omega arith) same (λ k less. before (suc k) (omega arith))))

  -- where one is found
  pub with_found : (groups : List Group) (n : ℕ)
      → position (is_keyed own.region (servers_of own.arcs)) groups ≡ Some n
      → with_count_at groups n own.demand ≡ with_group own groups
  with_found groups n found =
      let is = position-Some (is_keyed own.region (servers_of own.arcs)) groups n no_group found in
      with_first groups n is.0 is.1 is.2

  -- where none is the same, one more stands last
  with_last : (groups : List Group) → list_any (λ g. is_same g own) groups ≡ false
      → with_group own groups ≡ groups ++ own ∷ []
  with_last [] none = refl
  with_last (g ∷ groups) none = elim (cases_Bool (is_same g own)) [
    | inl e ↦ absurd (true≢false (rw e at none))
    | inr e ↦ rw e (ap (λ more. g ∷ more) (with_last groups (rw e at none)))
  ]

  -- where none is found
  pub with_none : (groups : List Group)
      → position (is_keyed own.region (servers_of own.arcs)) groups ≡ None
      → with_group own groups ≡ groups ++ own ∷ []
  with_none groups none =
      let keyed = is_keyed own.region (servers_of own.arcs) in
      with_last groups (nowhere keyed 0 groups (sym (position_from-zero keyed groups) ∙ none))

-- a group that is there is read whatever stands past the end
pub default_same : (groups : List Group) (n : ℕ) (d e : Group) → n < length groups
    → slice_index_or groups n d ≡ slice_index_or groups n e
default_same [] n d e inside = absurd (omega arith)
default_same (g ∷ groups) zero d e inside = refl
default_same (g ∷ groups) (suc n) d e inside = default_same groups n d e (omega arith)
