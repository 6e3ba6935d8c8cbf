-- The costs of regions in the map that holds those that were sought.
use Rattle.std.proofs.Common.{◌≡◌, ◌∙◌, ◌<◌, ◌+◌, ℕ, zero, suc, not, Bool, true, false, cond, List, [], ◌∷◌, Option}
use Rattle.std.proofs.Common.{Some, Vec, Global, option_map, refl, ap, sym, length, arith}
use Rattle.std.proofs.lemmas.Bool.{cond_both}
use Rattle.std.proofs.lemmas.Option.{slice_get-map}
use Rattle.std.specs.Cmp.Lexicographic.{bytes_decides}
use Rattle.std.specs.List.{AllByRecursion, position_or_len, slice_get}
use Rattle.std.specs.Map.{keys_of, lookup, values_of}
use Rattle.std.specs.Str.{bytes_eq}
use Rattle.indexmap.specs.IndexMap.{insert_entry}
use Rattle.hsp_tables.specs.Costs.{CostEntry}
use Rattle.hsp_instance.specs.Instance.{Site}
use Rattle.hsp_instance.specs.RegionCosts.{HasCosts, KnownRegion, costs_at, costs_of_entry}
use Rattle.hsp_instance.proofs.Lists.{there}

-- whether a key is the name
abbrev pub is_name : List ℕ → Vec ℕ Global → Bool
is_name name key = bytes_eq name key.items

module _ (table : List CostEntry) (sites : List Site) (name : List ℕ) where
  -- the entry of a region's name has its costs
  costs_here : (e : KnownRegion) → HasCosts table sites e → is_name name e.0 ≡ true
      → costs_of_entry e ≡ costs_at table name sites
  costs_here e has is = has ∙ ap (λ region. costs_at table region sites) (sym ((bytes_decides name e.0.items).0 is))

  -- what the map has at a name are its costs
  pub costs_found : (es : List KnownRegion) (costs : Vec (Option ℕ) Global) → AllByRecursion (HasCosts table sites) es
      → lookup (is_name name) es ≡ Some costs → costs.items ≡ costs_at table name sites
  costs_found [] costs all at = grind arith
  costs_found (e ∷ es) costs all at = grind (arith, costs_here e all.0, costs_found es costs all.1)

  -- they stand at its place
  pub costs_known : (es : List KnownRegion) (i : ℕ) → AllByRecursion (HasCosts table sites) es → i < length es
      → slice_get (values_of es) i ≡ lookup (is_name name) es
      → option_map costs_of_entry (slice_get es i) ≡ Some (costs_at table name sites)
  costs_known es i all less same =
      let e = there es i less in
      let value = λ (known : KnownRegion). known.1 in
      let at : lookup (is_name name) es ≡ Some (e.0.1) =
      sym same ∙ slice_get-map value es i ∙ ap (option_map value) e.1 in
      rw (e.1) (ap Some (costs_found es e.0.1 all at))

module _ (table : List CostEntry) (sites : List Site) (key : Vec ℕ Global) (costs : Vec (Option ℕ) Global) where
  -- the costs of a region are added
  pub costs_added : (es : List KnownRegion) → costs.items ≡ costs_at table key.items sites
      → AllByRecursion (HasCosts table sites) es
      → AllByRecursion (HasCosts table sites) (insert_entry (λ a b. bytes_eq a.items b.items) es key costs)
  costs_added [] has all = (has, tt)
  costs_added (e ∷ es) has all =
      cond_both (bytes_eq key.items e.0.items) ((e.0, costs) ∷ es)
      (e ∷ insert_entry (λ a b. bytes_eq a.items b.items) es key costs) (AllByRecursion (HasCosts table sites))
      (λ is. (has ∙ ap (λ region. costs_at table region sites) ((bytes_decides key.items e.0.items).0 is), all.1))
      (λ is. (all.0, costs_added es has all.1))

-- they stand at the place of the region
pub costs_placed : (key : Vec ℕ Global) (costs : Vec (Option ℕ) Global) (es : List KnownRegion)
    → option_map costs_of_entry
    (slice_get (insert_entry (λ a b. bytes_eq a.items b.items) es key costs)
    (position_or_len (λ (k : Vec ℕ Global). bytes_eq key.items k.items) (keys_of es))) ≡ Some costs.items
costs_placed key costs [] = refl
costs_placed key costs (e ∷ es) = chosen (bytes_eq key.items e.0.items) (costs_placed key costs es)
  where
    later : ℕ
    later = position_or_len (λ (k : Vec ℕ Global). bytes_eq key.items k.items) (keys_of es)

    chosen : (is : Bool)
        → option_map costs_of_entry (slice_get (insert_entry (λ a b. bytes_eq a.items b.items) es key costs) later)
        ≡ Some costs.items
        → option_map costs_of_entry
        (slice_get (cond is ((e.0, costs) ∷ es) (e ∷ insert_entry (λ a b. bytes_eq a.items b.items) es key costs))
        (cond (not is) (1 + later) zero)) ≡ Some costs.items
    chosen true more = refl
    chosen false more = let next : 1 + later ≡ suc later = omega arith in rw next more
