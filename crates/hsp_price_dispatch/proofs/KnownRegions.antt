-- Regions that have a cost at no site have no arcs, and those that were looked for have one.
use Rattle.std.proofs.Common.{◌≡◌, ◌∙◌, ◌+◌, ◌||◌, ℕ, Bool, true, false, List, [], ◌∷◌, Option, Some, None}
use Rattle.std.proofs.Common.{drop, inl, inr, is_some, length, option_map, refl, sym}
use Rattle.std.specs.Prelude.{slice_get}
use Rattle.std.specs.List.{AllByRecursion, list_any}
use Rattle.std.specs.Str.{bytes_eq}
use Rattle.std.proofs.lemmas.Bool.{cases_Bool, true≢false}
use Rattle.std.proofs.lemmas.Slice.Eq.{bytes_eq-Decides}
use Rattle.hsp_text.proofs.Lists.{all_push}
use Rattle.hsp_tables.specs.Costs.{CostEntry}
use Rattle.hsp_instance.specs.Building.{arc_to, arcs_from, cost_of}
use Rattle.hsp_instance.specs.Instance.{Row, Site}
use Rattle.hsp_instance.specs.RowArcs.{with_region}
use Rattle.hsp_instance.proofs.Lists.{drop_at}
use Rattle.hsp_prices.specs.Rows.{Service}
use Rattle.hsp_prices.specs.Least.{arcs_of}
use Rattle.hsp_price_dispatch.specs.Regions.{has_cost, has_cost_at}

-- ---- sites in turn

module _ (costs : List CostEntry) (region : List ℕ) (sites : List Site) (n : ℕ) (name : List ℕ) (o : Option ℕ)
    (there : option_map (λ (site : Site). site.name) (slice_get sites n) ≡ Some name)
    (found : o ≡ cost_of costs region name) where
  -- the site with the name
  named : (s : Option Site) → slice_get sites n ≡ s → option_map (λ (site : Site). site.name) s ≡ Some name
      → list_any (has_cost_at costs region) (drop n sites)
      ≡ (is_some o || list_any (has_cost_at costs region) (drop (n + 1) sites))
  named None at e = absurd (cc (e))
  named (Some site) at e =
      let same : site.name ≡ name = cc (e) in
      rw (drop_at sites n site at, same, found) refl

  -- what the sites from a number on have is what this one and those behind it have
  pub site_split : list_any (has_cost_at costs region) (drop n sites)
      ≡ (is_some o || list_any (has_cost_at costs region) (drop (n + 1) sites))
  site_split = named (slice_get sites n) refl there

  module _ (before : list_any (has_cost_at costs region) (drop n sites) ≡ list_any (has_cost_at costs region) sites)
    where
      -- where it has a cost some site has
      pub here_or_later : is_some o ≡ true → list_any (has_cost_at costs region) sites ≡ true
      here_or_later e = sym before ∙ site_split ∙ rw e refl

      -- where it has none those behind it tell
      pub none_here : is_some o ≡ false
          → list_any (has_cost_at costs region) (drop (n + 1) sites) ≡ list_any (has_cost_at costs region) sites
      none_here e = sym (sym before ∙ site_split ∙ rw e refl)

-- ---- arcs

-- no cost at the first of several sites, and none at the others
none_of : (a b : Bool) → (a || b) ≡ false → (a ≡ false) × (b ≡ false)
none_of true b e = absurd (true≢false e)
none_of false b e = (refl, e)

-- no cost gives no arc
no_arc_to : (handle : List ℕ) (n first : ℕ) (site : Site) (o : Option ℕ) → is_some o ≡ false
    → arc_to handle n first site o ≡ []
no_arc_to handle n first site None e = refl
no_arc_to handle n first site (Some cost) e = absurd (true≢false e)

-- a row of a region that has a cost at none of the sites has no arc
no_arcs_from : (costs : List CostEntry) (row : Row) (n first : ℕ) (sites : List Site)
    → list_any (has_cost_at costs row.region) sites ≡ false → arcs_from costs row n first sites ≡ []
no_arcs_from costs row n first [] e = refl
no_arcs_from costs row n first (site ∷ sites) e =
    let none = none_of (has_cost_at costs row.region site) (list_any (has_cost_at costs row.region) sites) e in
    rw (no_arc_to row.handle n first site (cost_of costs row.region site.name) none.0)
    (no_arcs_from costs row (n + 1) (first + length site.servers) sites none.1)

-- the same of a service
pub no_arcs : (at : Service) (row : Row) → has_cost at row.region ≡ false → arcs_of at row ≡ []
no_arcs at row e = no_arcs_from at.costs row 0 0 at.sites e

-- ---- regions that are known

module _ (at : Service) (region : List ℕ) where
  -- a region has a cost
  abbrev pub HasCost : List ℕ → Type 0
  HasCost name = has_cost at name ≡ true

  -- a region that is known has one
  pub known_has : (regions : List (List ℕ)) → AllByRecursion HasCost regions
      → list_any (bytes_eq region) regions ≡ true → has_cost at region ≡ true
  known_has [] all e = absurd (true≢false (sym e))
  known_has (name ∷ names) all e = elim (cases_Bool (bytes_eq region name)) [
    | inl same ↦ rw ((bytes_eq-Decides region name).0 same) all.0
    | inr other ↦ known_has names all.1 (rw other at e)
  ]

  -- so they all have where one more is known that has one
  pub more_have : (regions : List (List ℕ)) → AllByRecursion HasCost regions → has_cost at region ≡ true
      → AllByRecursion HasCost (with_region regions region)
  more_have regions all has = elim (cases_Bool (list_any (bytes_eq region) regions)) [
    | inl known ↦ rw known all
    | inr new ↦ rw new (all_push HasCost regions region all has)
  ]
