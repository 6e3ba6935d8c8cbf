-- Rows of a service none of whose arcs is kept, and the regions that they are of.
use Rattle.std.proofs.Common.{◌≡◌, ◌∙◌, ◌==◌, ◌++◌, ◌∷◌, ℕ, true, false, List, [], length, map, refl, ap, sym}
use Rattle.std.specs.Prelude.{if◌then◌else◌}
use Rattle.std.specs.List.{AllByRecursion}
use Rattle.hsp_text.proofs.Lists.{all_push}
use Rattle.hsp_instance.specs.Building.{arcs_from}
use Rattle.hsp_instance.specs.RowArcs.{row_named}
use Rattle.hsp_instance.specs.declared.arc.Arc.{Arc}
use Rattle.hsp_prices.specs.Rows.{Service}
use Rattle.hsp_prices.specs.KeptRows.{KeptArc}
use Rattle.hsp_price_plan.specs.Entries.{loose_arc}
use Rattle.hsp_price_plan.specs.Regions.{HasShape, RegionArcs, region_with, shape_of, with_region}
use Rattle.hsp_price_plan.specs.declared.region.SiteCost.{SiteCost}
use Rattle.hsp_price_plan.proofs.SameShapes.{same_shape}

-- the arcs of a row none of whose arcs is kept
pub bare : (arcs : List Arc) → map (λ (a : KeptArc). a.arc) (map loose_arc arcs) ≡ arcs
bare [] = refl
bare (arc ∷ arcs) = ap (λ more. arc ∷ more) (bare arcs)

module _ (at : Service) (region : List ℕ) where
  -- the sites and costs of the region's arcs
  abbrev pub shape_in : List SiteCost
  shape_in = shape_of (arcs_from at.costs (row_named region [] 0) 0 0 at.sites)

  -- the arcs of each handle have them
  pub own_shape : (handle : List ℕ) (arcs : List Arc)
      → arcs ≡ arcs_from at.costs (row_named region handle 0) 0 0 at.sites → shape_of arcs ≡ shape_in
  own_shape handle arcs are =
      ap shape_of are ∙ same_shape at.costs (row_named region handle 0) (row_named region [] 0) 0 0 at.sites refl

  module _ (arcs : List Arc) (shape : shape_of arcs ≡ shape_in) where
    -- a region of that name has the sites and costs of such arcs
    pub region_is : (own : RegionArcs) → HasShape at own → own.name ≡ region → own ≡ region_with region arcs
    region_is own has name =
        let same : own.shape ≡ shape_of arcs =
        has ∙ ap (λ n. shape_of (arcs_from at.costs (row_named n [] 0) 0 0 at.sites)) name ∙ sym shape in
        let with_name : List ℕ → RegionArcs = λ n. record { name = n; shape = own.shape } in
        let with_shape : List SiteCost → RegionArcs = λ s. record { name = region; shape = s } in
        ap with_name name ∙ ap with_shape same

    -- the regions with that of a row have the sites and costs of the service
    pub shapes_with : (regions : List RegionArcs) (number : ℕ) → AllByRecursion (HasShape at) regions
        → AllByRecursion (HasShape at) (with_region regions number region arcs)
    shapes_with regions number all =
        elim (number == length regions) as (λ b.
        AllByRecursion (HasShape at) (if b then regions ++ region_with region arcs ∷ [] else regions)) [
          | true ↦ all_push (HasShape at) regions (region_with region arcs) all shape
          | false ↦ all
        ]
