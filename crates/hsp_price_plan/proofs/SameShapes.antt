-- Rows of one region have arcs at the same sites with the same costs.
use Rattle.std.proofs.Common.{◌≡◌, ◌+◌, ◌∙◌, ◌++◌, ℕ, List, [], ◌∷◌, Option, Some, None, length, ap, refl, sym}
use Rattle.std.proofs.lemmas.List.{map-append}
use Rattle.hsp_tables.specs.Costs.{CostEntry}
use Rattle.hsp_instance.specs.Building.{arc_to, arcs_from, cost_of}
use Rattle.hsp_instance.specs.Instance.{Row, Site}
use Rattle.hsp_instance.specs.declared.arc.Arc.{Arc}
use Rattle.hsp_price_plan.specs.Regions.{shape_of}
use Rattle.hsp_price_plan.specs.declared.region.SiteCost.{SiteCost}

-- at one site the arcs of two handles have one site and cost
same_shape_of_one : (handle other : List ℕ) (n first : ℕ) (site : Site) (cost : Option ℕ)
    → shape_of (arc_to handle n first site cost) ≡ shape_of (arc_to other n first site cost)
same_shape_of_one handle other n first site None = refl
same_shape_of_one handle other n first site (Some cost) = refl

-- arcs of rows of one region have the same sites and costs
pub same_shape : (costs : List CostEntry) (row other : Row) (n first : ℕ) (sites : List Site)
    → row.region ≡ other.region
    → shape_of (arcs_from costs row n first sites) ≡ shape_of (arcs_from costs other n first sites)
same_shape costs row other n first [] same = refl
same_shape costs row other n first (site ∷ sites) same =
    let shape : Arc → SiteCost = λ arc. record { site = arc.site; cost = arc.cost } in
    let rest = arcs_from costs row (n + 1) (first + length site.servers) sites in
    let other_rest = arcs_from costs other (n + 1) (first + length site.servers) sites in
    map-append shape (arc_to row.handle n first site (cost_of costs row.region site.name)) rest
    ∙ ap (λ own. own ++ shape_of rest)
    (ap (λ region. shape_of (arc_to row.handle n first site (cost_of costs region site.name))) same
    ∙ same_shape_of_one row.handle other.handle n first site (cost_of costs other.region site.name))
    ∙ ap (λ own. shape_of (arc_to other.handle n first site (cost_of costs other.region site.name)) ++ own)
    (same_shape costs row other (n + 1) (first + length site.servers) sites same)
    ∙ sym (map-append shape (arc_to other.handle n first site (cost_of costs other.region site.name)) other_rest)
