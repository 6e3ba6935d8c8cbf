use Rattle.std.proofs.Common.{◌≡◌, drop}
use Rattle.std.specs.List.{list_any}
use Rattle.hsp_price_dispatch.specs.Regions.{has_cost_at}
use Rattle.hsp_price_dispatch.proofs.regions.has_cost.Given as goal

-- the sites before this one have no cost
abbrev pub invariant-loop-number : goal.invariant-loop-number
invariant-loop-number l =
    list_any (has_cost_at l.costs l.region) (drop l.number l.sites) ≡ list_any (has_cost_at l.costs l.region) l.sites
