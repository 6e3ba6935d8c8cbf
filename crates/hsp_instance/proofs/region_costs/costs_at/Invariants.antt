use Rattle.std.proofs.Common.{◌≡◌, take}
use Rattle.hsp_instance.specs.RegionCosts.{costs_at}
use Rattle.hsp_instance.proofs.region_costs.costs_at.Given as goal

abbrev pub invariant-loop-site : goal.invariant-loop-site
invariant-loop-site l = l.found.items ≡ costs_at l.costs l.region (take l.site-index l.sites)
