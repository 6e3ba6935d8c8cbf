use Rattle.std.proofs.Common.{◌≡◌, filter, take}
use Rattle.hsp_price_dispatch.specs.Choosing.{has_wanted}
use Rattle.hsp_price_dispatch.proofs.choosing.fill_passing.Given as goal

abbrev pub invariant-loop-arc : goal.invariant-loop-arc
invariant-loop-arc l = l.passing.items ≡ filter (has_wanted l.holding l.wanted) (take l.arc-index l.arcs)
