use Rattle.std.proofs.Common.{◌≡◌, take}
use Rattle.hsp_price_plan.specs.Regions.{shape_of}
use Rattle.hsp_price_plan.proofs.region.shape_of.Given as goal

abbrev pub invariant-loop-arc : goal.invariant-loop-arc
invariant-loop-arc l = l.shape.items ≡ shape_of (take l.arc-index l.arcs)
