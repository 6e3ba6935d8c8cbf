use Rattle.std.proofs.Common.{◌≡◌, take}
use Rattle.hsp_price_plan.specs.Entries.{bare_arcs}
use Rattle.hsp_price_plan.proofs.entries.fill_arcs.Given as goal

abbrev pub invariant-loop-i : goal.invariant-loop-i
invariant-loop-i l = l.arcs.items ≡ take l.i (bare_arcs l.shape l.entries)
