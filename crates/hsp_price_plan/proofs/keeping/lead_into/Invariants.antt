use Rattle.std.proofs.Common.{◌≡◌, drop}
use Rattle.hsp_transport.specs.Lists.{flag_at}
use Rattle.hsp_price_plan.specs.Entries.{arcs_by}
use Rattle.hsp_price_plan.proofs.KeptArcs.{all_into}
use Rattle.hsp_price_plan.proofs.keeping.lead_into.Given as goal

abbrev pub invariant-loop-i : goal.invariant-loop-i
invariant-loop-i l =
    all_into (flag_at l.set) (drop l.i (arcs_by l.shape l.entries))
    ≡ all_into (flag_at l.set) (arcs_by l.shape l.entries)
