use Rattle.std.proofs.Common.{◌≡◌, ◌<◌, ℕ, get_or}
use Rattle.hsp_price_plan.proofs.ArcEntries.{no_arc}
use Rattle.hsp_price_plan.proofs.entries.write_entries.Given as goal

abbrev pub invariant-loop-i : goal.invariant-loop-i
invariant-loop-i l = (k : ℕ) → k < l.i → get_or l.entries k 0 ≡ (get_or l.arcs k no_arc).server
