use Rattle.std.proofs.Common.{◌≡◌, filter, map, take}
use Rattle.hsp_prices.specs.KeptRows.{KeptArc}
use Rattle.hsp_price_plan.specs.Entries.{arcs_by}
use Rattle.hsp_price_plan.proofs.entries.fill_kept.Given as goal

abbrev pub invariant-loop-i : goal.invariant-loop-i
invariant-loop-i l =
    l.kept.items ≡ map (λ (a : KeptArc). a.arc) (filter (λ a. a.is_kept) (take l.i (arcs_by l.shape l.entries)))
