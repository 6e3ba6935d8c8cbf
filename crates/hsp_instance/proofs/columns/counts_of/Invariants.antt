use Rattle.std.proofs.Common.{◌≡◌, take, map}
use Rattle.hsp_instance.proofs.columns.counts_of.Given as goal

abbrev pub invariant-loop-row : goal.invariant-loop-row
invariant-loop-row l = l.counts.items ≡ take l.row (map (λ x. x.count) l.instance.rows)
