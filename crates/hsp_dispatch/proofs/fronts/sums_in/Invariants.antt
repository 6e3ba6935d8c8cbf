use Rattle.std.proofs.Common.{◌≡◌, take}
use Rattle.hsp_dispatch.specs.Standings.{all_sums}
use Rattle.hsp_dispatch.proofs.fronts.sums_in.Given as goal

-- the numbers of the rows so far are there
abbrev pub invariant-loop-row : goal.invariant-loop-row
invariant-loop-row l = l.sums.items ≡ all_sums l.fronts (take l.row-index l.rows)
