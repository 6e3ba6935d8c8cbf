use Rattle.std.proofs.Common.{◌≡◌, ◌++◌}
use Rattle.hsp_dispatch.specs.Standings.{sums_of}
use Rattle.hsp_dispatch.proofs.fronts.push_sums.Given as goal

-- the numbers of the fronts so far stand behind what was there
abbrev pub invariant-loop-number : goal.invariant-loop-number
invariant-loop-number l = l.sums.items ≡ l.fn.sums.items ++ sums_of l.fronts l.number l.row
