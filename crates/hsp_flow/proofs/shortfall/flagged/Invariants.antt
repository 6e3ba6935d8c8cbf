use Rattle.std.proofs.Common.{◌≡◌, ◌++◌, drop}
use Rattle.hsp_flow.specs.Planning.{flagged_from}
use Rattle.hsp_flow.proofs.shortfall.flagged.Given as goal

abbrev pub invariant-loop-number : goal.invariant-loop-number
invariant-loop-number l = l.numbers.items ++ flagged_from l.number (drop l.number l.flags) ≡ flagged_from 0 l.flags
