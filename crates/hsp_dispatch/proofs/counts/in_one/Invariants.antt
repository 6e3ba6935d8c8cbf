use Rattle.std.proofs.Common.{◌≡◌, take}
use Rattle.hsp_dispatch.proofs.counts.in_one.Given as goal

-- the counts so far are there
abbrev pub invariant-loop-count : goal.invariant-loop-count
invariant-loop-count l = l.ones.items ≡ take l.count-index l.counts
