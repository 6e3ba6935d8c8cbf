use Rattle.std.proofs.Common.{◌≡◌}
use Rattle.hsp_pair_map.specs.Hashing.{words_mixed}
use Rattle.hsp_pair_map.proofs.hashing.words_mixed.Given as goal

abbrev pub invariant-loop-number : goal.invariant-loop-number
invariant-loop-number l = l.hash ≡ words_mixed l.fn.hash l.octets l.number
