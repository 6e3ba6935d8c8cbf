use Rattle.std.proofs.Common.{◌≡◌, fold, take}
use Rattle.hsp_pair_map.specs.Hashing.{mixed}
use Rattle.hsp_pair_map.proofs.hashing.octets_mixed.Given as goal

abbrev pub invariant-loop-octet : goal.invariant-loop-octet
invariant-loop-octet l = l.hash ≡ fold mixed l.fn.hash (take l.octet-index l.octets)
