use Rattle.std.proofs.Common.{◌≡◌, map, take}
use Rattle.std.specs.Char.{to_ascii_uppercase}
use Rattle.hsp_hash.proofs.digest.set_upper.Given as goal

abbrev pub invariant-loop-place : goal.invariant-loop-place
invariant-loop-place l = take l.place l.block ≡ map to_ascii_uppercase (take l.place l.octets)
