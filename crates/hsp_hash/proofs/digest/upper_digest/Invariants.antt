use Rattle.std.proofs.Common.{◌≡◌, ◌++◌, List, ℕ, length, map}
use Rattle.std.specs.Char.{to_ascii_uppercase}
use Rattle.md5.specs.Md5.{Holds}
use Rattle.hsp_hash.proofs.digest.upper_digest.Given as goal

-- the hasher holds what stands before the rest, in upper case
abbrev pub invariant-parts : goal.invariant-parts
invariant-parts l = (done : List ℕ) × (l.fn.octets ≡ done ++ l.rest) × Holds l.hasher (map to_ascii_uppercase done)

abbrev pub decreases-parts : goal.decreases-parts
decreases-parts l = length l.rest
