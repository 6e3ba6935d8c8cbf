-- A lent key that is equal to a key is hashed as the key.
use Rattle.std.proofs.Common.{◌≡◌, ◌++◌, ◌&&◌, ℕ, true, List, refl}
use Rattle.std.specs.Cmp.Lexicographic.{bytes_decides}
use Rattle.std.specs.Hash.{slice, u32, u8}
use Rattle.std.specs.Str.{bytes_eq}
use Rattle.hsp_tables.specs.LentKeys.{both}

pub hashed_alike : (a b c d : List ℕ) → (bytes_eq a b && bytes_eq c d) ≡ true
    → (slice u8 a ++ slice u32 c) ≡ (slice u8 b ++ slice u32 d)
hashed_alike a b c d h =
    let is = both (bytes_eq a b) (bytes_eq c d) h in
    let first : a ≡ b = (bytes_decides a b).0 is.0 in
    let second : c ≡ d = (bytes_decides c d).0 is.1 in
    rw (first, second) refl
