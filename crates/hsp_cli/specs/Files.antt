-- The files that a command names.
use Rattle.std.specs.Prelude.{◌≡◌, ⊤, ℕ, List, Option, Some, None}

-- files by their paths: which octets a file holds, and whether it may fail to be read whole, since it can't be opened,
-- a read of it fails, or it is too long
pub record Disk : Type 1 where
  pub holds : List ℕ → List ℕ → Type 0
  pub fails : List ℕ → Type 0

-- reading to the end gives the octets that are left, where they are known
abbrev pub MayRead : Option (List ℕ) → List ℕ → Type 0
MayRead (Some left) octets = octets ≡ left
MayRead None octets = ⊤

-- what is left, read to the end, is what the file holds
abbrev pub HoldsRest : Disk → List ℕ → Option (List ℕ) → Type 0
HoldsRest disk path left = (octets : List ℕ) → MayRead left octets → disk.holds path octets
