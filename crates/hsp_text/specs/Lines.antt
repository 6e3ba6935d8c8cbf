-- Lines of a text, each ended by one LF, the octet 10.
use Rattle.std.specs.Prelude.{◌≡◌, ◌<◌, ℕ, List, ◌∷◌, ◌++◌, length, slice_index, Option, Some, None}

-- no octet is an LF
abbrev pub IsUnbroken : List ℕ → Type 0
IsUnbroken text = (k : ℕ) → k < length text → slice_index text k ≡ 10 → ⊥

-- the line before the first LF and what follows it, or nothing where there is no LF
abbrev pub SplitsAtLine : List ℕ → Option (List ℕ × List ℕ) → Type 0
SplitsAtLine text (Some (line, rest)) = (text ≡ line ++ 10 ∷ rest) × IsUnbroken line
SplitsAtLine text None = IsUnbroken text
