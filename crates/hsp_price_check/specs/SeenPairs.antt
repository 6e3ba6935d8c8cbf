-- Rows that were seen, as a map of their names holds them.
use Rattle.std.specs.Prelude.{◌≢◌, ⊤, ℕ, List, [], ◌∷◌, Option, None, Some, slice_get}
use Rattle.hsp_pair_map.specs.Pairs.{Pair}
use Rattle.hsp_price_check.specs.Seen.{Seen}

-- the rows of names and numbers
abbrev pub seen_in : List Pair → List ℕ → List Seen
seen_in [] numbers = []
seen_in (pair ∷ pairs) [] = []
seen_in (pair ∷ pairs) (number ∷ numbers) =
    record { region = pair.first; handle = pair.second; number = number } ∷ seen_in pairs numbers

-- no pair stands twice
abbrev pub AreApart : List Pair → Type 0
AreApart [] = ⊤
AreApart (pair ∷ pairs) = ((k : ℕ) → slice_get pairs k ≢ Some pair) × AreApart pairs

-- the rows of a table, if there is one
abbrev pub rows_in : Option (List Seen) → List Seen
rows_in None = []
rows_in (Some rows) = rows
