-- The regions that the rows of a log name.
use Rattle.std.specs.Prelude.{◌++◌, ◌||◌, Bool, ℕ, List, [], ◌∷◌, length, nat_lt, if◌then◌else◌}
use Rattle.std.specs.List.{list_any}
use Rattle.std.specs.Str.{bytes_eq}
use Rattle.hsp_text.specs.declared.limits.TheConstants.{MOST_LOG_REGIONS}

-- a row may name a region that another one named, or a further one, while there are fewer than there may be
abbrev pub has_room : List (List ℕ) → List ℕ → Bool
has_room regions region = list_any (bytes_eq region) regions || nat_lt (length regions) MOST_LOG_REGIONS

-- the regions with that of such a row
abbrev pub with_region : List (List ℕ) → List ℕ → List (List ℕ)
with_region regions region =
    if list_any (bytes_eq region) regions then regions
    else if nat_lt (length regions) MOST_LOG_REGIONS then regions ++ region ∷ []
    else regions
