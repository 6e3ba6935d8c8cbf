-- Rows that were seen, each with a number.
use Rattle.std.specs.Prelude.{ℕ, Bool, ◌+◌, ◌≤◌, ◌&&◌, ◌||◌, ◌++◌, not, nat_lt, List, [], ◌∷◌, length, if◌then◌else◌}
use Rattle.std.specs.List.{find}
use Rattle.std.specs.Option.{is_some}
use Rattle.std.specs.Str.{bytes_eq}
use Rattle.hsp_price_check.specs.declared.seen.TheConstants.{LONGEST_SEEN, MOST_SEEN}

pub record Seen : Type 0 where
  pub region : List ℕ
  pub handle : List ℕ
  pub number : ℕ

abbrev pub number_of : Seen → ℕ
number_of seen = seen.number

-- a row is of the region and the handle
abbrev pub of_row : List ℕ → List ℕ → Seen → Bool
of_row region handle seen = bytes_eq region seen.region && bytes_eq handle seen.handle

-- the names of a row are short enough to be kept
abbrev pub IsShort : Seen → Type 0
IsShort seen = length seen.region + length seen.handle ≤ LONGEST_SEEN

-- a row is left out where there are rows enough, where its names are too long, and where it has a number
abbrev pub is_left_out : List Seen → List ℕ → List ℕ → Bool
is_left_out rows region handle =
    not (nat_lt (length rows) MOST_SEEN) || nat_lt LONGEST_SEEN (length region + length handle)
    || is_some (find (of_row region handle) rows)

-- the rows with a row that was seen
abbrev pub put_in : List Seen → Seen → List Seen
put_in rows row = if is_left_out rows row.region row.handle then rows else rows ++ row ∷ []
