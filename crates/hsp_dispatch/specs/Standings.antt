-- Where fronts stand among the cells of a row.
use Rattle.std.specs.Prelude.{Option, Some, None, IfSome, ◌≡◌, ◌≤◌, ◌+◌, ◌-◌, ◌*◌, ◌==◌, nat_lt, slice_index, ℕ, zero}
use Rattle.std.specs.Prelude.{suc, List, [], ◌∷◌, ◌++◌, drop, map, if◌then◌else◌}
use Rattle.std.specs.List.{AllByRecursion, AllZip, flat_map, range_with_len}
use Rattle.hsp_text.specs.declared.limits.TheConstants.{GREATEST_COUNT}
use Rattle.hsp_log.specs.FrontShares.{share}
use Rattle.hsp_dispatch.specs.declared.counts.Widths.{Widths}
use Rattle.hsp_dispatch.specs.declared.counts.Widths.TheVariants.{One, Two, Four}
use Rattle.hsp_dispatch.specs.declared.front_share.Standing.{Standing}
use Rattle.hsp_dispatch.specs.declared.share.Cell.{Cell}

-- the cells with a part of what each has; those of which nothing is left are left out
abbrev pub parts_in : (ℕ → ℕ) → List Cell → List Cell
parts_in part [] = []
parts_in part (cell ∷ cells) =
    if part cell.left == 0 then parts_in part cells else record cell { left = part cell.left } ∷ parts_in part cells

-- the cells of which a front has a share, with its share of each
abbrev pub shares_in : ℕ → ℕ → List Cell → List Cell
shares_in fronts front cells = parts_in (share fronts front) cells

-- the shares together
abbrev pub shares_sum : ℕ → ℕ → List Cell → ℕ
shares_sum fronts front [] = 0
shares_sum fronts front (cell ∷ cells) = share fronts front cell.left + shares_sum fronts front cells

-- the cells that a front has left, where it has `left` queries left in all: what it has taken was of the first ones
abbrev pub left_among : ℕ → ℕ → ℕ → List Cell → List Cell
left_among fronts front left [] = []
left_among fronts front left (cell ∷ later) =
    if nat_lt (shares_sum fronts front later) left
    then record cell { left = left - shares_sum fronts front later } ∷ shares_in fronts front later
    else left_among fronts front left later

-- so much is left of the first cell, and the shares in the later ones
abbrev pub left_from : ℕ → ℕ → ℕ → List Cell → List Cell
left_from fronts front left [] = []
left_from fronts front left (cell ∷ later) = record cell { left = left } ∷ shares_in fronts front later

-- the cells that a front has left, by where it stands
abbrev pub cells_left : ℕ → ℕ → List Cell → Standing → List Cell
cells_left fronts front cells standing =
    if standing.left == 0 then [] else left_from fronts front standing.left (drop standing.cell cells)

-- ---- all fronts and rows

-- the place of a front's number for a row: the numbers of the fronts stand side by side, row after row
abbrev pub place_of : ℕ → ℕ → ℕ → ℕ
place_of fronts front row = row * fronts + front

-- the cells that a front has left of each row, from a row on, by how many it has left in all
abbrev pub lefts_from : ℕ → ℕ → ℕ → List (List Cell) → List ℕ → List (List Cell)
lefts_from fronts front row [] lefts = []
lefts_from fronts front row (cells ∷ rows) lefts =
    left_among fronts front (slice_index lefts (place_of fronts front row)) cells
    ∷ lefts_from fronts front (row + 1) rows lefts

-- the same of each front
abbrev pub lefts_of : ℕ → List (List Cell) → List ℕ → List (List (List Cell))
lefts_of fronts rows lefts = map (λ front. lefts_from fronts front 0 rows lefts) (range_with_len 0 fronts)

-- how many each of the first fronts has of a row
abbrev pub sums_of : ℕ → ℕ → List Cell → List ℕ
sums_of fronts zero cells = []
sums_of fronts (suc many) cells = sums_of fronts many cells ++ shares_sum fronts many cells ∷ []

-- how many each front has of each row
abbrev pub all_sums : ℕ → List (List Cell) → List ℕ
all_sums fronts rows = flat_map (sums_of fronts fronts) rows

-- ---- how they are kept

-- each cell has no more than a row's count may be
abbrev pub AreBounded : List Cell → Type 0
AreBounded cells = AllByRecursion (λ (cell : Cell). cell.left ≤ GREATEST_COUNT) cells

-- there is only one cell, and it is of the server
abbrev pub IsSole : ℕ → List Cell → Type 0
IsSole server [] = ⊥
IsSole server (cell ∷ []) = cell.server ≡ server
IsSole server (cell ∷ second ∷ more) = ⊥

-- the server that a number of two octets names; the greatest names none
abbrev pub sole_in : ℕ → Option ℕ
sole_in sole = if sole == 65535 then None else Some sole

-- where a number names a server for a row, the row's one cell is of it
abbrev pub Names : ℕ → List Cell → Type 0
Names sole cells = IfSome (sole_in sole) (λ server. IsSole server cells)

-- so it is of the numbers of all rows
abbrev pub AreSoles : List ℕ → List (List Cell) → Type 0
AreSoles soles rows = AllZip Names soles rows

-- the counts, however wide they are
abbrev pub numbers_in : Widths → List ℕ
numbers_in (One counts) = counts.items
numbers_in (Two counts) = counts.items
numbers_in (Four counts) = counts.items
