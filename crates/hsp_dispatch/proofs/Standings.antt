-- Where fronts stand among the cells of a row, and what they take of them.
use Rattle.std.proofs.Common.{◌≡◌, ◌≢◌, ◌<◌, ◌≤◌, ◌+◌, ◌-◌, ◌*◌, ◌∙◌, ℕ, zero, suc, List, [], ◌∷◌, drop, length}
use Rattle.std.proofs.Common.{slice_index, Some, option_map, arith, refl, sym, ap, inl, inr}
use Rattle.std.specs.List.{slice_get}
use Rattle.std.proofs.lemmas.Bool.{cases_eq, cases_lt, le-ltb, lt-ltb, ne_eqb}
use Rattle.std.proofs.lemmas.List.{get_or-append-add, get_or_append_left, get_or_push, length-append}
use Rattle.std.proofs.Math.Nat.{mul-le-mul_right, suc-mul}
use Rattle.hsp_text.specs.declared.limits.TheConstants.{MOST_SITES}
use Rattle.hsp_instance.proofs.Lists.{drop_at}
use Rattle.hsp_log.specs.FrontShares.{share}
use Rattle.hsp_dispatch.specs.Shares.{AreCells, cells_at, first_of, without_first}
use Rattle.hsp_dispatch.specs.Standings.{AreBounded, IsSole, all_sums, cells_left, left_among, left_from, place_of}
use Rattle.hsp_dispatch.specs.Standings.{shares_in, shares_sum, sums_of}
use Rattle.hsp_dispatch.specs.declared.front_share.Standing.{Standing}
use Rattle.hsp_dispatch.specs.declared.share.Cell.{Cell}
use Rattle.hsp_log.proofs.FrontShares.{share_le}
use Rattle.hsp_dispatch.proofs.Shares.{Within, within_behind}

-- ---- how many cells there are

-- cells in order of their sites are no more than the sites
pub few_cells : (most s : ℕ) (cells : List Cell) → AreCells cells → Within most s cells → length cells ≤ most
few_cells most s [] are within = omega arith
few_cells zero s (cell ∷ cells) are within = absurd (omega (arith, within.0.0, within.0.1))
few_cells (suc most) s (cell ∷ cells) are within =
    omega (arith, few_cells most (s + 1) cells are.1.1 (within_behind most s cell cells within.0.0 are.1.0 within.1))

-- ---- what is left in all

-- no front has more in cells than they have
sum_within : (fronts front : ℕ) (cells : List Cell) → 0 < fronts → AreBounded cells
    → shares_sum fronts front cells ≤ length cells * 1000000
sum_within fronts front [] some bounded = omega arith
sum_within fronts front (cell ∷ cells) some bounded =
    omega (
      arith,
      share_le fronts front cell.left some,
      bounded.0,
      sum_within fronts front cells some bounded.1,
      suc-mul (length cells) 1000000,
    )

-- the shares of a row add up to 32 bits
pub sum_fits : (fronts front : ℕ) (cells : List Cell) → 0 < fronts → AreBounded cells → length cells ≤ MOST_SITES
    → shares_sum fronts front cells ≤ 4294967295
sum_fits fronts front cells some bounded few = omega (arith, sum_within fronts front cells some bounded, few)

-- the shares from a cell on are its own and those behind it
pub sum_from : (fronts front k : ℕ) (cells : List Cell) (cell : Cell) → slice_get cells k ≡ Some cell
    → shares_sum fronts front (drop k cells)
    ≡ share fronts front cell.left + shares_sum fronts front (drop (k + 1) cells)
sum_from fronts front k cells cell e = ap (shares_sum fronts front) (drop_at cells k cell e)

-- who has nothing left, and who has all
left_none : (fronts front : ℕ) (cells : List Cell) → left_among fronts front 0 cells ≡ []
left_none fronts front [] = refl
left_none fronts front (cell ∷ cells) =
    rw (le-ltb (shares_sum fronts front cells) 0 (omega arith)) (left_none fronts front cells)

-- a front with all its shares left has its shares
pub left_whole : (fronts front left : ℕ) (cells : List Cell) → left ≡ shares_sum fronts front cells
    → left_among fronts front left cells ≡ shares_in fronts front cells
left_whole fronts front left [] whole = refl
left_whole fronts front left (cell ∷ cells) whole = grind (arith, left_whole fronts front left cells)

-- who takes one has one less in all
pub left_taken : (fronts front left : ℕ) (cells : List Cell)
    → without_first (left_among fronts front left cells) ≡ left_among fronts front (left - 1) cells
left_taken fronts front left [] = refl
left_taken fronts front left (cell ∷ cells) =
    let whole = left_whole fronts front (left - 1) cells in
    grind (arith, whole, left_taken fronts front left cells)

-- who has something left of only one cell goes to its server
pub first_sole : (fronts front left server : ℕ) (cells : List Cell) → IsSole server cells → left ≢ 0
    → option_map (λ (cell : Cell). cell.server) (first_of (left_among fronts front left cells)) ≡ Some server
first_sole fronts front left server [] sole some = absurd sole
first_sole fronts front left server (cell ∷ []) sole some = rw (lt-ltb 0 left (omega (arith, some))) (ap Some sole)
first_sole fronts front left server (cell ∷ second ∷ more) sole some = absurd sole

-- a front with none left has nothing
pub none_left : (fronts front left : ℕ) (cells : List Cell) → left ≡ 0 → left_among fronts front left cells ≡ []
none_left fronts front left cells none = rw none (left_none fronts front cells)

-- ---- where a front stands

-- the shares behind a cell are no more than all
less_behind : (fronts front k : ℕ) (cells : List Cell)
    → shares_sum fronts front (drop k cells) ≤ shares_sum fronts front cells
less_behind fronts front zero cells = omega arith
less_behind fronts front (suc k) [] = omega arith
less_behind fronts front (suc k) (cell ∷ cells) = omega (arith, less_behind fronts front k cells)

-- it stands at the cell whose share, with those behind it, is as many as it has left, where those behind it are fewer
stands_at : (fronts front left here k : ℕ) (cells : List Cell) → here ≢ 0
    → here + shares_sum fronts front (drop (k + 1) cells) ≡ left
    → (k ≢ 0 → left ≤ shares_sum fronts front (drop k cells))
    → left_from fronts front here (drop k cells) ≡ left_among fronts front left cells
stands_at fronts front left here zero [] some all as_many = refl
stands_at fronts front left here zero (cell ∷ later) some all as_many = grind arith
stands_at fronts front left here (suc k) [] some all as_many = refl
stands_at fronts front left here (suc k) (cell ∷ later) some all as_many =
    let few : left ≤ shares_sum fronts front (drop k later) = as_many (λ e. absurd (cc)) in
    let next : suc k + 1 ≡ suc (k + 1) = omega arith in
    rw (le-ltb (shares_sum fronts front later) left (omega (arith, few, less_behind fronts front k later)))
    (stands_at fronts front left here k later some (rw next at all) (λ first. few))

-- a front that stands at a cell has what is left there, and the shares behind it
pub stands : (fronts front left here k : ℕ) (cells : List Cell) (standing : Standing) → (left ≢ 0 → here ≢ 0)
    → here + shares_sum fronts front (drop (k + 1) cells) ≡ left
    → (k ≢ 0 → left ≤ shares_sum fronts front (drop k cells))
    → standing.cell ≡ k → standing.left ≡ here
    → cells_left fronts front cells standing ≡ left_among fronts front left cells
stands fronts front left here k cells standing some all as_many at own = elim (cases_eq here 0) [
  | inl nothing ↦
      let none : left ≡ 0 = elim (cases_eq left 0) [ inl none ↦ none | inr more ↦ absurd (some more nothing) ] in
      rw (own, nothing, none) (sym (left_none fronts front cells))
  | inr more ↦ rw (at, own, ne_eqb here 0 more) (stands_at fronts front left here k cells more all as_many)
]

-- ---- the numbers of all fronts for all rows

-- the place of a front's number is there
pub place_within : (fronts front row many : ℕ) → front < fronts → row < many → place_of fronts front row < many * fronts
place_within fronts front row many own inside =
    let next : suc row * fronts ≤ many * fronts = mul-le-mul_right fronts inside in
    omega (arith, own, next, suc-mul row fronts)

-- each front has a sum
sums_long : (fronts many : ℕ) (cells : List Cell) → length (sums_of fronts many cells) ≡ many
sums_long fronts zero cells = refl
sums_long fronts (suc many) cells =
    length-append (sums_of fronts many cells) (shares_sum fronts many cells ∷ [])
    ∙ omega (arith, sums_long fronts many cells)

-- that sum is of its own shares
sums_get : (fronts many front : ℕ) (cells : List Cell) → front < many
    → slice_index (sums_of fronts many cells) front ≡ shares_sum fronts front cells
sums_get fronts zero front cells inside = absurd (omega (arith, inside))
sums_get fronts (suc many) front cells inside = elim (cases_lt front many) [
  | inl before ↦
      get_or_append_left (sums_of fronts many cells) (shares_sum fronts many cells ∷ []) 0 front
      (omega (arith, sums_long fronts many cells, before))
      ∙ sums_get fronts many front cells before
  | inr last ↦
      let same : front ≡ many = omega (arith, inside, last) in
      rw same
      (get_or_push (sums_of fronts many cells) (shares_sum fronts many cells) 0 many (sums_long fronts many cells))
]

-- what fronts have at first: the sums of their shares
pub sums_at : (fronts front row : ℕ) (rows : List (List Cell)) → front < fronts → row < length rows
    → slice_index (all_sums fronts rows) (place_of fronts front row) ≡ shares_sum fronts front (cells_at rows row)
sums_at fronts front row [] inside there = absurd (omega arith)
sums_at fronts front zero (cells ∷ rows) inside there =
    let place : 0 * fronts + front ≡ front = omega arith in
    ap (λ (n : ℕ). slice_index (all_sums fronts (cells ∷ rows)) n) place
    ∙ get_or_append_left (sums_of fronts fronts cells) (all_sums fronts rows) 0 front
    (omega (arith, sums_long fronts fronts cells, inside))
    ∙ sums_get fronts fronts front cells inside
sums_at fronts front (suc row) (cells ∷ rows) inside there =
    let place : suc row * fronts + front ≡ length (sums_of fronts fronts cells) + (row * fronts + front) =
    omega (arith, sums_long fronts fronts cells, suc-mul row fronts) in
    ap (λ (n : ℕ). slice_index (all_sums fronts (cells ∷ rows)) n) place
    ∙ get_or-append-add (sums_of fronts fronts cells) (all_sums fronts rows) (row * fronts + front) 0
    ∙ sums_at fronts front row rows inside (omega (arith, there))

-- each front has a sum of each row
pub all_long : (fronts : ℕ) (rows : List (List Cell)) → length (all_sums fronts rows) ≡ length rows * fronts
all_long fronts [] = omega arith
all_long fronts (cells ∷ rows) =
    length-append (sums_of fronts fronts cells) (all_sums fronts rows)
    ∙ omega (arith, sums_long fronts fronts cells, all_long fronts rows, suc-mul (length rows) fronts)
