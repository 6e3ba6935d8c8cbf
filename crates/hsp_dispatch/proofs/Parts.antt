-- The parts in the cells of a row: each cell has a part of what it had, and those of which nothing is left are left
-- out.
use Rattle.std.proofs.Common.{◌≡◌, ◌<◌, ℕ, List, [], ◌∷◌, arith, sym, eq-eqb}
use Rattle.std.proofs.Common.{inl, inr}
use Rattle.std.specs.List.{AllByRecursion}
use Rattle.std.proofs.lemmas.Bool.{cases_eq, ne_eqb}
use Rattle.hsp_instance.specs.Instance.{Instance}
use Rattle.hsp_dispatch.specs.Shares.{AreCells, AreCellsOf, IsCellOf, left_at}
use Rattle.hsp_dispatch.specs.Standings.{parts_in}
use Rattle.hsp_dispatch.specs.declared.share.Cell.{Cell}
use Rattle.hsp_dispatch.proofs.Shares.{none_at}

-- what only the site and the server of a cell decide
parts_keep : (P : Cell → Type 0) → ((cell : Cell) (left : ℕ) → P cell → P (record cell { left = left }))
    → (part : ℕ → ℕ) (cells : List Cell)
    → AllByRecursion P cells → AllByRecursion P (parts_in part cells)
parts_keep P keeps part [] all = tt
parts_keep P keeps part (cell ∷ cells) all = elim (cases_eq (part cell.left) 0) [
  | inl none ↦ rw (eq-eqb (part cell.left) 0 none) (parts_keep P keeps part cells all.1)
  | inr some ↦
      rw (ne_eqb (part cell.left) 0 some) (keeps cell (part cell.left) all.0, parts_keep P keeps part cells all.1)
]

-- parts of later cells are of later sites
parts_after : (part : ℕ → ℕ) (site : ℕ) (cells : List Cell) → AllByRecursion (λ (later : Cell). site < later.site) cells
    → AllByRecursion (λ (later : Cell). site < later.site) (parts_in part cells)
parts_after part site cells after =
    parts_keep (λ (later : Cell). site < later.site) (λ cell left less. less) part cells after

-- parts of cells are cells
pub parts_are : (part : ℕ → ℕ) (cells : List Cell) → AreCells cells → AreCells (parts_in part cells)
parts_are part [] are = tt
parts_are part (cell ∷ cells) are = elim (cases_eq (part cell.left) 0) [
  | inl none ↦ rw (eq-eqb (part cell.left) 0 none) (parts_are part cells are.1.1)
  | inr some ↦
      rw (ne_eqb (part cell.left) 0 some)
      (omega (arith, some), (parts_after part cell.site cells are.1.0, parts_are part cells are.1.1))
]

-- the parts in the cells of a row are cells of the row
pub parts_of_row : (part : ℕ → ℕ) (it : Instance) (row : ℕ) (cells : List Cell) → AreCellsOf it row cells
    → AreCellsOf it row (parts_in part cells)
parts_of_row part it row cells are = record {
  each =
      parts_keep (IsCellOf it row)
      (λ cell left own.
      record { site = own.site; arc = own.arc; is_arc = own.is_arc; server = own.server; there = own.there }) part cells
      are.each;
  are = parts_are part cells are.are;
}

-- the part in what is left at a site
pub part_left : (part : ℕ → ℕ) → part 0 ≡ 0 → (site : ℕ) (cells : List Cell) → AreCells cells
    → left_at (parts_in part cells) site ≡ part (left_at cells site)
part_left part nothing site [] are = sym nothing
part_left part nothing site (cell ∷ cells) are =
    let behind = parts_after part site cells in
    let none = λ (at : cell.site ≡ site). none_at (parts_in part cells) site (behind (rw at at are.1.0)) in
    grind (arith, nothing, none, part_left part nothing site cells are.1.1)
