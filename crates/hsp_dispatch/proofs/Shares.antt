-- A row's cells, and the spread of what is left in them.
use Rattle.std.proofs.Common.{◌≡◌, ◌<◌, ◌≤◌, ◌+◌, ◌-◌, ◌∙◌, ◌++◌, ℕ, zero, suc, List, [], ◌∷◌, length, replicate, arith}
use Rattle.std.proofs.Common.{refl, sym, ap, eq-eqb}
use Rattle.std.proofs.Common.{inl, inr}
use Rattle.std.proofs.lemmas.Bool.{ne_eqb, cases_eq}
use Rattle.std.specs.List.{AllByRecursion}
use Rattle.hsp_instance.proofs.Lists.{all_so}
use Rattle.hsp_dispatch.proofs.Spreads.{same_spread}
use Rattle.hsp_dispatch.specs.Dispatch.{spread_from}
use Rattle.hsp_instance.specs.Instance.{Instance}
use Rattle.hsp_dispatch.specs.Shares.{AreCells, AreCellsOf, IsCellOf, left_at}
use Rattle.hsp_dispatch.specs.declared.share.Cell.{Cell}

-- the sites of cells, each as often as something is left there
abbrev pub sites_of : List Cell → List ℕ
sites_of [] = []
sites_of (cell ∷ cells) = replicate cell.left cell.site ++ sites_of cells

-- every cell is of a site from s on and before s + n
abbrev pub Within : ℕ → ℕ → List Cell → Type 0
Within n s cells = AllByRecursion (λ (cell : Cell). (s ≤ cell.site) × (cell.site < s + n)) cells

-- the cells behind one that is at the first of the sites or after it
pub within_behind : (n s : ℕ) (cell : Cell) (cells : List Cell) → s ≤ cell.site
    → AllByRecursion (λ (later : Cell). cell.site < later.site) cells → Within (suc n) s cells
    → Within n (s + 1) cells
within_behind n s cell [] low behind within = tt
within_behind n s cell (c ∷ cells) low behind within =
    ((omega (arith, low, behind.0), omega (arith, within.0.1)), within_behind n s cell cells low behind.1 within.1)

-- the cells of a row are of sites of the instance
pub sites_within : (it : Instance) (row : ℕ) (cells : List Cell) → AreCellsOf it row cells
    → Within (length it.sites) 0 cells
sites_within it row cells are =
    all_so (IsCellOf it row) (λ (cell : Cell). (0 ≤ cell.site) × (cell.site < 0 + length it.sites)) cells
    (λ cell is. (omega arith, omega (arith, is.site))) are.each

-- cells behind a site leave nothing at it
pub none_at : (cells : List Cell) (s : ℕ) → AllByRecursion (λ (cell : Cell). s < cell.site) cells → left_at cells s ≡ 0
none_at [] s behind = refl
none_at (cell ∷ cells) s behind =
    rw (ne_eqb cell.site s (λ same. absurd (omega (arith, behind.0, same)))) (none_at cells s behind.1)

-- what is left behind the first cell
left_behind : (cell : Cell) (cells : List Cell) (t : ℕ) → cell.site < t → left_at (cell ∷ cells) t ≡ left_at cells t
left_behind cell cells t later = rw (ne_eqb cell.site t (λ same. absurd (omega (arith, same)))) refl

-- the spread of what is left: the sites of the cells
pub spread_is : (n s : ℕ) (cells : List Cell) → AreCells cells → Within n s cells
    → spread_from n s (left_at cells) ≡ sites_of cells
spread_is zero s [] are within = refl
spread_is zero s (cell ∷ cells) are within = absurd (omega (arith, within.0.0, within.0.1))
spread_is (suc n) s [] are within = spread_is n (s + 1) [] tt tt
spread_is (suc n) s (cell ∷ cells) are within =
    let rest : Within n (s + 1) cells = within_behind n s cell cells within.0.0 are.1.0 within.1 in
    elim (cases_eq cell.site s) [
      | inl here ↦
          let tail : spread_from n (s + 1) (left_at (cell ∷ cells)) ≡ sites_of cells =
          same_spread n (s + 1) (left_at (cell ∷ cells)) (left_at cells)
          (λ t h. left_behind cell cells t (omega (arith, here, h))) ∙ spread_is n (s + 1) cells are.1.1 rest in
          rw (eq-eqb cell.site s here)
          (ap (λ (others : List ℕ). replicate cell.left s ++ others) tail
          ∙ ap (λ (k : ℕ). replicate cell.left k ++ sites_of cells) (sym here))
      | inr other ↦
          let later : s < cell.site = omega (arith, other, within.0.0) in
          let none : left_at cells s ≡ 0 =
          none_at cells s
          (all_so (λ (c : Cell). cell.site < c.site) (λ (c : Cell). s < c.site) cells
          (λ c behind. omega (arith, behind, later)) are.1.0) in
          rw (ne_eqb cell.site s other, none)
          (spread_is n (s + 1) (cell ∷ cells) are ((omega arith, omega (arith, within.0.1)), rest))
    ]

-- the first of the spread is the first cell's site
pub first_site : (cells : List Cell) (cell : Cell) → AreCells (cell ∷ cells)
    → (rest : List ℕ) × (sites_of (cell ∷ cells) ≡ cell.site ∷ rest)
first_site cells cell are = some cell.left are.0 refl
  where
    some : (n : ℕ) → 0 < n → cell.left ≡ n → (rest : List ℕ) × (sites_of (cell ∷ cells) ≡ cell.site ∷ rest)
    some zero h e = absurd (omega arith)
    some (suc n) h e = (replicate n cell.site ++ sites_of cells, rw e refl)
