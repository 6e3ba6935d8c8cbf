-- What is left of a class, cell by cell.
use Rattle.std.proofs.Common.{◌≡◌, ◌≢◌, ◌<◌, ◌≤◌, ◌+◌, ◌-◌, ◌∙◌, ℕ, zero, suc, List, length, take, get_or}
use Rattle.std.proofs.Common.{ap, arith, inl, inr, slice_set, sym, get_or-set_other, get_or-set_same}
use Rattle.std.specs.List.{flat_map}
use Rattle.std.proofs.lemmas.Bool.{cases_eq, cases_lt, cases_order}
use Rattle.std.proofs.lemmas.List.{get_or-take, length-take, take-take}
use Rattle.std.proofs.lemmas.List.Folds.{length-flat_map-take}
use Rattle.hsp_transport.specs.Sums.{sum_below}
use Rattle.hsp_transport.proofs.Summing.{sum_below_same}
use Rattle.hsp_price_text.specs.Claim.{Class}
use Rattle.hsp_prices.specs.Sums.{sends}
use Rattle.hsp_price_check.specs.Passed.{no_class}
use Rattle.hsp_price_dispatch.specs.Choosing.{first_cell}
use Rattle.hsp_price_dispatch.specs.Holding.{cell_at, no_cell, one_given}
use Rattle.hsp_price_dispatch.specs.declared.cells.Cell.{Cell}

-- what is left in so many cells from one on
abbrev pub left_from : List Cell → ℕ → ℕ → ℕ
left_from cells first many = sum_below many (λ i. (cell_at cells (first + i)).left)

-- one term less
one_term : (m : ℕ) (f g : ℕ → ℕ) (i : ℕ) → i < m → g i + 1 ≡ f i → ((k : ℕ) → k < m → k ≢ i → g k ≡ f k)
    → sum_below m g + 1 ≡ sum_below m f
one_term zero f g i inside here other = absurd (omega arith)
one_term (suc m) f g i inside here other = elim (cases_eq i m) [
  | inl last ↦
      let rest = sum_below_same m g f (λ k l. other k (omega arith) (λ same. omega (arith, same, last, l))) in
      let e : g m + 1 ≡ f m = ap (λ n. g n + 1) (sym last) ∙ here ∙ ap f last in
      omega (arith, rest, e)
  | inr before ↦
      let low : i < m = omega (arith, inside, before) in
      let rest = one_term m f g i low here (λ k l. other k (omega arith)) in
      let e = other m (omega arith) (λ same. before (sym same)) in
      omega (arith, rest, e)
]

-- a query of a cell leaves one less there
pub left_less : (cells : List Cell) (first many i : ℕ) → i < many → first + i < length cells
    → 0 < (cell_at cells (first + i)).left
    → left_from (slice_set cells (first + i) (one_given (cell_at cells (first + i)))) first many + 1
    ≡ left_from cells first many
left_less cells first many i inside there some =
    let n = first + i in
    let new = slice_set cells n (one_given (cell_at cells n)) in
    one_term many (λ k. (cell_at cells (first + k)).left) (λ k. (cell_at new (first + k)).left) i inside
    (let is : cell_at new n ≡ one_given (cell_at cells n) =
    get_or-set_same cells n (one_given (cell_at cells n)) no_cell there in
    let e : (cell_at new n).left ≡ (cell_at cells n).left - 1 = ap (λ (cell : Cell). cell.left) is in
    omega (arith, e, some))
    (λ k l other.
    ap (λ (cell : Cell). cell.left)
    (get_or-set_other cells n (first + k) (one_given (cell_at cells n)) no_cell (λ same. other (omega (arith, same)))))

-- and as much elsewhere
pub left_kept : (cells : List Cell) (first many n : ℕ) (cell : Cell) → ((k : ℕ) → k < many → first + k ≢ n)
    → left_from (slice_set cells n cell) first many ≡ left_from cells first many
left_kept cells first many n cell apart =
    sum_below_same many (λ k. (cell_at (slice_set cells n cell) (first + k)).left)
    (λ k. (cell_at cells (first + k)).left)
    (λ k l. ap (λ (own : Cell). own.left) (get_or-set_other cells n (first + k) cell no_cell (apart k l)))

-- somewhere something is left
pub some_left : (cells : List Cell) (first many : ℕ) → 0 < left_from cells first many
    → (i : ℕ) × (i < many) × (0 < (cell_at cells (first + i)).left)
some_left cells first zero some = absurd (omega arith)
some_left cells first (suc many) some = elim (cases_lt 0 (cell_at cells (first + many)).left) [
  | inl here ↦ (many, omega arith, here)
  | inr none ↦ let more = some_left cells first many (omega (arith, some, none)) in (
    more.0,
    omega (arith, more.1),
    more.2,
  )
]

module _ (classes : List Class) (same : (k : ℕ) → k < length classes
    → length (sends (get_or classes k no_class)) ≡ length (get_or classes k no_class).servers) where
  -- the cells of a class come before those of a later one
  pub first_before : (a b : ℕ) → a < b → b < length classes
      → first_cell classes a + length (get_or classes a no_class).servers ≤ first_cell classes b
  first_before a b less inside =
      let front = take b classes in
      let long : length front ≡ b = omega (arith, length-take b classes) in
      let low = length-flat_map-take sends front a no_class (omega (arith, long)) in
      let parts : take a front ≡ take a classes = take-take a b classes (omega arith) in
      let at : get_or front a no_class ≡ get_or classes a no_class = get_or-take b classes a no_class less in
      let e1 : length (flat_map sends (take a front)) ≡ first_cell classes a =
      ap (λ (list : List Class). length (flat_map sends list)) parts in
      let e2 : length (sends (get_or front a no_class)) ≡ length (get_or classes a no_class).servers =
      ap (λ (class : Class). length (sends class)) at ∙ same a (omega arith) in
      omega (arith, low, e1, e2)

  -- so two classes have no cell together
  pub cells_apart : (a b i k : ℕ) → a ≢ b → a < length classes → b < length classes
      → i < length (get_or classes a no_class).servers → k < length (get_or classes b no_class).servers
      → first_cell classes b + k ≢ first_cell classes a + i
  cells_apart a b i k other ina inb l m together = elim (cases_order a b) [
    | inl equal ↦ other equal
    | inr (inl less) ↦ omega (arith, first_before a b less inb, l, m, together)
    | inr (inr more) ↦ omega (arith, first_before b a more ina, l, m, together)
  ]
