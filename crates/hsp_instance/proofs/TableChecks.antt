-- Rows of the tables that pass, one by one.
use Rattle.std.proofs.Common.{◌≡◌, ◌+◌, ℕ, List, Option, Some, None, Ok, drop, refl, arith}
use Rattle.std.specs.Prelude.{⊤}
use Rattle.std.specs.List.{find, slice_get}
use Rattle.hsp_tables.specs.Capacities.{CapacityEntry}
use Rattle.hsp_tables.specs.Costs.{CostEntry}
use Rattle.hsp_instance.specs.Building.{capacity_fault, capacity_row_fault, cost_fault, is_named, unless}
use Rattle.hsp_instance.specs.Instance.{Site}
use Rattle.hsp_instance.proofs.Lists.{drop_at}

-- a row of the costs whose site is there has no fault
pub cost_passed : (sites : List Site) (n : ℕ) (rows : List CostEntry) (row : CostEntry) (site : Site)
    → slice_get rows n ≡ Some row → Some site ≡ find (is_named row.site) sites
    → cost_fault sites (n + 1) (drop (n + 1) rows) ≡ cost_fault sites n (drop n rows)
cost_passed sites n rows row site is found = rw (drop_at rows n row is, ← found) refl

-- a row of the capacities whose site and server are there has no fault
pub capacity_passed : (sites : List Site) (n : ℕ) (rows : List CapacityEntry) (row : CapacityEntry) (site : Option Site)
    (u : ⊤) → slice_get rows n ≡ Some row → site ≡ find (is_named row.site) sites
    → unless (capacity_row_fault n row.server_id site) ≡ Ok u
    → capacity_fault sites (n + 1) (drop (n + 1) rows) ≡ capacity_fault sites n (drop n rows)
capacity_passed sites n rows row site u is found passed =
    let none : capacity_row_fault n row.server_id site ≡ None = grind arith in
    rw (drop_at rows n row is, ← found, none) refl
