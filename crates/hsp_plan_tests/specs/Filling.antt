-- Rows of a service, as they are added one by one.
use Rattle.std.specs.Prelude.{◌≡◌, ◌≤◌, ◌*◌, ℕ, List, length}
use Rattle.std.specs.List.{AllByRecursion}
use Rattle.hsp_instance.specs.Instance.{Row}
use Rattle.hsp_instance.specs.RowArcs.{ArcsInTurn}
use Rattle.hsp_prices.specs.Rows.{Service}
use Rattle.hsp_prices.specs.Solved.{AreRows}
use Rattle.hsp_price_plan.specs.Held.{HeldRows}
use Rattle.hsp_price_plan.specs.Regions.{HasShape}
use Rattle.hsp_price_plan.specs.Grouping.{asked_in}

-- rows of the service are held, each of which asks for at most a million queries
pub record HasRows (at : Service) (held : HeldRows) : Type 0 where
  pub room : held.sites ≡ 2
  pub shapes : AllByRecursion (HasShape at) held.regions
  pub rows : List Row
  pub rows_are : AreRows at rows held.rows
  pub asked : asked_in held.rows ≤ 1000000 * length held.rows
  pub few : length held.rows ≤ 10000

-- so it is with those that are added as their arcs are found, and it is known how many regions there are
pub record IsFilled (at : Service) (found : ArcsInTurn) (held : HeldRows) (regions : ℕ) : Type 0 where
  pub costs_are : found.costs ≡ at.costs
  pub sites_are : found.sites ≡ at.sites
  pub many : regions ≡ length held.regions
  pub has : HasRows at held
