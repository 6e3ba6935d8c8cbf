-- The rows of a log, as they are held one after another.
use Rattle.std.specs.Prelude.{◌≡◌, ◌≤◌, ℕ, [], List, length, map}
use Rattle.std.specs.List.{AllByRecursion}
use Rattle.hsp_tables.specs.Costs.{AreCosts}
use Rattle.hsp_text.specs.declared.limits.TheConstants.{MOST_LOG_REGIONS}
use Rattle.hsp_instance.specs.Instance.{Row, regions_of}
use Rattle.hsp_instance.specs.RowArcs.{ArcsInTurn}
use Rattle.hsp_prices.specs.Rows.{Service}
use Rattle.hsp_prices.specs.Shown.{IsService}
use Rattle.hsp_prices.specs.Solved.{AreRows}
use Rattle.hsp_price_plan.specs.Held.{HeldRows}
use Rattle.hsp_price_plan.specs.Regions.{HasShape}
use Rattle.hsp_price_plan.specs.Grouping.{asked_in}
use Rattle.hsp_price_check.specs.Passed.{capped}
use Rattle.hsp_price_runs.specs.declared.holder.RowHolder.{RowHolder}

-- These rows of a service are held, with the arcs that are found for them. They name no more regions than they may, and
-- it is known how many queries they ask for together.
pub record AreHeldBy (at : Service) (rows : List Row) (found : ArcsInTurn) (held : HeldRows) (asked : ℕ) : Type 0
  where
    pub service : IsService at
    pub costs : AreCosts at.costs
    pub costs_are : found.costs ≡ at.costs
    pub sites_are : found.sites ≡ at.sites
    pub regions_are : found.regions ≡ regions_of rows
    pub few_regions : length (regions_of rows) ≤ MOST_LOG_REGIONS
    pub room : held.sites ≡ length at.sites
    pub names : map (λ region. region.name) held.regions ≡ regions_of rows
    pub shapes : AllByRecursion (HasShape at) held.regions
    pub rows_are : AreRows at rows held.rows
    pub asked_is : asked ≡ capped (asked_in held.rows)

abbrev pub IsHolder : {P : Type 0} → Service → List Row → RowHolder P → Type 0
IsHolder at rows holder = AreHeldBy at rows holder.arcs holder.rows holder.asked

-- no row is held yet
abbrev pub IsFresh : {P : Type 0} → Service → RowHolder P → Type 0
IsFresh at holder = IsHolder at [] holder

-- one that held no rows holds these, whatever service they are of
pub record HasHeld {P : Type 0} (first : RowHolder P) (rows : List Row) (now : RowHolder P) : Type 0 where
  pub at : Service
  pub fresh : IsFresh at first
  pub held : (own : Service) → IsFresh own first → IsHolder own rows now
