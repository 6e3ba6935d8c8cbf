-- What the classes of a plan bring and cost, as sums that a pass keeps.
use Rattle.std.specs.Prelude.{◌≡◌, ◌<◌, ◌+◌, ℕ, List, length, slice_index, sum_by}
use Rattle.hsp_tables.specs.Costs.{CostEntry}
use Rattle.hsp_instance.specs.Instance.{Instance}
use Rattle.hsp_prices.specs.Rows.{Service}
use Rattle.hsp_price_text.specs.Claim.{Class}
use Rattle.hsp_prices.specs.Sums.{class_load}
use Rattle.hsp_price_check.specs.Passed.{capped}

-- an instance without its rows, and the costs
abbrev pub service_of : List CostEntry → Instance → Service
service_of costs it = record { costs = costs; sites = it.sites; servers = it.servers; hosts = it.hosts }

-- each server takes what a class brings to it
pub record IsLoadedBy (old : List ℕ) (class : Class) (new : List ℕ) : Type 0 where
  pub many : length new ≡ length old
  pub each : (j : ℕ) → j < length old → slice_index new j ≡ capped (slice_index old j + class_load j class)

-- each of so many servers takes what classes bring to it
pub record AreClassLoads (count : ℕ) (classes : List Class) (loads : List ℕ) : Type 0 where
  pub many : length loads ≡ count
  pub each : (j : ℕ) → j < count → slice_index loads j ≡ capped (sum_by (class_load j) classes)
