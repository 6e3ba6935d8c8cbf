-- What a query to each server pays beside an arc's cost, as a list.
use Rattle.std.specs.Prelude.{◌≡◌, ◌+◌, ◌<◌, ◌≤◌, ℕ, List, Option, length, slice_index}
use Rattle.hsp_check.specs.ArcFlows.{host_in}
use Rattle.hsp_check.specs.Prices.{at_host}
use Rattle.hsp_instance.specs.declared.arc.Arc.{Arc}

-- the price of a server and that of its host
abbrev pub extra_at : List (Option ℕ) → List ℕ → List ℕ → ℕ → ℕ
extra_at server_hosts server_prices host_prices j =
    slice_index server_prices j + at_host (host_in server_hosts j) (λ h. slice_index host_prices h)

-- the greatest sum of two prices
abbrev pub most_extra : ℕ
most_extra = 2000000000000

-- each number is that of its server
pub record AreExtras (server_hosts : List (Option ℕ)) (server_prices host_prices extras : List ℕ) : Type 0 where
  pub many : length extras ≡ length server_prices
  pub each : (j : ℕ) → j < length server_prices
      → slice_index extras j ≡ extra_at server_hosts server_prices host_prices j
  pub low : (j : ℕ) → j < length server_prices → slice_index extras j ≤ most_extra

-- what a query pays over an arc by such numbers
abbrev pub pay_by : List ℕ → Arc → ℕ
pay_by extras arc = arc.cost + slice_index extras arc.server
