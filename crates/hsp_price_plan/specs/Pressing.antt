-- Prices that are pressed together.
use Rattle.std.specs.Prelude.{◌≡◌, ◌≤◌, ◌<◌, ◌+◌, ◌-◌, ◌^◌, ℕ, ⊤, List, [], ◌∷◌, length, min, slice_index}
use Rattle.hsp_text.specs.declared.limits.TheConstants.{GREATEST_COST}
use Rattle.hsp_check.specs.Prices.{ArePrices}
use Rattle.hsp_network.specs.Answer.{BoundsCosts, IsMet}
use Rattle.hsp_network.specs.Network.{Transport}
use Rattle.hsp_network.specs.declared.network.PricedFlow.{PricedFlow}
use Rattle.hsp_network.specs.declared.network.Outcome.{Outcome}
use Rattle.hsp_network.specs.declared.network.Outcome.TheVariants.{Met, Short}
use Rattle.hsp_price_plan.specs.declared.press.TheConstants.{LONGEST_STEP}

-- what a number is pressed to, behind another and what that one is pressed to: no step is longer than the longest
abbrev pub pressed_behind : ℕ → ℕ → ℕ → ℕ
pressed_behind last low n = low + min (n - last) LONGEST_STEP

-- the same of numbers that ascend
abbrev pub pressed_from : ℕ → ℕ → List ℕ → List ℕ
pressed_from last low [] = []
pressed_from last low (n ∷ more) = pressed_behind last low n ∷ pressed_from n (pressed_behind last low n) more

-- a number is one of those that ascend, and is pressed to another
abbrev pub IsPressed : List ℕ → ℕ → ℕ → Type 0
IsPressed numbers x w =
    (k : ℕ) × (k < length numbers) × (slice_index numbers k ≡ x) × (slice_index (pressed_from 0 0 numbers) k ≡ w)

-- so is each number of a list
pub record AreAllPressed (numbers xs ws : List ℕ) : Type 0 where
  pub many : length ws ≡ length xs
  pub each : (j : ℕ) → j < length xs → IsPressed numbers (slice_index xs j) (slice_index ws j)

-- The price of each source is lowered to the least that a query pays over one of its arcs, of the first so many, where
-- sums of prices are given for servers.
pub record AreLowered (net : Transport) (arcs : ℕ) (sums old new : List ℕ) : Type 0 where
  pub many : length new ≡ length old
  pub low : (i : ℕ) → i < length old → slice_index new i ≤ slice_index old i
  pub below : (k : ℕ) → k < arcs → slice_index new (slice_index net.sources k)
      ≤ slice_index net.costs k + slice_index sums (slice_index net.servers k)
  pub most : (i n : ℕ) → i < length old → n ≤ slice_index old i
      → ((k : ℕ) → k < arcs → slice_index net.sources k ≡ i
      → n ≤ slice_index net.costs k + slice_index sums (slice_index net.servers k))
      → n ≤ slice_index new i

-- no cost is above its limit, and there are few enough sources, servers and hosts for sums of prices
pub record CanPress (net : Transport) : Type 0 where
  pub cheap : BoundsCosts net GREATEST_COST
  pub sources : length net.demands < 2 ^ 32
  pub servers : length net.capacities < 2 ^ 16
  pub hosts : length net.limits < 2 ^ 16

-- each price of a server and of a host is within the limit of a text
pub record HasTextPrices (flow : PricedFlow) : Type 0 where
  pub servers : ArePrices flow.server_prices.items
  pub hosts : ArePrices flow.host_prices.items

-- the same flow meets the network with other prices, and they are
pub record IsPressedFlow (net : Transport) (flow now : PricedFlow) : Type 0 where
  pub flows : now.flows.items ≡ flow.flows.items
  pub met : IsMet net now
  pub low : HasTextPrices now

-- so it is of a flow that meets a network
abbrev pub IsTextOutcome : Outcome → Type 0
IsTextOutcome (Met flow) = HasTextPrices flow
IsTextOutcome (Short set) = ⊤
