-- Dual prices of a flow. They show that it is a cheapest one by complementary slackness: no reduced cost is negative,
-- it is 0 where something flows, and what is not full has no price (Network Flows, section 9.4).
use Rattle.std.specs.Prelude.{◌≡◌, ℕ, ◌+◌, ◌<◌, ◌≤◌, List, length, All, slice_index, Option, Some, None}
use Rattle.hsp_transport.specs.Network.{Network}
use Rattle.hsp_transport.specs.Flow.{load, host_load}

-- a weight of the server's host, 0 where it stands on none
abbrev pub at_host : Option ℕ → (ℕ → ℕ) → ℕ
at_host None w = 0
at_host (Some h) w = w h

-- what a unit at the server pays beside the arc's cost: the server's price and its host's
abbrev pub price_at : {A : Type 0} → Network A → List ℕ → List ℕ → ℕ → ℕ
price_at n p q j = slice_index p j + at_host (n.host_of j) (λ h. slice_index q h)

-- the sources' prices u, the servers' p and the hosts' q fit the flow
pub record HasPrices {A : Type 0} (n : Network A) (flow : A → ℕ) (u p q : List ℕ) : Type 0 where
  -- a source pays no more than an arc's cost and prices
  pub below : All (λ a. slice_index u (n.source a) ≤ n.cost a + price_at n p q (n.server a)) n.arcs
  -- and exactly that where it uses the arc
  pub used : All (λ a. 0 < flow a → slice_index u (n.source a) ≡ n.cost a + price_at n p q (n.server a)) n.arcs
  -- a server with room left is free
  pub idle : (j : ℕ) → j < length n.capacities → load n flow j < slice_index n.capacities j → slice_index p j ≡ 0
  -- and so is a host with room left
  pub idle_host : (h : ℕ) → h < length n.limits → host_load n flow h < slice_index n.limits h → slice_index q h ≡ 0
