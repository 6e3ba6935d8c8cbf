-- Room that is bought once and serves several losses. Sets of sources that are short after losses show how much is
-- needed (a cut for each loss, Network Flows, section 6.7).
use Rattle.std.specs.Prelude.{◌≡◌, ℕ, ◌+◌, ◌-◌, ◌*◌, ◌<◌, ◌≤◌, ◌&&◌, Bool, not, List, length, All, sum_by}
use Rattle.std.specs.Prelude.{slice_index, if◌then◌else◌}
use Rattle.hsp_transport.specs.Network.{Network, IsNetwork}
use Rattle.hsp_transport.specs.Changes.{with_numbers}
use Rattle.hsp_transport.specs.Plans.{Feasible, Plan}
use Rattle.hsp_transport.specs.Cut.{capacity_of, demand_of, reaches}
use Rattle.hsp_transport.specs.Sums.{sum_below}

-- A loss: the network that is left, and which servers are lost. A lost site has no arcs there. A lost server takes
-- nothing. A lost host is lost with its servers.
pub record Loss (A : Type 0) : Type 0 where
  pub left : Network A
  pub is_lost : ℕ → Bool

-- the room that is bought at each server
abbrev pub Purchase : Type 0
Purchase = ℕ → ℕ

-- what is there of it after the loss: nothing at a lost server
abbrev pub bought_after : {A : Type 0} → Loss A → Purchase → ℕ → ℕ
bought_after loss bought j = if loss.is_lost j then 0 else bought j

-- With the purchase there is a plan after the loss. No server takes more than its capacity and what was bought there.
pub record Serves {A : Type 0} (site : A → ℕ) (loss : Loss A) (bought : Purchase) : Type 0 where
  pub rooms : List ℕ
  pub many : length rooms ≡ length loss.left.capacities
  pub bounds : (j : ℕ) → j < length loss.left.capacities
      → slice_index rooms j ≤ slice_index loss.left.capacities j + bought_after loss bought j
  pub plan : Plan
  pub feasible : Feasible site (with_numbers loss.left loss.left.demands rooms loss.left.limits) plan

-- a set of sources, the loss after which it may be short, and the set's weight
pub record Lack (A : Type 0) : Type 0 where
  pub loss : Loss A
  pub set : ℕ → Bool
  pub weight : ℕ

-- what the set lacks after the loss, where nothing was bought
abbrev pub lacking : {A : Type 0} → Lack A → ℕ
lacking l = demand_of l.loss.left l.set - capacity_of l.loss.left l.set

-- what all sets lack, each as often as it weighs
abbrev pub weighed : {A : Type 0} → List (Lack A) → ℕ
weighed lacks = sum_by (λ l. l.weight * lacking l) lacks

-- whether room at the server may help the set
abbrev pub may_help : {A : Type 0} → Lack A → ℕ → Bool
may_help l j = reaches l.loss.left l.set j && not (l.loss.is_lost j)

-- the weight of all sets that it may help
abbrev pub weight_at : {A : Type 0} → List (Lack A) → ℕ → ℕ
weight_at lacks j = sum_by (λ l. if may_help l j then l.weight else 0) lacks

-- the loss leaves a network of so many servers, and the purchase serves it
pub record IsServed {A : Type 0} (site : A → ℕ) (servers : ℕ) (bought : Purchase) (loss : Loss A) : Type 0 where
  pub network : IsNetwork loss.left
  pub many : length loss.left.capacities ≡ servers
  pub serves : Serves site loss bought

-- Weights count in parts of one: `unit` parts are one. Let room at each server help sets of no more weight than one.
-- Then a purchase that serves the losses of all sets is at least what the sets lack.
abbrev pub SetsShowLeast : Type 0 → Type 0
SetsShowLeast A =
    (site : A → ℕ) (unit servers : ℕ) (lacks : List (Lack A)) (bought : Purchase)
    → All (λ l. IsServed site servers bought l.loss) lacks → ((j : ℕ) → j < servers → weight_at lacks j ≤ unit)
    → weighed lacks ≤ unit * sum_below servers bought
