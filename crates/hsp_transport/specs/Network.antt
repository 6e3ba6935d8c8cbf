-- A transportation network with hosts: sources send what they demand over arcs to servers, a server takes no more than
-- its capacity, and the servers on one host together no more than its limit (Network Flows, sections 1.2 and 9.4).
use Rattle.std.specs.Prelude.{◌≡◌, ℕ, ◌<◌, List, length, All, Option, Some}

-- An arc may be anything that has a source, a server and a cost.
pub record Network (A : Type 0) : Type 0 where
  -- what each source demands
  pub demands : List ℕ
  -- what each server can take
  pub capacities : List ℕ
  -- what the servers on each host can take together
  pub limits : List ℕ
  -- the host that a server stands on, if it stands on one
  pub host_of : ℕ → Option ℕ
  pub arcs : List A
  -- the source that an arc leaves, the server that it enters, and what a unit on it costs
  pub source : A → ℕ
  pub server : A → ℕ
  pub cost : A → ℕ

-- each arc's ends, and each server's host, are there
pub record IsNetwork {A : Type 0} (n : Network A) : Type 0 where
  pub sources : All (λ a. n.source a < length n.demands) n.arcs
  pub servers : All (λ a. n.server a < length n.capacities) n.arcs
  pub hosts : (j h : ℕ) → j < length n.capacities → n.host_of j ≡ Some h → h < length n.limits
