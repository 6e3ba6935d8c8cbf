-- Plans of a network whose arcs lead to sites: how much each source sends to each site (Network Flows, sections 1.2 and
-- 9.1). Each arc has a site, where its server stands.
use Rattle.std.specs.Prelude.{◌≡◌, ℕ, ◌<◌, ◌≤◌, ◌==◌, ◌&&◌, Bool, false, length, slice_index}
use Rattle.std.specs.List.{list_any}
use Rattle.hsp_transport.specs.Network.{Network}
use Rattle.hsp_transport.specs.Flow.{IsFeasible, host_load, load, sent, total_cost}

-- a table of whole numbers: what a source sends to a site
abbrev pub Plan : Type 0
Plan = ℕ → ℕ → ℕ

-- what the plan gives an arc
abbrev pub planned : {A : Type 0} → (A → ℕ) → Network A → Plan → A → ℕ
planned site n x a = x (n.source a) (site a)

-- whether the source may use the site
abbrev pub is_allowed : {A : Type 0} → (A → ℕ) → Network A → ℕ → ℕ → Bool
is_allowed site n i s = list_any (λ a. n.source a == i && site a == s) n.arcs

-- Nothing goes where it may not, every source sends what it demands, and no server and no host takes more than it can.
pub record Feasible {A : Type 0} (site : A → ℕ) (n : Network A) (x : Plan) : Type 0 where
  pub allowed : (i s : ℕ) → is_allowed site n i s ≡ false → x i s ≡ 0
  pub flow : IsFeasible n (planned site n x)

-- A best plan is feasible, and no feasible plan costs less.
pub record Best {A : Type 0} (site : A → ℕ) (n : Network A) (x : Plan) : Type 0 where
  pub feasible : Feasible site n x
  pub least : (y : Plan) → Feasible site n y → total_cost n (planned site n x) ≤ total_cost n (planned site n y)

-- Each source sends at least what it demands, and everything else is as in a feasible plan.
pub record Serves {A : Type 0} (site : A → ℕ) (n : Network A) (x : Plan) : Type 0 where
  pub allowed : (i s : ℕ) → is_allowed site n i s ≡ false → x i s ≡ 0
  pub met : (i : ℕ) → i < length n.demands → slice_index n.demands i ≤ sent n (planned site n x) i
  pub within : (j : ℕ) → j < length n.capacities → load n (planned site n x) j ≤ slice_index n.capacities j
  pub hosted : (h : ℕ) → h < length n.limits → host_load n (planned site n x) h ≤ slice_index n.limits h
