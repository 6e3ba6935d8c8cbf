-- Portions of the sources of a network. A portion is a part of what a source demands: what the old plan sends to one
-- site, its home, or what is new. A unit costs the portion so many times what it costs the source. Away from home it
-- costs one more. So a plan of portions costs, so many times, what a plan of the sources costs, and one for each unit
-- that moves.
use Rattle.std.specs.Prelude.{◌≡◌, ℕ, ◌+◌, ◌*◌, ◌<◌, ◌==◌, Bool, false, not, length, map, All, slice_index}
use Rattle.std.specs.Prelude.{Option, Some, None, if◌then◌else◌}
use Rattle.hsp_transport.specs.Network.{Network, IsNetwork}
use Rattle.hsp_transport.specs.Plans.{Plan}
use Rattle.hsp_transport.specs.Kinds.{HasOneArcASite, Link, links_of, pooled, together}
use Rattle.hsp_transport.specs.Sums.{sum_below}
use Rattle.hsp_scenarios.specs.Moves.{Today}

-- A network whose sources are portions. Each is a part of a source, and has a home or is new. A unit of cost weighs
-- as much as so many units away from home.
pub record Portions (A : Type 0) : Type 0 where
  pub network : Network A
  pub source_of : ℕ → ℕ
  pub home_of : ℕ → Option ℕ
  pub weight : ℕ

-- whether the site is the home
abbrev pub is_home : Option ℕ → ℕ → Bool
is_home None s = false
is_home (Some h) s = s == h

-- whether the home is elsewhere
abbrev pub is_away : Option ℕ → ℕ → Bool
is_away None s = false
is_away (Some h) s = not (s == h)

-- a link of a source, with what it costs a portion
abbrev pub priced : ℕ → Option ℕ → Link → Link
priced weight home l =
    record { site = l.site; server = l.server; cost = weight * l.cost + (if is_away home l.site then 1 else 0) }

-- what would go where, were all portions at home
abbrev pub at_home : {A : Type 0} → Portions A → Plan
at_home p k s = if is_home (p.home_of k) s then slice_index p.network.demands k else 0

-- what the portions of each source send together
abbrev pub joined : {A : Type 0} → Portions A → Plan → Plan
joined p y = pooled p.network p.source_of y

-- what a plan of portions sends away from home
abbrev pub sent_away : {A : Type 0} → Today A → Portions A → Plan → ℕ
sent_away t p y =
    sum_below (length p.network.demands)
    (λ k. sum_below t.sites (λ s. if is_away (p.home_of k) s then y k s else 0))

-- These are the portions of today's network.
pub record ArePortions {A : Type 0} (t : Today A) (p : Portions A) : Type 0 where
  pub network : IsNetwork t.network
  pub sites : All (λ a. t.site a < t.sites) t.network.arcs
  pub one : HasOneArcASite t.site t.network
  pub portions : IsNetwork p.network
  -- each portion is of a source, and each source has one
  pub inside : (k : ℕ) → k < length p.network.demands → p.source_of k < length t.network.demands
  pub seen : (i : ℕ) → i < length t.network.demands
      → (k : ℕ) × (k < length p.network.demands) × (p.source_of k ≡ i)
  -- a portion may go where its source may
  pub links : (k : ℕ) → k < length p.network.demands
      → links_of t.site p.network k ≡ map (priced p.weight (p.home_of k)) (links_of t.site t.network (p.source_of k))
  -- the portions of a source are all that it demands
  pub demands : (i : ℕ) → i < length t.network.demands
      → slice_index t.network.demands i ≡ together p.network p.source_of (λ k. slice_index p.network.demands k) i
  -- those with a home at a site are what the old plan sends there
  pub kept : (i s : ℕ) → i < length t.network.demands → s < t.sites → t.old i s ≡ joined p (at_home p) i s
  pub homes : (k h : ℕ) → p.home_of k ≡ Some h → h < t.sites
  -- servers and hosts are the same
  pub capacities : p.network.capacities ≡ t.network.capacities
  pub limits : p.network.limits ≡ t.network.limits
  pub host_of : (j : ℕ) → p.network.host_of j ≡ t.network.host_of j
