-- The transportation problem of rows and sites (Network Flows, section 1.2): rows ask for queries, an arc leads from a
-- row to its server at a site, servers take no more than their capacities, and the servers on one host together no more
-- than its limit.
use Rattle.std.specs.Prelude.{ℕ, ◌≤◌, Bool, List, All, Option}
use Rattle.hsp_text.specs.declared.limits.TheConstants.{GREATEST_COST}
use Rattle.hsp_check.specs.declared.arc.NetworkArc.{NetworkArc}
use Rattle.hsp_transport.specs.Network as theory
use Rattle.hsp_transport.specs.Plans as plans

pub record Network : Type 0 where
  -- what each row asks for
  pub demands : List ℕ
  -- what each server can take
  pub capacities : List ℕ
  -- what the servers on each host can take together
  pub limits : List ℕ
  -- the host that a server stands on, if it stands on one
  pub host_of : ℕ → Option ℕ
  pub arcs : List NetworkArc

-- the same in the terms of the theory: its sources are the rows
abbrev pub transport : Network → theory.Network NetworkArc
transport n = record {
  demands = n.demands;
  capacities = n.capacities;
  limits = n.limits;
  host_of = n.host_of;
  arcs = n.arcs;
  source = λ a. a.row;
  server = λ a. a.server;
  cost = λ a. a.cost;
}

-- each arc's row and server, and each server's host, are there
abbrev pub IsNetwork : Network → Type 0
IsNetwork n = theory.IsNetwork (transport n)

-- the site that an arc leads to
abbrev pub site_of : NetworkArc → ℕ
site_of a = a.site

-- whether the row may use the site
abbrev pub is_allowed : Network → ℕ → ℕ → Bool
is_allowed n i s = plans.is_allowed site_of (transport n) i s

-- no arc costs more than the limit
abbrev pub AreCheap : Network → Type 0
AreCheap n = All (λ a. a.cost ≤ GREATEST_COST) n.arcs
