-- Plans: a feasible flow of the transportation problem, and its cost (Network Flows, sections 1.2 and 9.1).
use Rattle.std.specs.Prelude.{ℕ}
use Rattle.hsp_check.specs.declared.arc.NetworkArc.{NetworkArc}
use Rattle.hsp_check.specs.Network.{Network, site_of, transport}
use Rattle.hsp_transport.specs.Flow as flows
use Rattle.hsp_transport.specs.Plans as plans
pub use Rattle.hsp_transport.specs.Lists.{is_on}
-- a table of whole numbers: how many queries of a row go to a site
pub use Rattle.hsp_transport.specs.Plans.{Plan}

-- what the plan gives an arc
abbrev pub planned : Plan → NetworkArc → ℕ
planned x a = x a.row a.site

-- what the row gets, over all sites
abbrev pub served : Network → Plan → ℕ → ℕ
served n x i = flows.sent (transport n) (planned x) i

-- what the server takes, over all rows whose server it is
abbrev pub load : Network → Plan → ℕ → ℕ
load n x j = flows.load (transport n) (planned x) j

-- numbers of the servers on a host, added up
abbrev pub on_host : Network → (ℕ → ℕ) → ℕ → ℕ
on_host n f h = flows.on_host (transport n) f h

-- what the servers on a host take together
abbrev pub host_load : Network → Plan → ℕ → ℕ
host_load n x h = flows.host_load (transport n) (planned x) h

-- what the plan costs
abbrev pub total : Network → Plan → ℕ
total n x = flows.total_cost (transport n) (planned x)

-- Nothing goes where it may not, every row gets what it asks for, and no server and no host takes more than it can.
abbrev pub Feasible : Network → Plan → Type 0
Feasible n x = plans.Feasible site_of (transport n) x

-- A best plan is feasible, and no feasible plan costs less.
abbrev pub Best : Network → Plan → Type 0
Best n x = plans.Best site_of (transport n) x
