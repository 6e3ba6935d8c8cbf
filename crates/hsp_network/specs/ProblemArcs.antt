-- The arcs and the cost bounds of a network.
use Rattle.std.specs.Prelude.{◌≡◌, ℕ, ◌≤◌}
use Rattle.hsp_network.specs.Answer.{BoundsCosts}
use Rattle.hsp_network.specs.Layout.{ArcsOf, first_of}
use Rattle.hsp_network.specs.declared.arcs.Arcs.{Arcs}
use Rattle.hsp_network.specs.declared.arcs.ArcLists.{ArcLists}
use Rattle.hsp_network.specs.Problem.{problem_of}
use Rattle.hsp_network.specs.declared.network.Network.{Network}

-- no bound of the network's costs is below `greatest_cost`
abbrev pub IsLeastBound : Network → ℕ → Type 0
IsLeastBound network least =
    (greatest_cost : ℕ) → BoundsCosts (problem_of network) greatest_cost → least ≤ greatest_cost

-- the arcs are the network's
pub record IsArcsOf (network : Network) (n : Arcs) : Type 0 where
  pub lists : ArcsOf (problem_of network) n.tails.now n.heads.now n.costs.now n.capacities.now n.supplies.now
  pub first : n.first ≡ first_of (problem_of network)
  pub least : IsLeastBound network n.greatest_cost

-- the lists are those of the network's arcs
abbrev pub AreArcsOf : Network → ArcLists → Type 0
AreArcsOf network l = ArcsOf (problem_of network) l.tails.now l.heads.now l.costs.now l.capacities.now l.supplies.now
