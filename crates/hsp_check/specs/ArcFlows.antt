-- Arcs with what a plan gives them.
use Rattle.std.specs.Prelude.{◌≡◌, ℕ, List, map, All}
use Rattle.hsp_check.specs.declared.arc.NetworkArc.{NetworkArc}
use Rattle.hsp_check.specs.declared.sums.ArcFlow.{ArcFlow}
use Rattle.hsp_check.specs.declared.sums.End.{End}
use Rattle.hsp_check.specs.declared.sums.End.TheVariants as end
use Rattle.hsp_check.specs.Plan.{Plan, planned}
pub use Rattle.hsp_transport.specs.Lists.{flag_at, host_in}

-- the row of an arc, or its server
abbrev pub end_of : End → NetworkArc → ℕ
end_of end.Row a = a.row
end_of end.Server a = a.server

-- only the arcs
abbrev pub arcs_in : List ArcFlow → List NetworkArc
arcs_in arc_flows = map (λ l. l.arc) arc_flows

-- each arc has what the plan gives it
abbrev pub AreFlowsOf : Plan → List ArcFlow → Type 0
AreFlowsOf x arc_flows = All (λ l. l.flow ≡ planned x l.arc) arc_flows

-- the arcs, each with what the plan gives it
pub record AreArcFlows (arcs : List NetworkArc) (x : Plan) (arc_flows : List ArcFlow) : Type 0 where
  pub arcs_are : arcs_in arc_flows ≡ arcs
  pub flows_are : AreFlowsOf x arc_flows
