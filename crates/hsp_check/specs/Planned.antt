-- The arcs of an instance with what a plan gives them.
use Rattle.std.specs.Prelude.{◌<◌, ◌≤◌, ◌^◌, List, length, All}
use Rattle.hsp_text.specs.declared.limits.TheConstants.{GREATEST_COST}
use Rattle.hsp_instance.specs.Instance.{Instance}
use Rattle.hsp_check.specs.declared.sums.ArcFlow.{ArcFlow}
use Rattle.hsp_check.specs.Instance.{network_of}
use Rattle.hsp_check.specs.ArcFlows.{AreArcFlows}
use Rattle.hsp_check.specs.Plan.{Plan}

-- each arc with what the plan gives it; the rows are there, and no arc costs more than the limit
pub record ArePlanned (it : Instance) (x : Plan) (arc_flows : List ArcFlow) : Type 0 where
  pub are_arc_flows : AreArcFlows (network_of it).arcs x arc_flows
  pub rows : All (λ l. l.arc.row < length it.rows) arc_flows
  pub cheap : All (λ l. l.arc.cost ≤ GREATEST_COST) arc_flows
  pub few : length arc_flows < 2 ^ 32
