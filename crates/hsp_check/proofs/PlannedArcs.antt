-- The arcs with the flows of a plan are those of the instance, within its limits.
use Rattle.std.proofs.Common.{◌≡◌, ◌<◌, ◌≤◌, ◌^◌, ◌∙◌, List, length, map, All, ap, sym, arith}
use Rattle.std.proofs.lemmas.List.{length-map}
use Rattle.hsp_instance.specs.Instance.{Instance, Row}
use Rattle.hsp_check.specs.declared.arc.NetworkArc.{NetworkArc}
use Rattle.hsp_check.specs.declared.sums.ArcFlow.{ArcFlow}
use Rattle.hsp_check.specs.Instance.{network_of}
use Rattle.hsp_check.specs.ArcFlows.{AreArcFlows}
use Rattle.hsp_check.specs.Network.{IsNetwork}
use Rattle.hsp_check.specs.Plan.{Plan}
use Rattle.hsp_check.specs.Planned.{ArePlanned}
use Rattle.hsp_check.proofs.FlowSums.{all_of_map}

-- arcs with their flows are those of the instance and of the plan
pub are_planned : (it : Instance) (x : Plan) (bare arc_flows : List ArcFlow) → IsNetwork (network_of it)
    → All (λ a. a.cost ≤ 1000000) (network_of it).arcs → length bare < 2 ^ 32 →
    map (λ l. l.arc) bare ≡ (network_of it).arcs → AreArcFlows (network_of it).arcs x arc_flows
    → ArePlanned it x arc_flows
are_planned it x bare arc_flows is cheap few network are_arc_flows =
    let many =
    sym (length-map arc_flows (λ (l : ArcFlow). l.arc)) ∙ ap length (are_arc_flows.arcs_are ∙ sym network)
    ∙ length-map bare (λ (l : ArcFlow). l.arc) in
    record {
      are_arc_flows = are_arc_flows;
      rows =
          all_of_map (λ (l : ArcFlow). l.arc) (λ (a : NetworkArc). a.row < length it.rows) arc_flows
          (rw are_arc_flows.arcs_are (rw (length-map it.rows (λ (r : Row). r.count)) at is.sources));
      cheap =
          all_of_map (λ (l : ArcFlow). l.arc) (λ (a : NetworkArc). a.cost ≤ 1000000) arc_flows
          (rw are_arc_flows.arcs_are cheap);
      few = omega arith;
    }
