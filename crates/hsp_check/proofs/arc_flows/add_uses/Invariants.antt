use Rattle.std.proofs.Common.{◌≡◌, ℕ, ◌*◌, ◌<◌, ◌≤◌, length, take}
use Rattle.hsp_check.specs.Index.{HasArc, arc_at, flow_at, use_at}
use Rattle.hsp_check.specs.Uses.{table}
use Rattle.hsp_check.proofs.arc_flows.add_uses.Given as goal

abbrev pub invariant-loop-index : goal.invariant-loop-index
invariant-loop-index l = record {
  arcs : (k : ℕ) → k < length l.arc_flows → arc_at l.arc_flows k ≡ arc_at l.initial.arc_flows k;
  flows : (k : ℕ) → k < length l.arc_flows
      → flow_at l.arc_flows k
      ≡ table (take l.index l.uses) (arc_at l.initial.arc_flows k).row (arc_at l.initial.arc_flows k).site;
  small : (k : ℕ) → k < length l.arc_flows → flow_at l.arc_flows k ≤ l.index * 1000000;
  each : (i : ℕ) → i < l.index → HasArc l.initial.arc_flows (use_at l.uses i);
}
