use Rattle.std.proofs.Common.{◌∙◌, length, ap}
use Rattle.std.proofs.lemmas.List.{length-map}
use Rattle.hsp_instance.specs.Instance.{Row}
use Rattle.hsp_network.specs.Network.{Transport}
use Rattle.hsp_flow.proofs.Limits.{few_nodes, small_is}
use Rattle.hsp_flow.proofs.planning.solve_rows.Goals as goal

pub minimum_cost_flow-requires : goal.minimum_cost_flow-requires
minimum_cost_flow-requires g c = record {
  small = rw c.row_network-network.ensures (small_is c.args.instance.now c.requires.within);
  nodes = λ n l. c.requires.nodes n
      (few_nodes c.args.instance.now _ _ _
      (ap (λ (n : Transport). length n.demands) c.row_network-network.ensures
      ∙ length-map c.args.instance.now.rows (λ (r : Row). r.count))
      (ap (λ (n : Transport). n.capacities) c.row_network-network.ensures)
      (ap (λ (n : Transport). n.limits) c.row_network-network.ensures) n l);
}
