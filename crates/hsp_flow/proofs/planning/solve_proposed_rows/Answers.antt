use Rattle.hsp_flow.proofs.Limits.{small_is}
use Rattle.hsp_flow.proofs.planning.solve_proposed_rows.Goals as goal

pub solve-requires : goal.solve-requires
solve-requires c = rw c.row_network-network.ensures (small_is c.args.instance.now c.requires.within)
