use Rattle.hsp_dispatch.proofs.Standings.{sum_fits}
use Rattle.hsp_dispatch.proofs.row_cells.RowCells.all.Goals as goal

pub sum_in-requires-clause-fits : goal.sum_in-requires-clause-fits
sum_in-requires-clause-fits c =
    rw c.deref.ensures.value
    (sum_fits c.args.front.fronts c.args.front.number c.self.inside.cells.items c.requires c.self.invariant.1
    c.self.invariant.0)
