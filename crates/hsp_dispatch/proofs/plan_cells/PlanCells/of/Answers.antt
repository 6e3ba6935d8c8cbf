use Rattle.std.proofs.Common.{◌≡◌, Some, arith, length, refl, take}
use Rattle.std.specs.List.{slice_get}
use Rattle.std.proofs.lemmas.Option.{slice_get_read}
use Rattle.hsp_text.proofs.Lists.{zip_push}
use Rattle.hsp_dispatch.specs.Standings.{Names}
use Rattle.hsp_dispatch.proofs.Lists.{take_next}
use Rattle.hsp_dispatch.proofs.plan_cells.PlanCells.of.Goals as goal

pub loop-row-preserved : goal.loop-row-preserved
loop-row-preserved c =
    let rows = c.deref-row-items.result.now in
    let k = c.loop-row.row-index in
    let at : slice_get rows k ≡ Some c.row-item.result =
    slice_get_read rows (length rows) k c.row-item.result refl (omega arith) c.row-item.is in
    rw (c.in_ok-push.ensures.items, take_next rows k c.row-item.result at)
    (zip_push Names c.loop-row.soles.items (take k rows) c.sole.result c.row-item.result c.loop-row.invariant
    c.sole.ensures)
