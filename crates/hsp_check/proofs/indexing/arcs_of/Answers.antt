use Rattle.std.proofs.Common.{◌≡◌, length, vec_len}
use Rattle.hsp_instance.specs.Instance.{AreArcs}
use Rattle.hsp_instance.proofs.Lists.{all_at}
use Rattle.hsp_check.proofs.RowLists.{indexed_more}
use Rattle.hsp_check.proofs.indexing.arcs_of.Goals as goal

pub loop-row-preserved : goal.loop-row-preserved
loop-row-preserved c =
    let row =
    all_at (AreArcs c.args.instance.now.servers) c.args.instance.now.arcs c.loop-row.row c.arcs.result.now
    c.rows-row-end.ensures.within.arcs c.arcs.ensures in
    let many : vec_len c.push_arcs.new.arc_flows ≡ length c.push_arcs.new.arc_flows.items =
    c.push_arcs.new.arc_flows.ok.0 in
    rw (c.in_ok-end_at.ensures.end, c.len.ensures, many, c.in_ok-push_arcs.ensures)
    (indexed_more c.args.instance.now.arcs c.loop-row.row c.loop-row.arc_flows.items c.loop-row.runs c.arcs.result.now
    c.arcs.ensures row.ascending row.few c.loop-row.invariant)
