use Rattle.std.proofs.Common.{arith}
use Rattle.hsp_instance.specs.Instance.{AreArcs}
use Rattle.hsp_instance.proofs.Lists.{all_at, count_next}
use Rattle.hsp_instance.proofs.instance.Instance.arc_count.Goals as goal

pub overflow_add-count : goal.overflow_add-count
overflow_add-count c =
    let row =
    all_at (AreArcs c.args.self.now.servers) c.args.self.now.arcs c.loop-row.row c.arcs.result.now
    c.rows-row-end.ensures.within.arcs c.arcs.ensures in
    omega (
      arith,
      c.loop-row.invariant.small,
      row.few,
      c.rows-row-end.ensures.within.rows.few,
      c.loop-row-test.true,
      c.loop-row.auto.row-end,
      c.rows-row-end.ensures.count,
    )

pub loop-row-preserved : goal.loop-row-preserved
loop-row-preserved c =
    let row =
    all_at (AreArcs c.args.self.now.servers) c.args.self.now.arcs c.loop-row.row c.arcs.result.now
    c.rows-row-end.ensures.within.arcs c.arcs.ensures in
    record {
      so_far =
          omega (
            arith,
            c.loop-row.invariant.so_far,
            count_next c.args.self.now.arcs c.loop-row.row c.arcs.result.now c.arcs.ensures,
          );
      small = omega (arith, c.loop-row.invariant.small, row.few);
    }
