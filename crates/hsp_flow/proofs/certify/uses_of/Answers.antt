use Rattle.std.proofs.Common.{◌≡◌, ◌++◌, length, sym, arith}
use Rattle.std.proofs.lemmas.List.{take-append-drop}
use Rattle.hsp_check.specs.Instance.{arcs_from}
use Rattle.hsp_flow.specs.Planning.{uses_of}
use Rattle.hsp_flow.proofs.Laying.{row_many, row_more, rows_done}
use Rattle.hsp_flow.proofs.certify.uses_of.Goals as goal

pub split_at-requires : goal.split_at-requires
split_at-requires c =
    omega (
      arith,
      c.loop-row.invariant.many,
      row_many c.args.instance.now.arcs c.loop-row.row c.arcs-arcs.result.now c.arcs-arcs.ensures,
    )

pub loop-row-preserved : goal.loop-row-preserved
loop-row-preserved c =
    let parts : c.loop-row.rest.now ≡ c.split_at.result.0.now ++ c.split_at.result.1.now =
    rw (c.split_at.ensures.front, c.split_at.ensures.back)
    (sym (take-append-drop (length c.arcs-arcs.result.now) c.loop-row.rest.now)) in
    record {
      many =
          omega (
            arith,
            c.loop-row.invariant.many,
            c.split_at.ensures.back_len,
            row_many c.args.instance.now.arcs c.loop-row.row c.arcs-arcs.result.now c.arcs-arcs.ensures,
          );
      so_far = rw (c.in_ok-push_uses.ensures)
          (row_more c.args.instance.now.arcs c.loop-row.row c.arcs-arcs.result.now c.arcs-arcs.ensures
          c.loop-row.uses.items (uses_of (arcs_from 0 c.args.instance.now.arcs) c.args.flows.now)
          c.loop-row.rest.now c.split_at.result.0.now c.split_at.result.1.now parts c.split_at.ensures.front_len
          c.loop-row.invariant.so_far);
    }

pub returns : goal.returns
returns c =
    rows_done c.args.instance.now.arcs c.loop-row.row
    (omega (
      arith,
      c.loop-row-test.false,
      c.loop-row.auto.row-end,
      c.rows-row-end.ensures.count,
      c.rows-row-end.ensures.within.one_list_a_row,
    ))
    c.loop-row.uses.items (uses_of (arcs_from 0 c.args.instance.now.arcs) c.args.flows.now) c.loop-row.rest.now
    c.loop-row.invariant.so_far
