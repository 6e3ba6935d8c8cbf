use Rattle.std.proofs.Common.{◌<◌, ◌++◌, length, map, arith}
use Rattle.hsp_check.specs.Instance.{arc_of}
use Rattle.hsp_flow.specs.Planning.{uses_of}
use Rattle.hsp_flow.proofs.Laying.{use_more, none_more}
use Rattle.hsp_flow.proofs.certify.push_uses.Goals as goal
use Rattle.hsp_flow.proofs.certify.push_uses.Goals.{then-count-ne0+in_ok-push, else-count-ne0}

pub loop-place-preserved : goal.loop-place-preserved
loop-place-preserved c =
    let inside : c.loop-place.place < length c.args.flows.now =
    omega (arith, c.loop-place-test.true, c.requires.many) in
    let all = c.args.uses.now.items ++ uses_of (map (arc_of c.args.row) c.args.arcs.now) c.args.flows.now in
    elim c.if-count-ne0.branch [
      | then-count-ne0+in_ok-push w ↦
          rw (w.uses-is, w.in_ok-push.ensures.items)
          (use_more c.args.row c.args.arcs.now c.args.flows.now c.loop-place.place c.loop-place-test.true inside
          c.loop-place.uses.items all c.loop-place.invariant w.if-count-ne0.true)
      | else-count-ne0 w ↦
          rw w.uses-is
          (none_more c.args.row c.args.arcs.now c.args.flows.now c.loop-place.place c.loop-place-test.true inside
          c.loop-place.uses.items all c.loop-place.invariant w.if-count-ne0.false)
    ]
