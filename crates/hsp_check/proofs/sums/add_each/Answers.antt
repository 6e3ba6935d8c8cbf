use Rattle.std.proofs.Common.{◌<◌, ◌≤◌, ◌^◌, length, length-set, arith}
use Rattle.hsp_check.specs.Index.{no_arc}
use Rattle.hsp_check.proofs.Adding.{end_more, bound_more}
use Rattle.hsp_check.proofs.sums.add_each.Goals as goal

pub overflow_add-sums : goal.overflow_add-sums
overflow_add-sums c =
    let end = c.requires.ends c.loop-place.place no_arc c.loop-place-test.true in
    let inside : c.end_of-end.result < length c.loop-place.sums =
    omega (arith, c.end_of-end.ensures, end, c.loop-place.auto.sums) in
    let low = c.loop-place.invariant.small c.end_of-end.result inside in
    omega (arith, low, c.flow_of.ensures.fits, c.requires.few, c.loop-place-test.true)

pub loop-place-preserved : goal.loop-place-preserved
loop-place-preserved c =
    let end = c.requires.ends c.loop-place.place no_arc c.loop-place-test.true in
    let inside : c.end_of-end.result < length c.loop-place.sums =
    omega (arith, c.end_of-end.ensures, end, c.loop-place.auto.sums) in
    record {
      sums = λ v l.
          let there : v < length c.loop-place.sums = rw length-set at l in
          end_more c.args.end c.args.arc_flows.now c.loop-place.sums c.loop-place.place c.end_of-end.result
          c.flow_of.result v no_arc c.loop-place-test.true inside
          c.end_of-end.ensures c.flow_of.ensures.flow (c.loop-place.invariant.sums v there);
      small = λ v l.
          let there : v < length c.loop-place.sums = rw length-set at l in
          let most : c.flow_of.result ≤ 2 ^ 64 = omega (arith, c.flow_of.ensures.fits) in
          let more =
          bound_more c.loop-place.sums c.end_of-end.result v c.flow_of.result _ (2 ^ 64) inside most
          (c.loop-place.invariant.small v there) in
          omega (arith, more);
    }
