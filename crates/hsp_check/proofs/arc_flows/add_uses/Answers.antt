use Rattle.std.proofs.Common.{length-set}
use Rattle.hsp_check.proofs.UseFlows.{ArcFlows, flow_more, each_more}
use Rattle.hsp_check.proofs.arc_flows.add_uses.Goals as goal

pub loop-index-preserved : goal.loop-index-preserved
loop-index-preserved c =
    let so-far = c.loop-index.invariant in
    let before : ArcFlows c.args.arc_flows.now c.loop-index.arc_flows c.args.uses.now c.loop-index.index =
    record { arcs = so-far.arcs; flows = so-far.flows; small = so-far.small; each = so-far.each } in
    let found = c.in-Some.ensures.found in
    let low = c.requires.counts c.loop-index.index (record { row = 0; site = 0; count = 0 }) c.loop-index-test.true in
    let more =
    flow_more c.args.arc_flows.now c.loop-index.arc_flows c.args.runs.now c.requires.index.0 c.args.uses.now
    c.loop-index.index c.in-Some.place c.requires.index.1 c.loop-index.auto.arc_flows
    c.loop-index-test.true before found.0 found.1 found.2 low in
    let each =
    each_more c.args.arc_flows.now c.loop-index.arc_flows c.args.runs.now c.requires.index.0 c.args.uses.now
    c.loop-index.index c.in-Some.place c.requires.index.1 c.loop-index.auto.arc_flows
    c.loop-index-test.true before found.0 found.1 found.2 in
    record {
      arcs = λ k m. (more k (rw length-set at m)).0;
      flows = λ k m. (more k (rw length-set at m)).1;
      small = λ k m. (more k (rw length-set at m)).2;
      each = each;
    }
