use Rattle.std.proofs.Common.{◌≡◌, ◌∙◌, length, ap}
use Rattle.hsp_check.proofs.UsesWritten.{written, arc_flows_made, all_tested, one_lost}
use Rattle.hsp_check.proofs.arc_flows.flows_by_uses.Goals as goal

pub returns-then-add_uses-clause-arc_flows : goal.returns-then-add_uses-clause-arc_flows
returns-then-add_uses-clause-arc_flows c =
    let first = c.args.arcs.arc_flows in
    let many : length c.add_uses.new.arc_flows ≡ length first.items =
    c.add_uses.auto.arc_flows ∙ ap length c.deref_mut.ensures.value in
    rw (written first.len c.add_uses.new.arc_flows first.items many first.ok.0)
    (arc_flows_made first.items c.add_uses.new.arc_flows c.args.uses.now many
    (rw c.deref_mut.ensures.value at c.add_uses.ensures.arcs)
    (rw c.deref_mut.ensures.value at (c.add_uses.ensures.flows c.if-add_uses.true)))

pub returns-then-add_uses-clause-each : goal.returns-then-add_uses-clause-each
returns-then-add_uses-clause-each c =
    all_tested c.args.arcs.arc_flows.items c.args.uses.now
    (rw c.deref_mut.ensures.value at (c.add_uses.ensures.each c.if-add_uses.true))

pub returns-else-add_uses-clause-lost : goal.returns-else-add_uses-clause-lost
returns-else-add_uses-clause-lost c =
    let lost = rw c.deref_mut.ensures.value at (c.add_uses.ensures.lost c.if-add_uses.false) in
    one_lost c.args.arcs.arc_flows.items c.args.uses.now lost.0 lost.1 lost.2
