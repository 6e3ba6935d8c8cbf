use Rattle.std.proofs.Common.{◌<◌, ◌∙◌, arith, length, sym, take_all}
use Rattle.std.proofs.lemmas.List.{take_more}
use Rattle.hsp_price_plan.specs.Entries.{bare_arcs}
use Rattle.hsp_price_plan.proofs.ArcEntries.{get_or-bare_arcs, length-bare_arcs, no_arc, no_site}
use Rattle.hsp_price_plan.proofs.entries.fill_arcs.Goals as goal

pub loop-i-preserved : goal.loop-i-preserved
loop-i-preserved c =
    let shape = c.args.shape.now in
    let entries = c.args.entries.now in
    let many = length-bare_arcs shape entries c.requires in
    let inside : c.loop-i.i < length (bare_arcs shape entries) = omega (arith, many, c.loop-i-test.true) in
    let at = get_or-bare_arcs shape entries c.loop-i.i no_arc no_site c.loop-i-test.true c.requires in
    let more = take_more (bare_arcs shape entries) c.loop-i.i no_arc inside in
    rw (c.in_ok-push.ensures.items, c.arc_of.ensures, c.loop-i.invariant) (sym (rw at at more))

pub returns : goal.returns
returns c =
    let many = length-bare_arcs c.args.shape.now c.args.entries.now c.requires in
    c.loop-i.invariant
    ∙ take_all c.loop-i.i (bare_arcs c.args.shape.now c.args.entries.now) (omega (arith, many, c.loop-i-test.false))
