use Rattle.std.proofs.Common.{[]}
use Rattle.hsp_check.specs.Uses.{table}
use Rattle.hsp_report.proofs.regions.regions_text.Goals as goal
use Rattle.hsp_text.proofs.Lists.{three_pieces}

pub returns : goal.returns
returns c =
    let x = table c.args.plan.now.uses in
    let lines =
    rw (c.deref-2.ensures.value, c.in_ok-regions.ensures) at
    (c.in_ok-push_regions.ensures x (rw c.deref.ensures.value c.in_ok-arc_flows.ensures)) in
    three_pieces [] _ _ _ _ _ _ (rw c.new-text.ensures.items at c.in_ok-extend_from_slice.ensures.items) lines
    c.in_ok-push_total.ensures
