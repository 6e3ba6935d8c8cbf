use Rattle.std.proofs.Common.{◌∙◌, length, sym}
use Rattle.hsp_instance.specs.RowArcs.{IsWithin}
use Rattle.hsp_transport.specs.Lists.{flag_at}
use Rattle.hsp_price_plan.proofs.ArcEntries.{bare_at, no_site}
use Rattle.hsp_price_plan.proofs.KeptArcs.{into_all, into_from}
use Rattle.hsp_price_plan.proofs.keeping.lead_into.Goals as goal

pub leads_out-requires : goal.leads_out-requires
leads_out-requires c =
    let own =
    bare_at (IsWithin (length c.args.set.now)) c.args.shape.now c.args.entries.now c.loop-i.i no_site
    c.loop-i-test.true c.requires.many c.requires.within in
    own.server

pub returns-then-leads_out : goal.returns-then-leads_out
returns-then-leads_out c =
    let next =
    into_from (flag_at c.args.set.now) c.args.shape.now c.args.entries.now c.loop-i.i c.leads_out.result no_site
    c.loop-i-test.true c.requires.many c.leads_out.ensures in
    sym (sym c.loop-i.invariant ∙ rw c.if-leads_out.true at next)

pub loop-i-preserved : goal.loop-i-preserved
loop-i-preserved c =
    let next =
    into_from (flag_at c.args.set.now) c.args.shape.now c.args.entries.now c.loop-i.i c.leads_out.result no_site
    c.loop-i-test.true c.requires.many c.leads_out.ensures in
    sym (rw c.if-leads_out.false at next) ∙ c.loop-i.invariant

pub returns : goal.returns
returns c =
    sym (into_all (flag_at c.args.set.now) c.args.shape.now c.args.entries.now c.loop-i.i c.loop-i-test.false
    c.requires.many) ∙ c.loop-i.invariant
