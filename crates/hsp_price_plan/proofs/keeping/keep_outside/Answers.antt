use Rattle.std.proofs.Common.{length, arith}
use Rattle.std.specs.Prelude.{not}
use Rattle.hsp_instance.specs.RowArcs.{IsWithin}
use Rattle.hsp_transport.specs.Lists.{flag_at}
use Rattle.hsp_price_plan.proofs.ArcEntries.{no_site}
use Rattle.hsp_price_plan.proofs.KeptArcs.{bare_now, marked_all, marked_more}
use Rattle.hsp_price_plan.proofs.keeping.keep_outside.Goals as goal

pub bounds-set-from : goal.bounds-set-from
bounds-set-from c =
    let own =
    bare_now (IsWithin (length c.args.set.now)) (λ arc. not (flag_at c.args.set.now arc.server))
    c.args.shape.now c.args.entries.now c.loop-i.entries c.loop-i.i c.loop-i.kept no_site c.loop-i-test.true
    c.requires.many c.loop-i.auto.entries c.loop-i.invariant c.requires.within in
    rw c.from.ensures own.server

pub loop-i-preserved : goal.loop-i-preserved
loop-i-preserved c =
    marked_more (λ arc. not (flag_at c.args.set.now arc.server)) c.args.shape.now c.args.entries.now
    c.loop-i.entries c.loop-i.i c.loop-i.kept c.keep_entry-kept.new.entry c.keep_entry-kept.result no_site
    c.loop-i-test.true (omega (arith, c.requires.many, c.loop-i.auto.entries)) c.loop-i.auto.entries
    (rw c.from.ensures at c.keep_entry-kept.ensures) c.loop-i.invariant

pub returns : goal.returns
returns c =
    marked_all (λ arc. not (flag_at c.args.set.now arc.server)) c.args.shape.now c.args.entries.now
    c.loop-i.entries c.loop-i.i c.loop-i.kept (omega (arith, c.loop-i-test.false, c.loop-i.auto.i-end))
    c.requires.many c.loop-i.invariant
