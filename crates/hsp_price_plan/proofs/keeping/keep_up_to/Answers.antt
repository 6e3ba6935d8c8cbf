use Rattle.std.proofs.Common.{length, arith}
use Rattle.std.specs.Prelude.{nat_le}
use Rattle.hsp_instance.specs.RowArcs.{IsWithin}
use Rattle.hsp_price_check.specs.Extras.{pay_by}
use Rattle.hsp_price_plan.proofs.ArcEntries.{no_site}
use Rattle.hsp_price_plan.proofs.KeptArcs.{bare_now, marked_all, marked_more}
use Rattle.hsp_price_plan.proofs.keeping.keep_up_to.Goals as goal

pub pay_over-requires-clause-within : goal.pay_over-requires-clause-within
pay_over-requires-clause-within c =
    bare_now (IsWithin (length c.args.extras.now)) (λ arc. nat_le (pay_by c.args.extras.now arc) c.args.most)
    c.args.shape.now c.args.entries.now c.loop-i.entries c.loop-i.i c.loop-i.kept no_site c.loop-i-test.true
    c.requires.many c.loop-i.auto.entries c.loop-i.invariant c.requires.within

pub loop-i-preserved : goal.loop-i-preserved
loop-i-preserved c =
    marked_more (λ arc. nat_le (pay_by c.args.extras.now arc) c.args.most) c.args.shape.now c.args.entries.now
    c.loop-i.entries c.loop-i.i c.loop-i.kept c.keep_entry-kept.new.entry c.keep_entry-kept.result no_site
    c.loop-i-test.true (omega (arith, c.requires.many, c.loop-i.auto.entries)) c.loop-i.auto.entries
    (rw c.pay_over.ensures at c.keep_entry-kept.ensures) c.loop-i.invariant

pub returns : goal.returns
returns c =
    marked_all (λ arc. nat_le (pay_by c.args.extras.now arc) c.args.most) c.args.shape.now c.args.entries.now
    c.loop-i.entries c.loop-i.i c.loop-i.kept (omega (arith, c.loop-i-test.false, c.loop-i.auto.i-end))
    c.requires.many c.loop-i.invariant
