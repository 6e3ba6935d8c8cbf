use Rattle.std.proofs.Common.{◌∙◌, sym}
use Rattle.hsp_transport.specs.Lists.{flag_at}
use Rattle.hsp_price_plan.proofs.RowKeeping.{kept_by_leaving}
use Rattle.hsp_price_plan.proofs.keeping.keep_leaving.Goals as goal

pub returns-then-lead_into : goal.returns-then-lead_into
returns-then-lead_into c =
    kept_by_leaving (flag_at c.args.set.now) c.args.shape.now c.args.entries.now c.keep_outside.new.entries
    c.keep_outside.result c.requires.many (sym c.lead_into.ensures ∙ c.if-lead_into.true) c.keep_outside.ensures
