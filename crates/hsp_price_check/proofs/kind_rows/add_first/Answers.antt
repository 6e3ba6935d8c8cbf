use Rattle.std.proofs.Common.{◌∙◌, sym}
use Rattle.hsp_price_check.proofs.FirstOfKinds.{is_added_as}
use Rattle.hsp_price_check.proofs.kind_rows.add_first.Goals as goal

pub returns : goal.returns
returns c =
    is_added_as c.args.firsts.now.entries c.insert.new.self.entries c.in_ok-new.field-0 c.args.number
    c.args.key.region.now c.args.key.places.now c.in_ok-new.ensures c.in_ok-insert.ensures.entries
    (sym c.contains_key.ensures ∙ c.if-contains_key.false)
