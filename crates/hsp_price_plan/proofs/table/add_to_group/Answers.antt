-- The group with the number asks for more, and the others stay.
use Rattle.std.proofs.Common.{◌∙◌, ap, set}
use Rattle.hsp_price_plan.specs.Grouping.{no_group, with_count}
use Rattle.hsp_price_plan.proofs.Finding.{default_same}
use Rattle.hsp_price_plan.proofs.table.add_to_group.Goals as goal

pub returns : goal.returns
returns c =
    let groups = c.args.groups.now in
    let number = c.args.number in
    ap (set groups number)
    (c.add.ensures
    ∙ ap (with_count c.args.count)
    (default_same groups number c.index-groups-number.result no_group c.requires.number))
