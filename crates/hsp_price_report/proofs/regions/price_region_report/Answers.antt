use Rattle.std.proofs.Common.{[]}
use Rattle.hsp_text.proofs.Lists.{three_pieces}
use Rattle.hsp_price_report.proofs.regions.price_region_report.Goals as goal

pub push_regions-requires : goal.push_regions-requires
push_regions-requires c = let (at, rows, is) = c.requires in (at, c.args.plan.now, rows, is)

pub returns : goal.returns
returns c = λ at rows is.
    three_pieces [] _ _ _ _ _ _ (rw c.new-text.ensures.items at c.in_ok-extend_from_slice.ensures.items)
    (c.in_ok-push_regions.ensures at c.args.plan.now rows is) (c.in_ok-push_total.ensures at rows is)
