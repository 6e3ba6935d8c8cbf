use Rattle.std.proofs.Common.{◌∙◌, sym}
use Rattle.hsp_price_dispatch.proofs.KnownRegions.{here_or_later, none_here}
use Rattle.hsp_price_dispatch.proofs.regions.has_cost.Goals as goal

pub returns-then-is_some : goal.returns-then-is_some
returns-then-is_some c =
    sym (here_or_later c.args.costs.now c.args.region.now c.args.sites.now c.loop-number.number c.name.result.now
    c.find.result c.name.ensures c.find.ensures c.loop-number.invariant (sym c.is_some.ensures ∙ c.if-is_some.true))

pub loop-number-preserved : goal.loop-number-preserved
loop-number-preserved c =
    none_here c.args.costs.now c.args.region.now c.args.sites.now c.loop-number.number c.name.result.now
    c.find.result c.name.ensures c.find.ensures c.loop-number.invariant (sym c.is_some.ensures ∙ c.if-is_some.false)
