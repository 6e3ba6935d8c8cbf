use Rattle.std.proofs.Common.{◌∙◌, sym}
use Rattle.hsp_price_dispatch.proofs.KnownRegions.{known_has}
use Rattle.hsp_price_dispatch.proofs.dispatcher.PriceDispatcher.serves.Goals as goal

pub returns-then-knows : goal.returns-then-knows
returns-then-knows c =
    rw (← c.self.view_is)
    (c.if-knows.true
    ∙ sym (known_has c.self.inside.holding.service c.args.region.now c.self.inside.arcs.regions
    c.self.invariant.1.regions (sym c.knows.ensures ∙ c.if-knows.true)))
