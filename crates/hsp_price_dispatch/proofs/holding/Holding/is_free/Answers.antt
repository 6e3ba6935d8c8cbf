use Rattle.std.proofs.Common.{◌≡◌, ◌∙◌, subst, sym}
use Rattle.hsp_price_dispatch.specs.Holding.{Held, is_free_at}
use Rattle.hsp_price_dispatch.proofs.Held.{free_is}
use Rattle.hsp_price_dispatch.proofs.holding.Holding.is_free.Goals as goal

pub returns-in-Some : goal.returns-in-Some
returns-in-Some c =
    let on = rw (← c.self.view_is) at (sym c.host.ensures.host ∙ c.in-Some.is) in
    subst (λ (own : Held). c.is_free-in-Some.result ≡ is_free_at own c.args.server) c.self.view_is
    (free_is _ _ _ _ c.self.invariant c.args.server c.in-Some.host c.is_free-in-Some.result on
    (sym c.is_free.ensures ∙ c.if-not-is_free.false) c.is_free-in-Some.ensures)
