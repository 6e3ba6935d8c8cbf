use Rattle.std.proofs.Common.{◌∙◌, ap, subst, sym}
use Rattle.hsp_price_dispatch.proofs.Indexing.{answer_within}
use Rattle.hsp_price_dispatch.proofs.RoomTaken.{service_stays}
use Rattle.hsp_price_dispatch.specs.Holding.{Held}
use Rattle.hsp_price_dispatch.specs.Taking.{CanTake}
use Rattle.hsp_price_dispatch.proofs.dispatcher.PriceDispatcher.assign.Goals as goal

pub take-requires : goal.take-requires
take-requires c =
    subst (λ (held : Held). CanTake held c.in_ok-choice.choice) (sym (c.self.view_is ∙ c.choose_for.ensures.same))
    c.in_ok-choice.ensures.can

pub returns-clause-within : goal.returns-clause-within
returns-clause-within c =
    rw c.answer.ensures (answer_within c.args.self.now c.in_ok-choice.choice c.in_ok-choice.ensures.can)

pub returns-clause-service : goal.returns-clause-service
returns-clause-service c =
    ap (λ (held : Held). held.service) c.take.ensures ∙ service_stays c.self.inside.holding c.in_ok-choice.choice
    ∙ ap (λ (held : Held). held.service) (c.self.view_is ∙ c.choose_for.ensures.same)
