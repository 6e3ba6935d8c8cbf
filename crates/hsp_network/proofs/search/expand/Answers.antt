use Rattle.std.proofs.Common.{inl, inr, arith}
use Rattle.std.proofs.lemmas.Bool.{cases_lt}
use Rattle.hsp_network.proofs.Arrival.{spread_on}
use Rattle.hsp_network.proofs.Expansion.{reseen}
use Rattle.hsp_network.proofs.search.expand.Goals as goal

pub offer_ways-requires-clause-expanding : goal.offer_ways-requires-clause-expanding
offer_ways-requires-clause-expanding g c =
    reseen _ _ _ _ _ _ c.requires.expanding _ (λ k d l wide here look. absurd (let both = look.0 in cc))

pub offer_ways-requires-2-clause-expanding : goal.offer_ways-requires-2-clause-expanding
offer_ways-requires-2-clause-expanding g c =
    reseen _ _ _ _ _ _ c.in_ok-offer_ways.ensures.ok _ (λ k d l wide here look is. look.1)

pub returns-clause-ok : goal.returns-clause-ok
returns-clause-ok g c =
    reseen _ _ _ _ _ _ c.in_ok-offer_ways-2.ensures.ok _ (λ k d l wide here look is. absurd (let both = is in cc))

pub returns-clause-spread : goal.returns-clause-spread
returns-clause-spread g c = λ spread.
    let scale = c.args.arcs.now.scale in
    elim (cases_lt c.args.at.node c.args.arcs.now.first) [
      | inl less ↦ spread_on _ _ _ _ _ _ _ 0 c.args.arcs.now.greatest_cost (omega arith) spread
          (λ up down. c.in_ok-offer_ways.ensures.priced 0 up down (λ k l here. omega (arith, scale.free k l)))
          (λ up down.
          c.in_ok-offer_ways-2.ensures.priced c.args.arcs.now.greatest_cost up down (λ k l here. scale.dear k l))
      | inr more ↦ spread_on _ _ _ _ _ _ _ c.args.arcs.now.greatest_cost 0 (omega arith) spread
          (λ up down.
          c.in_ok-offer_ways.ensures.priced c.args.arcs.now.greatest_cost up down (λ k l here. scale.dear k l))
          (λ up down. c.in_ok-offer_ways-2.ensures.priced 0 up down (λ k l here. absurd (omega (arith, scale.low k l))))
    ]
