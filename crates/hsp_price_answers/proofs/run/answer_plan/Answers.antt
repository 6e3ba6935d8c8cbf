use Rattle.std.proofs.Common.{inl, inr, refl, ap, Err}
use Rattle.hsp_price_answers.proofs.TalkEnds.{talk_same, untouched_so}
use Rattle.hsp_price_answers.proofs.PriceTurns.{turn_is_prices}
use Rattle.hsp_price_answers.proofs.run.answer_plan.Goals as goal

pub returns-in-Err-clause-answered : goal.returns-in-Err-clause-answered
returns-in-Err-clause-answered g c =
    inr (c.in-Err.fault, c.in-Err.ensures.fault, (refl, ap Err c.fault_of_start.ensures))

pub returns-clause-answered : goal.returns-clause-answered
returns-clause-answered g c =
    let own = c.in-Ok.dispatcher in
    inl (
      own,
      c.in-Ok.ensures.fits,
      c.in-Ok.ensures.begun,
      inr
          (talk_same _ _ (turn_is_prices c.args.service.instance.now own) c.answer_rows.result
          (g.P.Peer.known c.args.peer.now) (g.P.Peer.known c.answer_rows.new.peer)
          (rw (c.new-responder.ensures, c.in_ok-answers.ensures) at c.answer_rows.ensures.answered)),
    )

pub returns-clause-untouched : goal.returns-clause-untouched
returns-clause-untouched g c = untouched_so _ c.answer_rows.result c.answer_rows.ensures.log
