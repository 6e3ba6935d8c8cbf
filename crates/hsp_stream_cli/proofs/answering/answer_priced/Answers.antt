use Rattle.std.proofs.Common.{inr}
use Rattle.hsp_stream_cli.proofs.Lent.{talks_weaker}
use Rattle.hsp_stream_cli.proofs.answering.answer_priced.Goals as goal

pub returns-clause-answers : goal.returns-clause-answers
returns-clause-answers g c =
    inr
    (inr (
      c.in_ok-priced.priced,
      _,
      c.in_ok-priced.ensures.held,
      c.in_ok-log.ensures.held,
      (
        c.in_ok-front.front,
        c.in_ok-front.ensures,
        talks_weaker _ _ _ _ _ _ _ _ c.in_ok-log.ensures.reads c.talk_over.ensures.talks,
      ),
    ))
