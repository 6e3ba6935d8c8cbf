use Rattle.std.proofs.Common.{refl}
use Rattle.hsp_price_answers.specs.Asking.{asked_of}
use Rattle.hsp_price_answers.proofs.answerer.AnswererResponder.take.Goals as goal
use Rattle.hsp_price_answers.proofs.answerer.AnswererResponder.take.Goals.{in-Ok-give, in-Err-give}

pub returns-clause-takes : goal.returns-clause-takes
returns-clause-takes g c =
    rw (← c.self.view_is) (elim c.match-give.branch [
      | in-Ok-give w ↦
          rw w.result-is (record {
            asked = asked_of c.in-Ok-ask.asked;
            asks = rw c.in-Some.is (c.in-Ok-ask.ensures, refl);
            gives = rw w.in-Ok-give.is at c.give.ensures;
          })
      | in-Err-give w ↦ rw w.result-is tt
    ])
