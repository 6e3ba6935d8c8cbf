use Rattle.std.proofs.Common.{◌∙◌, ◌++◌, List, ℕ, ap, refl}
use Rattle.std.proofs.lemmas.Result.{on_ok_weaker}
use Rattle.hsp_price_answers.specs.Lines.{line_by}
use Rattle.hsp_price_answers.specs.Sums.{with_answer}
use Rattle.hsp_price_answers.proofs.dispatcher.PriceAnswersQueryDispatcher.take_query.Goals as goal

pub returns : goal.returns
returns c =
    let answer = c.in_ok-answer.ensures.answer in
    on_ok_weaker c.push_answer.result
    (λ written.
    rw (← c.self.view_is)
    (record {
      own = c.in_ok-answer.ensures.left;
      lines = refl;
      line_is =
          written ∙ ap (λ (list : List ℕ). list ++ line_by c.self.inside.lines c.in_ok-answer.answer) c.requires
          ∙ ap (line_by c.self.inside.lines) answer;
      sums = c.count.ensures ∙ ap (with_answer c.self.inside.sums) answer;
    }))
    c.push_answer.ensures
