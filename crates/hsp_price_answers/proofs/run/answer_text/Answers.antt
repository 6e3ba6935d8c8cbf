use Rattle.std.proofs.Common.{◌∙◌, ap, inl, inr, refl, Ok, Err}
use Rattle.hsp_inputs.specs.Faults.{fault_of_input}
use Rattle.hsp_price_answers.proofs.run.answer_text.Goals as goal

pub returns-in-Ok-clause-answered : goal.returns-in-Ok-clause-answered
returns-in-Ok-clause-answered g c =
    inr (Ok c.in-Ok.certificate, c.in-Ok.ensures, c.answer_claim.ensures.answered)

pub returns-in-Err-clause-answered : goal.returns-in-Err-clause-answered
returns-in-Err-clause-answered g c = elim c.in-Err.ensures [
  | inl memory ↦ inl (refl, ap Err (c.from.ensures ∙ ap fault_of_input memory))
  | inr is ↦ inr (Err c.in-Err.fault, is, (refl, ap Err c.from.ensures))
]
