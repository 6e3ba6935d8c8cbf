use Rattle.hsp_price_answers.proofs.asking.asked_by_field.Goals as goal

pub returns-in-Bodies : goal.returns-in-Bodies
returns-in-Bodies c = rw c.in-Bodies.is c.asked_by_digits.ensures
