use Rattle.hsp_price_dispatch.proofs.Greatest as lemmas
use Rattle.hsp_price_dispatch.proofs.laws.gives_the_greatest_part.Goals as goal

pub returns-clause-gives : goal.returns-clause-gives
returns-clause-gives c = lemmas.gives_the_greatest

pub returns-clause-answers : goal.returns-clause-answers
returns-clause-answers c = lemmas.answers_by_the_greatest
