use Rattle.std.proofs.Common.{◌∙◌, inl, refl, sym}
use Rattle.hsp_price_answers.proofs.FrontWords.{front_is_read}
use Rattle.hsp_price_answers.proofs.PricesShown.{shown_by_words, words_refused}
use Rattle.hsp_price_answers.proofs.run.price_answer_run.Goals as goal

pub returns-in-Ok-clause-shows : goal.returns-in-Ok-clause-shows
returns-in-Ok-clause-shows g c =
    shown_by_words c.args.front.now c.in-Ok.front c.args.inputs.now c.args.prices.now _ c.in-Ok.ensures.given
    c.answer_inputs.ensures.shows

pub returns-in-Err-clause-shows : goal.returns-in-Err-clause-shows
returns-in-Err-clause-shows g c =
    inl (words_refused c.args.front.now c.in-Err.fault _ c.in-Err.ensures.given (refl, refl))

pub returns-in-Ok-clause-always : goal.returns-in-Ok-clause-always
returns-in-Ok-clause-always g c = λ front spells. c.answer_inputs.ensures.always

pub returns-in-Err-clause-always : goal.returns-in-Err-clause-always
returns-in-Err-clause-always g c = λ front spells it plan page is text fits.
    let both = sym (front_is_read c.args.front.now front spells) ∙ c.in-Err.ensures.given in cc (both)
