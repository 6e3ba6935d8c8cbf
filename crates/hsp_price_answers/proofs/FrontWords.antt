-- Words that are read as a front spell it.
use Rattle.std.proofs.Common.{◌≡◌, ◌∙◌, Ok, ap, arith, option_map}
use Rattle.hsp_text.specs.Answers.{◌>>=◌}
use Rattle.hsp_text.specs.Whole.{whole_within}
use Rattle.hsp_text.specs.declared.limits.TheConstants.{MOST_FRONTS}
use Rattle.hsp_text.proofs.Steps.{first_step}
use Rattle.hsp_log.specs.declared.front_share.Front.{Front}
use Rattle.hsp_inputs.specs.declared.fault.Fault.TheVariants.{BadFronts}
use Rattle.hsp_inputs.specs.Counts.{count_at}
use Rattle.hsp_price_answers.specs.Words.{front_at, fronts_at, word_or}
use Rattle.hsp_inputs.specs.declared.stream_fault.StreamFault.TheVariants.{Input}
use Rattle.hsp_price_answers.proofs.SpelledFronts.{HasNoLog, below_none, else_none, front_is, many_is, many_is_read}
use Rattle.hsp_price_answers.proofs.SpelledFronts.{then_none, word_none, front_is_read as front_number_is_read}
use Rattle.hsp_price_answers.specs.FrontWords.{front_among, front_spelled}
use Rattle.hsp_price_answers.specs.PricesShown.{SpellsFront}
use Rattle.hsp_price_answers.specs.declared.front_words.FrontChoice.{FrontChoice}

-- words that are read as a front spell it
pub front_is_spelled : (words : FrontChoice) (front : Front) → front_spelled words ≡ Ok front
    → SpellsFront words front
front_is_spelled words front e =
    let fronts =
    first_step (word_or (option_map (λ v. v.items) words.fronts) 1 fronts_at) (front_among words) front e in
    let number =
    first_step (word_or (option_map (λ v. v.items) words.front) 0 (front_at fronts.0)) _ front fronts.2 in
    let many = many_is _ fronts.0 fronts.1 in
    let one = front_is fronts.0 _ number.0 many.1 number.1 in
    let is : record { fronts = fronts.0; number = number.0 } ≡ front = cc (number.2) in
    rw (← is) (record { fronts = many.0; number = one.0; is = one.1; few = many.2 })

-- words that spell a front are read as it
pub front_is_read : (words : FrontChoice) (front : Front) → SpellsFront words front → front_spelled words ≡ Ok front
front_is_read words front is =
    ap (λ r. r >>= front_among words)
    (many_is_read (option_map (λ v. v.items) words.fronts) front.fronts is.fronts (omega (arith, is.is)) is.few)
    ∙ ap (λ r. r >>= λ number. Ok (record { fronts = front.fronts; number = number }))
    (front_number_is_read front.fronts (option_map (λ v. v.items) words.front) front.number is.number is.is is.few)

-- the words of a front have no fault of the log
pub words_none : (words : FrontChoice) → HasNoLog (front_spelled words)
words_none words =
    then_none (word_or (option_map (λ v. v.items) words.fronts) 1 fronts_at) (front_among words)
    (word_none (option_map (λ v. v.items) words.fronts) 1 fronts_at
    (λ octets. else_none (Input BadFronts) (count_at BadFronts MOST_FRONTS octets) (λ of e. cc (e)))) (λ fronts.
    then_none (word_or (option_map (λ v. v.items) words.front) 0 (front_at fronts)) _
    (word_none (option_map (λ v. v.items) words.front) 0 (front_at fronts)
    (λ octets. below_none fronts (whole_within MOST_FRONTS octets))) (λ number. tt))
