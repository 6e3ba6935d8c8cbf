-- The front that words spell.
use Rattle.std.specs.Prelude.{ℕ, Result, Ok, option_map}
use Rattle.hsp_text.specs.Answers.{◌>>=◌}
use Rattle.hsp_log.specs.declared.front_share.Front.{Front}
use Rattle.hsp_price_answers.specs.Words.{front_at, fronts_at, word_or}
use Rattle.hsp_inputs.specs.declared.stream_fault.StreamFault.{StreamFault}
use Rattle.hsp_price_answers.specs.declared.front_words.FrontChoice.{FrontChoice}

-- the front of so many: the first where there is no word
abbrev pub front_among : FrontChoice → ℕ → Result Front StreamFault
front_among words fronts =
    word_or (option_map (λ v. v.items) words.front) 0 (front_at fronts) >>= λ number.
    Ok (record { fronts = fronts; number = number })

-- a single front where words do not spell more
abbrev pub front_spelled : FrontChoice → Result Front StreamFault
front_spelled words = word_or (option_map (λ v. v.items) words.fronts) 1 fronts_at >>= front_among words
