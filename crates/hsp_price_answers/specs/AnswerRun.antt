-- Runs that answer the rows of a log.
use Rattle.std.specs.Prelude.{◌≡◌, ◌⊎◌, Result, Err}
use Rattle.hsp_talk.specs.Known.{Known, Went}
use Rattle.hsp_price_answers.specs.AnswerTalk.{EndsBy}
use Rattle.hsp_price_answers.specs.Answering.{AnswersRows}
use Rattle.hsp_inputs.specs.declared.stream_fault.StreamFault.{StreamFault}
use Rattle.hsp_inputs.specs.declared.stream_fault.StreamFault.TheVariants.{OutOfMemory}

-- what is known of a peer before a run and after it, and what the run returns: sums, or a fault
pub record RunOf (S : Type 0) : Type 0 where
  pub before : Known
  pub after : Known
  pub answer : Result S StreamFault

abbrev pub run_of : {S : Type 0} → Known → Known → Result S StreamFault → RunOf S
run_of before after answer = record { before = before; after = after; answer = answer }

-- there is a fault before the log: nothing was read or sent
abbrev pub Refuses : {S : Type 0} → StreamFault → RunOf S → Type 0
Refuses fault run = (run.after ≡ run.before) × (run.answer ≡ Err fault)

-- the log is answered, or memory ran out before it was read
abbrev pub EndsTalk : {S : Type 0} → AnswersRows S → RunOf S → Type 0
EndsTalk By run = Refuses OutOfMemory run ⊎ Went run.before run.after (λ events. EndsBy By events run.answer)
