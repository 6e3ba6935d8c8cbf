-- How a run that answers the rows of a log ends.
use Rattle.std.specs.Prelude.{◌≡◌, ◌≢◌, ⊤, ℕ, List, decimal, Option, None, Some, Err}
use Rattle.hsp_price_answers.specs.AnswerRun.{RunOf}
use Rattle.hsp_log.specs.declared.fault.RowFault.{RowFault}
use Rattle.hsp_log.specs.declared.fault.RowFault.TheVariants.{Header, ReadFailed, WriteFailed}
use Rattle.hsp_inputs.specs.declared.stream_fault.StreamFault.{StreamFault}
use Rattle.hsp_inputs.specs.declared.stream_fault.StreamFault.TheVariants.{Log, OutOfMemory}

-- a word spells the number; where there is no word it is the usual one
abbrev pub SpellsOr : Option (List ℕ) → ℕ → ℕ → Type 0
SpellsOr None usual number = number ≡ usual
SpellsOr (Some word) usual number = word ≡ decimal number

-- there is a fault that is not the log's, and nothing was read or sent
pub record IsRefused {S : Type 0} (run : RunOf S) : Type 0 where
  pub untouched : run.after ≡ run.before
  pub fault : StreamFault
  pub is : run.answer ≡ Err fault
  pub before : (of : RowFault) → fault ≢ Log of

-- memory ran out, a read or a write failed, or the log has no header
abbrev pub IsOfTalk : StreamFault → Type 0
IsOfTalk OutOfMemory = ⊤
IsOfTalk (Log ReadFailed) = ⊤
IsOfTalk (Log WriteFailed) = ⊤
IsOfTalk (Log Header) = ⊤
IsOfTalk other = ⊥
