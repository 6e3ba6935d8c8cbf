-- The talk of a run that answers the rows of a log. `By` says how rows are answered.
use Rattle.std.specs.Prelude.{◌≡◌, true, ℕ, List, [], ◌∷◌, ◌++◌, Option, None, Some, Result, Ok, Err}
use Rattle.std.specs.List.{concat}
use Rattle.hsp_log.specs.declared.form.Form.{Form}
use Rattle.hsp_talk.specs.Talk.{Event, IsPrompt, has_ended, rows_in, sent_in}
use Rattle.hsp_price_answers.specs.Answering.{AnswersRows}
use Rattle.hsp_price_answers.specs.Asking.{IsHeader}
use Rattle.hsp_log.specs.declared.fault.RowFault.TheVariants as row_fault
use Rattle.hsp_inputs.specs.declared.stream_fault.StreamFault.{StreamFault}
use Rattle.hsp_inputs.specs.declared.stream_fault.StreamFault.TheVariants as fault

-- The first rows that came in were answered. No answer was owed at a read. The header, of this form, was among the
-- rows, or none was yet.
pub record Answered {S : Type 0} (By : AnswersRows S) (form : Option Form) (sums : S) (events : List Event) :
    Type 0 where
  pub rows : List (List ℕ)
  pub lines : List (List ℕ)
  pub later : List (List ℕ)
  pub came : rows_in events ≡ rows ++ later
  pub answered : By form sums rows lines
  pub prompt : IsPrompt lines events

-- the same of a header or none, and of some sums
abbrev pub SomeAnswered : {S : Type 0} → AnswersRows S → List Event
    → (List (List ℕ) → List (List ℕ) → Type 0) → Type 0
SomeAnswered {S} By events So =
    (form : Option Form) × (sums : S) × (some : Answered By form sums events) × So some.lines some.later

-- no header came: what came next is neither a blank row nor a header, or the log ended
abbrev pub LacksHeader : List Event → List (List ℕ) → Type 0
LacksHeader events [] = has_ended events ≡ true
LacksHeader events (row ∷ rest) = (next : Option Form) → IsHeader row next → ⊥

-- Why the talk stopped.
-- At a failed read, all rows that came in were answered.
-- At a failed write, the first rows were answered, and some of the octets of their lines sent, the first ones first.
-- Where memory ran out, the first rows were answered.
abbrev pub StopsBy : {S : Type 0} → AnswersRows S → List Event → StreamFault → Type 0
StopsBy By events (fault.Log row_fault.ReadFailed) =
    SomeAnswered By events (λ lines later. (later ≡ []) × (sent_in events ≡ concat lines))
StopsBy By events (fault.Log row_fault.WriteFailed) =
    SomeAnswered By events (λ lines later. (unsent : List ℕ) × (concat lines ≡ sent_in events ++ unsent))
StopsBy By events fault.OutOfMemory =
    SomeAnswered By events (λ lines later. sent_in events ≡ concat lines)
StopsBy {S} By events (fault.Log row_fault.Header) =
    (sums : S) × (some : Answered By None sums events) × LacksHeader events some.later
    × (sent_in events ≡ concat some.lines)
StopsBy By events other = ⊥

-- all rows until the end of the log were answered, a header and the rows behind it, and all their lines were sent; or
-- why not
abbrev pub EndsBy : {S : Type 0} → AnswersRows S → List Event → Result S StreamFault → Type 0
EndsBy By events (Ok sums) =
    (form : Form) × (all : Answered By (Some form) sums events) × (all.later ≡ [])
    × (sent_in events ≡ concat all.lines) × (has_ended events ≡ true)
EndsBy By events (Err e) = StopsBy By events e
