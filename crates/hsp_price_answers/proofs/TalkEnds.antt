-- Talks at a responder that answers rows.
use Rattle.std.proofs.Common.{◌≡◌, ◌≢◌, ℕ, List, Option, None, Some, Result, Ok, Err, IfErr, refl}
use Rattle.hsp_log.specs.declared.form.Form.{Form}
use Rattle.hsp_talk.specs.Known.{Known, Went}
use Rattle.hsp_talk.specs.Talk.{Event, HeldToTheEnd, StoppedBy, Took}
use Rattle.hsp_talk.specs.declared.stop.Stop.{Stop}
use Rattle.hsp_talk.specs.declared.stop.Stop.TheVariants as stop
use Rattle.hsp_price_answers.specs.AnswerTalk.{Answered, EndsBy, LacksHeader, StopsBy}
use Rattle.hsp_price_answers.specs.AnswersShown.{IsOfTalk}
use Rattle.hsp_price_answers.specs.Answering.{Answering, AnswersRows, InTurn, TakesQuery, TakesRow}
use Rattle.hsp_price_answers.specs.Asking.{IsNoHeader}
use Rattle.hsp_price_answers.specs.TalkFaults.{IsBeforeLog, fault_of}
use Rattle.hsp_price_answers.specs.declared.asking.NoHeader.{NoHeader}
use Rattle.hsp_log.specs.declared.fault.RowFault.TheVariants.{Header, ReadFailed, WriteFailed}
use Rattle.hsp_inputs.specs.declared.stream_fault.StreamFault.{StreamFault}
use Rattle.hsp_inputs.specs.declared.stream_fault.StreamFault.TheVariants.{Log, OutOfMemory}
use Rattle.hsp_price_answers.proofs.InTurn.{all_in_turn}

abbrev pub RefusesRow : {D : Type 0} → Answering D → List ℕ → Answering D → NoHeader → Type 0
RefusesRow responder row next fault = IsNoHeader responder.form row

module _ {D S : Type 0} (Takes : TakesQuery D) (sums_of : D → ℕ → S) (first : Answering D) (form : first.form ≡ None)
    (none : first.refused ≡ 0) where
  -- the sums of a responder
  abbrev sums_at : Answering D → S
  sums_at last = sums_of last.dispatcher last.refused

  -- what was taken was answered
  abbrev so_far : (last : Answering D) (events : List Event) (stated : Option Form) (sums : S) → last.form ≡ stated
      → sums ≡ sums_at last → Took (TakesRow Takes) first last events
      → Answered (InTurn Takes sums_of first.dispatcher) stated sums events
  so_far last events stated sums is same took = record {
    rows = took.rows;
    lines = took.answers;
    later = took.later;
    came = took.came;
    answered = (
      last.dispatcher,
      last.refused,
      rw (← is) (all_in_turn Takes first last took.rows took.answers form none took.taken),
      same,
    );
    prompt = took.prompt;
  }

  abbrev Ends : List Event → Result S StreamFault → Type 0
  Ends events answer = EndsBy (InTurn Takes sums_of first.dispatcher) events answer

  -- the talk ended behind a header
  pub ended : (last : Answering D) (sums : S) (old new : Known) → last.form ≢ None → sums ≡ sums_at last
      → Went old new (HeldToTheEnd (TakesRow Takes) first last) → Went old new (λ events. Ends events (Ok sums))
  ended last sums old new some same (events, goes, held) = (events, goes, by last.form refl)
    where
      by : (stated : Option Form) → last.form ≡ stated → Ends events (Ok sums)
      by None e = absurd (some e)
      by (Some own) e = (own, so_far last events (Some own) sums e same held.0, held.1, held.2, held.3)

  -- the talk ended without a header
  pub ended_early : (last : Answering D) (old new : Known) → last.form ≡ None
      → Went old new (HeldToTheEnd (TakesRow Takes) first last)
      → Went old new (λ events. Ends events (Err (Log Header)))
  ended_early last old new lacking (events, goes, held) =
      let lacks : LacksHeader events held.0.later = rw held.1 held.3 in
      (events, goes, (sums_at last, so_far last events None (sums_at last) lacking refl held.0, lacks, held.2))

  -- the talk stopped
  stops : (last : Answering D) (events : List Event) (why : Stop NoHeader)
      → StoppedBy (TakesRow Takes) RefusesRow first last events why → Ends events (Err (fault_of why))
  stops last events stop.ReadFailed by =
      (last.form, sums_at last, so_far last events last.form (sums_at last) refl refl by.0, (by.1, by.2))
  stops last events stop.WriteFailed by =
      (by.0.form, sums_at by.0, so_far by.0 events by.0.form (sums_at by.0) refl refl by.1, (by.2, by.3))
  stops last events stop.OutOfMemory by =
      (by.0.form, sums_at by.0, so_far by.0 events by.0.form (sums_at by.0) refl refl by.1, by.2)
  stops last events (stop.Fault fault) by =
      let refused = by.5 in
      let lacks : LacksHeader events by.1.later = rw by.4 refused.1 in
      (sums_at by.0, so_far by.0 events None (sums_at by.0) refused.0 refl by.1, lacks, by.6)

  -- a talk that stopped ends by its fault
  pub stopped : (last : Answering D) (old new : Known) (why : Stop NoHeader)
      → Went old new (λ events. StoppedBy (TakesRow Takes) RefusesRow first last events why)
      → Went old new (λ events. Ends events (Err (fault_of why)))
  stopped last old new why (events, goes, by) = (events, goes, stops last events why by)

-- ---- answers of another kind

module _ {S : Type 0} (By Other : AnswersRows S)
    (same : (form : Option Form) (sums : S) (rows lines : List (List ℕ)) → By form sums rows lines
    → Other form sums rows lines) where
  -- rows answered in one way were answered in another
  abbrev some_same : (form : Option Form) (sums : S) (events : List Event) → Answered By form sums events
      → Answered Other form sums events
  some_same form sums events so = record {
    rows = so.rows;
    lines = so.lines;
    later = so.later;
    came = so.came;
    answered = same form sums so.rows so.lines so.answered;
    prompt = so.prompt;
  }

  -- so a talk stops
  stops_same : (events : List Event) (fault : StreamFault) → StopsBy By events fault → StopsBy Other events fault
  stops_same events (Log ReadFailed) by = (by.0, by.1, some_same by.0 by.1 events by.2, by.3)
  stops_same events (Log WriteFailed) by = (by.0, by.1, some_same by.0 by.1 events by.2, by.3)
  stops_same events OutOfMemory by = (by.0, by.1, some_same by.0 by.1 events by.2, by.3)
  stops_same events (Log Header) by = (by.0, some_same None by.0 events by.1, by.2, by.3)
  stops_same events (Log other) by = absurd by
  stops_same events other by = absurd by

  -- so it ends
  ends_same : (events : List Event) (answer : Result S StreamFault) → EndsBy By events answer
      → EndsBy Other events answer
  ends_same events (Ok sums) by = (by.0, some_same (Some by.0) sums events by.1, by.2, by.3, by.4)
  ends_same events (Err fault) by = stops_same events fault by

  -- so does the talk of a run
  pub talk_same : (answer : Result S StreamFault) (old new : Known)
      → Went old new (λ events. EndsBy By events answer) → Went old new (λ events. EndsBy Other events answer)
  talk_same answer old new (events, goes, ends) = (events, goes, ends_same events answer ends)

-- a talk stops by a fault of a talk
stops_always : {S : Type 0} (By : AnswersRows S) (events : List Event) (fault : StreamFault)
    → StopsBy By events fault → IsOfTalk fault
stops_always By events (Log ReadFailed) by = tt
stops_always By events (Log WriteFailed) by = tt
stops_always By events (Log Header) by = tt
stops_always By events OutOfMemory by = tt
stops_always By events (Log other) by = absurd by
stops_always By events other by = absurd by

-- a talk ends well, or by a fault of a talk
pub ends_always : {S : Type 0} (By : AnswersRows S) (events : List Event) (answer : Result S StreamFault)
    → EndsBy By events answer → IfErr answer IsOfTalk
ends_always By events (Ok sums) by = tt
ends_always By events (Err fault) by = stops_always By events fault by

-- no fault of a talk comes before the log
pub untouched_so : {A : Type 0} (Same : Type 0) (ended : Result A StreamFault) → IfErr ended (λ e. IsBeforeLog e → ⊥)
    → IfErr ended (λ e. IsBeforeLog e → Same)
untouched_so Same (Ok sums) never = tt
untouched_so Same (Err e) never = λ before. absurd (never before)
