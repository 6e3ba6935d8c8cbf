-- What a run of fronts over a log shows of inputs and a certificate.
use Rattle.std.proofs.Common.{◌≡◌, ◌≢◌, ◌∙◌, ◌<◌, ◌≤◌, ◌⊎◌, inl, inr, ℕ, List, [], ◌∷◌, ◌++◌, Result, Ok, Err, decimal}
use Rattle.std.proofs.Common.{map, refl, ap, sym, arith}
use Rattle.std.proofs.lemmas.Bool.{cases_lt, le-ltb, lt-ltb}
use Rattle.std.proofs.lemmas.Bool.Decides.{nat_tests}
use Rattle.hsp_text.specs.Whole.{whole_within}
use Rattle.hsp_text.specs.declared.limits.TheConstants.{MOST_FRONTS}
use Rattle.hsp_text.specs.declared.whole.WholeFault.{WholeFault}
use Rattle.hsp_csv.specs.Records.{Fields}
use Rattle.hsp_instance.specs.Instance.{Instance}
use Rattle.hsp_cert.specs.Certificate.{Best}
use Rattle.hsp_cert.specs.Certificate.Claim.{best}
use Rattle.hsp_check.specs.Instance.{network_of}
use Rattle.hsp_check.specs.Plan.{Plan}
use Rattle.hsp_check.specs.Uses.{table}
use Rattle.hsp_names.specs.Handle.{ReadingsAreHandles}
use Rattle.hsp_dispatch.specs.Desks.{AnswersEvents, answers_by, by_fronts}
use Rattle.hsp_dispatch.specs.Dispatch.{IsSame}
use Rattle.hsp_dispatch.specs.Fronts.{AreFrontsOf, Tables, event_answer, event_answers_after, front_answers}
use Rattle.hsp_dispatch.specs.Fronts.{front_sums_of, left_at_front, share_of, shares_of}
use Rattle.hsp_log.specs.Entries.{Event, entries_at}
use Rattle.hsp_dispatch.specs.Lines.{front_line}
use Rattle.hsp_dispatch.specs.Runs.{Streams}
use Rattle.hsp_dispatch.specs.declared.answer.FrontAnswer.TheVariants.{Answered}
use Rattle.hsp_dispatch.specs.declared.answer.FrontSums.{FrontSums}
use Rattle.hsp_log.specs.declared.fault.LogFault.{LogFault}
use Rattle.hsp_dispatch.proofs.FrontCounts.{as_dispatchers}
use Rattle.hsp_dispatch.proofs.FrontLaws.{never_exceeds_together}
use Rattle.hsp_dispatch.proofs.Resting.{answer_same}
use Rattle.hsp_runs.specs.Accepted.{IsAcceptedOf}
use Rattle.hsp_inputs.specs.Counts.{above_none}
use Rattle.hsp_runs.specs.Dispatch.{AnswersBy, AreAnsweredBy, EndsLog, fronts_at, so_many}
use Rattle.hsp_inputs.specs.Headline.{Defines}
use Rattle.hsp_runs.specs.Laws.{FrontsLogsShow}
use Rattle.hsp_runs.specs.Logs.{AnswersByShares, IsLogAt, IsRefused, ShowsFrontsOf, ShowsPlanOf, by_shares}
use Rattle.hsp_runs.specs.Shown.{Holds}
use Rattle.hsp_runs.specs.declared.accepted.Accepted.{Accepted}
use Rattle.hsp_inputs.specs.declared.fault.Fault.{Fault}
use Rattle.hsp_inputs.specs.declared.fault.Fault.TheVariants.{BadFronts, Log}
use Rattle.hsp_inputs.specs.declared.inputs.Inputs.{Inputs}
use Rattle.hsp_runs.proofs.ByHash.{logs_go_by_hash}
use Rattle.hsp_runs.proofs.Ending.{ends}
use Rattle.hsp_tables.proofs.TableRows.{whole_is}
use Rattle.hsp_runs.proofs.ShownLog.{refused, shown_by, shown_of}

-- ---- the answers by shares

-- fronts that hold the shares of a plan answer by them
module _ (it : Instance) (fronts : ℕ) (x : Plan) (held : ℕ → Plan)
    (are : (front : ℕ) → front < fronts → IsSame (held front) (share_of fronts front x)) where
  -- an event is answered by the shares of the plan
  same_event : (earlier : List Event) (event : Event)
      → event_answer it fronts held earlier event ≡ event_answer it fronts (shares_of fronts x) earlier event
  same_event earlier event = elim (cases_lt event.front fronts) [
    | inl inside ↦
        rw (lt-ltb event.front fronts inside)
        (ap Answered
        (answer_same it (held event.front) (share_of fronts event.front x) (entries_at event.front earlier)
        event.entry (are event.front inside)))
    | inr past ↦ rw (le-ltb event.front fronts past) refl
  ]

  -- so are all events
  same_events : (earlier events : List Event)
      → event_answers_after it fronts held earlier events
      ≡ event_answers_after it fronts (shares_of fronts x) earlier events
  unfolding event_answers_after
  same_events earlier [] = refl
  same_events earlier (event ∷ events) = rw (same_event earlier event, same_events (earlier ++ event ∷ []) events) refl

-- ---- the log

-- what fronts answer is by their shares
answers_events : (it : Instance) (x : Plan) (fronts : ℕ) (old new : Tables) → AreFrontsOf it x fronts old
    → (form : _) (rows : List Fields) (lines : List (List ℕ)) (sums : FrontSums)
    → AnswersEvents old new form rows lines sums
    → AnswersByShares it fronts x rows lines sums
answers_events it x fronts old new are form rows lines sums (events, spelled, lines_are, sums_are, left) =
    let given : answers_by old events ≡ front_answers it fronts x events =
    rw (are.instance, are.many) (same_events it fronts x (left_at_front old) are.each [] events) in
    let printed : lines ≡ map (front_line it) (front_answers it fronts x events) =
    rw (are.instance) at (rw given at lines_are) in
    let counted : sums ≡ front_sums_of (front_answers it fronts x events) = rw given at sums_are in
    (events, spelled, printed, counted)

-- a run of fronts is that of a log by shares
log_at : (inputs : Inputs) (octets : List ℕ) (fronts : ℕ) → 0 < fronts
    → (run : Streams) (answer : Result FrontSums Fault) (accepted : Accepted) (c : Best)
    → IsAcceptedOf inputs octets (Ok accepted) → accepted.certificate ≡ best c
    → (so_many fronts).At accepted.instance (table c.uses) (EndsLog (λ sums. sums) run answer)
    → IsLogAt fronts run answer accepted.instance (table c.uses)
log_at inputs octets fronts some run answer accepted c is kind (old, new, are, end) =
    let it = accepted.instance in
    let x = table c.uses in
    record {
      answered = ends (by_fronts old new) (by_shares it fronts x) run refl
          (answers_events it x fronts old new are) (λ sums. sums) answer end;
      each = λ events front inside. as_dispatchers it fronts x front events inside;
      within = λ events row site. never_exceeds_together it fronts x events row site some;
      by_hash = (logs_go_by_hash inputs octets accepted c is kind).share fronts;
    }

-- ---- the number of fronts

-- a word that was read is the decimal of a number of fronts
number_of : (word : List ℕ) (fronts : ℕ) → fronts_at word ≡ Ok fronts
    → (word ≡ decimal fronts) × (0 < fronts) × (fronts ≤ MOST_FRONTS)
number_of word fronts is =
    let read : (0 < fronts) × (whole_within MOST_FRONTS word ≡ Ok fronts) = grind (arith, nat_tests) in
    let whole = whole_is MOST_FRONTS word fronts (omega arith) read.1 in
    (whole.0, read.0, whole.1)

-- a bad word has its own fault
fault_of : (word : List ℕ) (fault : Fault) → fronts_at word ≡ Err fault → fault ≡ BadFronts
fault_of word fault is = by (whole_within MOST_FRONTS word) is
  where
    by : (r : Result ℕ WholeFault) → above_none BadFronts r ≡ Err fault → fault ≡ BadFronts
    by r same = grind (arith, nat_tests)

-- ---- what is shown

-- a run of a word's fronts shows what the definition says
counted : (word : List ℕ) (inputs : Inputs) (octets : List ℕ) (run : Streams) (answer : Result FrontSums Fault)
    (fronts : ℕ) → fronts_at word ≡ Ok fronts
    → IsRefused run answer ⊎ ShowsPlanOf inputs octets (IsLogAt fronts run answer)
    → ShowsFrontsOf word inputs octets run answer
counted word inputs octets run answer fronts is (inl none) = inl none
counted word inputs octets run answer fronts is (inr shows) =
    let number = number_of word fronts is in
    inr (fronts, number.0, number.1, number.2, shows)

-- a bad word stops the run before it wrote anything
pub fronts_refused : {S : Type 0} (word : List ℕ) (run : Streams) (fault : Fault) (answer : Result S Fault)
    → fronts_at word ≡ Err fault → run.after ≡ run.before
    → answer ≡ Err fault → IsRefused run answer
fronts_refused word run fault answer is same of =
    refused run fault answer (λ own e. apart own (sym (fault_of word fault is) ∙ e)) (same, of)
  where
    apart : (own : LogFault) → BadFronts ≢ Log own
    apart own e = cc (e)

-- runs of fronts show what the law says
pub fronts_logs_show : ReadingsAreHandles → FrontsLogsShow
fronts_logs_show handles word inputs octets run answer is = by (fronts_at word) refl is
  where
    by : (r : Result ℕ Fault) → fronts_at word ≡ r → AreAnsweredBy r inputs octets run answer
        → ShowsFrontsOf word inputs octets run answer
    by (Err fault) read none = inl (fronts_refused word run fault answer read none.0 none.1)
    by (Ok fronts) read answered =
        counted word inputs octets run answer fronts read
        (shown_of (so_many fronts) inputs octets run answer (IsLogAt fronts run answer)
        (log_at inputs octets fronts ((number_of word fronts read).1) run answer) handles answered)

-- so do runs by an accepted plan
pub fronts_shown_where : (word : List ℕ) (inputs : Inputs) (octets : List ℕ) (fronts : ℕ) (accepted : Accepted)
    (run : Streams) (answer : Result FrontSums Fault)
    → fronts_at word ≡ Ok fronts → IsAcceptedOf inputs octets (Ok accepted) → Defines inputs accepted.instance
    → Holds (network_of accepted.instance) accepted.certificate → AnswersBy (so_many fronts) accepted run answer
    → ShowsFrontsOf word inputs octets run answer
fronts_shown_where word inputs octets fronts accepted run answer read is defines holds answered =
    counted word inputs octets run answer fronts read
    (shown_by (so_many fronts) inputs octets run answer (IsLogAt fronts run answer)
    (log_at inputs octets fronts ((number_of word fronts read).1) run answer) accepted is
    defines holds answered)
