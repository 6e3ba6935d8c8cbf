-- What a run over a log shows of inputs and a certificate.
use Rattle.std.proofs.Common.{◌≡◌, ◌≢◌, ◌∙◌, ◌⊎◌, inl, inr, ℕ, List, [], Result, Ok, Err, IsErrAnd, map, refl, sym}
use Rattle.hsp_csv.specs.Records.{Fields}
use Rattle.hsp_instance.specs.Instance.{Instance}
use Rattle.hsp_cert.specs.Certificate.{Best, Claim}
use Rattle.hsp_cert.specs.Certificate.Claim.{best, short}
use Rattle.hsp_cert.specs.Reading.{Means}
use Rattle.hsp_check.specs.Instance.{network_of}
use Rattle.hsp_check.specs.Plan.{Plan}
use Rattle.hsp_check.specs.Uses.{table}
use Rattle.hsp_dispatch.specs.Dispatch.{IsSame, all_of, answers, sums_of}
use Rattle.hsp_dispatch.specs.Lines.{line_of}
use Rattle.hsp_dispatch.specs.Runs.{Streams}
use Rattle.hsp_dispatch.specs.Desks.{AnswersEntries, by_plan}
use Rattle.hsp_dispatch.specs.declared.answer.FrontSums.{FrontSums}
use Rattle.hsp_log.specs.declared.fault.LogFault.{LogFault}
use Rattle.hsp_dispatch.specs.declared.answer.LogSums.{LogSums}
use Rattle.hsp_dispatch.proofs.Dispatching.{never_exceeds}
use Rattle.hsp_dispatch.proofs.OverCalls.{same_answers}
use Rattle.hsp_dispatch.proofs.Resting.{rest_same}
use Rattle.hsp_runs.specs.Accepted.{IsAcceptedOf}
use Rattle.hsp_runs.specs.Dispatch.{AnswersAs, AnswersBy, EndsLog, IsAnsweredBy, Refuses, Staff, a_dispatcher}
use Rattle.hsp_inputs.specs.Headline.{Defines}
use Rattle.hsp_runs.specs.Logs.{IsLogOf, IsRefused, ShowsPlanOf, ShowsLogOf}
use Rattle.hsp_runs.specs.Shown.{Holds}
use Rattle.hsp_runs.specs.declared.accepted.Accepted.{Accepted}
use Rattle.hsp_inputs.specs.declared.fault.Fault.{Fault}
use Rattle.hsp_inputs.specs.declared.fault.Fault.TheVariants.{Log, OutOfMemory, WrongKind}
use Rattle.hsp_inputs.specs.declared.inputs.Inputs.{Inputs}
use Rattle.hsp_runs.specs.Laws.{DispatchedLogsShow}
use Rattle.hsp_runs.proofs.Dispatching.{is_fault}
use Rattle.hsp_runs.proofs.Ending.{ends}
use Rattle.hsp_runs.proofs.NoLog.{no_log}
use Rattle.hsp_inputs.proofs.PageRead.{gives_the_defined, is_instance}
use Rattle.hsp_runs.proofs.Showing.{valid_holds}
use Rattle.hsp_names.specs.Handle.{ReadingsAreHandles}
use Rattle.hsp_runs.proofs.ByHash.{accepted_of, certificate_is, logs_go_by_hash}

-- ---- the certificate

-- the instance is defined, and the certificate holds for it
accepted_holds : ReadingsAreHandles → (inputs : Inputs) (octets : List ℕ) (accepted : Accepted)
    → IsAcceptedOf inputs octets (Ok accepted)
    → Defines inputs accepted.instance × Holds (network_of accepted.instance) accepted.certificate
accepted_holds handles inputs octets accepted is =
    let (read, certified, valid) = accepted_of inputs octets accepted is in (
      gives_the_defined handles inputs accepted.instance read,
      valid_holds accepted.instance accepted.certificate
          (is_instance handles inputs accepted.instance read) valid,
    )

-- ---- what is refused

-- nothing was written, and the fault is none of the log's
pub refused : {S : Type 0} (run : Streams) (fault : Fault) (answer : Result S Fault)
    → ((of : LogFault) → fault ≢ Log of) → Refuses run fault answer
    → IsRefused run answer
refused run fault answer apart is = record { unwritten = is.0; fault = fault; is = is.1; before = apart }

-- running out of memory is no fault of the log
pub of_memory : (of : LogFault) → OutOfMemory ≢ Log of
of_memory of e = cc (e)

-- ---- whoever answers

-- whoever answers by the plan of what is accepted is refused, or answers by the plan of a certificate that holds
module _ {S : Type 0} (staff : Staff S) (inputs : Inputs) (octets : List ℕ) (run : Streams) (answer : Result S Fault)
    (Is : Instance → Plan → Type 0)
    (is_so : (accepted : Accepted) (c : Best) → IsAcceptedOf inputs octets (Ok accepted) → accepted.certificate ≡ best c
    → staff.At accepted.instance (table c.uses) (EndsLog staff.all run answer) → Is accepted.instance (table c.uses))
  where
    by_claim : (accepted : Accepted) (claim : Claim) → IsAcceptedOf inputs octets (Ok accepted)
        → Defines inputs accepted.instance → accepted.certificate ≡ claim
        → Holds (network_of accepted.instance) claim → Means octets (Ok claim)
        → AnswersAs staff accepted.instance claim run answer
        → IsRefused run answer ⊎ ShowsPlanOf inputs octets Is
    by_claim accepted (short c) is defines kind holds text answered =
        inl (refused run WrongKind answer (λ of e. cc (e)) answered)
    by_claim accepted (best c) is defines kind holds text answered =
        inr (
          accepted.instance,
          defines,
          (c, record { is = text.0; text = text.1; holds = holds }, is_so accepted c is kind answered),
        )

    pub shown_by : (accepted : Accepted) → IsAcceptedOf inputs octets (Ok accepted) → Defines inputs accepted.instance
        → Holds (network_of accepted.instance) accepted.certificate → AnswersBy staff accepted run answer
        → IsRefused run answer ⊎ ShowsPlanOf inputs octets Is
    shown_by accepted is defines holds (inl none) = inl (refused run OutOfMemory answer of_memory none)
    shown_by accepted is defines holds (inr answered) =
        by_claim accepted accepted.certificate is defines refl holds
        (certificate_is octets accepted.certificate (accepted_of inputs octets accepted is).1) answered

    pub shown_of : ReadingsAreHandles → IsAnsweredBy staff inputs octets run answer
        → IsRefused run answer ⊎ ShowsPlanOf inputs octets Is
    shown_of handles (inl none) = inl (refused run OutOfMemory answer of_memory none)
    shown_of handles (inr (Err fault, is, none)) =
        inl (refused run fault answer (λ of e. no_log inputs octets fault of is e) none)
    shown_of handles (inr (Ok accepted, is, answered)) =
        let of = accepted_holds handles inputs octets accepted is in
        shown_by accepted is of.0 of.1 (inr answered)

-- ---- a dispatcher

-- the same plans answer entries in the same way
answers_entries : (it : Instance) (x y left : Plan) → IsSame x y
    → (form : _) (rows : List Fields) (lines : List (List ℕ)) (sums : FrontSums)
    → AnswersEntries it x left form rows lines sums → AnswersEntries it y left form rows lines sums
answers_entries it x y left same form rows lines sums (entries, are, lines_are, sums_are, rest_is) =
    let given = same_answers it x y [] entries same in
    let of_plan : lines ≡ map (line_of it) (answers it y entries) = rw given at lines_are in
    let counted : sums ≡ all_of (sums_of (answers it y entries)) = rw given at sums_are in
    (entries, are, of_plan, counted, λ row site. rest_is row site ∙ rest_same it x y entries same row site)

-- a dispatcher's run is that of a log by the plan
log_is : (inputs : Inputs) (octets : List ℕ) (run : Streams) (answer : Result LogSums Fault) (accepted : Accepted)
    (c : Best)
    → IsAcceptedOf inputs octets (Ok accepted) → accepted.certificate ≡ best c
    → a_dispatcher.At accepted.instance (table c.uses) (EndsLog all_of run answer)
    → IsLogOf run answer accepted.instance (table c.uses)
log_is inputs octets run answer accepted c is kind (held, left, same, end) =
    let it = accepted.instance in
    let x = table c.uses in
    record {
      left = left;
      answered =
          ends (by_plan it held left) (by_plan it x left) run refl (answers_entries it held x left same) all_of answer
          end;
      within = never_exceeds it x;
      by_hash = (logs_go_by_hash inputs octets accepted c is kind).plan;
    }

-- runs of a dispatcher show what the law says
pub dispatched_logs_show : ReadingsAreHandles → DispatchedLogsShow
dispatched_logs_show handles inputs octets run answer is =
    shown_of a_dispatcher inputs octets run answer (IsLogOf run answer) (log_is inputs octets run answer) handles is

-- so do runs by an accepted plan
pub shown_where : (inputs : Inputs) (octets : List ℕ) (accepted : Accepted) (run : Streams)
    (answer : Result LogSums Fault) → IsAcceptedOf inputs octets (Ok accepted)
    → Defines inputs accepted.instance → Holds (network_of accepted.instance) accepted.certificate
    → AnswersBy a_dispatcher accepted run answer
    → ShowsLogOf inputs octets run answer
shown_where inputs octets accepted run answer is defines holds answered =
    shown_by a_dispatcher inputs octets run answer (IsLogOf run answer) (log_is inputs octets run answer) accepted is
    defines holds answered

-- ---- nothing was answered

-- the inputs or the certificate were refused, and the writer holds what it held
pub shown_nothing : {S : Type 0} (inputs : Inputs) (octets : List ℕ) (run : Streams) (fault : Fault)
    (answer : Result S Fault) → run.after ≡ run.before
    → IsErrAnd answer (λ e. e ≡ fault) → (fault ≡ OutOfMemory) ⊎ IsAcceptedOf inputs octets (Err fault)
    → IsRefused run answer
shown_nothing inputs octets run fault answer same told (inl memory) =
    refused run fault answer (λ of e. of_memory of (sym memory ∙ e)) (same, sym (is_fault answer fault told))
shown_nothing inputs octets run fault answer same told (inr is) =
    refused run fault answer (λ of e. no_log inputs octets fault of is e) (same, sym (is_fault answer fault told))
