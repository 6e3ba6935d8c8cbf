-- What a run over a log answers, and what it has written by then: by a dispatcher, or by fronts that share a plan.
use Rattle.std.specs.Prelude.{◌≡◌, ◌≢◌, ◌⊎◌, ℕ, List, Option, option_map, Result, Ok, Err}
use Rattle.hsp_csv.specs.Records.{records_of}
use Rattle.hsp_instance.specs.Instance.{Instance}
use Rattle.hsp_cert.specs.Certificate.{Claim}
use Rattle.hsp_cert.specs.Certificate.Claim.{best, short}
use Rattle.hsp_check.specs.Plan.{Plan}
use Rattle.hsp_dispatch.specs.Desks.{by_fronts, by_plan}
use Rattle.hsp_dispatch.specs.Dispatch.{IsSame, all_of}
use Rattle.hsp_dispatch.specs.Fronts.{AreFrontsOf, Tables}
use Rattle.hsp_dispatch.specs.Runs.{Desk, EndsWhole, Stops, Streams, streams}
use Rattle.hsp_dispatch.specs.Shares.{plan_of}
use Rattle.hsp_dispatch.specs.declared.answer.FrontSums.{FrontSums}
use Rattle.hsp_dispatch.specs.declared.answer.LogSums.{LogSums}
use Rattle.hsp_log.specs.declared.fault.LogFault.{LogFault}
use Rattle.hsp_text.specs.declared.limits.TheConstants.{MOST_FRONTS}
use Rattle.hsp_runs.specs.Accepted.{IsAcceptedOf}
use Rattle.hsp_inputs.specs.Counts.{count_at}
use Rattle.hsp_runs.specs.declared.accepted.Accepted.{Accepted}
use Rattle.hsp_inputs.specs.FaultText.{fault_of_log}
use Rattle.hsp_inputs.specs.declared.fault.Fault.{Fault}
use Rattle.hsp_inputs.specs.declared.fault.Fault.TheVariants.{BadFronts, Log, OutOfMemory, WrongKind}
use Rattle.hsp_inputs.specs.declared.inputs.Inputs.{Inputs}

-- ---- who answers

-- Who answers logs by plans: what is so of a desk that has the plan of an instance at the start, with what is then left
-- of it; and how the sums that are reported count the answers.
pub record Staff (S : Type 0) : Type 1 where
  pub At : Instance → Plan → (Desk → Type 0) → Type 0
  pub all : S → FrontSums

-- a dispatcher
abbrev pub a_dispatcher : Staff LogSums
a_dispatcher = record {
  At = λ it x Is. (held : Plan) × (left : Plan) × IsSame held x × Is (by_plan it held left);
  all = all_of;
}

-- `fronts` fronts, each with its share of the plan
abbrev pub so_many : ℕ → Staff FrontSums
so_many fronts = record {
  At = λ it x Is. (old : Tables) × (new : Tables) × AreFrontsOf it x fronts old × Is (by_fronts old new);
  all = λ sums. sums;
}

-- ---- what is answered

-- the log, whose octets are known or not, and what the writer holds before the run and after it
abbrev pub over : Option (List ℕ) → Option (List ℕ) → Option (List ℕ) → Streams
over octets before after = streams (option_map records_of octets) before after

-- The log was answered at the desk to its end, with its sums, or up to a fault. The fault is reported as the log's,
-- unless memory ran out.
abbrev pub EndsLog : {S : Type 0} → (S → FrontSums) → Streams → Result S Fault → Desk → Type 0
EndsLog all run (Ok sums) desk = EndsWhole desk run (all sums)
EndsLog all run (Err e) desk = (fault : LogFault) × (e ≡ fault_of_log fault) × Stops desk run fault

-- there is a fault, and nothing was written
abbrev pub Refuses : {S : Type 0} → Streams → Fault → Result S Fault → Type 0
Refuses run fault answer = (run.after ≡ run.before) × (answer ≡ Err fault)

-- a fault that is found before the log is read: it is not the log's, and memory did not run out
pub record IsBeforeLog (fault : Fault) : Type 0 where
  pub memory : fault ≢ OutOfMemory
  pub log : (of : LogFault) → fault ≢ Log of

-- the log is answered by a plan, and not by a shortage
abbrev pub AnswersAs : {S : Type 0} → Staff S → Instance → Claim → Streams → Result S Fault → Type 0
AnswersAs staff it (best c) run answer = staff.At it (plan_of (best c)) (EndsLog staff.all run answer)
AnswersAs staff it (short c) run answer = Refuses run WrongKind answer

-- by what is accepted, or memory ran out before that
abbrev pub AnswersBy : {S : Type 0} → Staff S → Accepted → Streams → Result S Fault → Type 0
AnswersBy staff accepted run answer =
    Refuses run OutOfMemory answer ⊎ AnswersAs staff accepted.instance accepted.certificate run answer

-- by what is accepted; where nothing is, its fault is returned
abbrev pub AnswersWhere : {S : Type 0} → Staff S → Result Accepted Fault → Streams → Result S Fault → Type 0
AnswersWhere staff (Ok accepted) run answer = AnswersAs staff accepted.instance accepted.certificate run answer
AnswersWhere staff (Err e) run answer = Refuses run e answer

-- first the inputs are read, then the certificate, and then it is judged; where it is accepted, the log is answered. Or
-- memory ran out before that.
abbrev pub IsAnsweredBy : {S : Type 0} → Staff S → Inputs → List ℕ → Streams → Result S Fault → Type 0
IsAnsweredBy staff inputs octets run answer =
    Refuses run OutOfMemory answer
    ⊎ ((accepted : Result Accepted Fault) × IsAcceptedOf inputs octets accepted
    × AnswersWhere staff accepted run answer)

abbrev pub IsDispatched : Inputs → List ℕ → Streams → Result LogSums Fault → Type 0
IsDispatched inputs octets run answer = IsAnsweredBy a_dispatcher inputs octets run answer

-- ---- fronts

-- the number of fronts that a word spells
abbrev pub fronts_at : List ℕ → Result ℕ Fault
fronts_at word = count_at BadFronts MOST_FRONTS word

-- the same by that many fronts; where there is no number of them, its fault is returned
abbrev pub AreAnsweredBy : Result ℕ Fault → Inputs → List ℕ → Streams → Result FrontSums Fault → Type 0
AreAnsweredBy (Ok fronts) inputs octets run answer = IsAnsweredBy (so_many fronts) inputs octets run answer
AreAnsweredBy (Err e) inputs octets run answer = Refuses run e answer

abbrev pub IsDispatchedAt : List ℕ → Inputs → List ℕ → Streams → Result FrontSums Fault → Type 0
IsDispatchedAt word inputs octets run answer = AreAnsweredBy (fronts_at word) inputs octets run answer
