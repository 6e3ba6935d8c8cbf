-- What a run over a log shows of a plan, by a dispatcher or by fronts that share the plan, and that each plan that
-- holds answers logs.
use Rattle.std.specs.Prelude.{◌≡◌, ◌≢◌, ◌≤◌, ◌<◌, ◌⊎◌, ℕ, List, decimal, map, Result, Ok, Err, IfErr}
use Rattle.hsp_text.specs.declared.limits.TheConstants.{MOST_FRONTS}
use Rattle.hsp_csv.specs.Records.{Fields}
use Rattle.hsp_instance.specs.Instance.{Instance}
use Rattle.hsp_cert.specs.Certificate as certificates
use Rattle.hsp_cert.specs.Certificate.Claim.{best}
use Rattle.hsp_check.specs.Plan.{Plan}
use Rattle.hsp_log.specs.RowChecks.{RefusesEvent}
use Rattle.hsp_dispatch.specs.Desks.{by_plan}
use Rattle.hsp_log.specs.Entries.{Entry, Event, entries_at}
use Rattle.hsp_dispatch.specs.Dispatch.{all_of, answer_to, answers, assigned_in}
use Rattle.hsp_dispatch.specs.Fronts.{answers_at, assigned_by_all, front_answers, front_sums_of, share_of}
use Rattle.hsp_dispatch.specs.Laws.{IsByHash}
use Rattle.hsp_dispatch.specs.Lines.{front_line}
use Rattle.hsp_log.specs.Log.{AreEvents, front_header}
use Rattle.hsp_dispatch.specs.Runs.{Desk, EndsWhole, StopsInLine, StopsSomewhere, Streams}
use Rattle.hsp_dispatch.specs.declared.answer.FrontAnswer.TheVariants.{Answered}
use Rattle.hsp_dispatch.specs.declared.answer.FrontSums.{FrontSums}
use Rattle.hsp_dispatch.specs.declared.answer.LogSums.{LogSums}
use Rattle.hsp_log.specs.declared.fault.LogFault.{LogFault}
use Rattle.hsp_inputs.specs.Headline.{Defines}
use Rattle.hsp_runs.specs.Shown.{ShowsPlan, Spells}
use Rattle.hsp_inputs.specs.FaultText.{fault_of_log}
use Rattle.hsp_inputs.specs.declared.fault.Fault.{Fault}
use Rattle.hsp_inputs.specs.declared.fault.Fault.TheVariants.{Log, OutOfMemory}
use Rattle.hsp_inputs.specs.declared.inputs.Inputs.{Inputs}

-- A run answered the log to its end, and the sums count the answers; or it stopped at a fault, when it had
-- answered rows from the log's beginning and written their lines, of the last one perhaps a part. The fault is
-- reported as the log's, unless memory ran out. Of a log or a writer whose octets no one can know, as a file's,
-- it says less: some rows were answered so.
abbrev pub Ends : {S : Type 0} → (S → FrontSums) → Streams → Result S Fault → Desk → Type 0
Ends all run (Ok sums) desk = EndsWhole desk run (all sums)
Ends all run (Err e) desk =
    (fault : LogFault) × (e ≡ fault_of_log fault) × (StopsSomewhere desk run ⊎ StopsInLine desk run)

-- The plan answered the log, or its beginning. Of any entries no more of a row are assigned to a site than
-- the plan sends there, each to the server that is responsible for its handle by the site's hash option.
pub record IsLogOf (run : Streams) (answer : Result LogSums Fault) (it : Instance) (x : Plan) : Type 0 where
  pub left : Plan
  pub answered : Ends all_of run answer (by_plan it x left)
  pub within : (entries : List Entry) (row site : ℕ) → assigned_in it x entries row site ≤ x row site
  pub by_hash : (earlier : List Entry) (entry : Entry) → IsByHash it entry (answer_to it x earlier entry)

-- the rows spell events, each answered by the share of its front
abbrev pub AnswersByShares : Instance → ℕ → Plan → List Fields → List (List ℕ) → FrontSums → Type 0
AnswersByShares it fronts x rows lines sums =
    (events : List Event) × AreEvents rows events
    × (lines ≡ map (front_line it) (front_answers it fronts x events))
    × (sums ≡ front_sums_of (front_answers it fronts x events))

abbrev pub by_shares : Instance → ℕ → Plan → Desk
by_shares it fronts x = record {
  header = λ form. front_header;
  Answers = λ form. AnswersByShares it fronts x;
  Refuses = RefusesEvent;
}

-- So many fronts answered the log, or its beginning, each as a dispatcher that holds its share of the plan.
-- All together they assign no more of a row to a site than the plan sends there.
pub record IsLogAt (fronts : ℕ) (run : Streams) (answer : Result FrontSums Fault) (it : Instance) (x : Plan)
    : Type 0 where
  pub answered : Ends (λ sums. sums) run answer (by_shares it fronts x)
  pub each : (events : List Event) (front : ℕ) → front < fronts
      → answers_at front events (front_answers it fronts x events)
      ≡ map Answered (answers it (share_of fronts front x) (entries_at front events))
  pub within : (events : List Event) (row site : ℕ) → assigned_by_all it fronts x events row site ≤ x row site
  pub by_hash : (front : ℕ) (earlier : List Entry) (entry : Entry)
      → IsByHash it entry (answer_to it (share_of fronts front x) earlier entry)

-- there is a fault that is not the log's, and nothing is written
pub record IsRefused {S : Type 0} (run : Streams) (answer : Result S Fault) : Type 0 where
  pub unwritten : run.after ≡ run.before
  pub fault : Fault
  pub is : answer ≡ Err fault
  pub before : (of : LogFault) → fault ≢ Log of

-- by the best plan of such a certificate it is so
abbrev pub ShowsPlanOf : Inputs → List ℕ → (Instance → Plan → Type 0) → Type 0
ShowsPlanOf inputs octets Is =
    (instance : Instance) × Defines inputs instance × ShowsPlan octets instance (Is instance)

-- `dispatch` is refused and writes nothing, or such a plan answers the log, all of it or up to a fault
abbrev pub ShowsLogOf : Inputs → List ℕ → Streams → Result LogSums Fault → Type 0
ShowsLogOf inputs octets run answer = IsRefused run answer ⊎ ShowsPlanOf inputs octets (IsLogOf run answer)

-- `fronts` likewise, by as many fronts as the word spells
abbrev pub ShowsFrontsOf : List ℕ → Inputs → List ℕ → Streams → Result FrontSums Fault → Type 0
ShowsFrontsOf word inputs octets run answer =
    IsRefused run answer
    ⊎ ((fronts : ℕ) × (word ≡ decimal fronts) × (0 < fronts) × (fronts ≤ MOST_FRONTS)
    × ShowsPlanOf inputs octets (IsLogAt fronts run answer))

-- ---- what runs over logs always answer

-- the only faults are those of the log, and that memory ran out
abbrev pub IsOkUnlessLog : {S : Type 0} → Result S Fault → Type 0
IsOkUnlessLog answer = IfErr answer (λ fault. (fault ≡ OutOfMemory) ⊎ ((of : LogFault) × (fault ≡ Log of)))

-- where the inputs define an instance, and the octets spell a plan that holds for it, `dispatch` answers the log, up to
-- a fault of the log at most, or until memory runs out
abbrev pub DispatchesAlways : {S : Type 0} → Inputs → List ℕ → Result S Fault → Type 0
DispatchesAlways inputs octets answer =
    (instance : Instance) (plan : certificates.Best) → Defines inputs instance → Spells octets instance (best plan)
    → IsOkUnlessLog answer

-- and so does `fronts`, where moreover the word spells a number of fronts
abbrev pub DispatchesAtAlways : {S : Type 0} → List ℕ → Inputs → List ℕ → Result S Fault → Type 0
DispatchesAtAlways word inputs octets answer =
    (fronts : ℕ) → word ≡ decimal fronts → 0 < fronts → fronts ≤ MOST_FRONTS → DispatchesAlways inputs octets answer
