-- How the results of runs are answered.
use Rattle.std.specs.Prelude.{◌≡◌, ◌⊎◌, ⊤, ℕ, Bool, true, false, List, Vec, Result, Ok, Err, IfOk}
use Rattle.std.specs.declared.alloc.Global.{Global}
use Rattle.hsp_check.specs.declared.verdict.Verdict.{Verdict}
use Rattle.hsp_check.specs.declared.verdict.Verdict.TheVariants.{Yes}
use Rattle.hsp_runs.specs.Check.{IsChecked, ShowsOf}
use Rattle.hsp_runs.specs.Plan.{IsPlanned, Printed}
use Rattle.hsp_inputs.specs.declared.inputs.Inputs.{Inputs}
use Rattle.hsp_runs.specs.VerdictText.{verdict_status, verdict_text}
use Rattle.hsp_inputs.specs.declared.fault.Fault.{Fault}
use Rattle.hsp_inputs.specs.declared.fault.Fault.TheVariants.{OutOfMemory}
use Rattle.hsp_cli.specs.declared.answer.Answer.{Answer}
use Rattle.hsp_cli.specs.declared.failure.Failure.{Failure}
use Rattle.hsp_cli.specs.declared.failure.Failure.TheVariants.{Memory, Refused}

-- a text, and the status to end with after it
pub record Reply : Type 0 where
  pub text : List ℕ
  pub status : ℕ

abbrev pub text_reply : List ℕ → Reply
text_reply text = record { text = text; status = 0 }

abbrev pub fields_reply : Vec ℕ Global → Reply
fields_reply text = text_reply text.items

-- 3 after a shortage
abbrev pub plan_status : Bool → ℕ
plan_status true = 3
plan_status false = 0

abbrev pub plan_reply : Printed → Reply
plan_reply plan = record { text = plan.octets; status = plan_status plan.is_short }

abbrev pub verdict_reply : Verdict → Reply
verdict_reply verdict = record { text = verdict_text verdict; status = verdict_status verdict }

-- the plan of the inputs, which is best, or there is no feasible plan
abbrev pub IsShownPlan : Inputs → Result Printed Fault → Type 0
IsShownPlan inputs planned = IsPlanned inputs planned × IfOk planned (λ plan. ShowsOf inputs plan.octets)

-- the verdict on a certificate, where Yes says the same of its plan
abbrev pub IsShownVerdict : Inputs → List ℕ → Result Verdict Fault → Type 0
IsShownVerdict inputs octets checked =
    IsChecked inputs octets checked × IfOk checked (λ verdict. verdict ≡ Yes → ShowsOf inputs octets)

-- an answer, or why there is none
abbrev pub Answered : Type 0
Answered = Result Answer (Failure Fault)

abbrev pub IsReply : Reply → Answer → Type 0
IsReply reply answer = (answer.text.items ≡ reply.text) × (answer.status ≡ reply.status)

-- the result of a run is one that stands, and answered so; or its fault is answered; or memory ran out
abbrev pub IsAnswered : {X : Type 0} → (X → Reply) → (Result X Fault → Type 0) → Answered → Type 0
IsAnswered {X} reply Is (Ok answer) = (x : X) × Is (Ok x) × IsReply (reply x) answer
IsAnswered reply Is (Err (Refused fault)) = (fault ≡ OutOfMemory) ⊎ Is (Err fault)
IsAnswered reply Is (Err Memory) = ⊤
IsAnswered reply Is (Err failure) = ⊥
