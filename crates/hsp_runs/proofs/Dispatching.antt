-- Runs over logs that end, or stop.
use Rattle.std.proofs.Common.{◌≡◌, ℕ, Result, Ok, Err, IfOk, ap, sym}
use Rattle.std.specs.Prelude.{IfErr, IsErrAnd, MatchResult}
use Rattle.hsp_instance.specs.Instance.{Instance}
use Rattle.hsp_cert.specs.Certificate.{Best, Claim}
use Rattle.hsp_cert.specs.Certificate.Claim.{best, short}
use Rattle.hsp_check.specs.Plan.{Plan}
use Rattle.hsp_dispatch.specs.Desks.{by_fronts, by_plan}
use Rattle.hsp_dispatch.specs.Dispatch.{IsSame, all_of}
use Rattle.hsp_dispatch.specs.Fronts.{AreFrontsOf, Tables}
use Rattle.hsp_dispatch.specs.Runs.{Desk, EndsWhole, Stops, Streams}
use Rattle.hsp_dispatch.specs.Shares.{plan_of}
use Rattle.hsp_dispatch.specs.declared.answer.FrontSums.{FrontSums}
use Rattle.hsp_dispatch.specs.declared.answer.LogSums.{LogSums}
use Rattle.hsp_log.specs.declared.fault.LogFault.{LogFault}
use Rattle.hsp_log.specs.declared.fault.LogFault.TheVariants as log_fault
use Rattle.hsp_runs.specs.Accepted.{plan_in}
use Rattle.hsp_runs.specs.Dispatch.{AnswersAs, EndsLog, IsBeforeLog, a_dispatcher, so_many}
use Rattle.hsp_inputs.specs.FaultText.{fault_of_log}
use Rattle.hsp_inputs.specs.declared.fault.Fault.{Fault}

-- a result that is of this fault
pub is_fault : {A : Type 0} (answer : Result A Fault) (fault : Fault) → IsErrAnd answer (λ e. e ≡ fault)
    → Err fault ≡ answer
is_fault (Ok x) fault is = absurd is
is_fault (Err e) fault is = sym (ap (λ f. Err f) is)

-- the answer is what a run over a log answers, with its fault as it is reported
abbrev pub IsReported : {S : Type 0} → Result S LogFault → Result S Fault → Type 0
IsReported given answer =
    MatchResult given (λ sums. answer ≡ Ok sums) (λ fault. IsErrAnd answer (λ e. e ≡ fault_of_log fault))

-- a run reports how it ended
ends_log : {S : Type 0} (all : S → FrontSums) (desk : Desk) (run : Streams) (given : Result S LogFault)
    (answer : Result S Fault) → IsReported given answer
    → IfOk given (λ sums. EndsWhole desk run (all sums)) → IfErr given (Stops desk run) → EndsLog all run answer desk
ends_log all desk run (Ok sums) answer same whole stops = rw same whole
ends_log all desk run (Err fault) (Ok sums) same whole stops = absurd same
ends_log all desk run (Err fault) (Err e) same whole stops = (fault, same, stops)

-- the log was answered by the claim's plan
pub answered : (it : Instance) (claim : Claim) (plan : Best) (x left : Plan) (run : Streams)
    (given : Result LogSums LogFault) (answer : Result LogSums Fault)
    → plan_in claim ≡ Ok plan → IsSame x (plan_of claim) → IsReported given answer
    → IfOk given (λ sums. EndsWhole (by_plan it x left) run (all_of sums))
    → IfErr given (Stops (by_plan it x left) run) → AnswersAs a_dispatcher it claim run answer
answered it (best c) plan x left run given answer is same told whole stops =
    (x, left, same, ends_log all_of (by_plan it x left) run given answer told whole stops)
answered it (short c) plan x left run given answer is same told whole stops = cc

-- by fronts that share it
pub answered_at : (it : Instance) (claim : Claim) (plan : Best) (fronts : ℕ) (old new : Tables) (run : Streams)
    (given : Result FrontSums LogFault)
    (answer : Result FrontSums Fault) → plan_in claim ≡ Ok plan → AreFrontsOf it (plan_of claim) fronts old
    → IsReported given answer
    → IfOk given (EndsWhole (by_fronts old new) run) → IfErr given (Stops (by_fronts old new) run)
    → AnswersAs (so_many fronts) it claim run answer
answered_at it (best c) plan fronts old new run given answer is are told whole stops =
    (old, new, are, ends_log (λ sums. sums) (by_fronts old new) run given answer told whole stops)
answered_at it (short c) plan fronts old new run given answer is are told whole stops = cc

-- ---- faults before the log

module _ (P : Type 0) where
  -- a fault of the log does not come before the log
  late : (fault : LogFault) (e : Fault) → e ≡ fault_of_log fault → IsBeforeLog e → P
  late log_fault.OutOfMemory e told before = absurd (before.memory told)
  late fault e told before = absurd (before.log fault told)

  -- a run over a log reports no fault that comes before the log
  pub none_before : {S : Type 0} (given : Result S LogFault) (answer : Result S Fault) → IsReported given answer
      → IfErr answer (λ e. IsBeforeLog e → P)
  none_before (Ok sums) answer same = rw same tt
  none_before (Err fault) (Ok sums) same = absurd same
  none_before (Err fault) (Err e) same = late fault e same
