-- What runs answer wherever inputs define an instance and octets spell a certificate that holds for it.
use Rattle.std.proofs.Common.{◌≡◌, ◌≢◌, ◌∙◌, ◌<◌, ◌≤◌, ◌⊎◌, inl, inr, ℕ, List, Result, Ok, Err, IfOk, IsErrAnd}
use Rattle.std.proofs.Common.{IsOkUnless, decimal, refl, ap, subst, sym, arith}
use Rattle.std.proofs.lemmas.Bool.{ne_eqb}
use Rattle.hsp_text.specs.declared.limits.TheConstants.{MOST_FRONTS}
use Rattle.hsp_tables.proofs.TableRows.{whole_is_read}
use Rattle.hsp_instance.specs.Instance.{Instance}
use Rattle.hsp_cert.specs.Certificate.{Best, Claim}
use Rattle.hsp_cert.specs.Certificate.Claim.{best, short}
use Rattle.hsp_cert.specs.Language.{Agrees}
use Rattle.hsp_cert.specs.Reading.{Means}
use Rattle.hsp_cert.specs.declared.fault.CertFault.{CertFault}
use Rattle.hsp_cert.specs.declared.fault.CertFault.TheVariants as cert_fault
use Rattle.hsp_check.specs.Instance.{network_of}
use Rattle.hsp_check.specs.Plan.{Plan}
use Rattle.hsp_check.specs.Uses.{table}
use Rattle.hsp_check.specs.declared.verdict.Verdict.{Verdict}
use Rattle.hsp_check.specs.declared.verdict.Verdict.TheVariants.{Yes}
use Rattle.hsp_dispatch.specs.Desks.{by_fronts, by_plan}
use Rattle.hsp_dispatch.specs.Dispatch.{all_of}
use Rattle.hsp_dispatch.specs.Runs.{Desk, Streams}
use Rattle.hsp_dispatch.specs.declared.answer.FrontSums.{FrontSums}
use Rattle.hsp_dispatch.specs.declared.answer.LogSums.{LogSums}
use Rattle.hsp_log.specs.declared.fault.LogFault.{LogFault}
use Rattle.hsp_log.specs.declared.fault.LogFault.TheVariants as log_fault
use Rattle.hsp_inputs.specs.FaultText.{fault_of_log}
use Rattle.hsp_inputs.specs.declared.fault.Fault.{Fault}
use Rattle.hsp_inputs.specs.declared.fault.Fault.TheVariants.{BadFronts, Log, OutOfMemory}
use Rattle.hsp_runs.specs.Always.{ReadsAlways}
use Rattle.hsp_inputs.specs.Counts.{above_none}
use Rattle.hsp_runs.specs.Dispatch.{AnswersAs, AnswersBy, EndsLog, Refuses, Staff, a_dispatcher, fronts_at, so_many}
use Rattle.hsp_inputs.specs.Headline.{Defines}
use Rattle.hsp_runs.specs.Shown.{ShowsOf, Holds, Shows, Spells}
use Rattle.hsp_runs.specs.Logs.{IsOkUnlessLog}
use Rattle.hsp_inputs.specs.Parts.{IsNamed}
use Rattle.hsp_runs.specs.Plan.{IsPlanText, Printed}
use Rattle.hsp_inputs.specs.Memory.{OrNoMemory}
use Rattle.hsp_runs.specs.declared.accepted.Accepted.{Accepted}
use Rattle.hsp_inputs.specs.declared.inputs.Inputs.{Inputs}

-- ---- a fault that is handed on

-- what holds of the fault that memory ran out holds of the answer
pub handed : {X : Type 0} (P : Result X Fault → Type 0) → P (Err OutOfMemory)
    → (answer : Result X Fault) (fault : Fault)
    → IsErrAnd answer (λ e. e ≡ fault) → fault ≡ OutOfMemory → P answer
handed P holds (Ok x) fault is memory = absurd is
handed P holds (Err e) fault is memory = rw (is ∙ memory) holds

-- ---- what is read

-- what is read of a text whose reading this claim is
reads_always : (octets : List ℕ) (given : Claim)
    → ((other : Result Claim CertFault) → Means octets other → Agrees (Ok given) other) → ReadsAlways octets (Ok given)
reads_always octets given only claim is text =
    let same : ◌≡◌ {A = Result Claim CertFault} (Ok given) (Ok claim) = only (Ok claim) (is, text) in cc (same)

-- a text with a fault spells no certificate
reads_none : (octets : List ℕ) (fault : CertFault) (named : Fault) → fault ≢ cert_fault.OutOfMemory
    → ((other : Result Claim CertFault) → Means octets other → Agrees (Err fault) other)
    → ReadsAlways octets (Err named)
reads_none octets cert_fault.OutOfMemory named apart only claim is text = absurd (apart refl)
reads_none octets (cert_fault.BadLine n) named apart only claim is text =
    let none : ◌≡◌ {A = Result Claim CertFault} (Err (cert_fault.BadLine n)) (Ok claim) = only (Ok claim) (is, text) in
    cc (none)
reads_none octets cert_fault.Ended named apart only claim is text =
    let none : ◌≡◌ {A = Result Claim CertFault} (Err cert_fault.Ended) (Ok claim) = only (Ok claim) (is, text) in
    cc (none)
reads_none octets (cert_fault.AfterEnd n) named apart only claim is text =
    let none : ◌≡◌ {A = Result Claim CertFault} (Err (cert_fault.AfterEnd n)) (Ok claim) = only (Ok claim) (is, text) in
    cc (none)

-- where a text spells a certificate its reading is this one, or memory ran out, and so is what the run answers by it
pub reads_named : (octets : List ℕ) (Names : CertFault → Fault → Type 0) (read : Result Claim CertFault)
    (answer : Result Claim Fault) → IsNamed Names cert_fault.OutOfMemory read answer
    → ((other : Result Claim CertFault) → Means octets other → Agrees read other) → ReadsAlways octets answer
reads_named octets Names (Ok given) answer is only = rw is (reads_always octets given only)
reads_named octets Names (Err fault) (Ok given) is only = absurd is
reads_named octets Names (Err fault) (Err named) (inl (out, is)) only = λ claim spells text. is
reads_named octets Names (Err fault) (Err named) (inr (apart, is)) only = reads_none octets fault named apart only

-- ---- what is judged

-- the claim that was read is this one, and it holds for the instance that was read
pub held_read : (octets : List ℕ) (it given : Instance) (claim read : Claim) → given ≡ it → read ≡ claim
    → Spells octets it claim → Holds (network_of given) read
held_read octets it given claim read same one spells =
    subst (λ k. Holds (network_of k) read) (sym same) (subst (λ k. Holds (network_of it) k) (sym one) spells.holds)

-- a Yes for the instance that the inputs define is one for the inputs
pub checked_shows : (inputs : Inputs) (octets : List ℕ) (it : Instance) (answer : Result Verdict Fault)
    → Defines inputs it
    → IfOk answer (λ verdict. verdict ≡ Yes → Shows octets it)
    → IfOk answer (λ verdict. verdict ≡ Yes → ShowsOf inputs octets)
checked_shows inputs octets it (Ok verdict) page shows = λ yes. (it, page, shows yes)
checked_shows inputs octets it (Err e) page shows = tt

-- ---- what is planned

-- a plan is printed, or memory ran out
pub planned_always : (it : Instance) (answer : Result Printed Fault) → OrNoMemory (IsPlanText it) answer
    → IsOkUnless answer OutOfMemory
planned_always it (Ok text) is = tt
planned_always it (Err e) (inl memory) = memory
planned_always it (Err e) (inr none) = absurd none

-- ---- logs

-- a run that ran out of memory has no other fault
refused_always : {S : Type 0} (run : Streams) (answer : Result S Fault) → Refuses run OutOfMemory answer
    → IsOkUnlessLog answer
refused_always run answer refused = subst (λ r. IsOkUnlessLog r) (sym refused.1) (inl refl)

-- what is reported of a fault of a log
abbrev IsOfLog : Fault → Type 0
IsOfLog fault = (fault ≡ OutOfMemory) ⊎ ((of : LogFault) × (fault ≡ Log of))

-- a fault of the log is one of the log
is_of_log : (fault : LogFault) → IsOfLog (fault_of_log fault)
is_of_log log_fault.OutOfMemory = inl refl
is_of_log fault = inr (fault, refl)

-- a run over a log has no fault but of the log or of memory
ends_always : {S : Type 0} (all : S → FrontSums) (run : Streams) (answer : Result S Fault) (desk : Desk)
    → EndsLog all run answer desk → IsOkUnlessLog answer
ends_always all run (Ok sums) desk ends = tt
ends_always all run (Err e) desk (fault, is, stops) = subst IsOfLog (sym is) (is_of_log fault)

-- whoever answers by the plan of what is accepted ends, or stops by a fault of the log
module _ {S : Type 0} (staff : Staff S) (run : Streams) (answer : Result S Fault)
    (ends : (it : Instance) (x : Plan) → staff.At it x (EndsLog staff.all run answer) → IsOkUnlessLog answer) where
  -- so has a run by the certificate of a plan
  by_claim : (it : Instance) (claim : Claim) (plan : Best) → claim ≡ best plan → AnswersAs staff it claim run answer
      → IsOkUnlessLog answer
  by_claim it (best c) plan is answered = ends it (table c.uses) answered
  by_claim it (short c) plan is refused = cc (is)

  -- so has a run by an accepted plan
  pub answered_always : (accepted : Accepted) (plan : Best) → accepted.certificate ≡ best plan
      → AnswersBy staff accepted run answer
      → IsOkUnlessLog answer
  answered_always accepted plan is (inl refused) = refused_always run answer refused
  answered_always accepted plan is (inr answered) = by_claim accepted.instance accepted.certificate plan is answered

-- so has a dispatcher's run
pub dispatched_always : (run : Streams) (answer : Result LogSums Fault) (accepted : Accepted) (plan : Best)
    → accepted.certificate ≡ best plan
    → AnswersBy a_dispatcher accepted run answer → IsOkUnlessLog answer
dispatched_always run answer =
    answered_always a_dispatcher run answer (λ it x (held, left, same, end). ends_always all_of run answer
    (by_plan it held left) end)

-- so has a run of fronts
pub dispatched_at_always : (fronts : ℕ) (run : Streams) (answer : Result FrontSums Fault) (accepted : Accepted)
    (plan : Best)
    → accepted.certificate ≡ best plan → AnswersBy (so_many fronts) accepted run answer → IsOkUnlessLog answer
dispatched_at_always fronts run answer =
    answered_always (so_many fronts) run answer (λ it x (old, new, are, end). ends_always (λ sums. sums) run answer
    (by_fronts old new) end)

-- a word that spells a number of fronts has no fault
number_read : (word : List ℕ) (fronts : ℕ) → word ≡ decimal fronts → 0 < fronts → fronts ≤ MOST_FRONTS
    → fronts_at word ≡ Ok fronts
number_read word fronts is some few =
    let whole = whole_is_read MOST_FRONTS fronts (omega arith) few in
    let above : above_none BadFronts (Ok fronts) ≡ Ok fronts = rw (ne_eqb fronts 0 (λ e. omega (arith, e))) refl in
    ap (λ w. fronts_at w) is ∙ ap (λ r. above_none BadFronts r) whole ∙ above

-- the decimal of a number of fronts within the limits is no bad word
pub no_fault : {C : Type 0} (word : List ℕ) (fronts : ℕ) (fault : Fault) → word ≡ decimal fronts → 0 < fronts
    → fronts ≤ MOST_FRONTS → fronts_at word ≡ Err fault → C
no_fault word fronts fault is some few none = let both = sym (number_read word fronts is some few) ∙ none in cc (both)
