-- Faults before a log is read are not the log's.
use Rattle.std.proofs.Common.{◌≡◌, ◌≢◌, ℕ, List, Option, Some, None, Result, Ok, Err}
use Rattle.hsp_text.specs.Answers.{Then, fault_as}
use Rattle.hsp_instance.specs.Instance.{Instance}
use Rattle.hsp_cert.specs.Certificate.{Claim}
use Rattle.hsp_log.specs.declared.fault.LogFault.{LogFault}
use Rattle.hsp_runs.specs.Accepted.{IsAccepted, IsAcceptedOf}
use Rattle.hsp_runs.specs.Check.{IsCertificate}
use Rattle.hsp_inputs.specs.Instance.{BuildsInstance, IsInstanceOf, ReadsCapacitiesOn, ReadsCostsOn, ReadsValuesOn}
use Rattle.hsp_inputs.specs.Instance.{ReadsDemand, ReadsDemandOn}
use Rattle.hsp_inputs.specs.Readings.{AreListed, ReadsValues}
use Rattle.hsp_inputs.specs.declared.fault.Fault.{Fault}
use Rattle.hsp_inputs.specs.declared.fault.Fault.TheVariants.{Build, Capacity, Cert, Costs, Demand, Log, Settings}
use Rattle.hsp_inputs.specs.declared.fault.Fault.TheVariants.{Values}
use Rattle.hsp_inputs.specs.declared.inputs.Inputs.{Inputs}

-- no fault that the relation has is the log's
abbrev pub HasNoLog : {A : Type 0} → (Result A Fault → Type 0) → Type 0
HasNoLog Is = (fault : Fault) (of : LogFault) → Is (Err fault) → fault ≡ Log of → ⊥

-- two steps without a fault of the log have none together
then_none : {A B : Type 0} (First : Result A Fault → Type 0) (Next : A → Result B Fault → Type 0) → HasNoLog First
    → ((a : A) → HasNoLog (Next a))
    → HasNoLog (Then First Next)
then_none First Next first next fault of (Ok a, is, after) e = next a fault of after e
then_none First Next first next fault of (Err own, is, same) e =
    let own_is : own ≡ Log of = cc (same, e) in first own of is own_is

-- a part's fault is not the log's
no_log_fault : {A E : Type 0} (part : E → Fault) → ((own : E) (of : LogFault) → part own ≢ Log of)
    → (reading : Result A E) (fault : Fault) (of : LogFault)
    → ◌≡◌ {A = Result A Fault} (Err fault) (fault_as part reading) → fault ≡ Log of → ⊥
no_log_fault part apart (Ok x) fault of same e = cc (same)
no_log_fault part apart (Err own) fault of same e = let own_is : part own ≡ Log of = cc (same, e) in apart own of own_is

-- values have no fault of the log
listed_none : (octets : List ℕ) → HasNoLog (AreListed octets)
listed_none octets fault of is e = no_log_fault Values (λ own from same. cc (same)) is.0 fault of is.3 e

-- nor have values that may be left out
values_none : (octets : Option (List ℕ)) → HasNoLog (ReadsValues octets)
values_none None fault of is e = cc (is)
values_none (Some octets) fault of (Ok values, listed, same) e = cc (same)
values_none (Some octets) fault of (Err own, listed, same) e = listed_none octets own of listed (cc (same, e))

-- nor have rows that may be left out
demand_none : (given : Option (List ℕ)) → HasNoLog (ReadsDemand given)
demand_none None fault of is e = cc (is)
demand_none (Some octets) fault of is e = no_log_fault Demand (λ own from same. cc (same)) _ fault of is e

-- nor has an instance
instance_none : (inputs : Inputs) → HasNoLog (IsInstanceOf inputs)
instance_none inputs =
    then_none _ (ReadsValuesOn inputs)
    (λ fault of is e. no_log_fault Settings (λ own from same. cc (same)) _ fault of is e) (λ settings.
    then_none _ (ReadsDemandOn inputs settings) (values_none _) (λ values.
    then_none _ (ReadsCostsOn inputs settings values) (demand_none _) (λ demand.
    then_none _ (ReadsCapacitiesOn inputs settings values demand)
    (λ fault of is e. no_log_fault Costs (λ own from same. cc (same)) _ fault of is e) (λ costs.
    then_none _
    (λ capacities.
    BuildsInstance
    (record { settings = settings; values = values; demand = demand; costs = costs; capacities = capacities }))
    (λ fault of is e. no_log_fault Capacity (λ own from same. cc (same)) _ fault of is e)
    (λ capacities fault of is e. no_log_fault Build (λ own from same. cc (same)) is.0 fault of is.2 e)))))

-- nor has a certificate
accepted_none : (it : Instance) (claim : Claim) → HasNoLog (IsAccepted it claim)
accepted_none it claim fault of is e = rw e at is

-- nor has what comes before the log
pub no_log : (inputs : Inputs) (octets : List ℕ) → HasNoLog (IsAcceptedOf inputs octets)
no_log inputs octets =
    then_none (IsInstanceOf inputs) (λ instance. Then (IsCertificate octets) (IsAccepted instance))
    (instance_none inputs) (λ it.
    then_none (IsCertificate octets) (IsAccepted it)
    (λ fault of is e. no_log_fault Cert (λ own from same. cc (same)) is.0 fault of is.3 e) (accepted_none it))
