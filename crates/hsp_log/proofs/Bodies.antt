-- Bodies that are no request's.
use Rattle.std.proofs.Common.{◌≡◌, ℕ, List, Result, Ok, Err, refl}
use Rattle.hsp_record.specs.Fields.{Agrees}
use Rattle.hsp_record.specs.declared.fault.RecordFault.{RecordFault}
use Rattle.hsp_record.specs.declared.fault.RecordFault.TheVariants.{Truncated, Trailing, TooManyServers, IndexTwice}
use Rattle.hsp_record.specs.declared.fault.RecordFault.TheVariants.{OutOfMemory}

-- a fault of the octets doesn't agree with a handle
pub fault_is_another : (fault : RecordFault) (handle : List ℕ)
    → (◌≡◌ {A = Result (List ℕ) RecordFault} (Err fault) (Err OutOfMemory) → ⊥)
    → Agrees {A = List ℕ} (Err fault) (Ok handle) → ⊥
fault_is_another (Truncated at) handle not_memory agrees = cc agrees
fault_is_another (Trailing at) handle not_memory agrees = cc agrees
fault_is_another TooManyServers handle not_memory agrees = cc agrees
fault_is_another (IndexTwice index) handle not_memory agrees = cc agrees
fault_is_another OutOfMemory handle not_memory agrees = not_memory refl
