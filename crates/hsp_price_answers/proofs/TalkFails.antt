-- What a run that answers reports of a talk that stopped.
use Rattle.std.proofs.Common.{◌⊎◌, inl, inr, Err}
use Rattle.hsp_talk.specs.Known.{IsHandedOn, Known}
use Rattle.hsp_talk.specs.Stopping.{MayStop, IsFailedWrite as HasFailedWrite}
use Rattle.hsp_talk.specs.declared.stop.Stop.{Stop}
use Rattle.hsp_talk.specs.declared.stop.Stop.TheVariants as stop
use Rattle.hsp_inputs.specs.Stopping.{IsFailedWrite, MayStopBy}
use Rattle.hsp_price_answers.specs.TalkFaults.{fault_of}
use Rattle.hsp_price_answers.specs.declared.asking.NoHeader.{NoHeader}

-- a stop is of what may fail
pub stop_may : (MayReadFail MaySendFail : Type 0) (old new : Known) (why : Stop NoHeader)
    → MayStop MayReadFail MaySendFail old new why → MayStopBy MayReadFail MaySendFail old new (fault_of why)
stop_may MayReadFail MaySendFail old new stop.ReadFailed may = may
stop_may MayReadFail MaySendFail old new stop.WriteFailed may = may
stop_may MayReadFail MaySendFail old new stop.OutOfMemory may = tt
stop_may MayReadFail MaySendFail old new (stop.Fault none) may = tt

-- a talk without a failed write handed on what it wrote
kept : {A : Type 0} (B : Type 0) → A ⊎ ⊥ → A ⊎ B
kept B (inl a) = inl a
kept B (inr none) = absurd none

-- a talk that stopped handed on all, or a write failed
pub stop_hands : (S : Type 0) (old new : Known) (why : Stop NoHeader)
    → IsHandedOn old new ⊎ HasFailedWrite {X = Unit {0}} (Err why)
    → IsHandedOn old new ⊎ IsFailedWrite {X = S} (Err (fault_of why))
stop_hands S old new stop.ReadFailed handed = kept ⊥ handed
stop_hands S old new stop.WriteFailed handed = handed
stop_hands S old new stop.OutOfMemory handed = kept ⊥ handed
stop_hands S old new (stop.Fault none) handed = kept ⊥ handed
