-- Why runs over logs stop.
use Rattle.std.specs.Prelude.{◌≡◌, ◌⊎◌, ⊤, Result, Err}
use Rattle.hsp_log.specs.declared.fault.RowFault.TheVariants.{ReadFailed, WriteFailed}
use Rattle.hsp_inputs.specs.declared.stream_fault.StreamFault.{StreamFault}
use Rattle.hsp_inputs.specs.declared.stream_fault.StreamFault.TheVariants.{Log, OutOfMemory}
use Rattle.hsp_talk.specs.Known.{Known, Went}
use Rattle.hsp_talk.specs.Stopping.{HasReadAll}

-- memory ran out, or a read failed, where one may
abbrev pub MayStopReading : Type 0 → StreamFault → Type 0
MayStopReading MayFail fault = (fault ≡ OutOfMemory) ⊎ (MayFail × (fault ≡ Log ReadFailed))

-- A failed read is reported only where a read may fail, or no further one is made; a failed write only where a write
-- may fail.
abbrev pub MayStopBy : Type 0 → Type 0 → Known → Known → StreamFault → Type 0
MayStopBy MayReadFail MaySendFail old new (Log ReadFailed) = MayReadFail ⊎ Went old new HasReadAll
MayStopBy MayReadFail MaySendFail old new (Log WriteFailed) = MaySendFail
MayStopBy MayReadFail MaySendFail old new fault = ⊤

-- a failed write is reported
abbrev pub IsFailedWrite : {X : Type 0} → Result X StreamFault → Type 0
IsFailedWrite (Err (Log WriteFailed)) = ⊤
IsFailedWrite result = ⊥
