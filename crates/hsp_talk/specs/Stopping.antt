-- Which failures a talk may report.
use Rattle.std.specs.Prelude.{◌≡◌, ◌⊎◌, ◌-◌, ◌^◌, ⊤, List, Result, Ok, Err, length}
use Rattle.hsp_talk.specs.Known.{Known, Went}
use Rattle.hsp_talk.specs.Talk.{Event, reads_in}
use Rattle.hsp_talk.specs.declared.stop.Stop.{Stop}
use Rattle.hsp_talk.specs.declared.stop.Stop.TheVariants as stop

-- as many reads were made as a talk makes
abbrev pub HasReadAll : List Event → Type 0
HasReadAll events = length (reads_in events) ≡ 2 ^ 64 - 1

-- a failed read is reported only where a read may fail, or no further one is made; a failed write only where a write
-- may fail
abbrev pub MayStop : {F : Type 0} → Type 0 → Type 0 → Known → Known → Stop F → Type 0
MayStop MayReadFail MaySendFail old new stop.ReadFailed = MayReadFail ⊎ Went old new HasReadAll
MayStop MayReadFail MaySendFail old new stop.WriteFailed = MaySendFail
MayStop MayReadFail MaySendFail old new stop.OutOfMemory = ⊤
MayStop MayReadFail MaySendFail old new (stop.Fault fault) = ⊤

-- a failed write is reported
abbrev pub IsFailedWrite : {X F : Type 0} → Result X (Stop F) → Type 0
IsFailedWrite (Ok done) = ⊥
IsFailedWrite (Err stop.ReadFailed) = ⊥
IsFailedWrite (Err stop.WriteFailed) = ⊤
IsFailedWrite (Err stop.OutOfMemory) = ⊥
IsFailedWrite (Err (stop.Fault fault)) = ⊥
