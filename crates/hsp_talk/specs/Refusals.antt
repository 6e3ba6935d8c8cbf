-- Why a responder does not take a row.
use Rattle.std.specs.Prelude.{⊤}
use Rattle.hsp_talk.specs.declared.stop.Refusal.{Refusal}
use Rattle.hsp_talk.specs.declared.stop.Refusal.TheVariants as refusal
use Rattle.hsp_talk.specs.declared.stop.Stop.{Stop}
use Rattle.hsp_talk.specs.declared.stop.Stop.TheVariants as stop

-- a fault of which this holds, or memory ran out
abbrev pub IsRefusal : {F : Type 0} → (F → Type 0) → Refusal F → Type 0
IsRefusal Holds (refusal.Fault fault) = Holds fault
IsRefusal Holds refusal.OutOfMemory = ⊤

-- why a talk stops when a responder does not take a row
abbrev pub stop_by : {F : Type 0} → Refusal F → Stop F
stop_by (refusal.Fault fault) = stop.Fault fault
stop_by refusal.OutOfMemory = stop.OutOfMemory
