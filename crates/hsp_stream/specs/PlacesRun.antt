-- A run that states the servers of the handles of a log.
use Rattle.std.specs.Prelude.{◌≡◌, ◌⊎◌, true, false, ℕ, List, is_some, Option, Ok, Err}
use Rattle.hsp_instance.specs.Instance.{Site}
use Rattle.hsp_inputs.specs.Readings.{AreSitesIn}
use Rattle.hsp_talk.specs.Known.{Known, Went}
use Rattle.hsp_talk.specs.Talk.{Event, HeldToTheEnd, StoppedBy}
use Rattle.hsp_talk.specs.declared.stop.Stop.{Stop}
use Rattle.hsp_talk.specs.declared.stop.Stop.TheVariants as stop
use Rattle.hsp_stream.specs.Places.{PlacesState, RefusesHandle, TakesHandle, at_start}
use Rattle.hsp_log.specs.declared.fault.RowFault.{RowFault}
use Rattle.hsp_log.specs.declared.fault.RowFault.TheVariants as row
use Rattle.hsp_inputs.specs.declared.stream_fault.StreamFault.{StreamFault}
use Rattle.hsp_inputs.specs.declared.stream_fault.StreamFault.TheVariants as fault

-- the responder took all rows until the end, from its start
abbrev pub AreTakenAll : List Site → PlacesState → List Event → Type 0
AreTakenAll sites last events = HeldToTheEnd TakesHandle (at_start sites) last events

-- all rows until the end were answered, and there was a header
abbrev pub AreAnswered : List Site → List Event → Type 0
AreAnswered sites events = (last : PlacesState) × AreTakenAll sites last events × (is_some last.form ≡ true)

-- the same, by settings and values, and by what is known of the peer before the run and after it
abbrev pub ArePlaced : List ℕ → Option (List ℕ) → Known → Known → Type 0
ArePlaced settings values old new =
    (sites : List Site) × AreSitesIn settings values (Ok sites) × Went old new (AreAnswered sites)

-- why a talk stopped, by the fault of the run
abbrev pub HasStopped : List Site → Stop RowFault → List Event → Type 0
HasStopped sites by events = (last : PlacesState) × StoppedBy TakesHandle RefusesHandle (at_start sites) last events by

-- At a row's fault the rows before it were answered. The fault of a header may also be that there was none until the
-- end.
abbrev pub IsStoppedBy : List Site → RowFault → List Event → Type 0
IsStoppedBy sites row.ReadFailed events =
    HasStopped sites stop.ReadFailed events ⊎ HasStopped sites (stop.Fault row.ReadFailed) events
IsStoppedBy sites row.WriteFailed events =
    HasStopped sites stop.WriteFailed events ⊎ HasStopped sites (stop.Fault row.WriteFailed) events
IsStoppedBy sites row.Header events =
    HasStopped sites (stop.Fault row.Header) events
    ⊎ ((last : PlacesState) × AreTakenAll sites last events × (is_some last.form ≡ false))
IsStoppedBy sites fault events = HasStopped sites (stop.Fault fault) events

-- The run has a fault. That of the settings or values comes before anything is received or sent.
abbrev pub ArePlacedUntil : List ℕ → Option (List ℕ) → Known → Known → StreamFault → Type 0
ArePlacedUntil settings values old new (fault.Input e) = AreSitesIn settings values (Err e) × (new ≡ old)
ArePlacedUntil settings values old new (fault.Log e) =
    (sites : List Site) × AreSitesIn settings values (Ok sites) × Went old new (IsStoppedBy sites e)
ArePlacedUntil settings values old new fault.OutOfMemory =
    (new ≡ old)
    ⊎ ((sites : List Site) × AreSitesIn settings values (Ok sites) × Went old new (HasStopped sites stop.OutOfMemory))
ArePlacedUntil settings values old new fault.BadFront = ⊥
ArePlacedUntil settings values old new (fault.Refused reason) = ⊥
ArePlacedUntil settings values old new fault.TooLarge = ⊥
