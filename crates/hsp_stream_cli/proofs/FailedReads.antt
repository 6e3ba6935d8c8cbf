-- A reader may fail only where its file may.
use Rattle.std.proofs.Common.{◌≡◌, ◌⊎◌, inl, inr, List, ℕ, Option}
use Rattle.hsp_inputs.specs.Stopping.{MayStopReading}
use Rattle.hsp_inputs.specs.declared.stream_fault.StreamFault.{StreamFault}

-- so it is where a run stopped by a read
stops_weaker : (MayReadFail DiskFails Other : Type 0) (fault : StreamFault) → (MayReadFail → DiskFails)
    → MayStopReading MayReadFail fault ⊎ Other → MayStopReading DiskFails fault ⊎ Other
stops_weaker MayReadFail DiskFails Other fault weaker (inl (inl memory)) = inl (inl memory)
stops_weaker MayReadFail DiskFails Other fault weaker (inl (inr (may, is))) = inl (inr (weaker may, is))
stops_weaker MayReadFail DiskFails Other fault weaker (inr other) = inr other

-- and where what it gave was printed, or its fault returned
pub prints_weaker : (MayReadFail DiskFails Shown Unwritten : Type 0) (Other Returned : StreamFault → Type 0)
    → (MayReadFail → DiskFails)
    → Shown ⊎ ((fault : StreamFault) × (MayStopReading MayReadFail fault ⊎ Other fault) × Unwritten × Returned fault)
    → Shown ⊎ ((fault : StreamFault) × (MayStopReading DiskFails fault ⊎ Other fault) × Unwritten × Returned fault)
prints_weaker MayReadFail DiskFails Shown Unwritten Other Returned weaker (inl shown) = inl shown
prints_weaker MayReadFail DiskFails Shown Unwritten Other Returned weaker (inr (fault, stops, unwritten, returned)) =
    inr (fault, stops_weaker MayReadFail DiskFails (Other fault) fault weaker stops, unwritten, returned)
