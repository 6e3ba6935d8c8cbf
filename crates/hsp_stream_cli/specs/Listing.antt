-- Tables of service interfaces.
use Rattle.std.specs.Prelude.{◌≡◌, ◌⊎◌, ℕ, List, Option, option_map, Result, Ok, Err}
use Rattle.hsp_cli.specs.declared.failure.Failure.TheVariants.{Refused}
use Rattle.hsp_inputs.specs.declared.fault.Fault.{Fault}
use Rattle.hsp_inputs.specs.declared.fault.Fault.TheVariants.{OutOfMemory}
use Rattle.hsp_stream.specs.Interfaces.{AreInterfacesIn}
use Rattle.hsp_inputs.specs.Faults.{fault_of_input}
use Rattle.hsp_stream_cli.specs.Printing.{Ended, PrintsText}
use Rattle.hsp_stream_cli.specs.declared.files.Sources.{Sources}

-- the table of the sites that settings and values define, or their first fault
abbrev pub AreInterfacesOf : Sources → Result (List ℕ) Fault → Type 0
AreInterfacesOf sources = AreInterfacesIn sources.settings.items (option_map (λ v. v.items) sources.values)

-- The table is printed. Or nothing was written, and the fault is returned, or that memory ran out.
abbrev pub PrintsInterfaces : Type 0 → Sources → Option (List ℕ) → Option (List ℕ) → Ended → Type 0
PrintsInterfaces MayFail sources old new ended =
    ((text : List ℕ) × AreInterfacesOf sources (Ok text) × PrintsText MayFail text old new ended)
    ⊎ ((fault : Fault) × ((fault ≡ OutOfMemory) ⊎ AreInterfacesOf sources (Err fault)) × (new ≡ old)
    × (ended ≡ Err (Refused (fault_of_input fault))))
