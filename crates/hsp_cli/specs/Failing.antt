-- The failures of a command.
use Rattle.std.specs.Prelude.{◌≡◌, ⊤, Result, Err}
use Rattle.hsp_cli_orders.specs.declared.fault.CommandFault.{CommandFault}
use Rattle.hsp_cli_orders.specs.declared.fault.CommandFault.TheVariants as command_fault
use Rattle.hsp_cli.specs.declared.failure.Failure.{Failure}
use Rattle.hsp_cli.specs.declared.failure.Failure.TheVariants.{Usage, Memory, Read}
use Rattle.hsp_cli.specs.declared.failure.Unread.{Unread}
use Rattle.hsp_cli.specs.declared.failure.Unread.TheVariants as unread

-- words that are not a command, or memory ran out
abbrev pub failure_of : {F : Type 0} → CommandFault → Failure F
failure_of command_fault.Usage = Usage
failure_of command_fault.OutOfMemory = Memory

-- a file isn't read, or memory ran out
abbrev pub failure_to_read : {F : Type 0} → Unread → Failure F
failure_to_read unread.Read = Read
failure_to_read unread.Memory = Memory

-- a file isn't read, which may fail to be; or memory ran out
abbrev pub IsUnread : Type 0 → Unread → Type 0
IsUnread MayFail unread.Read = MayFail
IsUnread MayFail unread.Memory = ⊤

-- a command ended by that
abbrev pub LacksFile : {A F : Type 0} → Type 0 → Result A (Failure F) → Type 0
LacksFile MayFail ended = (why : Unread) × IsUnread MayFail why × (ended ≡ Err (failure_to_read why))
