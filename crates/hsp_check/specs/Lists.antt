-- What lists of a network's numbers hold.
use Rattle.std.specs.Prelude.{◌≡◌, ℕ, ◌<◌, ◌==◌, Bool, List, length, slice_index, sum_by, if◌then◌else◌}
use Rattle.hsp_check.specs.declared.sums.ArcFlow.{ArcFlow}
use Rattle.hsp_check.specs.declared.sums.End.{End}
use Rattle.hsp_check.specs.ArcFlows.{end_of}
use Rattle.hsp_transport.specs.Lists.{flag_at}
pub use Rattle.hsp_transport.specs.Lists.{AreHosted, AreIdle, AreRooms, AreWithin, AreZero, HostsAreBelow, flagged_sum}
pub use Rattle.hsp_transport.specs.Lists.{free_sum, hosted_sum}

-- each sum is what is asked for
abbrev pub AreMet : List ℕ → List ℕ → Type 0
AreMet demands sums = (i : ℕ) → i < length demands → slice_index sums i ≡ slice_index demands i

-- each of the first `count` numbers is below the bound
abbrev pub AreSmall : ℕ → ℕ → List ℕ → Type 0
AreSmall bound count numbers = (v : ℕ) → v < count → slice_index numbers v < bound

-- each of the first `count` flags is set exactly for the members of a set
abbrev pub AreFlagsOf : (ℕ → Bool) → ℕ → List Bool → Type 0
AreFlagsOf set count flags = (i : ℕ) → i < count → flag_at flags i ≡ set i

-- each of `count` sums is what goes through the row, or through the server
abbrev pub AreEndSums : End → List ArcFlow → ℕ → List ℕ → Type 0
AreEndSums end arc_flows count sums = (v : ℕ) → v < count →
    slice_index sums v ≡ sum_by (λ l. if end_of end l.arc == v then l.flow else 0) arc_flows
