-- What a set of sources may use, by flags.
use Rattle.std.specs.Prelude.{◌≡◌, ℕ, ◌<◌, Bool, List, length}
pub use Rattle.hsp_transport.specs.Lists.{AreRooms, flag_at, flagged_sum, free_sum, hosted_sum}
use Rattle.hsp_network.specs.Network.{Transport, numbered}
use Rattle.hsp_transport.specs.Cut.{reaches}

-- whether each server may be used by a flagged source
abbrev pub AreReached : Transport → List Bool → List Bool → Type 0
AreReached net set reached = (j : ℕ) → j < length reached →
    flag_at reached j ≡ reaches (numbered net) (flag_at set) j
