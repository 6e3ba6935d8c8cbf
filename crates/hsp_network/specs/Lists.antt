-- What the lists of a network hold.
use Rattle.std.specs.Prelude.{◌≡◌, ℕ, ◌+◌, ◌<◌, ◌≤◌, List, Option, length, slice_index}
pub use Rattle.hsp_transport.specs.Lists.{AreIdle, AreWithin, HostsAreBelow}
use Rattle.hsp_transport.specs.Lists.{host_in}
use Rattle.hsp_transport.specs.Prices.{at_host}

abbrev pub AreBelow : ℕ → List ℕ → Type 0
AreBelow bound ends = (k : ℕ) → k < length ends → slice_index ends k < bound

abbrev pub AreOrdered : List ℕ → Type 0
AreOrdered ends = (j k : ℕ) → j ≤ k → k < length ends → slice_index ends j ≤ slice_index ends k

-- each is what a unit at the server costs beside the arc: the server's price and its host's
abbrev pub ArePaid : List (Option ℕ) → List ℕ → List ℕ → List ℕ → Type 0
ArePaid hosts p q paid =
    (j : ℕ) → j < length hosts → slice_index paid j ≡ slice_index p j + at_host (host_in hosts j) (λ h. slice_index q h)
