use Rattle.std.proofs.Common.{◌≡◌, ℕ, ◌<◌, None, Some, slice_index_or}
use Rattle.hsp_network.proofs.network.hosts_are_below.Given as goal

abbrev pub invariant-loop-server : goal.invariant-loop-server
invariant-loop-server l = (j h : ℕ) → j < l.server → slice_index_or l.hosts j None ≡ Some h → h < l.bound
