use Rattle.std.proofs.Common.{◌≡◌, ℕ, ◌<◌, length, slice_index}
use Rattle.hsp_network.specs.Sums.{hosted}
use Rattle.hsp_network.proofs.sums.add_hosts.Given as goal

abbrev pub invariant-loop-server : goal.invariant-loop-server
invariant-loop-server l = (h : ℕ) → h < length l.sums → slice_index l.sums h ≡ hosted l.hosts l.numbers l.server h
