use Rattle.std.proofs.Common.{◌≡◌, ℕ, ◌<◌, ◌≤◌, ◌*◌, ◌^◌, length, slice_index}
use Rattle.hsp_transport.specs.Lists.{hosted}
use Rattle.hsp_check.proofs.sums.add_each_host.Given as goal

abbrev pub invariant-loop-server : goal.invariant-loop-server
invariant-loop-server l = record {
  sums : (h : ℕ) → h < length l.sums → slice_index l.sums h ≡ hosted l.server_hosts l.numbers l.server h;
  small : (h : ℕ) → h < length l.sums → slice_index l.sums h ≤ l.server * 2 ^ 100;
}
