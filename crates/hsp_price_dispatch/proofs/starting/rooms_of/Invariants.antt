use Rattle.std.proofs.Common.{◌≡◌, ◌<◌, ◌+◌, ◌-◌, ℕ, length, slice_index}
use Rattle.hsp_log.specs.FrontShares.{share}
use Rattle.hsp_price_dispatch.proofs.starting.rooms_of.Given as goal

abbrev pub invariant-loop-place : goal.invariant-loop-place
invariant-loop-place l = record {
  many : length l.left.items ≡ l.place;
  each : (j : ℕ) → j < l.place
      → slice_index l.left.items j
      ≡ share l.front.fronts l.front.number (slice_index l.bounds j - slice_index l.loads j)
      + slice_index l.held.items j;
}
