use Rattle.std.proofs.Common.{◌≡◌, ◌<◌, ◌==◌, ℕ, length, slice_index, take}
use Rattle.hsp_price_check.specs.Passed.{capped}
use Rattle.hsp_price_dispatch.specs.Holding.{left_where}
use Rattle.hsp_price_dispatch.proofs.starting.held_at_servers.Given as goal

abbrev pub invariant-loop-cell : goal.invariant-loop-cell
invariant-loop-cell l = record {
  many : length l.held.items ≡ l.count;
  each : (j : ℕ) → j < l.count
      → slice_index l.held.items j ≡ capped (left_where (λ k. k == j) (take l.cell-index l.cells));
}
