use Rattle.std.proofs.Common.{◌≡◌, ◌+◌, ◌<◌, ◌≤◌, ℕ, length, slice_index}
use Rattle.hsp_prices.specs.Solved.{flow_to}
use Rattle.hsp_price_plan.proofs.classes.add_flows.Given as goal

-- the flows are added at the places so far
abbrev pub invariant-loop-place : goal.invariant-loop-place
invariant-loop-place l = record {
  many : length l.amounts ≡ length l.fn.amounts;
  before : (k : ℕ) → k < l.place
      → slice_index l.amounts k
      ≡ slice_index l.fn.amounts k + flow_to (slice_index l.servers k) (l.group, l.flows);
  behind : (k : ℕ) → l.place ≤ k → slice_index l.amounts k ≡ slice_index l.fn.amounts k;
}
