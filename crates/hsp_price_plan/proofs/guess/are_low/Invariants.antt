use Rattle.std.proofs.Common.{ℕ, ◌<◌, ◌≤◌, slice_index}
use Rattle.hsp_price_plan.proofs.guess.are_low.Given as goal

abbrev pub invariant-loop-extra : goal.invariant-loop-extra
invariant-loop-extra l = (k : ℕ) → k < l.extra-index → slice_index l.extras k ≤ 2000000000000
