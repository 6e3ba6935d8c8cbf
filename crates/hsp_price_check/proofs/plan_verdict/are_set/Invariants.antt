use Rattle.std.proofs.Common.{◌≡◌, ◌<◌, true, Bool, ℕ, slice_index_or}
use Rattle.hsp_price_check.proofs.plan_verdict.are_set.Given as goal

abbrev pub invariant-loop-flag : goal.invariant-loop-flag
invariant-loop-flag l = (k : ℕ) (d : Bool) → k < l.flag-index → slice_index_or l.flags k d ≡ true
