use Rattle.std.proofs.Common.{◌≡◌, ◌<◌, ℕ, slice_index, slice_index_or, sum}
use Rattle.hsp_price_check.specs.Passed.{capped, no_class}
use Rattle.hsp_price_check.proofs.plan_verdict.are_asked_for.Given as goal

abbrev pub invariant-loop-place : goal.invariant-loop-place
invariant-loop-place l =
    (k : ℕ) → k < l.place
    → capped (sum (slice_index_or l.classes k no_class).amounts) ≡ slice_index l.asked k
