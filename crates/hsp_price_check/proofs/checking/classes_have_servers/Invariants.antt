use Rattle.std.proofs.Common.{◌<◌, ℕ, All, slice_index_or}
use Rattle.hsp_price_text.specs.Claim.{Class}
use Rattle.hsp_price_check.proofs.checking.classes_have_servers.Given as goal

abbrev pub invariant-loop-class : goal.invariant-loop-class
invariant-loop-class l =
    (k : ℕ) (d : Class) → k < l.class-index → All (λ j. j < l.count) (slice_index_or l.classes k d).servers
