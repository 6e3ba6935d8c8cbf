use Rattle.std.proofs.Common.{◌≡◌}
use Rattle.std.specs.Prelude.{filter}
use Rattle.std.specs.List.{range_with_len}
use Rattle.hsp_check.specs.ArcFlows.{flag_at}
use Rattle.hsp_check.proofs.reaching.flagged.Given as goal

abbrev pub invariant-loop-place : goal.invariant-loop-place
invariant-loop-place l = l.places.items ≡ filter (flag_at l.flags) (range_with_len 0 l.place)
