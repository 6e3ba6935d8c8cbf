use Rattle.std.proofs.Common.{◌≡◌, ℕ, ◌<◌, ◌==◌, ◌&&◌, length, take}
use Rattle.std.specs.List.{list_any}
use Rattle.hsp_check.specs.ArcFlows.{flag_at}
use Rattle.hsp_check.proofs.shortage.flag_each.Given as goal

abbrev pub invariant-loop-place : goal.invariant-loop-place
invariant-loop-place l =
    (j : ℕ) → j < length l.reached
    → flag_at l.reached j ≡ list_any (λ a. flag_at l.rows a.arc.row && a.arc.server == j) (take l.place l.arc_flows)
