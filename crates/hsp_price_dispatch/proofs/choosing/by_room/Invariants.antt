use Rattle.std.proofs.Common.{◌≡◌, drop}
use Rattle.hsp_price_dispatch.specs.Choosing.{by_room}
use Rattle.hsp_price_dispatch.proofs.choosing.by_room.Given as goal

-- no arc so far leads to free room
abbrev pub invariant-loop-arc : goal.invariant-loop-arc
invariant-loop-arc l = by_room l.holding (drop l.arc-index l.least) ≡ by_room l.holding l.least
