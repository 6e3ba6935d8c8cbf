use Rattle.std.proofs.Common.{◌≡◌, ℕ, ◌+◌, ◌-◌, ◌<◌, length, slice_index}
use Rattle.hsp_network.proofs.answer.price_drops.Given as goal

abbrev pub invariant-loop-arc : goal.invariant-loop-arc
invariant-loop-arc l =
    (length l.prices.items ≡ l.arc - l.start)
    × ((j : ℕ) → j < l.arc - l.start
    → slice_index l.prices.items j
    ≡ slice_index l.price (slice_index l.arcs.tails.now (l.start + j)) - slice_index l.price
    (slice_index l.arcs.heads.now (l.start + j)))
