use Rattle.std.proofs.Common.{◌+◌, slice_index}
use Rattle.hsp_network.specs.Layout.{Appends}
use Rattle.hsp_network.proofs.tables.push_shifted.Given as goal

abbrev pub invariant-loop-number : goal.invariant-loop-number
invariant-loop-number l =
    Appends l.fn.target.items l.target.items l.number-index (λ k. l.shift + slice_index l.numbers k)
