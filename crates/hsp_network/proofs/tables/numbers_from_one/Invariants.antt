use Rattle.std.proofs.Common.{◌+◌, ◌-◌, []}
use Rattle.hsp_network.specs.Layout.{Appends}
use Rattle.hsp_network.proofs.tables.numbers_from_one.Given as goal

abbrev pub invariant-loop-number : goal.invariant-loop-number
invariant-loop-number l = Appends [] l.numbers.items (l.number - 1) (λ k. 1 + k)
