use Rattle.std.proofs.Common.{◌≡◌, drop}
use Rattle.std.specs.Prelude.{nat_lt}
use Rattle.hsp_cert.specs.Certificate.{ascends, ascends_from}
use Rattle.hsp_cert.proofs.ranges.are_numbers_ascending.Given as goal

abbrev pub invariant-loop-next : goal.invariant-loop-next
invariant-loop-next l = ascends_from nat_lt l.last (drop l.next-index l.numbers) ≡ ascends nat_lt l.numbers
