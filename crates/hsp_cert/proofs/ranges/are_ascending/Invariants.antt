use Rattle.std.proofs.Common.{◌≡◌, drop}
use Rattle.hsp_cert.specs.Certificate.{is_before, ascends, ascends_from}
use Rattle.hsp_cert.proofs.ranges.are_ascending.Given as goal

abbrev pub invariant-loop-next : goal.invariant-loop-next
invariant-loop-next l = ascends_from is_before l.last (drop l.next-index l.uses) ≡ ascends is_before l.uses
