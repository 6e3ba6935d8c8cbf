use Rattle.std.proofs.Common.{◌≡◌, drop}
use Rattle.std.specs.List.{list_all}
use Rattle.hsp_cert.specs.Certificate.{is_use}
use Rattle.hsp_cert.proofs.ranges.are_uses.Given as goal

abbrev pub invariant-loop-one : goal.invariant-loop-one
invariant-loop-one l = list_all is_use (drop l.one-index l.uses) ≡ list_all is_use l.uses
