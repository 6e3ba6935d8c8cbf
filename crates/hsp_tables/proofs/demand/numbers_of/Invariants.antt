use Rattle.std.proofs.Common.{◌≡◌, map, take}
use Rattle.hsp_tables.specs.Keyed.{pair_of}
use Rattle.hsp_tables.proofs.demand.numbers_of.Given as goal

abbrev pub invariant-loop-number : goal.invariant-loop-number
invariant-loop-number l = l.numbers ≡ map pair_of (take l.number l.rows.entries)
