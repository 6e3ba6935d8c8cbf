use Rattle.std.proofs.Common.{take}
use Rattle.hsp_price_check.specs.ClassNumbers.{HasClasses}
use Rattle.hsp_price_check.proofs.finding.class_numbers.Given as goal

abbrev pub invariant-loop-number : goal.invariant-loop-number
invariant-loop-number l = HasClasses (take l.number l.classes) l.numbers.entries
