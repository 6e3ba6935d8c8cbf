use Rattle.std.proofs.Common.{◌≡◌, length}
use Rattle.hsp_price_text.specs.Lines.{turns_of}
use Rattle.hsp_price_text.proofs.Parts.{turns_before}
use Rattle.hsp_price_text.proofs.lexing.turns_of.Given as goal

abbrev pub invariant-turns : goal.invariant-turns
invariant-turns l = turns_of l.fn.numbers ≡ turns_before l.servers.items l.amounts.items (turns_of l.left)

abbrev pub decreases-turns : goal.decreases-turns
decreases-turns l = length l.left
