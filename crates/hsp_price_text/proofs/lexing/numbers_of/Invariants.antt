use Rattle.std.proofs.Common.{◌≡◌, length}
use Rattle.hsp_price_text.specs.Lines.{numbers_in}
use Rattle.hsp_price_text.proofs.Parts.{numbers_before}
use Rattle.hsp_price_text.proofs.lexing.numbers_of.Given as goal

abbrev pub invariant-parts : goal.invariant-parts
invariant-parts l = numbers_in l.fn.text ≡ numbers_before l.numbers.items (numbers_in l.left)

abbrev pub decreases-parts : goal.decreases-parts
decreases-parts l = length l.left
