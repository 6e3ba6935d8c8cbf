use Rattle.std.proofs.Common.{◌≡◌, ◌++◌, drop}
use Rattle.hsp_price_text.specs.Text.{numbered, spaced}
use Rattle.hsp_price_text.proofs.writing.push_numbered.Given as goal

abbrev pub invariant-loop-number : goal.invariant-loop-number
invariant-loop-number l =
    l.out.items ++ spaced (drop l.number-index l.numbers) ≡ l.fn.out.items ++ numbered l.word l.numbers
