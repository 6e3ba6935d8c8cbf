use Rattle.std.proofs.Common.{◌≡◌, ◌++◌, drop}
use Rattle.hsp_cert.specs.Text.{unlines}
use Rattle.hsp_price_text.specs.Text.{price_lines}
use Rattle.hsp_price_text.proofs.writing.push_prices.Given as goal

abbrev pub invariant-loop-number : goal.invariant-loop-number
invariant-loop-number l =
    l.out.items ++ unlines (price_lines l.word l.number (drop l.number l.prices))
    ≡ l.fn.out.items ++ unlines (price_lines l.word 0 l.prices)
