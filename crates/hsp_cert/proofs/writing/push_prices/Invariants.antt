use Rattle.std.proofs.Common.{◌≡◌, ◌++◌, map, drop}
use Rattle.hsp_cert.specs.Text.{line_of, unlines, price_items}
use Rattle.hsp_cert.proofs.writing.push_prices.Given as goal

abbrev pub invariant-loop-number : goal.invariant-loop-number
invariant-loop-number l =
    l.out.items ++ unlines (map line_of (price_items l.word l.number (drop l.number l.prices))) ≡ l.fn.out.items
    ++ unlines (map line_of (price_items l.word 0 l.prices))
