use Rattle.std.proofs.Common.{◌≡◌, drop}
use Rattle.std.specs.List.{list_all}
use Rattle.hsp_price_text.specs.Claim.{is_amount}
use Rattle.hsp_price_text.proofs.ranges.are_amounts.Given as goal

abbrev pub invariant-loop-amount : goal.invariant-loop-amount
invariant-loop-amount l = list_all is_amount (drop l.amount-index l.amounts) ≡ list_all is_amount l.amounts
