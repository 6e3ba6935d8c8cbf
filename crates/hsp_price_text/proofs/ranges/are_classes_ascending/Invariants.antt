use Rattle.std.proofs.Common.{◌≡◌, drop}
use Rattle.std.specs.Prelude.{option_map}
use Rattle.hsp_cert.specs.Certificate.{ascends, ascends_from}
use Rattle.hsp_price_text.specs.Claim.{is_before}
use Rattle.hsp_price_text.proofs.ranges.are_classes_ascending.Given as goal

abbrev pub invariant-loop-next : goal.invariant-loop-next
invariant-loop-next l =
    ascends_from is_before (option_map (λ c. c.now) l.last) (drop l.next-index l.classes)
    ≡ ascends is_before l.classes
