use Rattle.std.proofs.Common.{◌≡◌, drop}
use Rattle.std.specs.List.{list_all}
use Rattle.hsp_price_text.specs.Claim.{is_class}
use Rattle.hsp_price_text.proofs.ranges.are_classes.Given as goal

abbrev pub invariant-loop-class : goal.invariant-loop-class
invariant-loop-class l = list_all is_class (drop l.class-index l.classes) ≡ list_all is_class l.classes
