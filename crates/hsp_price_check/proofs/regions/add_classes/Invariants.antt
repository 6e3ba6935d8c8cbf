use Rattle.std.proofs.Common.{◌≡◌, ◌+◌, take}
use Rattle.hsp_price_check.specs.Classes.{service_of}
use Rattle.hsp_price_check.specs.Passed.{capped}
use Rattle.hsp_price_check.specs.Regions.{classes_sum}
use Rattle.hsp_price_check.proofs.regions.add_classes.Given as goal

abbrev pub invariant-loop-class : goal.invariant-loop-class
invariant-loop-class l =
    l.all ≡ capped (l.sum + classes_sum (service_of l.costs l.instance) (take l.class-index l.classes) l.region)
