use Rattle.std.proofs.Common.{◌≡◌, sum_by, take}
use Rattle.hsp_prices.specs.Sums.{class_cost}
use Rattle.hsp_price_check.specs.Classes.{service_of}
use Rattle.hsp_price_check.specs.Passed.{capped}
use Rattle.hsp_price_check.proofs.class_costs.class_costs.Given as goal

abbrev pub invariant-loop-class : goal.invariant-loop-class
invariant-loop-class l =
    l.sum ≡ capped (sum_by (class_cost (service_of l.costs l.instance)) (take l.class-index l.classes))
