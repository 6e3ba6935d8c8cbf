use Rattle.hsp_price_check.specs.Classes.{service_of}
use Rattle.hsp_plan_tests.specs.Filling.{IsFilled}
use Rattle.hsp_plan_tests.proofs.filling.fill_numbered.Given as goal

abbrev pub invariant-loop-number : goal.invariant-loop-number
invariant-loop-number l =
    IsFilled (service_of l.costs l.instance) l.filling.arcs l.filling.rows l.filling.regions
