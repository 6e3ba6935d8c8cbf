use Rattle.hsp_price_check.specs.Classes.{service_of}
use Rattle.hsp_plan_tests.specs.Filling.{IsFilled}
use Rattle.hsp_plan_tests.proofs.filling.fill.Given as goal

abbrev pub invariant-loop-row : goal.invariant-loop-row
invariant-loop-row l =
    IsFilled (service_of l.costs l.instance) l.filling.arcs l.filling.rows l.filling.regions
