use Rattle.std.proofs.Common.{◌≡◌, List, subst, sym, true}
use Rattle.hsp_cert.specs.Certificate.{ascends}
use Rattle.hsp_price_text.specs.Claim.{Class, is_before}
use Rattle.hsp_price_check.specs.Extras.{pay_by}
use Rattle.hsp_prices.specs.Solved.{AreClassesBy}
use Rattle.hsp_price_plan.proofs.ClassesShown.{are_classes, are_in_order, if_both_ok}
use Rattle.hsp_price_plan.proofs.classes.classes_of.Goals as goal

pub returns-clause-classes : goal.returns-clause-classes
returns-clause-classes c =
    if_both_ok _ _ _ (λ classes is sorted.
    subst (AreClassesBy (pay_by c.args.extras.now) c.args.groups.now c.args.flows.now) (sym is)
    (are_classes (pay_by c.args.extras.now) c.args.groups.now c.args.flows.now c.in_ok-sums.sums.entries
    c.in_ok-sums.ensures sorted)) c.classes_in.result c.classes_in.ensures.classes c.classes_in.ensures.ordered

pub returns-clause-order : goal.returns-clause-order
returns-clause-order c =
    if_both_ok _ _ _ (λ classes is sorted.
    subst (λ (classes : List Class). ascends is_before classes ≡ true) (sym is)
    (are_in_order (pay_by c.args.extras.now) c.args.groups.now c.args.flows.now c.in_ok-sums.sums.entries
    c.in_ok-sums.ensures sorted)) c.classes_in.result c.classes_in.ensures.classes c.classes_in.ensures.ordered
