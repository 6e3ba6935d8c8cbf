use Rattle.hsp_flow.proofs.Showing.{has_best, has_none, has_sums}
use Rattle.hsp_flow.proofs.planning.certify.Goals as goal

pub returns-in-Met-clause-best : goal.returns-in-Met-clause-best
returns-in-Met-clause-best c =
    has_best c.args.instance.now c.requires.within c.plan_certificate.result c.plan_certificate.ensures.valid

pub returns-in-Met-clause-prices : goal.returns-in-Met-clause-prices
returns-in-Met-clause-prices c =
    has_sums c.args.instance.now c.requires.within c.plan_certificate.result c.plan_certificate.ensures.valid

pub returns-in-Met-clause-none : goal.returns-in-Met-clause-none
returns-in-Met-clause-none c =
    has_none c.args.instance.now c.requires.within c.plan_certificate.result c.plan_certificate.ensures.valid

pub returns-in-Short-clause-best : goal.returns-in-Short-clause-best
returns-in-Short-clause-best c =
    has_best c.args.instance.now c.requires.within c.certify_short.result c.certify_short.ensures.valid

pub returns-in-Short-clause-prices : goal.returns-in-Short-clause-prices
returns-in-Short-clause-prices c =
    has_sums c.args.instance.now c.requires.within c.certify_short.result c.certify_short.ensures.valid

pub returns-in-Short-clause-none : goal.returns-in-Short-clause-none
returns-in-Short-clause-none c =
    has_none c.args.instance.now c.requires.within c.certify_short.result c.certify_short.ensures.valid
