use Rattle.hsp_price_dispatch.proofs.ValidQueries as lemmas
use Rattle.hsp_price_dispatch.proofs.laws.costs_what_the_plan_does.Goals as goal

pub returns-clause-within : goal.returns-clause-within
returns-clause-within c = lemmas.valid_is_within_plan

pub returns-clause-costs : goal.returns-clause-costs
returns-clause-costs c = lemmas.costs_what_the_plan_does c.plan_is_shown.ensures
