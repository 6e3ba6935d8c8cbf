use Rattle.hsp_tables.proofs.TableKinds as lemmas
use Rattle.hsp_tables.proofs.laws.reading_is_the_relation.Goals as goal

pub returns-clause-demand : goal.returns-clause-demand
returns-clause-demand c = lemmas.demand_is_its_relation

pub returns-clause-costs : goal.returns-clause-costs
returns-clause-costs c = lemmas.costs_are_their_relation

pub returns-clause-capacity : goal.returns-clause-capacity
returns-clause-capacity c = lemmas.capacities_are_their_relation
