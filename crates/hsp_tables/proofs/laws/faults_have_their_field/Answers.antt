use Rattle.hsp_tables.proofs.FaultyLaws as lemmas
use Rattle.hsp_tables.proofs.laws.faults_have_their_field.Goals as goal

pub returns-clause-demand : goal.returns-clause-demand
returns-clause-demand c = lemmas.demand_has_its_field

pub returns-clause-costs : goal.returns-clause-costs
returns-clause-costs c = lemmas.costs_have_their_field

pub returns-clause-capacity : goal.returns-clause-capacity
returns-clause-capacity c = lemmas.capacities_have_their_field
