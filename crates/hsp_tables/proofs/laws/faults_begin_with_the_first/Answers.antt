use Rattle.hsp_tables.proofs.FaultyLaws as lemmas
use Rattle.hsp_tables.proofs.laws.faults_begin_with_the_first.Goals as goal

pub returns-clause-demand : goal.returns-clause-demand
returns-clause-demand c = lemmas.demand_begins

pub returns-clause-costs : goal.returns-clause-costs
returns-clause-costs c = lemmas.costs_begin

pub returns-clause-capacity : goal.returns-clause-capacity
returns-clause-capacity c = lemmas.capacities_begin
