use Rattle.hsp_report.proofs.RegionTotals as lemmas
use Rattle.hsp_report.proofs.laws.regions_add_up.Goals as goal

pub returns-clause-demands : goal.returns-clause-demands
returns-clause-demands c = lemmas.demands_add_up

pub returns-clause-costs : goal.returns-clause-costs
returns-clause-costs c = lemmas.costs_add_up
