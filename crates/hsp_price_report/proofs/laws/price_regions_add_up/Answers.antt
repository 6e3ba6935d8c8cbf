use Rattle.hsp_price_report.proofs.Totals.{costs_add_up, demands_add_up}
use Rattle.hsp_price_report.proofs.laws.price_regions_add_up.Goals as goal

pub returns-clause-demands : goal.returns-clause-demands
returns-clause-demands c = demands_add_up

pub returns-clause-costs : goal.returns-clause-costs
returns-clause-costs c = costs_add_up
