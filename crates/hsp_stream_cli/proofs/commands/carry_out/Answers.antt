use Rattle.hsp_stream_cli.proofs.commands.carry_out.Goals as goal

pub returns-in-Places-clause-carries_out : goal.returns-in-Places-clause-carries_out
returns-in-Places-clause-carries_out g c = rw c.in-Places.is c.state_places.ensures.states

pub returns-in-Answer-clause-carries_out : goal.returns-in-Answer-clause-carries_out
returns-in-Answer-clause-carries_out g c = rw c.in-Answer.is c.answer_priced.ensures.answers

pub returns-in-Check-clause-carries_out : goal.returns-in-Check-clause-carries_out
returns-in-Check-clause-carries_out g c = rw c.in-Check.is c.check_prices.ensures.checks

pub returns-in-Report-clause-carries_out : goal.returns-in-Report-clause-carries_out
returns-in-Report-clause-carries_out g c = rw c.in-Report.is c.report_prices.ensures.reports

pub returns-in-Plan-clause-carries_out : goal.returns-in-Plan-clause-carries_out
returns-in-Plan-clause-carries_out g c = rw c.in-Plan.is c.plan_log.ensures.plans

pub returns-in-Interfaces-clause-carries_out : goal.returns-in-Interfaces-clause-carries_out
returns-in-Interfaces-clause-carries_out g c = rw c.in-Interfaces.is c.list_interfaces.ensures.lists
