use Rattle.hsp_dispatch.proofs.OverCalls as lemmas
use Rattle.hsp_dispatch.proofs.laws.over_all_calls.Goals as goal

pub returns-clause-dispatcher : goal.returns-clause-dispatcher
returns-clause-dispatcher c = lemmas.dispatcher_goes_on

pub returns-clause-fronts : goal.returns-clause-fronts
returns-clause-fronts c = lemmas.fronts_go_on
