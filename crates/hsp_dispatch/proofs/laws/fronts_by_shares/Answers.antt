use Rattle.hsp_dispatch.proofs.FrontCounts.{as_dispatchers}
use Rattle.hsp_dispatch.proofs.FrontLaws as lemmas
use Rattle.hsp_log.proofs.FrontShares.{shares_add_up}
use Rattle.hsp_dispatch.proofs.laws.fronts_by_shares.Goals as goal

pub returns-clause-shares : goal.returns-clause-shares
returns-clause-shares c fronts some x row site = shares_add_up fronts (x row site) some

pub returns-clause-begin : goal.returns-clause-begin
returns-clause-begin c = lemmas.begins

pub returns-clause-answers : goal.returns-clause-answers
returns-clause-answers c = lemmas.answers_by_shares

pub returns-clause-each : goal.returns-clause-each
returns-clause-each c = as_dispatchers
