use Rattle.hsp_price_answers.proofs.TalkEnds.{ended, ended_early, stopped}
use Rattle.hsp_price_answers.proofs.TalkFails.{stop_hands, stop_may}
use Rattle.hsp_price_answers.proofs.speaking.answer_rows.Goals as goal

pub returns-in-Some-clause-answered : goal.returns-in-Some-clause-answered
returns-in-Some-clause-answered g c =
    ended g.D.QueryDispatcher.Takes g.D.QueryDispatcher.sums_of c.args.responder.now c.requires.form c.requires.refused
    c.talk.new.responder c.in-Some.sums
    (g.P.Peer.known c.args.peer.now) (g.P.Peer.known c.talk.new.peer) c.in-Some.ensures.0
    c.in-Some.ensures.1 c.in-Ok.ensures.whole

pub returns-in-None-clause-answered : goal.returns-in-None-clause-answered
returns-in-None-clause-answered g c =
    ended_early g.D.QueryDispatcher.Takes g.D.QueryDispatcher.sums_of c.args.responder.now c.requires.form
    c.requires.refused c.talk.new.responder
    (g.P.Peer.known c.args.peer.now)
    (g.P.Peer.known c.talk.new.peer) c.in-None.ensures c.in-Ok.ensures.whole

pub returns-in-Err-clause-answered : goal.returns-in-Err-clause-answered
returns-in-Err-clause-answered g c =
    rw c.fault_of.ensures
    (stopped g.D.QueryDispatcher.Takes g.D.QueryDispatcher.sums_of c.args.responder.now c.requires.form
    c.requires.refused c.talk.new.responder (g.P.Peer.known c.args.peer.now)
    (g.P.Peer.known c.talk.new.peer) c.in-Err.stop c.in-Err.ensures.stops)

pub returns-in-Err-clause-handed : goal.returns-in-Err-clause-handed
returns-in-Err-clause-handed g c =
    rw c.fault_of.ensures
    (stop_hands g.row.D-Sums.Denot (g.P.Peer.known c.args.peer.now) (g.P.Peer.known c.talk.new.peer) c.in-Err.stop
    c.in-Err.ensures.handed)

pub returns-in-Err-clause-may_stop : goal.returns-in-Err-clause-may_stop
returns-in-Err-clause-may_stop g c =
    rw c.fault_of.ensures
    (stop_may (g.P.Peer.may_read_fail c.args.peer.now) g.P.Peer.may_send_fail (g.P.Peer.known c.args.peer.now)
    (g.P.Peer.known c.talk.new.peer) c.in-Err.stop c.in-Err.ensures.may_stop)
