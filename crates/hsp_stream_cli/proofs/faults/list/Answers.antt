use Rattle.hsp_stream_cli.proofs.FaultLists.{failed_ends, list_ends}
use Rattle.hsp_stream_cli.proofs.faults.list.Goals as goal

pub returns-in-Ok-clause-ends : goal.returns-in-Ok-clause-ends
returns-in-Ok-clause-ends g c =
    list_ends (g.R.Source.may_read_fail c.args.text) g.O.Sink.may_fail c.args.asked (g.R.Read.remaining c.args.text) _
    (g.O.Write.contents c.faults_run.new.writer) _ c.hand_on_list.result c.in-Ok.some c.in-Ok.ensures.listed
    c.hand_on_list.ensures.kept c.hand_on_list.ensures.ended

pub returns-in-Err-clause-ends : goal.returns-in-Err-clause-ends
returns-in-Err-clause-ends g c =
    failed_ends (g.R.Source.may_read_fail c.args.text) g.O.Sink.may_fail c.args.asked (g.R.Read.remaining c.args.text) _
    (g.O.Write.contents c.faults_run.new.writer) _ c.hand_on_failed.result c.in-Err.stop c.in-Err.ensures.may_stop
    c.in-Err.ensures.begun c.hand_on_failed.ensures.kept (rw c.stopped_by.ensures at c.hand_on_failed.ensures.ended)
