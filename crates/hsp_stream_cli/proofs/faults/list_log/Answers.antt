use Rattle.std.proofs.Common.{inr}
use Rattle.hsp_stream.specs.declared.checker.Asked.TheVariants.{Log}
use Rattle.hsp_stream_cli.proofs.FaultLists.{ends_weaker}
use Rattle.hsp_stream_cli.proofs.faults.list_log.Goals as goal

pub returns-clause-lists : goal.returns-clause-lists
returns-clause-lists g c =
    inr (
      _,
      c.in_ok-log.ensures.held,
      ends_weaker _ _ g.O.Sink.may_fail Log _ (g.O.Write.contents c.args.out.now) (g.O.Write.contents c.list.new.out)
          c.list.result c.in_ok-log.ensures.reads c.list.ensures.ends,
    )
