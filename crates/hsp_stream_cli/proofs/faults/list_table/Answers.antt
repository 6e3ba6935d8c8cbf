use Rattle.std.proofs.Common.{Some, inr}
use Rattle.hsp_stream_cli.specs.Faults.{asked_for}
use Rattle.hsp_stream_cli.proofs.FaultLists.{ends_weaker, holds_table, table_reads}
use Rattle.hsp_stream_cli.proofs.faults.list_table.Goals as goal

pub returns-clause-lists : goal.returns-clause-lists
returns-clause-lists g c =
    let disk = g.S.FileSource.disk c.args.files.now in
    inr (
      Some c.in_ok-text.text.items,
      holds_table disk c.args.of _ _ c.requires c.in_ok-text.ensures.octets,
      ends_weaker _ _ g.O.Sink.may_fail (asked_for c.args.of) (Some c.in_ok-text.text.items)
          (g.O.Write.contents c.args.out.now) (g.O.Write.contents c.list.new.out) c.list.result
          (table_reads disk c.args.of _ c.requires)
          (rw (c.asked_for.ensures, c.as_slice.ensures.value) at c.list.ensures.ends),
    )
