use Rattle.std.proofs.Common.{◌∙◌}
use Rattle.hsp_instance.proofs.Reading.{read_more}
use Rattle.hsp_log.specs.Lines.{server_line}
use Rattle.hsp_log.proofs.lines.ServerLines.for_instance.Goals as goal

pub loop-server-preserved : goal.loop-server-preserved
loop-server-preserved c =
    c.in_ok-push.ensures.items
    ∙ read_more (server_line c.args.instance.now) _ _ _ _ c.in_ok-line_of.ensures c.loop-server.invariant
