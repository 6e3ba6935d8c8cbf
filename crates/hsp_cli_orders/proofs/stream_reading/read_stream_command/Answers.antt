use Rattle.std.proofs.Common.{◌∙◌, map, string_bytes, sym}
use Rattle.hsp_cli_orders.proofs.Matching.{of_command, of_others}
use Rattle.hsp_cli_orders.proofs.stream_reading.read_stream_command.Goals as goal

pub returns-in-None : goal.returns-in-None
returns-in-None c =
    let words = map string_bytes c.args.words.now in
    let ordered =
    of_command words c.command_order.result c.command_order.ensures.order c.command_order.ensures.taken
    c.command_order.ensures.usage in
    of_others words c.command_order.result (sym c.asked.ensures ∙ c.in-None.is) ordered
