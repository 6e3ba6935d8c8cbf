use Rattle.std.proofs.Common.{Err, Ok, refl}
use Rattle.hsp_cli.proofs.Orders.{ends_by}
use Rattle.hsp_stream_cli.proofs.commands.run_command.Goals as goal

pub returns-clause-obeys : goal.returns-clause-obeys
returns-clause-obeys g c = (Ok c.in_ok-order.order, c.in_ok-order.ensures, c.carry_out.ensures.carries_out)

pub returns-in_err-order-clause-obeys : goal.returns-in_err-order-clause-obeys
returns-in_err-order-clause-obeys g c =
    (Err c.in_err-order.field-0.0, c.in_err-order.ensures, (refl, ends_by _ _ c.from_residual.ensures.1))
