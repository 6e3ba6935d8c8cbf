use Rattle.std.proofs.Common.{Err, Ok, ap, map, refl}
use Rattle.std.specs.Prelude.{string_bytes}
use Rattle.hsp_cli.proofs.Orders.{ends_by, refused}
use Rattle.hsp_cli.proofs.commands.run_command.Goals as goal

pub returns-clause-obeys : goal.returns-clause-obeys
returns-clause-obeys g c = (
  Ok c.in_ok-order.order,
  (c.in_ok-order.ensures.taken, c.in_ok-order.ensures.order),
  c.carry_out.ensures.carries_out,
)

pub returns-in_err-order-clause-obeys : goal.returns-in_err-order-clause-obeys
returns-in_err-order-clause-obeys g c =
    let fault = c.in_err-order.field-0.0 in (
      Err fault,
      refused (map string_bytes c.args.words.now) fault (λ q. c.in_err-order.ensures.usage (ap (λ f. Err f) q)),
      (refl, ends_by _ _ c.from_residual.ensures.1),
    )
