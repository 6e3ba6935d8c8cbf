use Rattle.std.proofs.Common.{◌∙◌, ap}
use Rattle.std.proofs.lemmas.Result.{IfOk-weaker}
use Rattle.clap.specs.Words.{App, app_of, with_subcommand}
use Rattle.hsp_cli_orders.proofs.commands.with_subcommand.Goals as goal

pub returns : goal.returns
returns c =
    let made = ap (λ (app : App). with_subcommand (app_of c.args.command) app.top) c.in_ok-command_of.ensures.app in
    IfOk-weaker c.subcommand.result _ _ (λ new h. h.shape c.in_ok-command_of.ensures.local ∙ made) c.subcommand.ensures
