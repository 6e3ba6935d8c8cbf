use Rattle.std.proofs.Common.{◌∙◌, ◌+◌, List, ap, drop, sym}
use Rattle.std.proofs.lemmas.List.{at_drop_more}
use Rattle.clap.specs.Words.{App, app_of}
use Rattle.hsp_cli_orders.specs.declared.tables.Subcommand.{Subcommand}
use Rattle.hsp_cli_orders.specs.Tables.{with_subcommands}
use Rattle.hsp_cli_orders.proofs.commands.with_subcommands.Goals as goal

pub loop-subcommand-preserved : goal.loop-subcommand-preserved
loop-subcommand-preserved c =
    let at = c.loop-subcommand.subcommand-index in
    let left =
    at_drop_more (λ (xs : List Subcommand). with_subcommands (app_of c.loop-subcommand.command) xs)
    c.args.subcommands.now at _ c.loop-subcommand-test.true in
    let one_more =
    ap (λ (app : App). with_subcommands app (drop (at + 1) c.args.subcommands.now)) c.in_ok-command.ensures in
    one_more ∙ sym left ∙ c.loop-subcommand.invariant
