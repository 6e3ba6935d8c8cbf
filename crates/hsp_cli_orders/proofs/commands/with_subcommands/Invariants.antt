use Rattle.std.proofs.Common.{◌≡◌, drop}
use Rattle.clap.specs.Words.{app_of}
use Rattle.hsp_cli_orders.specs.Tables.{with_subcommands}
use Rattle.hsp_cli_orders.proofs.commands.with_subcommands.Given as goal

abbrev pub invariant-loop-subcommand : goal.invariant-loop-subcommand
invariant-loop-subcommand l =
    with_subcommands (app_of l.command) (drop l.subcommand-index l.subcommands)
    ≡ with_subcommands (app_of l.fn.command) l.subcommands
