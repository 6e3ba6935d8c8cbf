use Rattle.std.proofs.Common.{◌≡◌, drop, false, map}
use Rattle.clap.specs.Words.{app_of}
use Rattle.hsp_cli_orders.specs.Commands.{with_rules}
use Rattle.hsp_cli_orders.specs.Tables.{has_globals_of, rule_for}
use Rattle.hsp_cli_orders.proofs.commands.with_arguments.Given as goal

abbrev pub invariant-loop-argument : goal.invariant-loop-argument
invariant-loop-argument l =
    (with_rules (app_of l.command) (map rule_for (drop l.argument-index l.arguments))
    ≡ with_rules (app_of l.fn.command) (map rule_for l.arguments))
    × (has_globals_of l.command ≡ false)
