-- What a row of a table says.
use Rattle.std.specs.Prelude.{List, Bool, fold, map}
use Rattle.clap.specs.Words.{App, Rule, new_app, with_subcommand}
use Rattle.clap.specs.declared.builder.command.Command.{Command}
use Rattle.clap.specs.declared.builder.command.Command.TheViews.{out-Command}
use Rattle.hsp_cli_orders.specs.declared.tables.Argument.{Argument}
use Rattle.hsp_cli_orders.specs.declared.tables.Argument.TheVariants as argument
use Rattle.hsp_cli_orders.specs.declared.tables.Subcommand.{Subcommand}
use Rattle.hsp_cli_orders.specs.Commands.{needed, option, with_rules, word}

abbrev pub rule_for : Argument → Rule
rule_for (argument.Optional name) = option name.now
rule_for (argument.Needed name) = needed name.now
rule_for (argument.Word name) = word name.now

-- the command of a row: first the arguments for its inputs, then its own
abbrev pub app_for : Subcommand → App
app_for s = with_rules (with_rules (new_app s.name.now) (map rule_for s.inputs.now)) (map rule_for s.others.now)

abbrev pub with_subcommands : App → List Subcommand → App
with_subcommands app subcommands = fold (λ app s. with_subcommand app (app_for s).top) app subcommands

abbrev pub has_globals_of : Command → Bool
has_globals_of c = (out-Command c).has_globals
