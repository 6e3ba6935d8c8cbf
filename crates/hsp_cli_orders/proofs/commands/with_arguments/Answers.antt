use Rattle.std.proofs.Common.{◌∙◌, ◌+◌, List, ap, drop, map, sym}
use Rattle.std.proofs.lemmas.List.{at_drop_more}
use Rattle.clap.specs.Words.{App, app_of, with_rule}
use Rattle.hsp_cli_orders.specs.declared.tables.Argument.{Argument}
use Rattle.hsp_cli_orders.specs.Commands.{with_rules}
use Rattle.hsp_cli_orders.specs.Tables.{rule_for}
use Rattle.hsp_cli_orders.proofs.commands.with_arguments.Goals as goal

pub loop-argument-preserved : goal.loop-argument-preserved
loop-argument-preserved c =
    let at = c.loop-argument.argument-index in
    let added =
    c.in_ok-command.ensures.shape c.arg_of.ensures.local
    ∙ ap (with_rule (app_of c.loop-argument.command)) c.arg_of.ensures.rule in
    let left =
    at_drop_more (λ (xs : List Argument). with_rules (app_of c.loop-argument.command) (map rule_for xs))
    c.args.arguments.now at _ c.loop-argument-test.true in
    let one_more = ap (λ (app : App). with_rules app (map rule_for (drop (at + 1) c.args.arguments.now))) added in (
      one_more ∙ sym left ∙ c.loop-argument.invariant.0,
      rw (c.loop-argument.invariant.1, c.arg_of.ensures.local) at c.in_ok-command.ensures.globals,
    )
