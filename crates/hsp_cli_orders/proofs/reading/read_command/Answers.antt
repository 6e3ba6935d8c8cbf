use Rattle.std.proofs.Common.{Ok, Err, map, string_bytes}
use Rattle.std.proofs.lemmas.Result.{IfOk-weaker}
use Rattle.clap.specs.declared.parser.matches.ArgMatches.{ArgMatches}
use Rattle.hsp_cli_orders.specs.Commands.{hsplan_app}
use Rattle.hsp_cli_orders.proofs.Shapes.{is_free-hsplan, is_simple-hsplan}
use Rattle.hsp_cli_orders.proofs.Matching.{fails_by, has_fault, met, met_none, of_orders}
use Rattle.hsp_cli_orders.proofs.reading.read_command.Goals as goal

pub returns-in-Some-clause-order : goal.returns-in-Some-clause-order
returns-in-Some-clause-order c =
    let e =
    met c.in-Ok.matches (map string_bytes c.args.words.now) _ _ _ hsplan_app is_simple-hsplan c.in-Some.ensures.name
    c.in-Some.ensures.rows c.in_ok-command.ensures c.in-Ok.ensures.matches in
    IfOk-weaker c.order_of.result _ _ (λ o h. rw e h) c.order_of.ensures.order

pub returns-in-Some-clause-taken : goal.returns-in-Some-clause-taken
returns-in-Some-clause-taken c =
    of_orders c.order_of.result
    (fails_by (Ok c.in-Ok.matches) (map string_bytes c.args.words.now) _ hsplan_app is_free-hsplan
    c.in_ok-command.ensures c.in-Ok.ensures.kinds)

pub returns-in-Some-clause-usage : goal.returns-in-Some-clause-usage
returns-in-Some-clause-usage c usage taken o h =
    let e =
    met c.in-Ok.matches (map string_bytes c.args.words.now) _ _ _ hsplan_app is_simple-hsplan c.in-Some.ensures.name
    c.in-Some.ensures.rows c.in_ok-command.ensures c.in-Ok.ensures.matches in
    c.order_of.ensures.usage usage o (rw e at h)

pub returns-in-Err-clause-usage : goal.returns-in-Err-clause-usage
returns-in-Err-clause-usage c usage taken o h =
    let kinds =
    fails_by {T = ArgMatches} (Err c.in-Err.error) (map string_bytes c.args.words.now) _ hsplan_app is_free-hsplan
    c.in_ok-command.ensures c.in-Err.ensures.kinds in
    has_fault c.in-Err.error _ kinds (λ memory. let said = c.command_fault.ensures.1 memory in (cc)) taken

pub returns-clause-usage : goal.returns-clause-usage
returns-clause-usage c usage taken o h =
    let e =
    met_none c.in-Ok.matches (map string_bytes c.args.words.now) _ hsplan_app is_simple-hsplan
    c.in-None.ensures.name c.in_ok-command.ensures c.in-Ok.ensures.matches in
    rw e at h
