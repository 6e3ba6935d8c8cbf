use Rattle.std.proofs.Common.{◌≡◌, ◌∙◌, List, ℕ, ap, sym, arith, length}
use Rattle.std.proofs.lemmas.List.{length-map}
use Rattle.std.proofs.lemmas.Result.{on_ok_weaker}
use Rattle.hsp_instance.specs.declared.arc.Arc.{Arc}
use Rattle.hsp_prices.specs.Least.{servers_of}
use Rattle.hsp_prices.specs.Groups.{Group}
use Rattle.hsp_prices.specs.Solved.{least_servers_by}
use Rattle.hsp_price_plan.proofs.ClassSteps.{has_room, sums_more, sums_skipped}
use Rattle.hsp_price_plan.proofs.classes.add_least.Goals as goal

pub returns-then-least-lt2 : goal.returns-then-least-lt2
returns-then-least-lt2 c pay sent least are =
    let own : Group × List ℕ = (c.args.group.now, c.args.flows.now) in
    let many : length (least_servers_by pay c.args.group.now) ≡ length c.args.least.now =
    ap (λ (arcs : List Arc). length (servers_of arcs)) (sym least)
    ∙ length-map c.args.least.now (λ (a : Arc). a.server) in
    sums_skipped pay sent own c.args.sums.now.entries are (omega (arith, many))

pub add_group-requires-clause-room : goal.add_group-requires-clause-room
add_group-requires-clause-room c =
    let own : Group × List ℕ = (c.args.group.now, c.args.flows.now) in
    has_room c.requires.pay c.requires.sent own c.args.sums.now.entries c.requires.sums c.in_ok-key.key
    c.in_ok-key.ensures.region (c.in_ok-key.ensures.servers ∙ ap servers_of c.requires.are_least) c.requires.room

pub returns : goal.returns
returns c =
    on_ok_weaker c.add_group.result (λ adds pay sent least are.
    let own : Group × List ℕ = (c.args.group.now, c.args.flows.now) in
    let many : length (least_servers_by pay c.args.group.now) ≡ length c.args.least.now =
    ap (λ (arcs : List Arc). length (servers_of arcs)) (sym least)
    ∙ length-map c.args.least.now (λ (a : Arc). a.server) in
    sums_more pay sent own c.args.sums.now.entries are c.in_ok-key.key c.in_ok-key.ensures.region
    (c.in_ok-key.ensures.servers ∙ ap servers_of least) c.add_group.new.sums.entries (omega (arith, many)) adds)
    c.add_group.ensures
