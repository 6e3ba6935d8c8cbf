use Rattle.std.proofs.Common.{◌≡◌, List, arith, length, subst}
use Rattle.std.specs.List.{AllByRecursion}
use Rattle.std.proofs.lemmas.List.Elements.{recursion_from_All}
use Rattle.hsp_prices.specs.Groups.{Group}
use Rattle.hsp_price_plan.specs.Solving.{HasArcsWithin, HasFewArcs}
use Rattle.hsp_plan_tests.proofs.Fillings.{groups_fit}
use Rattle.hsp_plan_tests.proofs.network_tests.network_once.Goals as goal

pub returns-clause-arcs : goal.returns-clause-arcs
returns-clause-arcs c =
    let groups = c.in_ok-groups.groups.items in
    let many : c.len.result ≡ length c.in_ok-numbers.numbers.server_hosts.items = omega (arith, c.len.ensures) in
    subst (λ n. AllByRecursion (HasArcsWithin n) groups) many
    (subst (λ (all : List Group). AllByRecursion (HasArcsWithin c.len.result) all) c.deref.ensures.value
    (groups_fit c.len.result c.deref.result.now (c.all_lead_within.ensures c.if-not-all_lead_within.false)))

pub returns-clause-few : goal.returns-clause-few
returns-clause-few c =
    let groups = c.in_ok-groups.groups.items in
    subst (λ (all : List Group). AllByRecursion HasFewArcs all) c.deref-2.ensures.value
    (recursion_from_All HasFewArcs c.deref-2.result.now (c.are_small.ensures c.if-not-are_small.false))
