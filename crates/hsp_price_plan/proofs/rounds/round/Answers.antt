use Rattle.std.proofs.Common.{◌∙◌, Bool, List, ap, arith, inr, length, refl, subst, sym}
use Rattle.std.specs.List.{AllByRecursion}
use Rattle.hsp_network.specs.Answer.{Answers, IsShortSet}
use Rattle.hsp_prices.specs.Groups.{Group}
use Rattle.hsp_price_plan.specs.Solving.{HasArcsWithin, HasFewArcs, group_network}
use Rattle.hsp_price_plan.proofs.HeldRows.{groups_few, groups_within, many_rows, rows_within}
use Rattle.hsp_price_plan.proofs.rounds.round.Goals as goal

pub solve_groups-requires-clause-arcs : goal.solve_groups-requires-clause-arcs
solve_groups-requires-clause-arcs c =
    let numbers = c.args.numbers.now in
    let kept = c.args.rows.now.rows in
    let held = c.requires.2 in
    subst (λ (groups : List Group). AllByRecursion (HasArcsWithin (length numbers.server_hosts.items)) groups)
    (sym c.deref.ensures.value)
    (groups_within (length numbers.server_hosts.items) kept c.in_ok-groups.groups.items
    (rows_within numbers kept c.requires)
    (c.in_ok-groups.ensures.grouped c.requires.0 c.requires.1 held.service held.rows_are))

pub plan_round-requires-clause-arcs : goal.plan_round-requires-clause-arcs
plan_round-requires-clause-arcs c =
    let numbers = c.args.numbers.now in
    let kept = c.args.rows.now.rows in
    let held = c.requires.2 in
    subst (λ (groups : List Group). AllByRecursion (HasArcsWithin (length numbers.server_hosts.items)) groups)
    (sym c.deref-in-Some-Met.ensures.value)
    (groups_within (length numbers.server_hosts.items) kept c.in_ok-groups.groups.items
    (rows_within numbers kept c.requires)
    (c.in_ok-groups.ensures.grouped c.requires.0 c.requires.1 held.service held.rows_are))

pub short_round-requires-clause-arcs : goal.short_round-requires-clause-arcs
short_round-requires-clause-arcs c =
    let numbers = c.args.numbers.now in
    let kept = c.args.rows.now.rows in
    let held = c.requires.2 in
    subst (λ (groups : List Group). AllByRecursion (HasArcsWithin (length numbers.server_hosts.items)) groups)
    (sym c.deref-in-Some-Short.ensures.value)
    (groups_within (length numbers.server_hosts.items) kept c.in_ok-groups.groups.items
    (rows_within numbers kept c.requires)
    (c.in_ok-groups.ensures.grouped c.requires.0 c.requires.1 held.service held.rows_are))

pub short_round-requires-clause-short : goal.short_round-requires-clause-short
short_round-requires-clause-short c =
    let numbers = c.args.numbers.now in
    let net = group_network numbers c.deref.result.now in
    let found : Answers net c.in-Some-Short.field-0 = rw c.in-Some-Short.is at c.in_ok-flow.ensures.outcome in
    let short : IsShortSet net c.in-Some-Short.set.items = rw c.in-Some-Short.field-0-is at found in
    let by_groups : IsShortSet (group_network numbers c.deref-in-Some-Short.result.now) c.in-Some-Short.set.items =
    subst (λ (groups : List Group). IsShortSet (group_network numbers groups) c.in-Some-Short.set.items)
    (c.deref.ensures.value ∙ sym c.deref-in-Some-Short.ensures.value) short in
    subst (λ (set : List Bool). IsShortSet (group_network numbers c.deref-in-Some-Short.result.now) set)
    (sym c.deref-in-Some-Short-2.ensures.value) by_groups

pub solve_groups-requires-clause-few_arcs : goal.solve_groups-requires-clause-few_arcs
solve_groups-requires-clause-few_arcs c =
    let held = c.requires.2 in
    subst (λ (groups : List Group). AllByRecursion HasFewArcs groups) (sym c.deref.ensures.value)
    (groups_few c.requires.0 c.requires.1 c.args.rows.now.rows c.in_ok-groups.groups.items held.service held.rows_are
    (c.in_ok-groups.ensures.grouped c.requires.0 c.requires.1 held.service held.rows_are))

pub returns-clause-fault : goal.returns-clause-fault
returns-clause-fault c at rows held =
    let more = (rw c.in-None.is at c.in_ok-flow.ensures.none).0 refl in
    inr
    (omega (
      arith,
      more,
      ap (λ (groups : List Group). length groups) c.deref.ensures.value,
      c.in_ok-groups.ensures.few,
      many_rows at rows c.args.rows.now.rows held.rows_are,
    ))
