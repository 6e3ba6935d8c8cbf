use Rattle.std.proofs.Common.{◌≡◌, ◌+◌, ◌<◌, ◌^◌, ◌∙◌, ap, ap₂, sym, subst, List, ℕ, length, map, sum}
use Rattle.std.specs.Prelude.{All, Some, None, Vec}
use Rattle.std.specs.BTreeMap.{BTreeMap, insert_entry}
use Rattle.std.specs.declared.alloc.Global.{Global}
use Rattle.std.specs.Vec.{with_items}
use Rattle.std.proofs.lemmas.List.{length-map, with_items_is}
use Rattle.hsp_prices.specs.Groups.{Group}
use Rattle.hsp_prices.specs.Solved.{flow_to}
use Rattle.hsp_price_plan.specs.ClassSums.{AddsFlow, Entries, added, amounts_with, key_cmp}
use Rattle.hsp_price_plan.specs.declared.classes.ClassKey.{ClassKey}
use Rattle.hsp_price_plan.proofs.ClassEntries.{added_zeros, amounts_found, insert_adds, set_adds}
use Rattle.hsp_price_plan.proofs.classes.add_group.Goals as goal

pub add_flows-requires-clause-many : goal.add_flows-requires-clause-many
add_flows-requires-clause-many c =
    let found = amounts_found c.args.sums.now.entries c.args.key (Some c.in-Some.amounts.now) c.in-Some.ensures.value in
    ap (λ (xs : List ℕ). length xs) c.deref_mut.ensures.value
    ∙ (c.requires.room c.in-Some.amounts.now.items found).0
    ∙ sym (ap (λ (xs : List ℕ). length xs) c.deref.ensures.value)

pub add_flows-requires-clause-room : goal.add_flows-requires-clause-room
add_flows-requires-clause-room c =
    let found = amounts_found c.args.sums.now.entries c.args.key (Some c.in-Some.amounts.now) c.in-Some.ensures.value in
    subst (All (λ amount. amount + sum c.args.flows.now < 2 ^ 64)) (sym c.deref_mut.ensures.value)
    (c.requires.room c.in-Some.amounts.now.items found).1

pub returns-in-Some : goal.returns-in-Some
returns-in-Some c =
    let old = c.args.sums.now.entries in
    let key = c.args.key in
    let own : Group × List ℕ = (c.args.group.now, c.args.flows.now) in
    let w = with_items c.in-Some.amounts.now c.add_flows.new.amounts in
    let found = amounts_found old key (Some c.in-Some.amounts.now) c.in-Some.ensures.value in
    let many : length c.add_flows.new.amounts ≡ c.in-Some.amounts.now.len =
    c.add_flows.auto.amounts ∙ ap (λ (xs : List ℕ). length xs) c.deref_mut.ensures.value
    ∙ sym c.in-Some.amounts.now.ok.0 in
    subst (λ (new : Entries). AddsFlow old key own new) (sym (c.get_mut.follows.holds w).0)
    (set_adds old key own w
    (with_items_is c.in-Some.amounts.now c.add_flows.new.amounts many
    ∙ c.add_flows.ensures
    ∙ ap₂ (λ xs ys. added xs (map (λ j. flow_to j own) ys)) c.deref_mut.ensures.value c.deref.ensures.value
    ∙ sym (ap (amounts_with own key.servers.items) found)) c.in-Some.amounts.now (sym c.in-Some.ensures.value))

pub returns : goal.returns
returns c =
    let old = c.args.sums.now.entries in
    let key = c.args.key in
    let own : Group × List ℕ = (c.args.group.now, c.args.flows.now) in
    let w = with_items c.in_ok-amounts.amounts c.add_flows-2.new.amounts in
    let found = amounts_found old key None c.in_default.ensures.value in
    let many : length c.add_flows-2.new.amounts ≡ c.in_ok-amounts.amounts.len =
    c.add_flows-2.auto.amounts ∙ ap (λ (xs : List ℕ). length xs) c.deref_mut-2.ensures.value
    ∙ sym c.in_ok-amounts.amounts.ok.0 in
    subst (λ (new : Entries). AddsFlow old key own new)
    (sym
    (c.in_ok-insert.ensures.entries
    ∙ ap (λ (sums : BTreeMap ClassKey (Vec ℕ Global)). insert_entry key_cmp sums.entries key w)
    c.get_mut.follows.holds-at-none))
    (insert_adds old key own w
    (with_items_is c.in_ok-amounts.amounts c.add_flows-2.new.amounts many
    ∙ c.add_flows-2.ensures
    ∙ ap₂ (λ xs ys. added xs (map (λ j. flow_to j own) ys))
    (c.deref_mut-2.ensures.value ∙ c.in_ok-amounts.ensures.items_if_clones_equal (λ y same. same))
    c.deref-2.ensures.value
    ∙ added_zeros c.len.result (map (λ j. flow_to j own) key.servers.items)
    (length-map key.servers.items (λ j. flow_to j own) ∙ sym (c.len.ensures ∙ key.servers.ok.0))
    ∙ sym (ap (amounts_with own key.servers.items) found)))
