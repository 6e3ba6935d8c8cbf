-- The group of the row is found by its key, or stands last.
use Rattle.std.proofs.Common.{◌≡◌, ◌∙◌, ◌++◌, ◌∷◌, [], Some, None, ap, ap₂, length, length-set, sym}
use Rattle.std.specs.Prelude.{position}
use Rattle.std.proofs.lemmas.List.{with_items_is}
use Rattle.std.proofs.lemmas.Result.{on_ok_weaker}
use Rattle.hsp_prices.specs.Least.{servers_of}
use Rattle.hsp_prices.specs.Groups.{Group}
use Rattle.hsp_price_plan.specs.Grouping.{is_keyed, with_count_at}
use Rattle.hsp_price_plan.proofs.Finding.{with_found, with_none}
use Rattle.hsp_price_plan.proofs.Joining.{grouped_as, with_group}
use Rattle.hsp_price_plan.proofs.table.GroupTable.add.Goals as goal

pub push_group-requires-clause-new : goal.push_group-requires-clause-new
push_group-requires-clause-new c =
    let groups = c.self.inside.groups.items in
    let made = c.in_ok-group-in-None.ensures in
    let servers = c.deref.ensures.value ∙ c.in_ok-fill_servers.ensures in
    ap₂ (λ r s. position (is_keyed r s) groups) (ap (λ (g : Group). g.region) made)
    (ap (λ (g : Group). servers_of g.arcs) made ∙ sym servers) ∙ sym (c.in-None.ensures groups c.self.invariant)

pub returns-in-Some-clause-grouped : goal.returns-in-Some-clause-grouped
returns-in-Some-clause-grouped c =
    let groups = c.self.inside.groups.items in
    let n = c.in-Some.number in
    let region = c.args.region.now in
    let kept = c.args.kept.now in
    let own : Group = record { region = region; arcs = kept; demand = c.args.count } in
    let servers = c.deref.ensures.value ∙ c.in_ok-fill_servers.ensures in
    let found : position (is_keyed region (servers_of kept)) groups ≡ Some n =
    sym (c.in-Some.ensures groups c.self.invariant ∙ ap (λ s. position (is_keyed region s) groups) servers) in
    let changed : c.add_to_group.new.groups ≡ with_count_at groups n c.args.count =
    c.add_to_group.ensures ∙ ap (λ gs. with_count_at gs n c.args.count) c.deref_mut.ensures.value in
    let many : length c.add_to_group.new.groups ≡ length c.deref_mut.result.now =
    ap length c.add_to_group.ensures ∙ length-set c.deref_mut.result.now n _ in
    let next = with_items_is c.self.inside.groups c.add_to_group.new.groups (many ∙ c.deref_mut.ensures.len) in
    λ arc_by rows row was is by.
    grouped_as arc_by rows c.args.self.now _ row region kept c.args.count
    (next ∙ changed ∙ with_found own groups n found ∙ ap (with_group own) c.self.view_is) was is by

pub returns-in_ok-group-in-None-clause-grouped : goal.returns-in_ok-group-in-None-clause-grouped
returns-in_ok-group-in-None-clause-grouped c =
    let groups = c.self.inside.groups.items in
    let region = c.args.region.now in
    let kept = c.args.kept.now in
    let own : Group = record { region = region; arcs = kept; demand = c.args.count } in
    let servers = c.deref.ensures.value ∙ c.in_ok-fill_servers.ensures in
    let none : position (is_keyed region (servers_of kept)) groups ≡ None =
    sym (c.in-None.ensures groups c.self.invariant ∙ ap (λ s. position (is_keyed region s) groups) servers) in
    on_ok_weaker c.push_group.result
    (λ (added : c.push_group.new.groups.items ≡ groups ++ c.in_ok-group-in-None.group ∷ []) arc_by rows row was is by.
    grouped_as arc_by rows c.args.self.now c.push_group.new.groups.items row region kept c.args.count
    (added ∙ ap (λ g. groups ++ g ∷ []) c.in_ok-group-in-None.ensures ∙ sym (with_none own groups none)
    ∙ ap (with_group own) c.self.view_is) was is by) c.push_group.ensures.added
