-- No group has the key, so the number is that of the new one.
use Rattle.std.proofs.Common.{◌≡◌, ◌∙◌, ◌∷◌, ◌++◌, [], false, ap, is_some, length, subst, sym, arith}
use Rattle.std.specs.Map.{lookup}
use Rattle.hsp_prices.specs.Least.{servers_of}
use Rattle.hsp_price_check.specs.FirstRows.{HasAdded, is_key_of}
use Rattle.hsp_price_check.proofs.FirstOfKinds.{is_added_as}
use Rattle.hsp_price_plan.specs.Grouping.{HasGroups}
use Rattle.hsp_price_plan.proofs.Finding.{one_group}
use Rattle.hsp_price_plan.proofs.table.push_group.Goals as goal

pub returns-clause-found : goal.returns-clause-found
returns-clause-found c =
    let group = c.args.group in
    let groups = c.args.groups.now.items in
    let servers = servers_of group.arcs in
    let old = c.args.numbers.now.entries in
    let new = c.insert.new.self.entries in
    let number : c.len-number.result ≡ length groups =
    omega (arith, c.len-number.ensures, ap length c.reserve.ensures.items) in
    let next : c.push.new.self.items ≡ groups ++ group ∷ [] =
    c.in_ok-push.ensures.items ∙ ap (λ gs. gs ++ group ∷ []) c.reserve.ensures.items in
    let none : is_some (lookup (is_key_of group.region servers) old) ≡ false =
    ap is_some (c.requires.found group.region servers ∙ c.requires.new) in
    let added : HasAdded old new group.region servers c.len-number.result =
    is_added_as old new c.args.key c.len-number.result group.region servers c.requires.key
    c.in_ok-insert.ensures.entries none in
    subst (λ gs. HasGroups gs new) (sym next)
    (one_group groups group old new c.requires.found
    (subst (HasAdded old new group.region servers) number added))
