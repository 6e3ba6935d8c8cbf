use Rattle.std.proofs.Common.{◌≡◌, ◌∙◌, ◌<◌, None, Some, inr, ap, get_or, length, sym}
use Rattle.hsp_instance.specs.Building.{capacity_of}
use Rattle.hsp_instance.specs.Instance.{Site, SiteServer}
use Rattle.hsp_instance.proofs.NextServers.{next_goes_on, next_has_none}
use Rattle.hsp_instance.proofs.server_building.push_servers.Goals as goal

pub returns-in_default-clause-err : goal.returns-in_default-clause-err
returns-in_default-clause-err c =
    let same : c.deref-own-items.result.now ≡ c.args.site.now.servers =
    c.deref-own-items.ensures.value ∙ ap (λ (s : Site). s.servers) c.site.view_is in
    let is : c.own-item.result ≡ get_or c.args.site.now.servers c.loop-place.place c.own-item.result =
    rw (← same) c.own-item.is in
    let less : c.loop-place.place < length c.args.site.now.servers = rw (← same) c.loop-place-test.true in
    let name : c.as_slice.result.now ≡ c.args.site.now.name =
    c.as_slice.ensures.value ∙ ap (λ (s : Site). s.name) c.site.view_is in
    let id : c.own.inside.id ≡ c.own-item.result.id = ap (λ (s : SiteServer). s.id) c.own.view_is in
    let none : capacity_of c.args.capacities.now c.args.site.now.name c.own-item.result.id ≡ None =
    rw (← name, ← id) (sym c.find.ensures ∙ c.in_default.is) in
    rw id
    (inr
    (sym c.loop-place.invariant
    ∙ next_has_none c.args.capacities.now c.args.hosts.now c.args.number c.args.site.now.name
    c.loop-place.servers.items c.args.site.now.servers c.loop-place.place c.own-item.result is less none))

pub loop-place-preserved : goal.loop-place-preserved
loop-place-preserved c =
    let same : c.deref-own-items.result.now ≡ c.args.site.now.servers =
    c.deref-own-items.ensures.value ∙ ap (λ (s : Site). s.servers) c.site.view_is in
    let is : c.own-item.result ≡ get_or c.args.site.now.servers c.loop-place.place c.own-item.result =
    rw (← same) c.own-item.is in
    let less : c.loop-place.place < length c.args.site.now.servers = rw (← same) c.loop-place-test.true in
    let name : c.as_slice.result.now ≡ c.args.site.now.name =
    c.as_slice.ensures.value ∙ ap (λ (s : Site). s.name) c.site.view_is in
    let id : c.own.inside.id ≡ c.own-item.result.id = ap (λ (s : SiteServer). s.id) c.own.view_is in
    let address : c.own.inside.address ≡ c.own-item.result.address = ap (λ (s : SiteServer). s.address) c.own.view_is in
    let some : capacity_of c.args.capacities.now c.args.site.now.name c.own-item.result.id ≡ Some c.in-Some.capacity =
    rw (← name, ← id) (sym c.find.ensures ∙ c.in-Some.is) in
    let goes_on =
    next_goes_on c.args.capacities.now c.args.hosts.now c.args.number c.args.site.now.name
    c.loop-place.servers.items c.args.site.now.servers c.loop-place.place c.own-item.result is less
    c.in-Some.capacity some in
    rw c.in_ok-push.ensures.items (rw (id, c.host_of.ensures, address) (goes_on ∙ c.loop-place.invariant))
