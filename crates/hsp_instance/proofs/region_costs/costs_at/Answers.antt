use Rattle.std.proofs.Common.{◌≡◌, ◌∙◌, ◌<◌, ap, arith, length, refl}
use Rattle.std.proofs.lemmas.Option.{slice_get_read}
use Rattle.hsp_instance.specs.Building.{cost_of}
use Rattle.hsp_instance.specs.Instance.{Site}
use Rattle.hsp_instance.proofs.Lists.{map_take_next}
use Rattle.std.proofs.lemmas.Grind.{common_steps}
use Rattle.hsp_instance.proofs.region_costs.costs_at.Goals as goal

pub loop-site-preserved : goal.loop-site-preserved
loop-site-preserved c =
    let cost_there = λ (site : Site). cost_of c.args.costs.now c.args.region.now site.name in
    let within : c.loop-site.site-index < length c.args.sites.now = omega arith in
    let at = slice_get_read c.args.sites.now _ c.loop-site.site-index c.site-item.result refl within c.site-item.is in
    let next = map_take_next cost_there c.args.sites.now c.loop-site.site-index c.site-item.result at in
    let name : c.as_slice.result.now ≡ c.site-item.result.name =
    c.as_slice.ensures.value ∙ ap (λ (site : Site). site.name) c.site.view_is in
    let found : c.find.result ≡ cost_there c.site-item.result =
    c.find.ensures ∙ ap (cost_of c.args.costs.now c.args.region.now) name in
    rw (next, c.in_ok-push.ensures.items, c.loop-site.invariant, found) refl

pub returns : goal.returns
returns c = grind (arith, common_steps)
