use Rattle.std.proofs.Common.{◌≡◌, ◌∙◌, ◌+◌, ◌<◌, None, ap, arith, length, refl, append_assoc}
use Rattle.std.proofs.lemmas.Option.{slice_get-get_or, slice_get_read}
use Rattle.hsp_names.specs.Lent.{octets_of}
use Rattle.hsp_instance.specs.Instance.{Site}
use Rattle.hsp_instance.proofs.ArcLists.{arcs_next}
use Rattle.hsp_instance.proofs.SiteSums.{servers_of-first, servers_of-taken, servers_within}
use Rattle.std.proofs.lemmas.Grind.{common_steps}
use Rattle.hsp_instance.proofs.arc_building.fill_arcs.Goals as goal

pub push_arc-requires-clause-first : goal.push_arc-requires-clause-first
push_arc-requires-clause-first c =
    let less = servers_of-first c.args.sites.now c.loop-number.number in
    let most = c.requires.sites.servers in
    let so_far = c.loop-number.invariant.first in
    omega arith

pub push_arc-requires-clause-few : goal.push_arc-requires-clause-few
push_arc-requires-clause-few c =
    let within : c.loop-number.number < length c.args.sites.now = omega arith in
    let at =
    slice_get_read c.args.sites.now _ c.loop-number.number c.index-sites-number.result refl within
    c.index-sites-number.is in
    let less = servers_within c.args.sites.now c.loop-number.number c.index-sites-number.result at in
    let most = c.requires.sites.servers in
    omega arith

pub overflow_cast-first : goal.overflow_cast-first
overflow_cast-first c =
    let within : c.loop-number.number < length c.args.sites.now = omega arith in
    let at =
    slice_get_read c.args.sites.now _ c.loop-number.number c.index-sites-number.result refl within
    c.index-sites-number.is in
    let less = servers_within c.args.sites.now c.loop-number.number c.index-sites-number.result at in
    let most = c.requires.sites.servers in
    let long : c.len.result ≡ length c.index-sites-number.result.servers =
    c.len.ensures ∙ c.site.inside.servers.ok.0 ∙ ap (λ (s : Site). length s.servers) c.site.view_is in
    omega arith

pub overflow_add-first : goal.overflow_add-first
overflow_add-first c =
    let within : c.loop-number.number < length c.args.sites.now = omega arith in
    let at =
    slice_get_read c.args.sites.now _ c.loop-number.number c.index-sites-number.result refl within
    c.index-sites-number.is in
    let more = servers_of-taken c.args.sites.now c.loop-number.number c.index-sites-number.result at in
    let less = servers_of-first c.args.sites.now (c.loop-number.number + 1) in
    let most = c.requires.sites.servers in
    let so_far = c.loop-number.invariant.first in
    let long : c.len.result ≡ length c.index-sites-number.result.servers =
    c.len.ensures ∙ c.site.inside.servers.ok.0 ∙ ap (λ (s : Site). length s.servers) c.site.view_is in
    omega arith

pub loop-number-preserved : goal.loop-number-preserved
loop-number-preserved c =
    let number = c.loop-number.number in
    let site : Site = c.index-sites-number.result in
    let within : number < length c.args.sites.now = omega arith in
    let at = slice_get_read c.args.sites.now _ number site refl within c.index-sites-number.is in
    let more = servers_of-taken c.args.sites.now number site at in
    let so_far = c.loop-number.invariant.first in
    let long : c.len.result ≡ length site.servers =
    c.len.ensures ∙ c.site.inside.servers.ok.0 ∙ ap (λ (s : Site). length s.servers) c.site.view_is in
    let priced : number < length c.args.costs.now = omega arith in
    let next =
    arcs_next (octets_of c.args.handle) number c.loop-number.first c.args.sites.now c.args.costs.now site _ at
    (slice_get-get_or c.args.costs.now number None priced) in
    record {
      first = omega arith;
      so_far =
          rw (c.in_ok-push_arc.ensures.arcs, c.loop-number.invariant.same, long, append_assoc, ← next)
          c.loop-number.invariant.so_far;
      same = c.in_ok-push_arc.ensures.same ∙ c.loop-number.invariant.same;
    }

pub push_arc-requires-clause-some : goal.push_arc-requires-clause-some
push_arc-requires-clause-some c = grind (arith, common_steps)

pub returns : goal.returns
returns c = grind (arith, common_steps)
