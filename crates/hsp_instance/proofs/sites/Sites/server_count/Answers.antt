use Rattle.std.proofs.Common.{◌≡◌, ◌∙◌, ap, arith, length, refl}
use Rattle.std.proofs.lemmas.Option.{slice_get_read}
use Rattle.hsp_instance.specs.Instance.{Site}
use Rattle.hsp_instance.proofs.SiteSums.{servers_within}
use Rattle.hsp_instance.proofs.sites.Sites.server_count.Goals as goal

pub overflow_cast-result : goal.overflow_cast-result
overflow_cast-result c =
    let at =
    slice_get_read c.self.inside.sites.items _ c.args.site c.index-site.result.now refl
    (rw (← c.self.view_is) at c.requires) c.index-site.ensures in
    let less = servers_within c.self.inside.sites.items c.args.site c.index-site.result.now at in
    let most = c.self.invariant.servers in
    let long : c.len.result ≡ length c.index-site.result.now.servers =
    c.len.ensures ∙ c.site.inside.servers.ok.0 ∙ ap (λ (s : Site). length s.servers) c.site.view_is in
    omega arith

pub returns : goal.returns
returns c =
    let at =
    slice_get_read c.self.inside.sites.items _ c.args.site c.index-site.result.now refl
    (rw (← c.self.view_is) at c.requires) c.index-site.ensures in
    let long : c.len.result ≡ length c.index-site.result.now.servers =
    c.len.ensures ∙ c.site.inside.servers.ok.0 ∙ ap (λ (s : Site). length s.servers) c.site.view_is in
    rw (← c.self.view_is, at, long) refl
