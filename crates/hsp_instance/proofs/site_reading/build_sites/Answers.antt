use Rattle.std.proofs.Common.{◌≡◌, ◌∙◌, ◌∷◌, Ok, inr, refl, ◌++◌, [], Some, ap, arith, length, length-append}
use Rattle.std.proofs.Common.{option_map, sym}
use Rattle.std.proofs.lemmas.Result.{err_from_is_err_and}
use Rattle.hsp_tables.specs.SettingsRows.{source_shown}
use Rattle.hsp_instance.specs.Building.{IsSiteOf, site_octets}
use Rattle.hsp_instance.specs.Instance.{IsSite, Site}
use Rattle.hsp_instance.proofs.SiteNames.{named_push, names_apart, next_is_name}
use Rattle.hsp_instance.proofs.SiteSums.{no_sites, servers_of-push, sites_push}
use Rattle.hsp_instance.proofs.SitesInTurn.{fault_is_first, next_goes_on, site_is_checked}
use Rattle.std.proofs.lemmas.Grind.{common_steps}
use Rattle.hsp_instance.proofs.site_reading.build_sites.Goals as goal

pub returns-in_err-octets : goal.returns-in_err-octets
returns-in_err-octets c =
    let p = err_from_is_err_and c.from_residual.result c.from_residual.ensures.1 in
    rw (p.1, p.2)
    (fault_is_first (option_map (λ v. v.now) c.args.values) c.args.settings.now.sites c.sites.number c.sites.before
    c.sites.sites.items c.name-name.result.now (source_shown c.source-source.result)
    c.sites.invariant.count c.sites.invariant.before c.name-name.ensures c.source-source.ensures
    c.sites.invariant.so_far c.in_err-octets.field-0.0 (inr (rw c.in_err-octets.ensures refl)))

pub returns-in_err-site : goal.returns-in_err-site
returns-in_err-site c =
    let p = err_from_is_err_and c.from_residual-in_err-site.result c.from_residual-in_err-site.ensures.1 in
    rw (p.1, p.2)
    (fault_is_first (option_map (λ v. v.now) c.args.values) c.args.settings.now.sites c.sites.number c.sites.before
    c.sites.sites.items c.name-name.result.now (source_shown c.source-source.result)
    c.sites.invariant.count c.sites.invariant.before c.name-name.ensures c.source-source.ensures
    c.sites.invariant.so_far c.in_err-site.field-0.0 (rw c.in_ok-octets.ensures c.in_err-site.ensures))

pub sites-preserved : goal.sites-preserved
sites-preserved c =
    let site : Site = c.in_ok-site.site in
    let read : IsSiteOf c.sites.number c.sites.before c.name-name.result.now
    (site_octets (option_map (λ v. v.now) c.args.values) c.sites.number (source_shown c.source-source.result))
    (Ok site) = rw c.in_ok-octets.ensures c.in_ok-site.ensures in
    let checked =
    site_is_checked c.sites.number c.sites.before c.name-name.result.now
    (site_octets (option_map (λ v. v.now) c.args.values) c.sites.number (source_shown c.source-source.result)) site
    read in
    let long : c.len.result ≡ length site.servers =
    c.len.ensures ∙ c.site.inside.servers.ok.0 ∙ ap (λ (s : Site). length s.servers) c.site.view_is in
    let sum = c.sites.invariant.before in
    let settings = c.len-number-end.ensures.settings.sites in
    let next = c.name-name.ensures ∙ ap Some (sym checked.named) in
    let named =
    named_push c.args.settings.now.sites c.sites.sites.items site c.sites.invariant.named
    (rw c.sites.invariant.count next) in
    let is : IsSite site =
    record {
      name = next_is_name c.args.settings.now.sites c.sites.number site.name settings.each next;
      servers = checked.servers;
      apart = checked.apart;
    } in
    record {
      count = rw (c.in_ok-push.ensures.items, length-append) (omega arith);
      before = rw (c.in_ok-push.ensures.items, servers_of-push) (omega arith);
      within =
          rw c.in_ok-push.ensures.items
          (sites_push c.sites.sites.items site c.sites.invariant.within
          (omega (arith, settings.few, c.len-number-end.ensures.count, c.sites-test.true, c.sites.invariant.count)) is
          checked.some (rw (← c.sites.invariant.before) checked.few)
          (names_apart c.args.settings.now.sites (c.sites.sites.items ++ site ∷ []) named settings.apart));
      named = rw c.in_ok-push.ensures.items named;
      so_far =
          rw c.in_ok-push.ensures.items
          (next_goes_on (option_map (λ v. v.now) c.args.values) c.args.settings.now.sites c.sites.number c.sites.before
          c.sites.sites.items c.name-name.result.now (source_shown c.source-source.result)
          c.sites.invariant.count c.sites.invariant.before c.name-name.ensures c.source-source.ensures
          c.sites.invariant.so_far site read);
    }

pub sites-init : goal.sites-init
sites-init c =
    rw c.new-sites.ensures.items
    (record { count = refl; before = refl; within = no_sites; named = tt; so_far = λ answer rest. rest })

pub returns : goal.returns
returns c = grind (arith, common_steps)
