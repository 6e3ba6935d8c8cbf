use Rattle.std.proofs.Common.{◌≡◌, [], drop, length, option_map, Result}
use Rattle.std.specs.Prelude.{List}
use Rattle.hsp_instance.specs.Building.{AreSitesAfter}
use Rattle.hsp_instance.specs.Instance.{AreSites, Site, servers_of}
use Rattle.hsp_instance.specs.declared.fault.BuildFault.{BuildFault}
use Rattle.hsp_instance.proofs.SiteNames.{AreNamed}
use Rattle.hsp_instance.proofs.site_reading.build_sites.Given as goal

abbrev pub invariant-sites : goal.invariant-sites
invariant-sites l = record {
  count : length l.sites.items ≡ l.number;
  before : l.before ≡ servers_of l.sites.items;
  within : AreSites l.sites.items;
  named : AreNamed l.settings.sites l.sites.items;
  so_far : (answer : Result (List Site) BuildFault)
      → AreSitesAfter (option_map (λ v. v.now) l.values) l.sites.items (drop l.number l.settings.sites) answer
      → AreSitesAfter (option_map (λ v. v.now) l.values) [] l.settings.sites answer;
}
