use Rattle.std.proofs.Common.{codes, map}
use Rattle.toml.specs.Data.{get_member}
use Rattle.toml.specs.View.{table_view}
use Rattle.hsp_tables.specs.SettingsRows.{host_entry, site_entry}
use Rattle.hsp_tables.proofs.SettingsLists.{hosts_are, sites_are}
use Rattle.hsp_tables.proofs.settings.read_settings.Goals as goal

pub invariant_of-result : goal.invariant_of-result
invariant_of-result c =
    let document = table_view c.in_ok-table.table in
    record {
      sites =
          sites_are (get_member (codes "site") document) (map site_entry c.in_ok-sites.sites.items)
          c.in_ok-sites.ensures;
      hosts =
          hosts_are (get_member (codes "host") document) (map host_entry c.in_ok-hosts.hosts.items)
          c.in_ok-hosts.ensures;
    }
