use Rattle.std.proofs.Common.{◌≡◌, drop, map}
use Rattle.std.specs.List.{list_any}
use Rattle.hsp_tables.specs.Settings.{same_name}
use Rattle.hsp_tables.specs.SettingsRows.{site_entry}
use Rattle.hsp_tables.proofs.sites.has_name.Given as goal

abbrev pub invariant-loop-site : goal.invariant-loop-site
invariant-loop-site l =
    list_any (same_name (site_entry l.new)) (map site_entry (drop l.site-index l.sites))
    ≡ list_any (same_name (site_entry l.new)) (map site_entry l.sites)
