use Rattle.std.proofs.Common.{◌≡◌, [], drop, map}
use Rattle.toml.specs.View.{items_view}
use Rattle.hsp_tables.specs.InTurn.{rows_after}
use Rattle.hsp_tables.specs.Settings.{elements_in, site_after}
use Rattle.hsp_tables.specs.SettingsRows.{site_entry}
use Rattle.hsp_tables.proofs.sites.sites_in.Given as goal

abbrev pub invariant-loop-value : goal.invariant-loop-value
invariant-loop-value l =
    rows_after site_after (map site_entry l.sites.items) (elements_in (items_view (drop l.value-index l.values)))
    ≡ rows_after site_after [] (elements_in (items_view l.values))
