use Rattle.std.proofs.Common.{◌≡◌, [], drop, map}
use Rattle.toml.specs.View.{items_view}
use Rattle.hsp_tables.specs.InTurn.{rows_after}
use Rattle.hsp_tables.specs.Settings.{elements_in, host_after}
use Rattle.hsp_tables.specs.SettingsRows.{host_entry}
use Rattle.hsp_tables.proofs.hosts.hosts_in.Given as goal

abbrev pub invariant-loop-value : goal.invariant-loop-value
invariant-loop-value l =
    rows_after host_after (map host_entry l.hosts.items) (elements_in (items_view (drop l.value-index l.values)))
    ≡ rows_after host_after [] (elements_in (items_view l.values))
