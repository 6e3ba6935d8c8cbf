use Rattle.std.proofs.Common.{◌≡◌, drop, map}
use Rattle.std.specs.List.{list_any}
use Rattle.hsp_tables.specs.Settings.{same_address}
use Rattle.hsp_tables.specs.SettingsRows.{host_entry}
use Rattle.hsp_tables.proofs.hosts.has_address.Given as goal

abbrev pub invariant-loop-host : goal.invariant-loop-host
invariant-loop-host l =
    list_any (same_address (host_entry l.new)) (map host_entry (drop l.host-index l.hosts))
    ≡ list_any (same_address (host_entry l.new)) (map host_entry l.hosts)
