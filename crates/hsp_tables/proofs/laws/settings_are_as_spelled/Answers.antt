use Rattle.hsp_tables.proofs.SettingsLists.{hosts_read_as_spelled, sites_read_as_spelled}
use Rattle.hsp_tables.proofs.laws.settings_are_as_spelled.Goals as goal

pub returns : goal.returns
returns c = record { sites = sites_read_as_spelled; hosts = hosts_read_as_spelled }
