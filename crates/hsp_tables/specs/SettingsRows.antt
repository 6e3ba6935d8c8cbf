-- Sites and hosts of the settings, without where they lie in memory.
use Rattle.hsp_tables.specs.Settings.{HostEntry, SiteEntry, SiteSource, index, octets}
use Rattle.hsp_tables.specs.declared.hosts.Host.{Host}
use Rattle.hsp_tables.specs.declared.sites.OwnedSource.{OwnedSource}
use Rattle.hsp_tables.specs.declared.sites.OwnedSource.TheVariants as owned
use Rattle.hsp_tables.specs.declared.sites.SettingsSite.{SettingsSite}
use Rattle.hsp_tables.specs.declared.sites.Source.{Source}
use Rattle.hsp_tables.specs.declared.sites.Source.TheVariants as lent

abbrev pub source_entry : OwnedSource → SiteSource
source_entry (owned.Octets bytes) = octets bytes.items
source_entry (owned.Index i) = index i

abbrev pub site_entry : SettingsSite → SiteEntry
site_entry site = record { name = site.name.items; source = source_entry site.source }

abbrev pub host_entry : Host → HostEntry
host_entry host = record { address = host.address; limit = host.limit }

abbrev pub source_shown : Source → SiteSource
source_shown (lent.Octets bytes) = octets bytes.now
source_shown (lent.Index i) = index i
