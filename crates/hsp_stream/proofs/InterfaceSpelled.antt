-- The octets of sites that are there spell records.
use Rattle.std.proofs.Common.{◌≡◌, ◌++◌, ◌∷◌, [], ◌+◌, ℕ, List, Option, length, length-append, refl, Result, Ok, Err}
use Rattle.hsp_record.specs.Site as records
use Rattle.hsp_record.specs.Values.{HandleValue}
use Rattle.hsp_record.specs.declared.fault.RecordFault.{RecordFault}
use Rattle.hsp_tables.specs.Settings.{SettingsEntries, SiteEntry, SiteSource}
use Rattle.hsp_instance.specs.Building.{AreSitesAfter, IsReading, IsSiteOf, site_octets, site_of_reading}
use Rattle.hsp_instance.specs.Instance.{Site, servers_of}
use Rattle.hsp_instance.specs.declared.fault.BuildFault.{BuildFault}
use Rattle.hsp_inputs.specs.Readings.{AreSites}
use Rattle.hsp_stream.specs.Interfaces.{HasRecord, HaveRecords}

module _ (values : Option (List HandleValue)) (n before : ℕ) (name : List ℕ) (source : SiteSource) (site : Site) where
  -- octets that were read as the record of a site that is there spell it
  by_reading : (bytes : List ℕ) → site_octets values n source ≡ Ok bytes
      → (reading : Result records.Site RecordFault) → IsReading bytes reading
      → Ok site ≡ site_of_reading n before name reading → HasRecord values n source
  by_reading bytes spelled (Err fault) is e = absurd cc
  by_reading bytes spelled (Ok r) is e = (r, (bytes, spelled, is.means))

  -- so do those of a source
  site_has : (found : Result (List ℕ) BuildFault) → site_octets values n source ≡ found
      → IsSiteOf n before name found (Ok site) → HasRecord values n source
  site_has (Err fault) spelled is = absurd cc
  site_has (Ok bytes) spelled (reading, is, e) = by_reading bytes spelled reading is e

-- so do those of the sites behind some
sites_have : (values : Option (List HandleValue)) (earlier : List Site) (entries : List SiteEntry) (sites : List Site)
    → AreSitesAfter values earlier entries (Ok sites) → HaveRecords values (length earlier) entries
sites_have values earlier [] sites are = tt
sites_have values earlier (entry ∷ more) sites (Err fault, is, follows) = absurd cc
sites_have values earlier (entry ∷ more) sites (Ok site, is, follows) =
    let longer : length (earlier ++ site ∷ []) ≡ length earlier + 1 = length-append earlier (site ∷ []) in (
      site_has values (length earlier) (servers_of earlier) entry.name entry.source site
          (site_octets values (length earlier) entry.source) refl is,
      rw longer at (sites_have values (earlier ++ site ∷ []) more sites follows),
    )

-- so do those of all sites of settings and values
pub they_have : (settings : SettingsEntries) (values : Option (List HandleValue)) (sites : List Site)
    → AreSites settings values (Ok sites) → HaveRecords values 0 settings.sites
they_have settings values sites (Err fault, are, e) = absurd cc
they_have settings values sites (Ok found, are, e) = sites_have values [] settings.sites found are
