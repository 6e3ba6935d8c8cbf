-- Sites in turn, by their records.
use Rattle.std.proofs.Common.{◌≡◌, ◌++◌, [], ◌+◌, ℕ, List, Option, Some, drop, length, option_map, refl, append_assoc}
use Rattle.std.proofs.Common.{◌≤◌, Result, Ok, Err}
use Rattle.std.proofs.lemmas.List.{append-nil, drop_all}
use Rattle.std.specs.Prelude.{slice_get}
use Rattle.hsp_record.specs.Fields.{Agrees, Means}
use Rattle.hsp_record.specs.Site as records
use Rattle.hsp_record.specs.Site.{site_format}
use Rattle.hsp_record.specs.Values.{HandleValue}
use Rattle.hsp_record.specs.declared.fault.RecordFault.{RecordFault}
use Rattle.hsp_record.specs.declared.fault.RecordFault.TheVariants.{IndexTwice, OutOfMemory, TooManyServers, Trailing}
use Rattle.hsp_record.specs.declared.fault.RecordFault.TheVariants.{Truncated}
use Rattle.hsp_tables.specs.Settings.{SiteEntry, SiteSource}
use Rattle.hsp_instance.specs.Building.{site_octets}
use Rattle.hsp_instance.proofs.SitesInTurn.{left_from}
use Rattle.hsp_stream.specs.Interfaces.{AreRows, HasRecord, HaveRecords, IsRecordOf, IsTable, header_line, record_rows}

-- the rows of the sites that are left complete the table
abbrev pub GoesOn : Option (List HandleValue) → List SiteEntry → ℕ → List ℕ → Type 0
GoesOn values entries i text =
    (rest : List ℕ) → AreRows values i (drop i entries) rest → IsTable values entries (text ++ rest)

-- at first there is the header only
pub begins : (values : Option (List HandleValue)) (entries : List SiteEntry) (text : List ℕ) → text ≡ header_line
    → GoesOn values entries 0 text
begins values entries text e rest rows = (rest, rows, rw e refl)

-- at last there is the table
pub ends : (values : Option (List HandleValue)) (entries : List SiteEntry) (i : ℕ) (text : List ℕ) → length entries ≤ i
    → GoesOn values entries i text → IsTable values entries text
ends values entries i text whole so_far =
    let none : drop i entries ≡ [] = drop_all i entries whole in
    rw (append-nil text) at (so_far [] (rw none refl))

module _ (values : Option (List HandleValue)) (entries : List SiteEntry) (i : ℕ) (name : List ℕ) (source : SiteSource)
    (named : option_map (λ (s : SiteEntry). s.name) (slice_get entries i) ≡ Some name)
    (sourced : option_map (λ (s : SiteEntry). s.source) (slice_get entries i) ≡ Some source) where
  -- so its octets spell a record
  pub record_there : HaveRecords values i (drop i entries) → HasRecord values i source
  record_there have = (rw (left_from entries i name source named sourced) at have).0

  -- and those of the entries behind it do
  pub records_behind : HaveRecords values i (drop i entries) → HaveRecords values (i + 1) (drop (i + 1) entries)
  records_behind have = (rw (left_from entries i name source named sourced) at have).1

  -- the rows of one site more
  pub rows_more : (text text' : List ℕ) (site : records.Site) → IsRecordOf values i source site
      → text' ≡ text ++ record_rows name site → GoesOn values entries i text → GoesOn values entries (i + 1) text'
  rows_more text text' site is e so_far rest rows =
      let all : AreRows values i (drop i entries) (record_rows name site ++ rest) =
      rw (left_from entries i name source named sourced) (site, is, rest, rows, refl) in
      rw (e, append_assoc text (record_rows name site) rest) (so_far (record_rows name site ++ rest) all)

-- octets that spell a record have no fault, so memory ran out
pub only_memory : (octets : List ℕ) (site : records.Site) (fault : RecordFault) → Means site_format octets (Ok site)
    → ((other : Result records.Site RecordFault) → Means site_format octets other → Agrees (Err fault) other)
    → fault ≡ OutOfMemory
only_memory octets site OutOfMemory means only = refl
only_memory octets site (Truncated at) means only = absurd cc (only (Ok site) means)
only_memory octets site (Trailing at) means only = absurd cc (only (Ok site) means)
only_memory octets site TooManyServers means only = absurd cc (only (Ok site) means)
only_memory octets site (IndexTwice index) means only = absurd cc (only (Ok site) means)

-- octets that are those of a site spell its record
pub same_octets : (values : Option (List HandleValue)) (n : ℕ) (source : SiteSource) (octets : List ℕ)
    (site : records.Site) → IsRecordOf values n source site → site_octets values n source ≡ Ok octets
    → Means site_format octets (Ok site)
same_octets values n source octets site (bytes, spelled, means) given =
    let same : bytes ≡ octets = cc in rw same at means
