-- The table of service interfaces (RFC 3651, section 3.2.2): a row for each interface of each server, site by site and
-- place by place, as comma-separated values.
use Rattle.std.specs.Prelude.{◌≡◌, ◌+◌, ◌++◌, ◌∷◌, [], ⊤, ℕ, List, Option, Result, Ok, codes, decimal}
use Rattle.hex.specs.Hex.{encode_lower}
use Rattle.hsp_text.specs.Answers.{Then}
use Rattle.hsp_record.specs.Fields.{Means}
use Rattle.hsp_record.specs.Site as records
use Rattle.hsp_record.specs.Site.{Interface, Server, site_format}
use Rattle.hsp_record.specs.Values.{HandleValue}
use Rattle.hsp_tables.specs.Settings.{SettingsEntries, SiteEntry, SiteSource}
use Rattle.hsp_instance.specs.Building.{site_octets}
use Rattle.hsp_instance.specs.Instance.{Site}
use Rattle.hsp_inputs.specs.declared.fault.Fault.{Fault}
use Rattle.hsp_inputs.specs.Readings.{AreSites, ReadsSettings, ReadsValues}

-- ---- rows

abbrev pub header_line : List ℕ
header_line = codes "site,place,server_id,address,type,protocol,port" ++ 10 ∷ []

-- a site's name, which has no sign that needs quotes, and a server's place and identifier; a comma stands behind each
abbrev pub server_numbers : List ℕ → ℕ → ℕ → List ℕ
server_numbers name place id = name ++ (44 ∷ (decimal place ++ (44 ∷ (decimal id ++ 44 ∷ []))))

-- the same, and the server's address in hexadecimal digits
abbrev pub server_fields : List ℕ → ℕ → Server → List ℕ
server_fields name place server = server_numbers name place server.id ++ (encode_lower server.address ++ 44 ∷ [])

-- a service type, a transmission protocol and a port, and the end of the line
abbrev pub interface_fields : Interface → List ℕ
interface_fields i =
    decimal i.service_type ++ (44 ∷ (decimal i.protocol ++ (44 ∷ (decimal i.port ++ 10 ∷ []))))

-- a row for each interface, behind the fields of its server
abbrev pub interface_rows : List ℕ → List Interface → List ℕ
interface_rows server [] = []
interface_rows server (i ∷ more) = (server ++ interface_fields i) ++ interface_rows server more

-- the rows of servers from a place on
abbrev pub server_rows : List ℕ → ℕ → List Server → List ℕ
server_rows name place [] = []
server_rows name place (server ∷ more) =
    interface_rows (server_fields name place server) server.interfaces ++ server_rows name (place + 1) more

-- the rows of a site's record
abbrev pub record_rows : List ℕ → records.Site → List ℕ
record_rows name site = server_rows name 0 site.servers

-- ---- records

-- the record that the octets of site `n` spell
abbrev pub IsRecordOf : Option (List HandleValue) → ℕ → SiteSource → records.Site → Type 0
IsRecordOf values n source site =
    (bytes : List ℕ) × (site_octets values n source ≡ Ok bytes) × Means site_format bytes (Ok site)

-- the octets of site `n` spell a record
abbrev pub HasRecord : Option (List HandleValue) → ℕ → SiteSource → Type 0
HasRecord values n source = (site : records.Site) × IsRecordOf values n source site

-- the same of each site from site `n` on
abbrev pub HaveRecords : Option (List HandleValue) → ℕ → List SiteEntry → Type 0
HaveRecords values n [] = ⊤
HaveRecords values n (entry ∷ more) = HasRecord values n entry.source × HaveRecords values (n + 1) more

-- the rows of the sites from site `n` on, each by its record
abbrev pub AreRows : Option (List HandleValue) → ℕ → List SiteEntry → List ℕ → Type 0
AreRows values n [] rows = rows ≡ []
AreRows values n (entry ∷ more) rows =
    (site : records.Site) × IsRecordOf values n entry.source site
    × (others : List ℕ) × AreRows values (n + 1) more others × (rows ≡ record_rows entry.name site ++ others)

-- ---- the table

-- the table of sites
abbrev pub IsTable : Option (List HandleValue) → List SiteEntry → List ℕ → Type 0
IsTable values entries text = (rows : List ℕ) × AreRows values 0 entries rows × (text ≡ header_line ++ rows)

abbrev pub AreListed : Option (List HandleValue) → List SiteEntry → Result (List ℕ) Fault → Type 0
AreListed values entries answer = (text : List ℕ) × IsTable values entries text × (answer ≡ Ok text)

-- the table of the sites that the octets of settings and of values define, or the first fault of these
abbrev pub AreInterfacesIn : List ℕ → Option (List ℕ) → Result (List ℕ) Fault → Type 0
AreInterfacesIn settings values =
    Then (ReadsSettings settings) (λ (s : SettingsEntries).
    Then (ReadsValues values) (λ v. Then (AreSites s v) (λ (sites : List Site). AreListed v s.sites)))
