-- How tables state their rows, values their octets, and the tables of a TOML document sites and hosts.
use Rattle.std.specs.Prelude.{◌≡◌, ◌≤◌, ◌<◌, ◌==◌, ◌⊎◌, ⊤, Bool, true, ℕ, pos, List, [], ◌∷◌, codes, length, Option}
use Rattle.std.specs.Prelude.{Some, None, Ok, map}
use Rattle.std.specs.List.{AllByRecursion, Contains, IsDistinct, list_all, list_any}
use Rattle.std.specs.Str.{bytes_eq}
use Rattle.hex.specs.Hex.{decode_of, decode_sized}
use Rattle.toml.specs.Data as toml
use Rattle.toml.specs.Data.{Data, Items, Members, get_member}
use Rattle.hsp_text.specs.Name.{is_name}
use Rattle.hsp_text.specs.declared.limits.TheConstants.{GREATEST_LIMIT}
use Rattle.hsp_hash.specs.Option.{option_of}
use Rattle.hsp_record.specs.Fields.{spelling}
use Rattle.hsp_record.specs.Site as records
use Rattle.hsp_record.specs.Values.{HandleValue, IsValueList, values_format}
use Rattle.hsp_csv.specs.Records.{Fields, records_of}
use Rattle.hsp_tables.specs.Settings.{keys_in}
use Rattle.hsp_instance.specs.Building.{server_of_record}
use Rattle.hsp_instance.specs.Instance.{Host, Site, SiteServer}

-- ---- values, and tables of comma-separated values (RFC 4180), as the `csv` crate reads them

-- the value list, where one is given
abbrev pub AreValues : Option (List ℕ) → Option (List HandleValue) → Type 0
AreValues None None = ⊤
AreValues (Some octets) (Some values) = IsValueList values × (octets ≡ spelling values_format values)
AreValues octets values = ⊥

-- the records of a text are the header and the fields of the rows, each as it should be, no two of one key
pub record IsTable {Row : Type 0} (header : Fields) (most : ℕ) (fields : Row → Fields) (Is : Row → Type 0)
    (same_key : Row → Row → Bool) (text : List ℕ) (rows : List Row) : Type 0 where
  pub records : records_of text ≡ header ∷ map fields rows
  pub few : length rows ≤ most
  pub each : AllByRecursion Is rows
  pub apart : IsDistinct same_key rows

-- the rows of a table name no more regions than there may be: all are among so many names
abbrev pub AreFew : ℕ → List (List ℕ) → Type 0
AreFew most regions =
    (names : List (List ℕ)) × (length names ≤ most) × AllByRecursion (Contains names) regions

-- ---- tables of a TOML document

-- a table has no other keys
abbrev pub HasKeys : List (List ℕ) → Members → Type 0
HasKeys keys members = list_all (λ key. list_any (bytes_eq key) keys) (keys_in members) ≡ true

-- the tables of an array state the rows, one each
abbrev pub EachStates : {Row : Type 0} → (Members → Row → Type 0) → Items → List Row → Type 0
EachStates States toml.no_items [] = ⊤
EachStates States (toml.item value items) (row ∷ rows) =
    (members : Members) × (value ≡ toml.table members) × States members row × EachStates States items rows
EachStates States items rows = ⊥

-- those of the array at a key, or none where there is no such key
abbrev pub AreTablesAt : {Row : Type 0} → (Members → Row → Type 0) → Option Data → List Row → Type 0
AreTablesAt States value rows =
    (items : Items) × ((value ≡ Some (toml.array items)) ⊎ ((value ≡ None) × (items ≡ toml.no_items)))
    × EachStates States items rows

-- the data of the value of an index, of type HS_SITE
abbrev pub IsData : Option (List HandleValue) → ℕ → List ℕ → Type 0
IsData None index octets = ⊥
IsData (Some values) index octets =
    (value : HandleValue) × Contains values value × (value.index ≡ index)
    × (value.type_octets ≡ codes "HS_SITE") × (value.octets ≡ octets)

-- the octets of a site: its `record` in hexadecimal digits, or the data of the value of its `index`, not both
abbrev pub IsSource : Option (List HandleValue) → Option Data → Option Data → List ℕ → Type 0
IsSource values hexadecimal number octets =
    ((digits : List ℕ) × (hexadecimal ≡ Some (toml.string digits)) × (number ≡ None)
    × (decode_of digits ≡ Ok octets))
    ⊎ ((index : ℕ) × (hexadecimal ≡ None) × (number ≡ Some (toml.integer (pos index)))
    × IsData values index octets)

-- octets spell a record of the site's hash option and servers: there are some, no two of one identifier
pub record IsRecordOf (site : Site) (octets : List ℕ) : Type 0 where
  pub read : records.Site
  pub is : records.IsSite read
  pub spelled : octets ≡ spelling records.site_format read
  pub option : option_of read.option ≡ Some site.option
  pub servers : site.servers ≡ map server_of_record read.servers
  pub some : 0 < length site.servers
  pub apart : IsDistinct (λ (a b : SiteServer). b.id == a.id) site.servers

pub record StatesSite (values : Option (List HandleValue)) (members : Members) (site : Site) : Type 0 where
  pub keys : HasKeys (codes "name" ∷ codes "record" ∷ codes "index" ∷ []) members
  pub name : get_member (codes "name") members ≡ Some (toml.string site.name)
  pub is_name : is_name site.name ≡ true
  pub octets : List ℕ
  pub source :
      IsSource values (get_member (codes "record") members) (get_member (codes "index") members) octets
  pub spelled : IsRecordOf site octets

-- an address of 16 octets, in hexadecimal digits, and a limit
pub record StatesHost (members : Members) (host : Host) : Type 0 where
  pub keys : HasKeys (codes "address" ∷ codes "limit" ∷ []) members
  pub digits : List ℕ
  pub address : get_member (codes "address") members ≡ Some (toml.string digits)
  pub decoded : decode_sized digits 16 ≡ Ok host.address
  pub limit : get_member (codes "limit") members ≡ Some (toml.integer (pos host.limit))
  pub limited : host.limit ≤ GREATEST_LIMIT
