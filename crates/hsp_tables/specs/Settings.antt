-- The settings: the sites and the hosts that a TOML document lists, or the first fault.
use Rattle.std.specs.Prelude.{◌≡◌, ◌≤◌, ◌||◌, ⊤, Bool, true, ℕ, ℤ, pos, negsuc, List, [], ◌∷◌, length, nat_le, Option}
use Rattle.std.specs.Prelude.{Some, None, option_and_then, Result, Ok, Err, codes, if◌then◌else◌}
use Rattle.std.specs.List.{list_all}
use Rattle.std.specs.Str.{bytes_eq, is_utf8}
use Rattle.hex.specs.Hex.{decode_of, decode_sized}
use Rattle.hex.specs.declared.error.FromHexError.{FromHexError}
use Rattle.toml.specs.Data.{Data, Items, no_items, item, Members, no_members, member, as_array, as_integer, as_str}
use Rattle.toml.specs.Data.{as_table, get_member}
use Rattle.toml.specs.Parse.{parse_document}
use Rattle.hsp_text.specs.Name.{is_name}
use Rattle.hsp_text.specs.declared.limits.TheConstants.{GREATEST_LIMIT, MOST_HOSTS, MOST_SITES}
use Rattle.hsp_tables.specs.declared.fault.TableFault.{TableFault}
use Rattle.hsp_tables.specs.declared.fault.TableFault.TheVariants as fault
use Rattle.hsp_text.specs.Answers.{◌>>=◌, or_fault}
use Rattle.hsp_tables.specs.Fields.{greatest_of_32_bits}
use Rattle.hsp_tables.specs.InTurn.{AreKeyed, Reading, keyed_after, rows_after}

-- what a site is read from: the octets of a record, or the index of a value in the value list
pub data SiteSource : Type 0 where
  octets : List ℕ → SiteSource
  index : ℕ → SiteSource

pub record SiteEntry : Type 0 where
  pub name : List ℕ
  pub source : SiteSource

pub record HostEntry : Type 0 where
  pub address : List ℕ
  pub limit : ℕ

pub record SettingsEntries : Type 0 where
  pub sites : List SiteEntry
  pub hosts : List HostEntry

-- the document that octets are: UTF-8 that the `toml` crate reads
unfoldable pub document_in : List ℕ → Result Members TableFault
document_in text = if is_utf8 text then or_fault fault.NotToml (parse_document text) else Err fault.NotToml

-- the keys of a table
abbrev pub keys_in : Members → List (List ℕ)
keys_in no_members = []
keys_in (member key value members) = key ∷ keys_in members

-- the elements of an array
abbrev pub elements_in : Items → List Data
elements_in no_items = []
elements_in (item value items) = value ∷ elements_in items

-- the text and the integer of a value, if it is one
abbrev pub text_of : TableFault → Option Data → Result (List ℕ) TableFault
text_of fault value = or_fault fault (option_and_then as_str value)

abbrev pub integer_of : TableFault → Option Data → Result ℤ TableFault
integer_of fault value = or_fault fault (option_and_then as_integer value)

-- an integer from 0 to `most`
abbrev pub number_up_to : TableFault → ℕ → ℤ → Result ℕ TableFault
number_up_to fault most (pos n) = if nat_le n most then Ok n else Err fault
number_up_to fault most (negsuc n) = Err fault

-- octets that were decoded from hexadecimal digits
abbrev pub decoded : TableFault → Result (List ℕ) FromHexError → Result (List ℕ) TableFault
decoded fault (Ok bytes) = Ok bytes
decoded fault (Err why) = Err fault

-- the name of site `n`
abbrev pub site_name : ℕ → Option Data → Result (List ℕ) TableFault
site_name n value = text_of (fault.BadSite n) value >>= λ text. if is_name text then Ok text else Err (fault.BadSite n)

abbrev pub record_source : ℕ → Data → Result SiteSource TableFault
record_source n value = do
  text ← text_of (fault.BadSite n) (Some value)
  bytes ← decoded (fault.BadSite n) (decode_of text)
  Ok (octets bytes)

abbrev pub index_source : ℕ → Data → Result SiteSource TableFault
index_source n value = do
  number ← integer_of (fault.BadSite n) (Some value)
  i ← number_up_to (fault.BadSite n) greatest_of_32_bits number
  Ok (index i)

-- the source of site `n`: exactly one of `record` and `index`
abbrev pub site_source : ℕ → Option Data → Option Data → Result SiteSource TableFault
site_source n (Some value) None = record_source n value
site_source n None (Some value) = index_source n value
site_source n None None = Err (fault.BadSite n)
site_source n (Some value) (Some other) = Err (fault.BadSite n)

abbrev pub is_site_key : List ℕ → Bool
is_site_key key = bytes_eq key (codes "name") || bytes_eq key (codes "record") || bytes_eq key (codes "index")

-- the site that a table spells
abbrev pub site_in : ℕ → Members → Result SiteEntry TableFault
site_in n members =
    if list_all is_site_key (keys_in members) then (do
      name ← site_name n (get_member (codes "name") members)
      source ← site_source n (get_member (codes "record") members) (get_member (codes "index") members)
      Ok (record { name = name; source = source }))
    else Err fault.UnknownKey

-- two sites have the same name
abbrev pub same_name : SiteEntry → SiteEntry → Bool
same_name a b = bytes_eq a.name b.name

-- site `n`, by its element
abbrev pub site_at : ℕ → Data → Result SiteEntry TableFault
site_at n value = or_fault (fault.BadSite n) (as_table value) >>= site_in n

-- the site of an element after the sites before it, or its first fault
abbrev pub site_after : Reading Data SiteEntry
site_after earlier value = keyed_after MOST_SITES fault.TooManySites site_at same_name fault.SiteTwice earlier value

-- the address of host `n`: 32 hexadecimal digits
abbrev pub host_address : ℕ → Option Data → Result (List ℕ) TableFault
host_address n value = text_of (fault.BadHost n) value >>= λ text. decoded (fault.BadHost n) (decode_sized text 16)

-- the limit of host `n`
abbrev pub host_limit : ℕ → Option Data → Result ℕ TableFault
host_limit n value = integer_of (fault.BadHost n) value >>= number_up_to (fault.BadHost n) GREATEST_LIMIT

abbrev pub is_host_key : List ℕ → Bool
is_host_key key = bytes_eq key (codes "address") || bytes_eq key (codes "limit")

-- the host that a table spells
abbrev pub host_in : ℕ → Members → Result HostEntry TableFault
host_in n members =
    if list_all is_host_key (keys_in members) then (do
      address ← host_address n (get_member (codes "address") members)
      limit ← host_limit n (get_member (codes "limit") members)
      Ok (record { address = address; limit = limit }))
    else Err fault.UnknownKey

-- two hosts have the same address
abbrev pub same_address : HostEntry → HostEntry → Bool
same_address a b = bytes_eq a.address b.address

-- host `n`, by its element
abbrev pub host_at : ℕ → Data → Result HostEntry TableFault
host_at n value = or_fault (fault.BadHost n) (as_table value) >>= host_in n

-- the host of an element after the hosts before it, or its first fault
abbrev pub host_after : Reading Data HostEntry
host_after earlier value = keyed_after MOST_HOSTS fault.TooManyHosts host_at same_address fault.HostTwice earlier value

-- the rows that an array lists, and none where there is no array
abbrev pub listed : {Row : Type 0} → TableFault → Reading Data Row → Option Data → Result (List Row) TableFault
listed fault read None = Ok []
listed fault read (Some value) = or_fault fault (as_array value) >>= λ items. rows_after read [] (elements_in items)

abbrev pub is_root_key : List ℕ → Bool
is_root_key key = bytes_eq key (codes "site") || bytes_eq key (codes "host")

-- the settings of a document, or the first fault
abbrev pub settings_in : Members → Result SettingsEntries TableFault
settings_in members =
    if list_all is_root_key (keys_in members) then (do
      sites ← listed (fault.BadSite 0) site_after (get_member (codes "site") members)
      hosts ← listed (fault.BadHost 0) host_after (get_member (codes "host") members)
      Ok (record { sites = sites; hosts = hosts }))
    else Err fault.UnknownKey

-- the settings that octets are, or the first fault
abbrev pub settings_of : List ℕ → Result SettingsEntries TableFault
settings_of text = document_in text >>= settings_in

abbrev pub IsSource : SiteSource → Type 0
IsSource (octets bytes) = ⊤
IsSource (index i) = i ≤ greatest_of_32_bits

-- what each site is
pub record IsSiteEntry (site : SiteEntry) : Type 0 where
  pub name : is_name site.name ≡ true
  pub source : IsSource site.source

-- what each host is
pub record IsHostEntry (host : HostEntry) : Type 0 where
  pub address : length host.address ≡ 16
  pub limit : host.limit ≤ GREATEST_LIMIT

-- what settings are: within the limits, the names of sites and the addresses of hosts distinct
pub record AreSettings (settings : SettingsEntries) : Type 0 where
  pub sites : AreKeyed MOST_SITES IsSiteEntry same_name settings.sites
  pub hosts : AreKeyed MOST_HOSTS IsHostEntry same_address settings.hosts
