-- The sites and the hosts of settings that are read: what the tables of a document tell, within their limits, and
-- distinct.
use Rattle.std.proofs.Common.{◌≡◌, ◌∙◌, ◌≤◌, ◌⊎◌, inl, inr, ℕ, pos, Bool, true, List, [], Option, Some, None, Result}
use Rattle.std.proofs.Common.{Ok, codes, refl, ap, sym, arith, rules}
use Rattle.std.proofs.lemmas.Bool.{le-leb}
use Rattle.std.proofs.lemmas.Bool.Decides.{nat_tests}
use Rattle.std.specs.Cmp.{IsEquivalence}
use Rattle.std.specs.Cmp.Rules.{comparing}
use Rattle.std.specs.List.{list_all}
use Rattle.std.specs.Str.{is_utf8}
use Rattle.hex.specs.Hex.{decode_of, decode_sized}
use Rattle.hex.proofs.HexLemmas.{decode_of-ok, decode_sized-ok, decode_sized-twice}
use Rattle.toml.specs.Data as toml
use Rattle.toml.specs.Data.{Data, Items, Members, get_member}
use Rattle.toml.specs.Parse.{parse_document}
use Rattle.hsp_text.specs.Name.{is_name}
use Rattle.hsp_text.specs.declared.limits.TheConstants.{GREATEST_LIMIT, MOST_HOSTS, MOST_SITES}
use Rattle.hsp_tables.specs.declared.fault.TableFault.{TableFault}
use Rattle.hsp_tables.specs.declared.fault.TableFault.TheVariants as fault
use Rattle.hsp_tables.specs.Fields.{greatest_of_32_bits}
use Rattle.hsp_tables.specs.InTurn.{AreKeyed, Reading, ReadsAsSpelled, SpellKeyed, rows_after}
use Rattle.hsp_tables.specs.Settings.{AreSettings, HostEntry, IsHostEntry, IsSiteEntry, IsSource, SettingsEntries}
use Rattle.hsp_tables.specs.Settings.{SiteEntry, SiteSource, document_in, elements_in, host_after, host_at, index}
use Rattle.hsp_tables.specs.Settings.{is_host_key, is_root_key, is_site_key, keys_in, listed, octets, same_address}
use Rattle.hsp_tables.specs.Settings.{same_name, settings_of, site_after, site_at, site_in, site_name, site_source}
use Rattle.hsp_tables.proofs.KeyedReading.{reads_as_spelled}
use Rattle.hsp_tables.proofs.TurnLaws.{all_spelled, two_steps}

-- ---- sites

-- what a table tells of a site's octets
abbrev pub IsStatedBy : Option Data → Option Data → SiteSource → Type 0
IsStatedBy hexadecimal number (octets bytes) =
    (digits : List ℕ) × (hexadecimal ≡ Some (toml.string digits)) × (number ≡ None) × (decode_of digits ≡ Ok bytes)
IsStatedBy hexadecimal number (index i) =
    (hexadecimal ≡ None) × (number ≡ Some (toml.integer (pos i))) × (i ≤ greatest_of_32_bits)

pub record StatesSite (members : Members) (site : SiteEntry) : Type 0 where
  pub keys : list_all is_site_key (keys_in members) ≡ true
  pub name : get_member (codes "name") members ≡ Some (toml.string site.name)
  pub is_name : is_name site.name ≡ true
  pub source : IsStatedBy (get_member (codes "record") members) (get_member (codes "index") members) site.source

-- a name that was read is the text of its key, and a name
name_is : (n : ℕ) (value : Option Data) (name : List ℕ) → site_name n value ≡ Ok name
    → (value ≡ Some (toml.string name)) × (is_name name ≡ true)
name_is n value name e = grind arith

-- a source that was read is stated by one of its keys
source_is : (n : ℕ) (a b : Option Data) (source : SiteSource) → site_source n a b ≡ Ok source → IsStatedBy a b source
source_is n a b (octets bytes) e = grind (arith, nat_tests)
source_is n a b (index i) e = grind (arith, nat_tests)

-- a source that is stated is read
source_is_read : (n : ℕ) (a b : Option Data) (source : SiteSource) → IsStatedBy a b source
    → site_source n a b ≡ Ok source
source_is_read n a b (octets bytes) told = rw (told.1, told.2, told.3) refl
source_is_read n a b (index i) told = rw (told.0, told.1, le-leb i greatest_of_32_bits told.2) refl

-- a stated source keeps to its limits
source_within : (a b : Option Data) (source : SiteSource) → IsStatedBy a b source → IsSource source
source_within a b (octets bytes) told = tt
source_within a b (index i) told = told.2

-- a site that was read is stated by its table
pub site_is : (n : ℕ) (value : Data) (site : SiteEntry) → site_at n value ≡ Ok site
    → (members : Members) × (value ≡ toml.table members) × StatesSite members site
site_is n value site e =
    let table : (members : Members) × (value ≡ toml.table members) × (site_in n members ≡ Ok site) = grind arith in
    let ms = table.0 in
    let made = λ (name : List ℕ) (source : SiteSource). let s : SiteEntry = record { name = name; source = source } in
    s in
    let name_of = site_name n (get_member (codes "name") ms) in
    let source_of = site_source n (get_member (codes "record") ms) (get_member (codes "index") ms) in
    let (tests, name, source, named, sourced, same) =
    two_steps (list_all is_site_key (keys_in ms)) _ name_of source_of made site table.2 in
    let is = name_is n (get_member (codes "name") ms) name named in
    let of = source_is n (get_member (codes "record") ms) (get_member (codes "index") ms) source sourced in
    (ms, table.1, rw (← same) (record { keys = tests; name = is.0; is_name = is.1; source = of }))

-- a site that is stated is read
pub site_is_read : (n : ℕ) (members : Members) (site : SiteEntry) → StatesSite members site
    → site_at n (toml.table members) ≡ Ok site
site_is_read n ms site tells =
    let source =
    source_is_read n (get_member (codes "record") ms) (get_member (codes "index") ms) site.source tells.source in
    rw (tells.keys, tells.name, tells.is_name, source) refl

-- a site that was read keeps to its limits
site_entry : (n : ℕ) (value : Data) (site : SiteEntry) → site_at n value ≡ Ok site → IsSiteEntry site
site_entry n value site e =
    let tells = (site_is n value site e).2 in
    record { name = tells.is_name; source = source_within _ _ site.source tells.source }

-- ---- hosts

pub record StatesHost (members : Members) (host : HostEntry) : Type 0 where
  pub keys : list_all is_host_key (keys_in members) ≡ true
  pub digits : List ℕ
  pub address : get_member (codes "address") members ≡ Some (toml.string digits)
  pub decoded : decode_sized digits 16 ≡ Ok host.address
  pub limit : get_member (codes "limit") members ≡ Some (toml.integer (pos host.limit))
  pub limited : host.limit ≤ GREATEST_LIMIT

-- a host that was read is stated by its table
pub host_is : (n : ℕ) (value : Data) (host : HostEntry) → host_at n value ≡ Ok host
    → (members : Members) × (value ≡ toml.table members) × StatesHost members host
host_is n value host e =
    let read : (ms : Members) × (value ≡ toml.table ms) × (list_all is_host_key (keys_in ms) ≡ true)
    × (digits : List ℕ) × (get_member (codes "address") ms ≡ Some (toml.string digits))
    × (decode_sized digits 16 ≡ Ok host.address)
    × (get_member (codes "limit") ms ≡ Some (toml.integer (pos host.limit))) × (host.limit ≤ GREATEST_LIMIT) =
    grind (arith, nat_tests) in (
      read.0,
      read.1,
      record { keys = read.2; digits = read.3; address = read.4; decoded = read.5; limit = read.6; limited = read.7 },
    )

-- a host that is stated is read
pub host_is_read : (n : ℕ) (members : Members) (host : HostEntry) → StatesHost members host
    → host_at n (toml.table members) ≡ Ok host
host_is_read n ms host tells =
    rw (tells.keys, tells.address, tells.decoded, tells.limit, le-leb host.limit GREATEST_LIMIT tells.limited) refl

-- sixteen octets are decoded where there is room for sixteen
host_entry : (n : ℕ) (value : Data) (host : HostEntry) → host_at n value ≡ Ok host → IsHostEntry host
host_entry n value host e =
    let tells = (host_is n value host e).2 in
    let digits = decode_sized-ok tells.digits 16 host.address tells.decoded in
    let halves =
    (decode_of-ok tells.digits host.address (sym (decode_sized-twice tells.digits 16 digits) ∙ tells.decoded)).2 in
    record { address = omega (arith, digits, halves); limit = tells.limited }

-- ---- arrays

-- the items of an array at a key, none where there is no such key
abbrev pub AreAt : Option Data → Items → Type 0
AreAt value items = (value ≡ Some (toml.array items)) ⊎ ((value ≡ None) × (items ≡ toml.no_items))

module _ {Row : Type 0} (bad : TableFault) (most : ℕ) (row_in : ℕ → Data → Result Row TableFault)
    (same : Row → Row → Bool) (read : Reading Data Row)
    (law : ReadsAsSpelled most row_in same read) where
  -- the rows of an array are spelled by its elements, in order
  pub listed_is : (value : Option Data) (rows : List Row) → listed bad read value ≡ Ok rows
      → (items : Items) × AreAt value items × SpellKeyed most row_in same (elements_in items) rows
  listed_is None rows e = (toml.no_items, inr (refl, refl), (law [] rows).0 e)
  listed_is (Some value) rows e =
      let array : (items : Items) × (value ≡ toml.array items) × (rows_after read [] (elements_in items) ≡ Ok rows) =
      grind arith in
      (array.0, inl (ap (λ (v : Data). Some v) array.1), (law (elements_in array.0) rows).0 array.2)

  -- an array whose elements spell rows is read as these
  pub lists : (value : Option Data) (items : Items) (rows : List Row) → AreAt value items
      → SpellKeyed most row_in same (elements_in items) rows → listed bad read value ≡ Ok rows
  lists value items rows (inl is) spelled = rw is ((law (elements_in items) rows).1 spelled)
  lists value items rows (inr (none, no_items)) spelled = rw none ((law [] rows).1 (rw no_items at spelled))

  -- the rows of an array are within their limits, no two of one key
  are_keyed : (Is : Row → Type 0) → ((n : ℕ) (value : Data) (row : Row) → row_in n value ≡ Ok row → Is row)
      → (value : Option Data) (rows : List Row) → listed bad read value ≡ Ok rows → AreKeyed most Is same rows
  are_keyed Is each value rows e =
      let is = listed_is value rows e in
      record {
        few = is.2.few;
        each = all_spelled Is row_in each 0 (elements_in is.0) rows is.2.spelled;
        apart = is.2.apart;
      }

-- sites are the same by their names
site_keys : IsEquivalence same_name
site_keys = search (rules, comparing)

-- hosts are the same by their addresses
host_keys : IsEquivalence same_address
host_keys = search (rules, comparing)

-- sites are read just where elements spell them
pub sites_read_as_spelled : ReadsAsSpelled MOST_SITES site_at same_name site_after
sites_read_as_spelled =
    reads_as_spelled Data SiteEntry MOST_SITES fault.TooManySites site_at same_name fault.SiteTwice site_keys

-- hosts are read just where elements spell them
pub hosts_read_as_spelled : ReadsAsSpelled MOST_HOSTS host_at same_address host_after
hosts_read_as_spelled =
    reads_as_spelled Data HostEntry MOST_HOSTS fault.TooManyHosts host_at same_address fault.HostTwice host_keys

-- the sites that are listed
pub sites_are : (value : Option Data) (rows : List SiteEntry) → listed (fault.BadSite 0) site_after value ≡ Ok rows
    → AreKeyed MOST_SITES IsSiteEntry same_name rows
sites_are =
    are_keyed (fault.BadSite 0) MOST_SITES site_at same_name site_after sites_read_as_spelled IsSiteEntry site_entry

-- the hosts that are listed
pub hosts_are : (value : Option Data) (rows : List HostEntry) → listed (fault.BadHost 0) host_after value ≡ Ok rows
    → AreKeyed MOST_HOSTS IsHostEntry same_address rows
hosts_are =
    are_keyed (fault.BadHost 0) MOST_HOSTS host_at same_address host_after hosts_read_as_spelled IsHostEntry host_entry

-- ---- the document

-- settings that were read are the sites and hosts of one document
pub settings_parts : (text : List ℕ) (settings : SettingsEntries) → settings_of text ≡ Ok settings
    → (document : Members) × (is_utf8 text ≡ true) × (parse_document text ≡ Some document)
    × (list_all is_root_key (keys_in document) ≡ true)
    × (listed (fault.BadSite 0) site_after (get_member (codes "site") document) ≡ Ok settings.sites)
    × (listed (fault.BadHost 0) host_after (get_member (codes "host") document) ≡ Ok settings.hosts)
unfolding document_in
settings_parts text settings e = grind arith

-- settings that are read are within their limits
pub settings_are_within : (text : List ℕ) (settings : SettingsEntries) → settings_of text ≡ Ok settings
    → AreSettings settings
settings_are_within text settings e =
    let (document, text_is, read, keys, sites, hosts) = settings_parts text settings e in
    record {
      sites = sites_are (get_member (codes "site") document) settings.sites sites;
      hosts = hosts_are (get_member (codes "host") document) settings.hosts hosts;
    }
