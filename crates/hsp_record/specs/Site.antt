-- HS_SITE data, by the fields of RFC 3651 section 3.2.2, in the order and widths of this project's profile.
use Rattle.std.specs.Prelude.{◌≡◌, ℕ, ◌<◌, ◌≤◌, ◌^◌, List, [], ◌∷◌, ◌++◌, length}
use Rattle.std.specs.Int.{w8, w16, w32, to_be_bytes}
use Rattle.hsp_text.specs.declared.limits.TheConstants.{MOST_SERVERS}
use Rattle.hsp_record.specs.Fields.{IsOctets, joined, run_fields, IsRun, list_fields, IsCounted, Format}

-- an attribute and its value
pub record AttributePair : Type 0 where
  pub name : List ℕ
  pub value : List ℕ

-- a service interface: what it serves, over which transmission protocol, at which port
pub record Interface : Type 0 where
  pub service_type : ℕ
  pub protocol : ℕ
  pub port : ℕ

-- a server record
pub record Server : Type 0 where
  pub id : ℕ
  pub address : List ℕ
  pub key : List ℕ
  pub interfaces : List Interface

-- a site record
pub record Site : Type 0 where
  pub version : ℕ
  pub major : ℕ
  pub minor : ℕ
  pub serial : ℕ
  pub mask : ℕ
  pub option : ℕ
  pub filter : List ℕ
  pub attributes : List AttributePair
  pub servers : List Server

-- two texts, each after its length in four octets
abbrev pub attribute_fields : AttributePair → List (List ℕ)
attribute_fields a = run_fields a.name ++ run_fields a.value

abbrev pub interface_fields : Interface → List (List ℕ)
interface_fields i = to_be_bytes w8 i.service_type ∷ to_be_bytes w8 i.protocol ∷ to_be_bytes w32 i.port ∷ []

abbrev pub server_fields : Server → List (List ℕ)
server_fields s = to_be_bytes w32 s.id ∷ s.address ∷ run_fields s.key ++ list_fields interface_fields s.interfaces

-- the fields before the number of servers
abbrev pub head_fields : Site → List (List ℕ)
head_fields s =
    to_be_bytes w16 s.version ∷ (s.major ∷ s.minor ∷ []) ∷ to_be_bytes w16 s.serial ∷ to_be_bytes w8 s.mask
    ∷ to_be_bytes w8 s.option ∷ run_fields s.filter ++ list_fields attribute_fields s.attributes

abbrev pub site_fields : Site → List (List ℕ)
site_fields s = head_fields s ++ list_fields server_fields s.servers

pub record IsAttribute (a : AttributePair) : Type 0 where
  pub name : IsRun a.name
  pub value : IsRun a.value

pub record IsInterface (i : Interface) : Type 0 where
  pub service_type : i.service_type < 2 ^ 8
  pub protocol : i.protocol < 2 ^ 8
  pub port : i.port < 2 ^ 32

pub record IsServer (s : Server) : Type 0 where
  pub id : s.id < 2 ^ 32
  pub address : (length s.address ≡ 16) × IsOctets s.address
  pub key : IsRun s.key
  pub interfaces : IsCounted IsInterface s.interfaces

-- each field but the servers is in its range
pub record IsHead (s : Site) : Type 0 where
  pub version : s.version < 2 ^ 16
  pub major : s.major < 2 ^ 8
  pub minor : s.minor < 2 ^ 8
  pub serial : s.serial < 2 ^ 16
  pub mask : s.mask < 2 ^ 8
  pub option : s.option < 2 ^ 8
  pub filter : IsRun s.filter
  pub attributes : IsCounted IsAttribute s.attributes

-- a record with any number of servers that 4 octets can state
abbrev pub IsWideSite : Site → Type 0
IsWideSite s = IsHead s × IsCounted IsServer s.servers

-- a record with no more servers than a site may have
abbrev pub IsSite : Site → Type 0
IsSite s = IsWideSite s × (length s.servers ≤ MOST_SERVERS)

-- What stands before the number of servers begins a spelling, and the number's four octets are there and above the
-- limit.
pub record HasTooManyServers (octets : List ℕ) : Type 0 where
  pub site : Site
  pub fits : IsHead site
  pub count : ℕ
  pub above : MOST_SERVERS < count
  pub counted : count < 2 ^ 32
  pub rest : List ℕ
  pub begins : octets ≡ joined (head_fields site) ++ (to_be_bytes w32 count ++ rest)

abbrev pub site_format : Format Site
site_format = record {
  Fits = IsSite;
  Wide = IsWideSite;
  fields = site_fields;
  HasTooManyServers = HasTooManyServers;
  HasIndexTwice = λ _ _. ⊥;
}
