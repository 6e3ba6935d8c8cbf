-- What a certificate by prices says: a plan of rows of any number, or a short set of servers.
use Rattle.std.specs.Prelude.{◌&&◌, ◌==◌, ℕ, Bool, List, length, nat_le, nat_lt, Option, Some, None, if◌then◌else◌}
use Rattle.std.specs.List.{list_all}
use Rattle.std.specs.Cmp.Lexicographic.{slice_cmp}
use Rattle.std.specs.Ordering.{is_lt, nat_cmp, ordering_then}
use Rattle.hsp_text.specs.Name.{is_name}
use Rattle.hsp_text.specs.declared.limits.TheConstants.{GREATEST_SUM, MOST_HOSTS, MOST_SERVERS}
use Rattle.hsp_cert.specs.Certificate.{are_prices_within, ascends}
use Rattle.hsp_price_text.specs.declared.ranges.TheConstants.{GREATEST_AMOUNT, LAST_SERVER, MOST_CLASSES}

-- a class of rows: its region, its servers, and how many queries go to each
pub record Class : Type 0 where
  pub region : List ℕ
  pub servers : List ℕ
  pub amounts : List ℕ

-- a plan by prices and classes
pub record Best : Type 0 where
  pub cost : ℕ
  pub server_prices : List ℕ
  pub host_prices : List ℕ
  pub classes : List Class

-- a set of servers, what the rows ask for that can go nowhere else, and what the set takes
pub record Short : Type 0 where
  pub servers : List ℕ
  pub demand : ℕ
  pub capacity : ℕ

-- at most 1,023
abbrev pub is_server : ℕ → Bool
is_server server = nat_le server LAST_SERVER

-- at most 10^12
abbrev pub is_amount : ℕ → Bool
is_amount amount = nat_le amount GREATEST_AMOUNT

-- servers that ascend
abbrev pub are_servers : List ℕ → Bool
are_servers servers = list_all is_server servers && ascends nat_lt servers

-- a region's name, two servers or more that ascend, and an amount for each
abbrev pub is_class : Class → Bool
is_class c =
    is_name c.region
    && (nat_le 2 (length c.servers)
    && (are_servers c.servers && (length c.amounts == length c.servers && list_all is_amount c.amounts)))

-- by the regions' names, and by the servers within a region, the first difference first
abbrev pub is_before : Class → Class → Bool
is_before c d = is_lt (ordering_then (slice_cmp nat_cmp c.region d.region) (slice_cmp nat_cmp c.servers d.servers))

-- a plan within the orders and ranges
abbrev pub is_best : Best → Bool
is_best b =
    nat_le b.cost GREATEST_SUM
    && (are_prices_within MOST_SERVERS b.server_prices
    && (are_prices_within MOST_HOSTS b.host_prices
    && (nat_le (length b.classes) MOST_CLASSES && (list_all is_class b.classes && ascends is_before b.classes))))

-- a set of servers within them
abbrev pub is_short : Short → Bool
is_short s = are_servers s.servers && (nat_le s.demand GREATEST_SUM && nat_le s.capacity GREATEST_SUM)

-- the plan, or the set, where it is within them
abbrev pub if_best : Best → Option Best
if_best b = if is_best b then Some b else None

abbrev pub if_short : Short → Option Short
if_short s = if is_short s then Some s else None
