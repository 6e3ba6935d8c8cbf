-- What goes to the servers of each class, found by the region and the servers of the class.
use Rattle.std.specs.Prelude.{◌≡◌, ◌<◌, ◌≤◌, ◌+◌, ◌^◌, ◌&&◌, ℕ, Bool, true, false, List, [], ◌∷◌, length, map, sum}
use Rattle.std.specs.Prelude.{sum_by, All, Vec, MatchOption}
use Rattle.std.specs.Prelude.{Option, Some, None, option_map, if◌then◌else◌}
use Rattle.std.specs.declared.alloc.Global.{Global}
use Rattle.std.specs.Cmp.Lexicographic.{slice_cmp}
use Rattle.std.specs.List.{list_any, zip}
use Rattle.std.specs.Map.{lookup}
use Rattle.std.specs.Option.{ForSome}
use Rattle.std.specs.Ordering.{nat_cmp, ordering_then}
use Rattle.std.specs.declared.cmp.Ordering.{Ordering}
use Rattle.std.specs.Str.{bytes_eq}
use Rattle.hsp_instance.specs.declared.arc.Arc.{Arc}
use Rattle.hsp_price_text.specs.Claim.{Class}
use Rattle.hsp_prices.specs.Least.{least_arcs}
use Rattle.hsp_prices.specs.Groups.{Group}
use Rattle.hsp_prices.specs.Solved.{flow_to, flows_by, least_servers_by}
use Rattle.hsp_price_plan.specs.declared.classes.ClassKey.{ClassKey}

-- keys with their amounts
abbrev pub Entries : Type 0
Entries = List (ClassKey × Vec ℕ Global)

-- by region, and then by servers
abbrev pub key_cmp : ClassKey → ClassKey → Ordering
key_cmp a b =
    ordering_then (slice_cmp nat_cmp a.region.items b.region.items)
    (slice_cmp nat_cmp a.servers.items b.servers.items)

-- a key is of a region and servers
abbrev pub is_key_of : List ℕ → List ℕ → ClassKey → Bool
is_key_of region servers key = bytes_eq key.region.items region && bytes_eq key.servers.items servers

-- the amounts of the class of a region and servers
abbrev pub amounts_at : Entries → List ℕ → List ℕ → Option (List ℕ)
amounts_at entries region servers =
    option_map (λ (amounts : Vec ℕ Global). amounts.items) (lookup (is_key_of region servers) entries)

-- the class of a key and its amounts
abbrev pub class_of : ClassKey × Vec ℕ Global → Class
class_of entry = record {
  region = entry.0.region.items;
  servers = entry.0.servers.items;
  amounts = entry.1.items;
}

-- numbers added up, place by place
abbrev pub added : List ℕ → List ℕ → List ℕ
added [] ys = []
added (x ∷ xs) [] = x ∷ xs
added (x ∷ xs) (y ∷ ys) = (x + y) ∷ added xs ys

-- the amounts of a class, if there is one yet, with what flows from a group
abbrev pub amounts_with : Group × List ℕ → List ℕ → Option (List ℕ) → List ℕ
amounts_with own servers None = map (λ j. flow_to j own) servers
amounts_with own servers (Some amounts) = added amounts (map (λ j. flow_to j own) servers)

-- each amount at the key has room for so much more
abbrev pub HasRoom : Entries → ClassKey → ℕ → Type 0
HasRoom entries key more =
    ForSome (amounts_at entries key.region.items key.servers.items)
    (λ amounts. (length amounts ≡ length key.servers.items) × All (λ amount. amount + more < 2 ^ 64) amounts)

-- what flows from a group is added to the amounts at its key, and the others stay
abbrev pub AddsFlow : Entries → ClassKey → Group × List ℕ → Entries → Type 0
AddsFlow old key own new =
    (region servers : List ℕ) →
    amounts_at new region servers
    ≡ (if is_key_of region servers key then Some (amounts_with own servers (amounts_at old region servers))
    else amounts_at old region servers)

-- ---- what the sums are

-- groups, each with its flows
abbrev pub sent_of : List Group → List ℕ → List (Group × List ℕ)
sent_of groups flows = zip groups (flows_by groups flows)

-- a group is of the class of a region and servers
abbrev pub is_of_class : (Arc → ℕ) → List ℕ → List ℕ → Group → Bool
is_of_class pay region servers group =
    bytes_eq region group.region && bytes_eq servers (least_servers_by pay group)

-- some of the groups are of the class
abbrev pub has_group : (Arc → ℕ) → List (Group × List ℕ) → List ℕ → List ℕ → Bool
has_group pay sent region servers = list_any (λ own. is_of_class pay region servers own.0) sent

-- what the groups that pass a test send to a server
abbrev pub sent_where : (Group → Bool) → List (Group × List ℕ) → ℕ → ℕ
sent_where test sent j = sum_by (λ own. if test own.0 then flow_to j own else 0) sent

-- no group is of the class
abbrev pub IsAbsent : (Arc → ℕ) → List (Group × List ℕ) → List ℕ → List ℕ → Type 0
IsAbsent pay sent region servers = 2 ≤ length servers → has_group pay sent region servers ≡ false

-- a group is of the class, which has two servers or more, and the amounts are what its groups send to each
pub record IsSum (pay : Arc → ℕ) (sent : List (Group × List ℕ)) (region servers amounts : List ℕ) : Type 0 where
  pub several : 2 ≤ length servers
  pub used : has_group pay sent region servers ≡ true
  pub sums : amounts ≡ map (sent_where (is_of_class pay region servers) sent) servers

-- there are amounts for each class that has a group, and for no other
abbrev pub AreSums : (Arc → ℕ) → List (Group × List ℕ) → Entries → Type 0
AreSums pay sent entries =
    (region servers : List ℕ)
    → MatchOption (amounts_at entries region servers) (IsAbsent pay sent region servers)
    (IsSum pay sent region servers)

-- what flows from groups together
abbrev pub total_of : List (Group × List ℕ) → ℕ
total_of sent = sum_by (λ own. sum own.1) sent

-- the sums are those of some groups, and there is room for what flows from one with these least arcs
pub record HasRoomFor (entries : Entries) (least : List Arc) (own : Group × List ℕ) : Type 0 where
  pub pay : Arc → ℕ
  pub sent : List (Group × List ℕ)
  pub are_least : least ≡ least_arcs pay own.0.arcs
  pub sums : AreSums pay sent entries
  pub room : total_of sent + sum own.1 < 2 ^ 64
