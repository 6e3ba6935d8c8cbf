-- Servers and arcs of the page are those that are built.
use Rattle.std.proofs.Common.{◌≡◌, ◌≢◌, ◌∙◌, ◌<◌, ◌+◌, ◌-◌, ◌==◌, inl, inr, ℕ, suc, true, false, List, [], ◌∷◌, Option}
use Rattle.std.proofs.Common.{Some, None, length, refl, ap, sym, arith}
use Rattle.std.proofs.lemmas.Bool.{and_parts, both_ways, cases_Bool, cases_lt}
use Rattle.std.specs.Cmp.Lexicographic.{nat_list_eq_equiv}
use Rattle.std.proofs.lemmas.Slice.Eq.{bytes_eq-Decides}
use Rattle.std.proofs.lemmas.Bool.Decides.{Decides-eqb}
use Rattle.std.specs.List.{AllByRecursion, IsDistinct, position_from, slice_get}
use Rattle.std.specs.Str.{bytes_eq}
use Rattle.hsp_tables.specs.Capacities.{same_capacity}
use Rattle.hsp_tables.specs.Costs.{same_cost}
use Rattle.hsp_instance.specs.Building.{Inputs, is_at, is_capacity_of, is_cost_of}
use Rattle.hsp_instance.specs.Instance.{Host, Instance, Server, Site, SiteServer, number_at, same_address, servers_of}
use Rattle.hsp_instance.specs.Parts.{HasPartsOf}
use Rattle.hsp_instance.proofs.Lists.{all_at, one_place, there}
use Rattle.hsp_inputs.specs.Headline.{AreServers, StandsOn}
use Rattle.hsp_inputs.proofs.Finding.{AreOf, number_is}

-- a text equals itself
are_same : (a : List ℕ) → bytes_eq a a ≡ true
are_same a = (bytes_eq-Decides a a).1 refl

-- a number equals itself
are_equal : (a : ℕ) → (a == a) ≡ true
are_equal a = (Decides-eqb a a).1 refl

-- ---- capacities and costs

-- rows of capacity go by site and server
pub capacity_rows : (name : List ℕ) (id : ℕ)
    → AreOf (is_capacity_of name id) same_capacity (λ row. row.capacity)
    (λ c. record { site = name; server_id = id; capacity = c })
capacity_rows name id = record {
  is = λ row e.
      let tests = and_parts (bytes_eq row.site name) (row.server_id == id) e in
      rw (← ((bytes_eq-Decides row.site name).0 tests.0), ← ((Decides-eqb row.server_id id).0 tests.1)) refl;
  passes = λ n. rw (are_same name, are_equal id) refl;
  has = λ n. refl;
  alike = λ m n. rw (are_same name, are_equal id) refl;
}

-- rows of cost go by region and site
pub cost_rows : (region name : List ℕ)
    → AreOf (is_cost_of region name) same_cost (λ row. row.cost)
    (λ c. record { region = region; site = name; cost = c })
cost_rows region name = record {
  is = λ row e.
      let tests = and_parts (bytes_eq row.region region) (bytes_eq row.site name) e in
      rw (← ((bytes_eq-Decides row.region region).0 tests.0), ← ((bytes_eq-Decides row.site name).0 tests.1)) refl;
  passes = λ n. rw (are_same region, are_same name) refl;
  has = λ n. refl;
  alike = λ m n. rw (are_same region, are_same name) refl;
}

-- ---- hosts

-- the place that is found is that of a host of the address
stands_from : (address : List ℕ) (n : ℕ) (hosts : List Host) (m : ℕ) → position_from (is_at address) n hosts ≡ Some m
    → (k : ℕ) × (m ≡ n + k) × ((host : Host) × (slice_get hosts k ≡ Some host) × (host.address ≡ address))
stands_from address n [] m e = grind arith
stands_from address n (host ∷ hosts) m e =
    elim (cases_Bool (bytes_eq host.address address)) [
      | inl is ↦ (0, grind (arith, is), (host, refl, (bytes_eq-Decides host.address address).0 is))
      | inr other ↦ let later =
          stands_from address (n + 1) hosts m (rw other at e) in (suc later.0, omega (arith, later.1), later.2)
    ]

-- an address that is not found is that of no host
none_from : (address : List ℕ) (n : ℕ) (hosts : List Host) → position_from (is_at address) n hosts ≡ None
    → AllByRecursion (λ (host : Host). host.address ≢ address) hosts
none_from address n [] e = tt
none_from address n (host ∷ hosts) e =
    let other : (bytes_eq host.address address ≡ false) × (position_from (is_at address) (n + 1) hosts ≡ None) =
    grind arith in (
      λ same. both_ways (bytes_eq host.address address) other.0 ((bytes_eq-Decides host.address address).1 same),
      none_from address (n + 1) hosts other.1,
    )

-- a server stands on the host of its address
pub stands : (hosts : List Host) (address : List ℕ) (host : Option ℕ) → position_from (is_at address) 0 hosts ≡ host
    → StandsOn hosts address host
stands hosts address None e = none_from address 0 hosts e
stands hosts address (Some n) e =
    let at = stands_from address 0 hosts n e in
    let same : at.0 ≡ n = omega (arith, at.1) in
    (at.2.0, rw same at at.2.1, at.2.2)

-- an address has one host
pub one_host : (hosts : List Host) (address : List ℕ) (a b : Option ℕ) → IsDistinct same_address hosts
    → StandsOn hosts address a → StandsOn hosts address b → a ≡ b
one_host hosts address None None apart p q = refl
one_host hosts address None (Some n) apart p q =
    absurd (all_at (λ (host : Host). host.address ≢ address) hosts n q.0 p q.1 q.2)
one_host hosts address (Some n) None apart p q =
    absurd (all_at (λ (host : Host). host.address ≢ address) hosts n p.0 q p.1 p.2)
one_host hosts address (Some n) (Some m) apart p q = ap (λ k. Some k)
    (one_place same_address (λ x y e. nat_list_eq_equiv.symm y.address x.address ∙ e) hosts n m p.0 q.0 apart p.1 q.1
    (rw (p.2, q.2) (are_same address)))

-- ---- servers

-- a server is its parts
by_parts : (server : Server) (n place id : ℕ) → server.site ≡ n → server.place ≡ place → server.id ≡ id
    → server ≡ record { site = n; place = place; id = id; capacity = server.capacity; host = server.host }
by_parts server n place id site at own = rw (← site, ← at, ← own) refl

-- the servers that are built are the page's
pub servers_are : (inputs : Inputs) (it : Instance) → HasPartsOf inputs it → AreServers inputs.capacities it
servers_are inputs it has = record {
  count = has.server_count;
  each = λ n place site own at here.
      let one = has.servers n place site own at here in
      let server : Server =
      record { site = n; place = place; id = own.id; capacity = one.server.capacity; host = one.server.host } in
      let same : one.server ≡ server =
      by_parts one.server n place own.id one.is_of.site one.is_of.place one.is_of.id in (
        one.server.capacity,
        one.server.host,
        one.is_server ∙ ap (λ (s : Server). Some s) same,
        number_is (capacity_rows site.name own.id) inputs.capacities one.server.capacity one.is_of.capacity,
        stands it.hosts own.address one.server.host (sym one.is_of.host),
      );
}

-- each number below that of all servers is that of one of them
pub number_of : (sites : List Site) (i : ℕ) → i < servers_of sites
    → (n : ℕ) × (place : ℕ)
    × ((site : Site) × (own : SiteServer) × (slice_get sites n ≡ Some site)
    × (slice_get site.servers place ≡ Some own) × (number_at sites n place ≡ i))
number_of [] i less = absurd (omega arith)
number_of (site ∷ sites) i less = elim (cases_lt i (length site.servers)) [
  | inl here ↦ let own = there site.servers i here in (0, i, (site, own.0, refl, own.1, omega arith))
  | inr past ↦ (
      let later = number_of sites (i - length site.servers) (omega arith) in
      let number = later.2.4 in
      (suc later.0, later.1, (later.2.0, later.2.1, later.2.2, later.2.3, omega arith)))
]
