-- The servers of an instance: those of each site after those of the sites before it.
use Rattle.std.proofs.Common.{◌≡◌, ◌∙◌, inl, inr, ◌≤◌, ◌+◌, ℕ, zero, suc, List, [], ◌∷◌, ◌++◌, Option, Some, None, Ok}
use Rattle.std.proofs.Common.{length, refl, ap, sym, subst, arith, append_assoc, add-zero, zero-add, length-append}
use Rattle.std.proofs.Math.Seq.{append_snoc}
use Rattle.std.proofs.lemmas.Bool.{cond_both}
use Rattle.std.proofs.lemmas.List.{append-nil}
use Rattle.std.specs.List.{AllByRecursion, position_from, slice_get}
use Rattle.std.specs.Str.{bytes_eq}
use Rattle.hsp_tables.specs.Capacities.{CapacityEntry, IsCapacityEntry}
use Rattle.hsp_text.specs.declared.limits.TheConstants.{GREATEST_CAPACITY}
use Rattle.hsp_instance.specs.Building.{capacity_of, is_at, is_capacity_of, server_at, servers_at, servers_from}
use Rattle.hsp_instance.specs.Instance.{Host, IsHostOf, IsServer, Server, Site, SiteServer, number_at, servers_of}
use Rattle.hsp_instance.specs.Parts.{IsServerOf}
use Rattle.hsp_instance.proofs.Lists.{append_at, back_at, found_within, front_at}
use Rattle.hsp_text.proofs.Steps.{first_step}
use Rattle.hsp_text.proofs.Lists.{all_append}

-- a capacity is within its limit
capacity_within : (rows : List CapacityEntry) (name : List ℕ) (id c : ℕ) → AllByRecursion IsCapacityEntry rows
    → capacity_of rows name id ≡ Some c → c ≤ GREATEST_CAPACITY
capacity_within rows name id c all e =
    found_within IsCapacityEntry GREATEST_CAPACITY (λ (row : CapacityEntry). row.capacity) (is_capacity_of name id) rows
    c (λ row is. is.capacity) all e

-- the number of a host is one of theirs
host_within : (n : ℕ) (hosts : List Host) (address : List ℕ)
    → IsHostOf (n + length hosts) (position_from (is_at address) n hosts)
host_within n [] address = tt
host_within n (host ∷ hosts) address =
    let e : n + 1 + length hosts ≡ n + suc (length hosts) = omega arith in
    cond_both (bytes_eq host.address address) (Some n) (position_from (is_at address) (n + 1) hosts)
    (IsHostOf (n + suc (length hosts))) (λ here. omega arith) (λ past. rw e at (host_within (n + 1) hosts address))

module _ (rows : List CapacityEntry) (hosts : List Host) where
  -- a server that was made is that of its site, of its place and of the tables
  made : (n : ℕ) (name : List ℕ) (place : ℕ) (own : SiteServer) (server : Server)
      → server_at rows hosts n name place own ≡ Ok server → IsServerOf rows hosts n name place own server
  made n name place own server e =
      let parts : (server.site ≡ n) × (server.place ≡ place) × (server.id ≡ own.id)
      × (capacity_of rows name own.id ≡ Some server.capacity)
      × (server.host ≡ position_from (is_at own.address) 0 hosts) = grind arith in
      record { site = parts.0; place = parts.1; id = parts.2; capacity = parts.3; host = parts.4 }

  -- the servers of site `n` from a place on
  abbrev pub AreOwn : ℕ → List ℕ → ℕ → List SiteServer → List Server → Type 0
  AreOwn n name place [] servers = servers ≡ []
  AreOwn n name place (own ∷ more) [] = ⊥
  AreOwn n name place (own ∷ more) (server ∷ servers) =
      IsServerOf rows hosts n name place own server × AreOwn n name (place + 1) more servers

  -- the servers of the sites from site `n` on
  abbrev pub AreFrom : ℕ → List Site → List Server → Type 0
  AreFrom n [] servers = servers ≡ []
  AreFrom n (site ∷ more) servers =
      (own : List Server) × (rest : List Server) × (servers ≡ own ++ rest) × AreOwn n site.name 0 site.servers own
      × AreFrom (n + 1) more rest

  -- the servers of a site are put behind the earlier ones, each from its own entry
  own_made : (n : ℕ) (name : List ℕ) (place : ℕ) (earlier : List Server) (owns : List SiteServer)
      (servers : List Server) → servers_at rows hosts n name place earlier owns ≡ Ok servers
      → (added : List Server) × (servers ≡ earlier ++ added) × AreOwn n name place owns added
  own_made n name place earlier [] servers e =
      let same : earlier ≡ servers = cc (e) in ([], sym same ∙ sym (append-nil earlier), refl)
  own_made n name place earlier (own ∷ more) servers e =
      let first =
      first_step (server_at rows hosts n name place own)
      (λ server. servers_at rows hosts n name (place + 1) (earlier ++ server ∷ []) more) servers e in
      let rest = own_made n name (place + 1) (earlier ++ first.0 ∷ []) more servers first.2 in
      (first.0 ∷ rest.0, rest.1 ∙ append_snoc earlier first.0 rest.0, (made n name place own first.0 first.1, rest.2))

  -- the servers of sites are put behind the earlier ones, site by site
  pub from_made : (n : ℕ) (earlier : List Server) (sites : List Site) (servers : List Server)
      → servers_from rows hosts n earlier sites ≡ Ok servers
      → (added : List Server) × (servers ≡ earlier ++ added) × AreFrom n sites added
  from_made n earlier [] servers e =
      let same : earlier ≡ servers = cc (e) in ([], sym same ∙ sym (append-nil earlier), refl)
  from_made n earlier (site ∷ more) servers e =
      let first =
      first_step (servers_at rows hosts n site.name 0 earlier site.servers)
      (λ servers. servers_from rows hosts (n + 1) servers more) servers e in
      let own = own_made n site.name 0 earlier site.servers first.0 first.1 in
      let rest = from_made (n + 1) first.0 more servers first.2 in (
        own.0 ++ rest.0,
        rest.1 ∙ ap (λ front. front ++ rest.0) own.1 ∙ append_assoc earlier own.0 rest.0,
        (own.0, rest.0, refl, own.2, rest.2),
      )

  -- the servers that sites have
  pub are_from : (sites : List Site) (servers : List Server) → servers_from rows hosts 0 [] sites ≡ Ok servers
      → AreFrom 0 sites servers
  are_from sites servers built = let made = from_made 0 [] sites servers built in rw made.1 made.2

  -- as many servers as the sites have
  pub own_count : (n : ℕ) (name : List ℕ) (place : ℕ) (owns : List SiteServer) (servers : List Server)
      → AreOwn n name place owns servers → length servers ≡ length owns
  own_count n name place [] servers are = ap length are
  own_count n name place (own ∷ more) [] are = absurd are
  own_count n name place (own ∷ more) (server ∷ servers) are = ap suc (own_count n name (place + 1) more servers are.1)

  -- there are as many servers as all sites have
  pub from_count : (n : ℕ) (sites : List Site) (servers : List Server) → AreFrom n sites servers
      → length servers ≡ servers_of sites
  from_count n [] servers are = ap length are
  from_count n (site ∷ more) servers are =
      let all : length servers ≡ length (are.0 ++ are.1) = ap length are.2 in
      let own = own_count n site.name 0 site.servers are.0 are.3 in
      let rest = from_count (n + 1) more are.1 are.4 in
      omega (arith, length-append are.0 are.1)

  -- the server at a place of site `n`
  pub own_at : (n : ℕ) (name : List ℕ) (place : ℕ) (owns : List SiteServer) (servers : List Server) (i : ℕ)
      (own : SiteServer) → AreOwn n name place owns servers → slice_get owns i ≡ Some own
      → (server : Server) × (slice_get servers i ≡ Some server) × IsServerOf rows hosts n name (place + i) own server
  own_at n name place [] servers i own are at = let none : ◌≡◌ {A = Option SiteServer} None (Some own) = at in cc
  own_at n name place (first ∷ more) [] i own are at = absurd are
  own_at n name place (first ∷ more) (server ∷ servers) zero own are at =
      let same : first ≡ own = cc (at) in (server, refl, rw (add-zero, ← same) are.0)
  own_at n name place (first ∷ more) (server ∷ servers) (suc i) own are at =
      let e : place + suc i ≡ place + 1 + i = omega arith in
      rw e (own_at n name (place + 1) more servers i own are.1 at)

  -- the server at a place of one of the sites from site `n` on
  pub from_at : (n : ℕ) (sites : List Site) (servers : List Server) (i place : ℕ) (site : Site) (own : SiteServer)
      → AreFrom n sites servers → slice_get sites i ≡ Some site → slice_get site.servers place ≡ Some own
      → (server : Server) × (slice_get servers (number_at sites i place) ≡ Some server)
      × IsServerOf rows hosts (n + i) site.name place own server
  from_at n [] servers i place site own are at here = let none : ◌≡◌ {A = Option Site} None (Some site) = at in cc
  from_at n (first ∷ more) servers zero place site own are at here =
      let same : first ≡ site = cc (at) in
      let found =
      own_at n site.name 0 site.servers are.0 place own
      (subst (λ (s : Site). AreOwn n s.name 0 s.servers are.0) same are.3) here in
      let e : n + 0 ≡ n = omega arith in
      (found.0, rw (are.2, zero-add) (front_at are.0 are.1 place found.0 found.1), rw e (rw zero-add at found.2))
  from_at n (first ∷ more) servers (suc i) place site own are at here =
      let found = from_at (n + 1) more are.1 i place site own are.4 at here in
      let count = own_count n first.name 0 first.servers are.0 are.3 in
      let e : n + suc i ≡ n + 1 + i = omega arith in
      let number : number_at (first ∷ more) (suc i) place ≡ length are.0 + number_at more i place = omega arith in
      (found.0, rw (number, are.2, back_at are.0 are.1) found.1, rw e found.2)

  -- a server of site `n`, by where it stands among them
  own_place : (n : ℕ) (name : List ℕ) (place : ℕ) (owns : List SiteServer) (servers : List Server) (i : ℕ)
      (server : Server) → AreOwn n name place owns servers → slice_get servers i ≡ Some server
      → (server.site ≡ n) × (server.place ≡ place + i)
  own_place n name place [] servers i server are at =
      let none : ◌≡◌ {A = Option Server} None (Some server) = rw are at at in cc
  own_place n name place (own ∷ more) [] i server are at = absurd are
  own_place n name place (own ∷ more) (first ∷ servers) zero server are at =
      let same : first ≡ server = cc (at) in rw (← same, add-zero) (are.0.site, are.0.place)
  own_place n name place (own ∷ more) (first ∷ servers) (suc i) server are at =
      let e : place + suc i ≡ place + 1 + i = omega arith in
      rw e (own_place n name (place + 1) more servers i server are.1 at)

  -- a server stands at the number of its site and place
  pub from_number : (n : ℕ) (sites : List Site) (servers : List Server) (i : ℕ) (server : Server)
      → AreFrom n sites servers → slice_get servers i ≡ Some server
      → (k : ℕ) × (server.site ≡ n + k) × (i ≡ number_at sites k server.place)
  from_number n [] servers i server are at = let none : ◌≡◌ {A = Option Server} None (Some server) = rw are at at in cc
  from_number n (site ∷ more) servers i server are at = elim (append_at are.0 are.1 i server (rw are.2 at at)) [
    | inl here ↦
        (let own = own_place n site.name 0 site.servers are.0 i server are.3 here in (0, omega arith, omega arith))
    | inr later ↦ (
        let rest = from_number (n + 1) more are.1 later.0 server are.4 later.2 in
        let count = own_count n site.name 0 site.servers are.0 are.3 in
        let number : number_at (site ∷ more) (suc rest.0) server.place
        ≡ length are.0 + number_at more rest.0 server.place = omega arith in
        (suc rest.0, omega arith, omega arith))
  ]

-- each server stands at a place of a site, within the limits
module _ (rows : List CapacityEntry) (hosts : List Host) (each : AllByRecursion IsCapacityEntry rows)
    (whole : List Site) where
  -- the servers of a site refer to that site and to listed hosts
  own_servers : (site : Site) (n place : ℕ) (owns : List SiteServer) (servers : List Server)
      → slice_get whole n ≡ Some site → ((k : ℕ) → slice_get site.servers (place + k) ≡ slice_get owns k)
      → AreOwn rows hosts n site.name place owns servers → AllByRecursion (IsServer whole (length hosts)) servers
  own_servers site n place [] servers at same are = rw are tt
  own_servers site n place (own ∷ more) [] at same are = absurd are
  own_servers site n place (own ∷ more) (server ∷ servers) at same are = (
    record {
      place =
          record {
            site = site;
            own = own;
            is_site = rw are.0.site at;
            is_own = rw are.0.place (rw add-zero at (same 0));
            same_id = are.0.id;
          };
      capacity = capacity_within rows site.name own.id server.capacity each are.0.capacity;
      host = rw are.0.host (rw zero-add at (host_within 0 hosts own.address));
    },
    own_servers site n (place + 1) more servers at (λ k. let e : place + 1 + k ≡ place + suc k = omega arith in
        rw e (same (suc k))) are.1,
  )

  -- all servers refer to their sites and to listed hosts
  pub from_servers : (n : ℕ) (sites : List Site) (servers : List Server)
      → ((k : ℕ) → slice_get whole (n + k) ≡ slice_get sites k) → AreFrom rows hosts n sites servers
      → AllByRecursion (IsServer whole (length hosts)) servers
  from_servers n [] servers same are = rw are tt
  from_servers n (site ∷ more) servers same are =
      rw are.2 (all_append (IsServer whole (length hosts)) are.0 are.1
      (own_servers site n 0 site.servers are.0 (rw add-zero at (same 0)) (λ k. rw zero-add refl) are.3)
      (from_servers (n + 1) more are.1 (λ k. let e : n + 1 + k ≡ n + suc k = omega arith in rw e (same (suc k))) are.4))
