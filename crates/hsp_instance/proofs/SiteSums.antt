-- Sites and the number of their servers.
use Rattle.std.proofs.Common.{◌≡◌, ◌≤◌, ◌<◌, ◌+◌, ℕ, zero, suc, List, [], ◌∷◌, ◌++◌, Option, Some, length, option_map}
use Rattle.std.proofs.Common.{take, add-one, arith, length-append}
use Rattle.std.specs.List.{IsDistinct, slice_get}
use Rattle.hsp_text.specs.declared.limits.TheConstants.{MOST_SERVERS, MOST_SITES}
use Rattle.hsp_instance.specs.Instance.{AreSites, HasServer, IsSite, Site, same_name, servers_of}
use Rattle.hsp_text.proofs.Lists.{all_push}

-- one site more adds its servers
pub servers_of-push : (sites : List Site) (site : Site)
    → servers_of (sites ++ site ∷ []) ≡ servers_of sites + length site.servers
servers_of-push [] site = omega arith
servers_of-push (first ∷ sites) site = let e = servers_of-push sites site in omega arith

-- a site has no more servers than all
pub servers_within : (sites : List Site) (i : ℕ) (site : Site) → slice_get sites i ≡ Some site
    → length site.servers ≤ servers_of sites
servers_within [] i site e = grind arith
servers_within (first ∷ sites) zero site e = grind arith
servers_within (first ∷ sites) (suc i) site e = grind (arith, servers_within sites i site e)

-- no site is within the limits
pub no_sites : AreSites []
unfolding IsDistinct
no_sites = record { few = omega arith; each = tt; servers = omega arith; are = tt; apart = tt }

-- one more site within the limits
pub sites_push : (sites : List Site) (site : Site) → AreSites sites → length sites < MOST_SITES → IsSite site
    → 0 < length site.servers → servers_of sites + length site.servers ≤ MOST_SERVERS
    → IsDistinct same_name (sites ++ site ∷ []) → AreSites (sites ++ site ∷ [])
sites_push sites site are room is has few apart = record {
  few = omega (arith, length-append sites (site ∷ []));
  each = all_push HasServer sites site are.each has;
  servers = rw (servers_of-push sites site) few;
  are = all_push IsSite sites site are.are is;
  apart = apart;
}

-- the first sites and the next one have its servers more
taken_suc : (sites : List Site) (i : ℕ) (site : Site) → slice_get sites i ≡ Some site
    → servers_of (take (suc i) sites) ≡ servers_of (take i sites) + length site.servers
taken_suc [] i site e = grind arith
taken_suc (first ∷ sites) zero site e = grind arith
taken_suc (first ∷ sites) (suc i) site e = grind (arith, taken_suc sites i site e)

-- the servers of one more of the first sites
pub servers_of-taken : (sites : List Site) (i : ℕ) (site : Site) → slice_get sites i ≡ Some site
    → servers_of (take (i + 1) sites) ≡ servers_of (take i sites) + length site.servers
servers_of-taken sites i site e = rw add-one (taken_suc sites i site e)

-- the first sites have no more servers than all
pub servers_of-first : (sites : List Site) (i : ℕ) → servers_of (take i sites) ≤ servers_of sites
servers_of-first [] zero = omega arith
servers_of-first [] (suc i) = omega arith
servers_of-first (first ∷ sites) zero = omega arith
servers_of-first (first ∷ sites) (suc i) = let less = servers_of-first sites i in omega arith

-- a site by the number of its servers
pub site_with : (o : Option Site) (count : ℕ) → option_map (λ (s : Site). length s.servers) o ≡ Some count
    → (site : Site) × (o ≡ Some site) × (length site.servers ≡ count)
site_with o count e = grind arith

-- the servers of one more of the first sites, by the number of its own
pub next_first : (sites : List Site) (i count : ℕ) → AreSites sites
    → option_map (λ (s : Site). length s.servers) (slice_get sites i) ≡ Some count
    → (servers_of (take (i + 1) sites) ≡ servers_of (take i sites) + count)
    × (servers_of (take (i + 1) sites) ≤ MOST_SERVERS)
next_first sites i count are counted =
    let s = site_with (slice_get sites i) count counted in
    let more = servers_of-taken sites i s.0 s.1 in
    let own = s.2 in
    let less = servers_of-first sites (i + 1) in
    let most = are.servers in
    (omega arith, omega arith)
