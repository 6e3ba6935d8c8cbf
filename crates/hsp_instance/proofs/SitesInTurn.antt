-- Sites in turn: the next one, and the first fault.
use Rattle.std.proofs.Common.{◌≡◌, inl, inr, ◌≤◌, ◌<◌, ◌+◌, ℕ, false, List, [], ◌∷◌, ◌++◌, Option, Some, None}
use Rattle.std.proofs.Common.{option_map, Result, Ok, Err, drop, length, map, refl, subst, sym, arith, ◌==◌}
use Rattle.std.proofs.lemmas.Bool.{or_parts}
use Rattle.std.proofs.lemmas.Bool.Decides.{nat_tests}
use Rattle.std.specs.List.{AllByRecursion, IsDistinct, slice_get}
use Rattle.hsp_record.specs.Values.{HandleValue}
use Rattle.hsp_record.specs.Site as records
use Rattle.hsp_record.specs.declared.fault.RecordFault.{RecordFault}
use Rattle.hsp_hash.specs.Option.{option_of}
use Rattle.hsp_hash.specs.declared.option.HashOption.{HashOption}
use Rattle.hsp_tables.specs.Settings.{SiteEntry, SiteSource}
use Rattle.hsp_text.specs.Answers.{◌>>=◌, Stands, or_fault}
use Rattle.hsp_text.specs.declared.limits.TheConstants.{MOST_SERVERS}
use Rattle.hsp_instance.specs.Building.{AreSitesAfter, IsReading, IsSiteOf, checked_site, has_id, has_id_twice}
use Rattle.hsp_instance.specs.Building.{site_octets, site_of_reading, server_of_record}
use Rattle.hsp_instance.specs.Instance.{IsSiteServer, Site, SiteServer, same_id, servers_of}
use Rattle.hsp_instance.specs.declared.fault.BuildFault.{BuildFault}
use Rattle.hsp_instance.specs.declared.fault.BuildFault.TheVariants.{BadHashOption, OutOfMemory}
use Rattle.hsp_instance.proofs.Lists.{all_map, drop_at}

-- an entry by its name and its source
entry_at : (entries : List SiteEntry) (i : ℕ) (name : List ℕ) (source : SiteSource)
    → option_map (λ (s : SiteEntry). s.name) (slice_get entries i) ≡ Some name
    → option_map (λ (s : SiteEntry). s.source) (slice_get entries i) ≡ Some source
    → slice_get entries i ≡ Some (record { name = name; source = source })
entry_at entries i name source named sourced = grind arith

-- the entries that are left begin with the one in turn
pub left_from : (entries : List SiteEntry) (i : ℕ) (name : List ℕ) (source : SiteSource)
    → option_map (λ (s : SiteEntry). s.name) (slice_get entries i) ≡ Some name
    → option_map (λ (s : SiteEntry). s.source) (slice_get entries i) ≡ Some source
    → drop i entries ≡ record { name = name; source = source } ∷ drop (i + 1) entries
left_from entries i name source named sourced =
    drop_at entries i (record { name = name; source = source }) (entry_at entries i name source named sourced)

-- the sites of all entries are those of what is left after the sites so far
abbrev pub GoesOn : Option (List HandleValue) → List SiteEntry → ℕ → List Site → Type 0
GoesOn values entries i earlier =
    (answer : Result (List Site) BuildFault) → AreSitesAfter values earlier (drop i entries) answer
    → AreSitesAfter values [] entries answer

module _ (values : Option (List HandleValue)) (entries : List SiteEntry) (i before : ℕ) (earlier : List Site)
    (name : List ℕ) (source : SiteSource)
    (count : length earlier ≡ i) (sum : before ≡ servers_of earlier)
    (named : option_map (λ (s : SiteEntry). s.name) (slice_get entries i) ≡ Some name)
    (sourced : option_map (λ (s : SiteEntry). s.source) (slice_get entries i) ≡ Some source)
    (so_far : GoesOn values entries i earlier) where
  -- a site goes by how many sites and servers came before it
  moved : (site : Result Site BuildFault) → IsSiteOf i before name (site_octets values i source) site
      → IsSiteOf (length earlier) (servers_of earlier) name (site_octets values (length earlier) source) site
  moved site is = rw (count, ← sum) is

  -- one site more
  pub next_goes_on : (site : Site) → IsSiteOf i before name (site_octets values i source) (Ok site)
      → GoesOn values entries (i + 1) (earlier ++ site ∷ [])
  next_goes_on site is answer rest =
      so_far answer (rw (left_from entries i name source named sourced) (Ok site, moved (Ok site) is, rest))

  -- the fault of a site is the first
  pub fault_is_first : (fault : BuildFault)
      → Stands OutOfMemory (λ (s : Site). s) (IsSiteOf i before name (site_octets values i source)) (Err fault)
      → Stands OutOfMemory (λ (s : List Site). s) (AreSitesAfter values [] entries) (Err fault)
  fault_is_first fault (inl memory) = inl memory
  fault_is_first fault (inr is) =
      inr
      (so_far (Err fault)
      (rw (left_from entries i name source named sourced) (Err fault, moved (Err fault) is, refl)))

-- no identifier is told twice, so the servers have distinct ones
others : (id : ℕ) (servers : List SiteServer) → has_id id servers ≡ false
    → AllByRecursion (λ (server : SiteServer). (server.id == id) ≡ false) servers
others id [] e = tt
others id (server ∷ servers) e =
    let split = or_parts (server.id == id) (has_id id servers) e in (split.0, others id servers split.1)

-- servers without a number twice have different numbers
once_each : (servers : List SiteServer) → has_id_twice servers ≡ false → IsDistinct same_id servers
unfolding IsDistinct
once_each [] e = tt
once_each (server ∷ servers) e =
    let split = or_parts (has_id server.id servers) (has_id_twice servers) e in
    (others server.id servers split.0, once_each servers split.1)

-- a site that passed the checks: its name, its servers, and that they are not too many
pub record IsChecked (before : ℕ) (name : List ℕ) (site : Site) : Type 0 where
  pub named : site.name ≡ name
  pub some : 0 < length site.servers
  pub few : before + length site.servers ≤ MOST_SERVERS
  pub servers : AllByRecursion IsSiteServer site.servers
  pub apart : IsDistinct same_id site.servers

-- a site that passed the checks keeps to the rules of a site
checked_is : (n before : ℕ) (given site : Site) → AllByRecursion IsSiteServer given.servers
    → checked_site n before given ≡ Ok site → IsChecked before given.name site
checked_is n before given site servers e =
    let tests : (given ≡ site) × (0 < length given.servers) × (has_id_twice given.servers ≡ false)
    × (before + length given.servers ≤ MOST_SERVERS) = grind (arith, nat_tests) in
    let checked : IsChecked before given.name given =
    record {
      named = refl;
      some = tests.1;
      few = tests.3;
      servers = servers;
      apart = once_each given.servers tests.2;
    } in
    subst (λ (s : Site). IsChecked before given.name s) tests.0 checked

-- the same of the site that octets are
pub site_is_checked : (n before : ℕ) (name : List ℕ) (from : Result (List ℕ) BuildFault) (site : Site)
    → IsSiteOf n before name from (Ok site) → IsChecked before name site
site_is_checked n before name (Err fault) site is = cc (is)
site_is_checked n before name (Ok bytes) site is = by_reading is.0 is.1 is.2
  where
    by_option : (o : Option HashOption) (servers : List records.Server) → AllByRecursion records.IsServer servers
        → Ok site
        ≡ (or_fault (BadHashOption n) o >>= λ option.
        checked_site n before (record { name = name; option = option; servers = map server_of_record servers }))
        → IsChecked before name site
    by_option None servers are e = cc (e)
    by_option (Some option) servers are e =
        checked_is n before (record { name = name; option = option; servers = map server_of_record servers }) site
        (all_map records.IsServer IsSiteServer server_of_record servers
        (λ server is. record { id = is.id; address = is.address.0 }) are) (sym e)

    by_reading : (reading : Result records.Site RecordFault) → IsReading bytes reading
        → Ok site ≡ site_of_reading n before name reading → IsChecked before name site
    by_reading (Err fault) is e = cc (e)
    by_reading (Ok r) is e = by_option (option_of r.option) r.servers is.means.0.0.1.1 e
