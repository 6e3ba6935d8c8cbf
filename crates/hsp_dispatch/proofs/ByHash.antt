-- Queries go to the servers that are responsible for their handles.
use Rattle.std.proofs.Common.{◌≡◌, ◌<◌, ◌∙◌, ◌++◌, ◌%◌, ◌==◌, ◌+◌, Bool, true, false, ℕ, List, [], ◌∷◌, cond, length}
use Rattle.std.proofs.Common.{map, nat_lt, Option, None, Some, Result, Ok, Err, option_map, arith, refl, sym, ap, subst}
use Rattle.std.proofs.Common.{inl, inr}
use Rattle.std.specs.List.{AllByRecursion, slice_get}
use Rattle.std.proofs.lemmas.Bool.{cases_Bool, eqb-false}
use Rattle.hsp_hash.specs.Option.{option_of}
use Rattle.hsp_hash.specs.Place.{server_place}
use Rattle.hsp_hash.specs.declared.option.HashOption.{HashOption}
use Rattle.hsp_record.specs.Site as records
use Rattle.hsp_record.specs.Values.{HandleValue}
use Rattle.hsp_record.specs.declared.fault.RecordFault.{RecordFault}
use Rattle.hsp_tables.specs.Settings.{SiteEntry}
use Rattle.hsp_text.specs.Answers.{◌>>=◌, or_fault}
use Rattle.hsp_text.specs.declared.limits.TheConstants.{MOST_SERVERS}
use Rattle.hsp_instance.specs.Building.{AreSitesAfter, Inputs, IsBuilt, IsSiteOf, checked_site, has_id_twice}
use Rattle.hsp_instance.specs.Building.{server_of_record, site_octets, site_of_reading}
use Rattle.hsp_instance.specs.Instance.{HasServer, Instance, Server, Site, SiteServer, number_at, servers_of}
use Rattle.hsp_instance.specs.Parts.{IsArcOf}
use Rattle.hsp_instance.specs.declared.arc.Arc.{Arc}
use Rattle.hsp_instance.specs.declared.fault.BuildFault.{BuildFault}
use Rattle.hsp_instance.specs.declared.fault.BuildFault.TheVariants.{BadHashOption}
use Rattle.hsp_instance.proofs.BuiltParts.{built_has_its_parts}
use Rattle.hsp_instance.proofs.Lists.{all_at, there}
use Rattle.hsp_check.specs.Instance.{network_of}
use Rattle.hsp_check.specs.Network.{is_allowed}
use Rattle.hsp_log.specs.Entries.{Entry}
use Rattle.hsp_dispatch.specs.Dispatch.{answer_at, answer_in, arc_to, assigned_to, count_for, end_of, row_of, server_to}
use Rattle.hsp_dispatch.specs.Dispatch.{spread}
use Rattle.hsp_dispatch.specs.Laws.{GoesByHash, IsByHash}
use Rattle.hsp_dispatch.proofs.SharedOut.{found_so, has_arc}
use Rattle.hsp_dispatch.proofs.Spreads.{is_sent}
use Rattle.hsp_dispatch.proofs.Taking.{row_found}
use Rattle.hsp_text.proofs.Lists.{all_push}

-- ---- each site that is built has a server

-- what came past a test was not refused by it
passed : {A : Type 0} (test : Bool) (fault : BuildFault) (r : Result A BuildFault) (y : A)
    → cond test (Err fault) r ≡ Ok y → (test ≡ false) × (r ≡ Ok y)
passed true fault r y e = cc e
passed false fault r y e = (refl, e)

-- a site that passed the checks has a server
checked_has : (n before : ℕ) (given site : Site) → checked_site n before given ≡ Ok site → HasServer site
checked_has n before given site e =
    let some = passed (length given.servers == 0) _ _ site e in
    let once = passed (has_id_twice given.servers) _ _ site some.1 in
    let few = passed (nat_lt MOST_SERVERS (before + length given.servers)) _ _ site once.1 in
    let same : given ≡ site = cc (few.1) in
    let not_none = eqb-false (length given.servers) 0 some.0 in
    rw (← same) (omega (arith, not_none))

-- a site that was read has a server
reading_has : (n before : ℕ) (name : List ℕ) (reading : Result records.Site RecordFault) (site : Site)
    → Ok site ≡ site_of_reading n before name reading → HasServer site
reading_has n before name (Err fault) site e = absurd (cc)
reading_has n before name (Ok r) site e = by_option (option_of r.option) e
  where
    by_option : (o : Option HashOption)
        → Ok site
        ≡ (or_fault (BadHashOption n) o >>= λ option.
        checked_site n before (record { name = name; option = option; servers = map server_of_record r.servers }))
        → HasServer site
    by_option None e = absurd (cc)
    by_option (Some option) e =
        checked_has n before (record { name = name; option = option; servers = map server_of_record r.servers }) site
        (sym e)

-- a site of the settings has a server
site_has : (n before : ℕ) (name : List ℕ) (octets : Result (List ℕ) BuildFault) (site : Site)
    → IsSiteOf n before name octets (Ok site) → HasServer site
site_has n before name (Err fault) site e = absurd (cc)
site_has n before name (Ok bytes) site (reading, is, e) = reading_has n before name reading site e

-- all sites have a server
sites_have : (values : Option (List HandleValue)) (earlier : List Site) (entries : List SiteEntry) (sites : List Site)
    → AllByRecursion HasServer earlier → AreSitesAfter values earlier entries (Ok sites)
    → AllByRecursion HasServer sites
sites_have values earlier [] sites have e = let same : earlier ≡ sites = cc (e) in rw (← same) have
sites_have values earlier (entry ∷ more) sites have (Ok site, is, rest) =
    sites_have values (earlier ++ site ∷ []) more sites
    (all_push HasServer earlier site have
    (site_has (length earlier) (servers_of earlier) entry.name (site_octets values (length earlier) entry.source)
    site is)) rest
sites_have values earlier (entry ∷ more) sites have (Err fault, is, e) = absurd (cc (e))

-- ---- the server of a row at a site

-- a remainder is less than its divisor
less : (x n : ℕ) → 0 < n → x % n < n
less x n h = omega arith

-- the answer by a site that the row may use
by_arc : (inputs : Inputs) (it : Instance) (entry : Entry) (row site : ℕ) → IsBuilt inputs (Ok it)
    → row_of it entry ≡ Some row → is_allowed (network_of it) row site ≡ true
    → IsByHash it entry (assigned_to site (server_to it row site))
by_arc inputs it entry row n built found allowed =
    let parts = built_has_its_parts inputs it built in
    let own_row = row_found it entry.region entry.handle row found in
    let arcs = parts.arcs row own_row.0 own_row.1 in
    let has = has_arc it row n allowed in
    let in_list : arc_to n (Some arcs.0) ≡ Some has.arc = rw arcs.1 at has.is_arc in
    let arc = found_so (IsArcOf inputs.costs it.sites own_row.0) n arcs.0 has.arc arcs.2.each in_list in
    let site = arc.0.site in
    let site_at : slice_get it.sites n ≡ Some site = ap (λ (k : ℕ). slice_get it.sites k) (sym arc.1) ∙ arc.0.is_site in
    let some : 0 < length site.servers =
    all_at HasServer it.sites n site (sites_have inputs.values [] inputs.settings.sites it.sites tt parts.sites)
    site_at in
    let place = server_place site.option own_row.0.handle (length site.servers) in
    let inside : place < length site.servers = less _ (length site.servers) some in
    let own = there site.servers place inside in
    let at = parts.servers n place site own.0 site_at own.1 in
    let number : has.arc.server ≡ number_at it.sites n place =
    arc.0.server ∙ ap (λ (k : ℕ). number_at it.sites k place) arc.1 in
    let to : server_to it row n ≡ Some at.server =
    ap (λ (o : Option Arc). end_of it o) has.is_arc ∙ ap (λ (k : ℕ). slice_get it.servers k) number ∙ at.is_server in
    let by_handle : at.server.place ≡ server_place site.option entry.handle (length site.servers) =
    at.is_of.place ∙ ap (λ (handle : List ℕ). server_place site.option handle (length site.servers)) (sym own_row.2) in
    let id : option_map (λ (server : SiteServer). server.id) (slice_get site.servers at.server.place)
    ≡ Some at.server.id =
    ap (λ (k : ℕ). option_map (λ (server : SiteServer). server.id) (slice_get site.servers k)) at.is_of.place
    ∙ ap (λ (o : Option SiteServer). option_map (λ (server : SiteServer). server.id) o) own.1
    ∙ ap Some (sym at.is_of.id) in
    let is : IsByHash it entry (assigned_to n (Some at.server)) = (site, site_at, by_handle, id) in
    subst (λ (server : Option Server). IsByHash it entry (assigned_to n server)) (sym to) is

-- a query goes to the server that its site's hash names
pub goes_by_hash : GoesByHash
goes_by_hash inputs it x earlier entry built keeps = by_row (row_of it entry) refl
  where
    by_element : (row : ℕ) → row_of it entry ≡ Some row → (given : Option ℕ)
        → slice_get (spread it x row) (count_for it row earlier) ≡ given → IsByHash it entry (answer_at it row given)
    by_element row found None e = tt
    by_element row found (Some site) e = elim (cases_Bool (is_allowed (network_of it) row site)) [
      | inl allowed ↦ by_arc inputs it entry row site built found allowed
      | inr not_allowed ↦
          let none = keeps row site not_allowed in
          absurd (omega (arith, is_sent (length it.sites) 0 (count_for it row earlier) site (x row) e))
    ]

    by_row : (found : Option ℕ) → row_of it entry ≡ found → IsByHash it entry (answer_in it x earlier found)
    by_row None e = tt
    by_row (Some row) e = by_element row e (slice_get (spread it x row) (count_for it row earlier)) refl
