-- The sites of the page are those that are built.
use Rattle.std.proofs.Common.{◌≡◌, ◌∙◌, ◌≤◌, ◌+◌, ◌==◌, inl, inr, ℕ, Bool, true, false, List, [], ◌∷◌, ◌++◌, Option}
use Rattle.std.proofs.Common.{Some, None, Ok, Err, codes, length, map, nat_eq, refl, ap, sym, arith, append_assoc}
use Rattle.std.proofs.lemmas.Bool.{le-ltb, ne_eqb}
use Rattle.std.proofs.lemmas.Bool.Decides.{Decides-eqb, nat_tests}
use Rattle.std.proofs.lemmas.List.{append-nil}
use Rattle.std.proofs.lemmas.Slice.Eq.{bytes_eq-Decides}
use Rattle.std.specs.List.{AllByRecursion, IsDistinct, find}
use Rattle.std.specs.Str.{bytes_eq}
use Rattle.toml.specs.Data as toml
use Rattle.toml.specs.Data.{Data, Items, Members, get_member}
use Rattle.hsp_hash.specs.Option.{option_of}
use Rattle.hsp_record.specs.Values.{HandleValue, IsValue, IsValueList}
use Rattle.hsp_text.specs.declared.limits.TheConstants.{MOST_SERVERS}
use Rattle.hsp_tables.specs.Fields.{greatest_of_32_bits}
use Rattle.hsp_tables.specs.Settings.{SiteEntry, SiteSource, index, octets}
use Rattle.hsp_tables.proofs.SettingsLists.{IsStatedBy, StatesSite as StatesSiteEntry}
use Rattle.hsp_tables.proofs.TurnLaws.{result_cases}
use Rattle.hsp_instance.specs.Building.{AreSitesAfter, IsNextSite, IsSiteOf, checked_site, has_id, has_id_twice}
use Rattle.hsp_instance.specs.Building.{server_of_record, site_octets, site_value}
use Rattle.hsp_instance.specs.Instance.{Site, SiteServer, same_id, servers_of}
use Rattle.hsp_instance.proofs.SiteSums.{servers_of-push}
use Rattle.hsp_instance.proofs.SitesInTurn.{site_is_checked}
use Rattle.hsp_inputs.specs.Stated.{IsData, IsRecordOf, IsSource, EachStates, StatesSite}
use Rattle.hsp_inputs.proofs.Finding.{all_of, found, finds}
use Rattle.hsp_inputs.proofs.PageSettings.{site_keys}

-- ---- octets

-- elements are different where what a function gives of them is
pub distinct_before : {A B : Type 0} (same : A → A → Bool) (alike : B → B → Bool) (f : A → B)
    → ((x y : A) → alike (f x) (f y) ≡ same x y) → (xs : List A)
    → IsDistinct alike (map f xs) → IsDistinct same xs
unfolding IsDistinct
distinct_before same alike f tells [] apart = tt
distinct_before {A} {B} same alike f tells (x ∷ xs) apart =
    (each x xs apart.0, distinct_before same alike f tells xs apart.1)
  where
    each : (x : A) (xs : List A) → AllByRecursion (λ (y : B). alike (f x) y ≡ false) (map f xs)
        → AllByRecursion (λ (y : A). same x y ≡ false) xs
    each x [] all = tt
    each x (y ∷ ys) all = (sym (tells x y) ∙ all.0, each x ys all.1)

-- the value of an index is the data with that index
site_value_is : (n : ℕ) (values : List HandleValue) (i : ℕ) (bytes : List ℕ)
    → site_value n (find (λ v. v.index == i) values) ≡ Ok bytes → IsData (Some values) i bytes
site_value_is n values i bytes e =
    let read : (value : HandleValue) × (find (λ v. v.index == i) values ≡ Some value)
    × (bytes_eq value.type_octets (codes "HS_SITE") ≡ true) × (value.octets ≡ bytes) = grind arith in
    let at = found (λ (v : HandleValue). v.index == i) values read.0 read.1 in (
      read.0,
      at.0,
      (Decides-eqb read.0.index i).0 at.1,
      (bytes_eq-Decides read.0.type_octets (codes "HS_SITE")).0 read.2,
      read.3,
    )

-- the octets of a source are what its key states
octets_are : (values : Option (List HandleValue)) (n : ℕ) (hexadecimal number : Option Data) (source : SiteSource)
    (bytes : List ℕ)
    → IsStatedBy hexadecimal number source → site_octets values n source ≡ Ok bytes
    → IsSource values hexadecimal number bytes
octets_are values n a b (octets own) bytes told e =
    let same : own ≡ bytes = cc (e) in inl (told.0, told.1, told.2, rw same at told.3)
octets_are None n a b (index i) bytes told e = cc (e)
octets_are (Some values) n a b (index i) bytes told e = inr (i, told.0, told.1, site_value_is n values i bytes e)

-- what the page names is read, from a source that tells it
data_is_read : (n : ℕ) (values : List HandleValue) (i : ℕ) (bytes : List ℕ) → IsValueList values
    → IsData (Some values) i bytes
    → (site_value n (find (λ v. v.index == i) values) ≡ Ok bytes) × (i ≤ greatest_of_32_bits)
data_is_read n values i bytes are told =
    let apart =
    distinct_before (λ (a b : HandleValue). a.index == b.index) nat_eq (λ (v : HandleValue). v.index) (λ x y. refl)
    values are.1 in
    let test : (told.0.index == i) ≡ true = (Decides-eqb told.0.index i).1 told.2 in
    let alike : (a b : HandleValue) → (a.index == i) ≡ true → (b.index == i) ≡ true → (a.index == b.index) ≡ true =
    λ a b p q.
    (Decides-eqb a.index b.index).1 ((Decides-eqb a.index i).0 p ∙ sym ((Decides-eqb b.index i).0 q)) in
    let one =
    finds (λ (a b : HandleValue). a.index == b.index) (λ (v : HandleValue). v.index == i) alike values told.0 apart
    told.1 test in
    let kind : bytes_eq told.0.type_octets (codes "HS_SITE") ≡ true =
    (bytes_eq-Decides told.0.type_octets (codes "HS_SITE")).1 told.3 in
    let value : IsValue told.0 = all_of IsValue values told.0 are.0.1 told.1 in
    let read : site_value n (find (λ v. v.index == i) values) ≡ Ok told.0.octets = rw (one, kind) refl in
    (read ∙ ap (λ (t : List ℕ). Ok t) told.4, omega (arith, value.index, told.2))

-- the values are a list, where there are any
abbrev pub AreListed : Option (List HandleValue) → Type 0
AreListed None = Unit {0}
AreListed (Some values) = IsValueList values

-- octets that are stated are those of a source
octets_are_stated : (values : Option (List HandleValue)) (n : ℕ) (hexadecimal number : Option Data) (bytes : List ℕ)
    → AreListed values → IsSource values hexadecimal number bytes
    → (source : SiteSource) × IsStatedBy hexadecimal number source × (site_octets values n source ≡ Ok bytes)
octets_are_stated values n a b bytes are (inl is) = (octets bytes, (is.0, is.1, is.2, is.3), refl)
octets_are_stated None n a b bytes are (inr is) = absurd is.3
octets_are_stated (Some values) n a b bytes are (inr is) =
    let read = data_is_read n values is.0 bytes are is.3 in (index is.0, (is.1, is.2, read.1), read.0)

-- ---- records

-- a site that is read is that of a record, after sites of so many servers
record_is : (n before : ℕ) (name bytes : List ℕ) (site : Site) → IsSiteOf n before name (Ok bytes) (Ok site)
    → (site.name ≡ name) × IsRecordOf site bytes × (before + length site.servers ≤ MOST_SERVERS)
record_is n before name bytes site (Err fault, is, e) = cc (e)
record_is n before name bytes site (Ok r, is, e) =
    let checked = site_is_checked n before name (Ok bytes) site (Ok r, is, e) in
    let read : (option_of r.option ≡ Some site.option) × (site.servers ≡ map server_of_record r.servers) =
    grind (arith, nat_tests) in
    let of : IsRecordOf site bytes = record {
      read = r;
      is = is.means.0;
      spelled = is.means.1;
      option = read.0;
      servers = read.1;
      some = checked.some;
      apart = checked.apart;
    } in
    (checked.named, of, checked.few)

-- distinct identifiers are not told twice
no_other : (id : ℕ) (servers : List SiteServer)
    → AllByRecursion (λ (server : SiteServer). (server.id == id) ≡ false) servers → has_id id servers ≡ false
no_other id [] all = refl
no_other id (server ∷ servers) all = rw (all.0, no_other id servers all.1) refl

-- servers of different numbers have none twice
never_twice : (servers : List SiteServer) → IsDistinct same_id servers → has_id_twice servers ≡ false
unfolding IsDistinct
never_twice [] apart = refl
never_twice (server ∷ servers) apart = rw (no_other server.id servers apart.0, never_twice servers apart.1) refl

-- a record of the page is read
record_is_read : (n before : ℕ) (bytes : List ℕ) (site : Site) → IsRecordOf site bytes
    → before + length site.servers ≤ MOST_SERVERS
    → IsSiteOf n before site.name (Ok bytes) (Ok site)
record_is_read n before bytes site is few = (
  Ok is.read,
  record { means = (is.is, is.spelled); not_memory = λ e. cc (e) },
  sym (rw (is.option, ← is.servers) checked),
)
  where
    some : (length site.servers == 0) ≡ false
    some = ne_eqb (length site.servers) 0 (λ none. let more = is.some in omega arith)

    checked : checked_site n before site ≡ Ok site
    checked = rw (some, never_twice site.servers is.apart, le-ltb MOST_SERVERS (before + length site.servers) few) refl

-- ---- sites in turn

-- sites that are read after others: each is told by the table of its entry
pub record AreNext (values : Option (List HandleValue)) (earlier : List Site) (items : Items) (entries : List SiteEntry)
    (all : List Site) : Type 0 where
  pub sites : List Site
  pub whole : all ≡ earlier ++ sites
  pub told : EachStates (StatesSite values) items sites
  pub named : map (λ (entry : SiteEntry). entry.name) entries ≡ map (λ (site : Site). site.name) sites
  pub few : servers_of all ≤ MOST_SERVERS

-- a site that was read is stated, and its servers are within the limit
one_site : (values : Option (List HandleValue)) (earlier : List Site) (members : Members) (entry : SiteEntry)
    (site : Site) → StatesSiteEntry members entry
    → IsNextSite values earlier entry (Ok site) → (site.name ≡ entry.name) × StatesSite values members site
    × (servers_of earlier + length site.servers ≤ MOST_SERVERS)
one_site values earlier ms entry site tells next =
    elim (result_cases (site_octets values (length earlier) entry.source)) [
      | inr (fault, is) ↦ cc (rw is at next)
      | inl (bytes, is) ↦
          let of = record_is (length earlier) (servers_of earlier) entry.name bytes site (rw is at next) in
          let states_site : StatesSite values ms site = record {
            keys = site_keys ms ∙ tells.keys;
            name = tells.name ∙ ap (λ t. Some (toml.string t)) (sym of.0);
            is_name = rw of.0 tells.is_name;
            octets = bytes;
            source =
                octets_are values (length earlier) (get_member (codes "record") ms) (get_member (codes "index") ms)
                entry.source bytes tells.source is;
            spelled = of.1;
          } in
          (of.0, states_site, of.2)
    ]

-- sites that were read are stated one by one
pub sites_are : (values : Option (List HandleValue)) (earlier : List Site) (items : Items) (entries : List SiteEntry)
    (all : List Site)
    → servers_of earlier ≤ MOST_SERVERS → EachStates StatesSiteEntry items entries
    → AreSitesAfter values earlier entries (Ok all) → AreNext values earlier items entries all
sites_are values earlier toml.no_items [] all few tell are =
    let same : all ≡ earlier = cc (are) in
    record { sites = []; whole = same ∙ sym (append-nil earlier); told = tt; named = refl; few = rw same few }
sites_are values earlier toml.no_items (entry ∷ entries) all few tell are = absurd tell
sites_are values earlier (toml.item value items) [] all few tell are = absurd tell
sites_are values earlier (toml.item value items) (entry ∷ entries) all few tell (Err fault, next, follows) =
    cc (follows)
sites_are values earlier (toml.item value items) (entry ∷ entries) all few tell (Ok site, next, follows) =
    let one = one_site values earlier tell.0 entry site tell.2 next in
    let more =
    sites_are values (earlier ++ site ∷ []) items entries all (rw (servers_of-push earlier site) one.2) tell.3
    follows in
    record {
      sites = site ∷ more.sites;
      whole = more.whole ∙ append_assoc earlier (site ∷ []) more.sites;
      told = (tell.0, tell.1, one.1, more.told);
      named = (let head = one.0 in let tail = more.named in cc (head, tail));
      few = more.few;
    }

-- sites of the page are read, from the entries that their tables tell
pub record AreReadFrom (values : Option (List HandleValue)) (earlier : List Site) (items : Items)
    (sites : List Site) : Type 0 where
  pub entries : List SiteEntry
  pub told : EachStates StatesSiteEntry items entries
  pub named : map (λ (entry : SiteEntry). entry.name) entries ≡ map (λ (site : Site). site.name) sites
  pub read : AreSitesAfter values earlier entries (Ok (earlier ++ sites))

-- sites that are stated are read
pub sites_are_read : (values : Option (List HandleValue)) (earlier : List Site) (items : Items) (sites : List Site)
    → AreListed values
    → servers_of (earlier ++ sites) ≤ MOST_SERVERS → EachStates (StatesSite values) items sites
    → AreReadFrom values earlier items sites
sites_are_read values earlier toml.no_items [] are few tell =
    record { entries = []; told = tt; named = refl; read = ap (λ (t : List Site). Ok t) (append-nil earlier) }
sites_are_read values earlier toml.no_items (site ∷ sites) are few tell = absurd tell
sites_are_read values earlier (toml.item value items) [] are few tell = absurd tell
sites_are_read values earlier (toml.item value items) (site ∷ sites) are few tell =
    let tells = tell.2 in
    let source =
    octets_are_stated values (length earlier) (get_member (codes "record") tell.0)
    (get_member (codes "index") tell.0) tells.octets are tells.source in
    let entry : SiteEntry = record { name = site.name; source = source.0 } in
    let parts : (earlier ++ site ∷ []) ++ sites ≡ earlier ++ site ∷ sites = append_assoc earlier (site ∷ []) sites in
    let more = sites_are_read values (earlier ++ site ∷ []) items sites are (rw parts few) tell.3 in
    let room = first_fit (earlier ++ site ∷ []) sites (rw parts few) in
    let next : IsSiteOf (length earlier) (servers_of earlier) site.name (site_octets values (length earlier) source.0)
    (Ok site) =
    rw source.2
    (record_is_read (length earlier) (servers_of earlier) tells.octets site tells.spelled
    (rw (servers_of-push earlier site) at room)) in
    record {
      entries = entry ∷ more.entries;
      told = (
        tell.0,
        tell.1,
        record {
          keys = sym (site_keys tell.0) ∙ tells.keys;
          name = tells.name;
          is_name = tells.is_name;
          source = source.1;
        },
        more.told,
      );
      named = ap (λ names. site.name ∷ names) more.named;
      read = (Ok site, next, rw parts at more.read);
    }
  where
    first_fit : (a b : List Site) → servers_of (a ++ b) ≤ MOST_SERVERS → servers_of a ≤ MOST_SERVERS
    first_fit a b few = let more = grows a b in omega arith
      where
        grows : (a b : List Site) → servers_of a ≤ servers_of (a ++ b)
        grows [] b = omega arith
        grows (s ∷ a) b = let more = grows a b in omega arith
