-- Queries for which a plan's certificate is valid ask for just what the plan has.
use Rattle.std.proofs.Common.{◌≡◌, ◌<◌, ◌≤◌, ◌+◌, ◌*◌, ◌==◌, ◌∙◌, ℕ, zero, suc, Bool, true, false, List, [], ◌∷◌, All}
use Rattle.std.proofs.Common.{None, Option, Some, ap, arith, eq-eqb, get_or, if◌then◌else◌, inl, inr, is_some, length}
use Rattle.std.proofs.Common.{map, ne_eqb, position, refl, subst, sum, sym}
use Rattle.std.specs.List.{AllByRecursion, list_any}
use Rattle.std.proofs.lemmas.Bool.{both_ways, cases_eq, cases_lt, false_from_ne_true}
use Rattle.std.proofs.lemmas.List.{get_or-map, length-map}
use Rattle.std.proofs.lemmas.List.Elements.{All-from_recursion}
use Rattle.std.proofs.lemmas.List.Quantifiers.{position-Some}
use Rattle.hsp_transport.specs.Sums.{sum_below}
use Rattle.hsp_transport.proofs.Rowwise.{same_by, sum_by_none}
use Rattle.hsp_transport.proofs.Summing.{sum_below_add, sum_below_same, sum_below_zero, sum_by_same_all, sum_by_map}
use Rattle.hsp_check.specs.ArcFlows.{host_in}
use Rattle.hsp_check.specs.Plan.{is_on}
use Rattle.hsp_instance.specs.Instance.{IsHostOf, IsServer, Row, Server, Site}
use Rattle.hsp_instance.specs.declared.arc.Arc.{Arc}
use Rattle.hsp_prices.specs.Rows.{Service}
use Rattle.hsp_price_text.specs.Certificate.{IsCertificate}
use Rattle.hsp_price_text.specs.Claim.{Best, Class}
use Rattle.hsp_price_text.specs.declared.certificate.PriceCertificate.TheVariants as certificate
use Rattle.hsp_prices.specs.Least.{host_at, is_of, least_of, only_arc, servers_of}
use Rattle.hsp_prices.specs.Shown.{IsService, PlanIsShown}
use Rattle.hsp_prices.specs.Sums.{host_load_at, load_at}
use Rattle.hsp_prices.specs.Verdict.{IsPlaced, IsVerdict}
use Rattle.hsp_prices.specs.declared.verdict.PriceReason.TheVariants as reason
use Rattle.hsp_prices.specs.declared.verdict.PriceVerdict.TheVariants.{Yes}
use Rattle.hsp_prices.proofs.ByRow.{no_class as of_no_class, one_of}
use Rattle.hsp_prices.proofs.ClassKinds.{least_servers, own_least}
use Rattle.hsp_prices.proofs.Once.{AtMostOnce}
use Rattle.hsp_log.specs.Entries.{Entry}
use Rattle.hsp_price_check.specs.ClassNumbers.{is_named}
use Rattle.hsp_price_check.specs.Passed.{class_at, no_class}
use Rattle.hsp_price_check.proofs.Positions.{fails_at, no_position, none_at, one_place}
use Rattle.hsp_price_dispatch.specs.Choosing.{class_number, row_of}
use Rattle.hsp_price_dispatch.specs.Planned.{AreWithinPlan, CostsWhatThePlanDoes, ValidIsWithinPlan, asked_at, has_only}
use Rattle.hsp_price_dispatch.specs.Planned.{has_place, is_number, is_placed, only_least_where}
use Rattle.hsp_price_dispatch.specs.Starting.{capacity_at, limit_at}
use Rattle.hsp_price_dispatch.proofs.AnswerCosts.{by_terms, costs, load_rows, no_terms, one_term}
use Rattle.hsp_price_dispatch.proofs.Fronts.{sends_there}
use Rattle.hsp_price_dispatch.proofs.Indexing.{few_none, several_have}
use Rattle.hsp_price_dispatch.proofs.RoomTaken.{one_if}
use Rattle.hsp_price_dispatch.proofs.Sums.{all_sends, as_times, load_is}

-- ---- the class of a query

module _ {A : Type 0} (test : A → Bool) where
  -- there is a position where one passes
  some_position : (xs : List A) (o : Option ℕ) → position test xs ≡ o → list_any test xs ≡ true → is_some o ≡ true
  some_position xs None e any = absurd (both_ways (list_any test xs) (no_position test xs e) any)
  some_position xs (Some k) e any = refl

  -- where at most one passes, the position is that of the one that passes
  number_at : (xs : List A) → AtMostOnce test xs → (k : ℕ) (d : A) → k < length xs → (o : Option ℕ)
      → position test xs ≡ o → is_number k o ≡ test (get_or xs k d)
  number_at xs once k d l None e = sym (none_at test xs k d e l)
  number_at xs once k d l (Some i) e =
      let first = position-Some test xs i d e in
      elim (cases_eq i k) [
        | inl same ↦ eq-eqb i k same ∙ sym (subst (λ n. test (get_or xs n d) ≡ true) same first.1)
        | inr other ↦
            ne_eqb i k other
            ∙ sym
            (false_from_ne_true (test (get_or xs k d)) (λ t. other (one_place test xs i k d once first.0 l first.1 t)))
      ]

-- ---- servers and hosts that are there

-- no server stands on a host past the hosts
not_past : (hosts : ℕ) (o : Option ℕ) (h : ℕ) → IsHostOf hosts o → hosts ≤ h → is_on o h ≡ false
not_past hosts None h is past = refl
not_past hosts (Some g) h is past = ne_eqb g h (λ q. omega (arith, q, is, past))

-- whichever it is
no_host_past : (sites : List Site) (hosts : ℕ) (servers : List Server) → AllByRecursion (IsServer sites hosts) servers
    → (j h : ℕ) → hosts ≤ h → is_on (host_in (map (λ server. server.host) servers) j) h ≡ false
no_host_past sites hosts [] all j h past = refl
no_host_past sites hosts (server ∷ servers) all zero h past = not_past hosts server.host h all.0.host past
no_host_past sites hosts (server ∷ servers) all (suc j) h past = no_host_past sites hosts servers all.1 j h past

-- the only arc is one of the arcs
only_there : (n : ℕ) (list : List Arc) → All (λ (arc : Arc). arc.server < n) list → (arc : Arc)
    → only_arc list ≡ Some arc → arc.server < n
only_there n [] all arc e = absurd (cc (e))
only_there n (one ∷ []) all arc e =
    let same : one ≡ arc = cc (e) in subst (λ (own : Arc). own.server < n) same (all 0 one (omega arith))
only_there n (one ∷ other ∷ more) all arc e = absurd (cc (e))

-- what an only arc counts, server by server
only_term : (n : ℕ) (test : ℕ → Bool) (o : Option Arc) → ((arc : Arc) → o ≡ Some arc → arc.server < n)
    → has_only test o ≡ sum_below n (λ j. one_if (test j) * has_only (λ i. i == j) o)
only_term n test None there = no_terms n (λ j. one_if (test j))
only_term n test (Some arc) there =
    sym
    (one_term n (λ j. one_if (test j)) arc.server
    (λ j past. rw (ne_eqb arc.server j (λ q. omega (arith, q, there arc refl, past))) refl))

-- an only arc whose server doesn't pass counts nothing
only_zero : (test : ℕ → Bool) (o : Option Arc) → ((arc : Arc) → o ≡ Some arc → test arc.server ≡ false)
    → has_only test o ≡ 0
only_zero test None fails = refl
only_zero test (Some arc) fails = rw (fails arc refl) refl

-- a test of two numbers together
if_add : (t : Bool) (m n : ℕ) → (if t then m + n else 0) ≡ (if t then m else 0) + (if t then n else 0)
if_add true m n = refl
if_add false m n = refl

module _ (at : Service) (plan : Best) (entries : List Entry) (is : IsService at)
    (text : IsCertificate (certificate.Plan plan))
    (valid : IsVerdict at (map row_of entries) (certificate.Plan plan) Yes) where
  abbrev rows : List Row
  rows = map row_of entries

  -- ---- classes

  -- the class of a query is the one that its row is of
  number_is : (entry : Entry) (k : ℕ) → k < length plan.classes
      → is_number k (class_number plan entry.region (least_of at plan (row_of entry)))
      ≡ is_of at plan (class_at plan k) (row_of entry)
  number_is entry k l =
      let row = row_of entry in
      let least = least_of at plan row in
      let test = λ (class : Class). is_of at plan class row in
      let long : length (least_servers at plan row) ≡ length least = length-map least (λ (arc : Arc). arc.server) in
      elim (cases_lt (length least) 2) [
        | inl few ↦
            ap (is_number k) (few_none plan entry.region least few)
            ∙ sym (fails_at test plan.classes k no_class (of_no_class at plan row text (omega (arith, long, few))) l)
        | inr many ↦
            ap (is_number k) (several_have plan entry.region least (omega (arith, many)))
            ∙ number_at test plan.classes (one_of at plan row text) k no_class l (position test plan.classes) refl
      ]

  -- so each class is asked for its amounts
  asked_is : (k : ℕ) → k < length plan.classes → asked_at at plan k entries ≡ sum (class_at plan k).amounts
  asked_is k l =
      let class = class_at plan k in
      same_by
      (λ (entry : Entry). one_if (is_number k (class_number plan entry.region (least_of at plan (row_of entry)))))
      (λ (entry : Entry). one_if (is_of at plan class (row_of entry))) entries
      (λ entry. ap one_if (number_is entry k l))
      ∙ sym (sum_by_map (λ (row : Row). if is_of at plan class row then row.count else 0) row_of entries)
      ∙ sym (valid reason.ClassSum k no_class l)

  -- a row that is placed is one of a query with a place
  placed_so : (entry : Entry) (list : List Arc) → least_of at plan (row_of entry) ≡ list
      → IsPlaced at plan (row_of entry) list → has_place list (class_number plan entry.region list) ≡ true
  placed_so entry [] e here = absurd (omega (arith, here))
  placed_so entry (arc ∷ []) e here = refl
  placed_so entry (arc ∷ other ∷ more) e here =
      let test = is_named entry.region (servers_of (arc ∷ other ∷ more)) in
      let any : list_any test plan.classes ≡ true =
      subst (λ (list : List Arc). list_any (is_named entry.region (servers_of list)) plan.classes ≡ true) e here in
      some_position test plan.classes (position test plan.classes) refl any

  -- so each has one
  all_placed : All (λ entry. is_placed at plan entry ≡ true) entries
  all_placed k d l =
      let entry = get_or entries k d in
      let long = length-map entries row_of in
      let here : IsPlaced at plan (row_of entry) (least_of at plan (row_of entry)) =
      subst (λ (row : Row). IsPlaced at plan row (least_of at plan row)) (get_or-map row_of entries k d (row_of d) l)
      (valid reason.NoClass k (row_of d) (omega (arith, long, l))) in
      placed_so entry (least_of at plan (row_of entry)) refl here

  -- ---- servers

  -- the only least arc of a query leads to a server that is there
  server_there : (entry : Entry) (arc : Arc) → only_arc (least_of at plan (row_of entry)) ≡ Some arc
      → arc.server < length at.servers
  server_there entry arc e =
      let least = least_of at plan (row_of entry) in
      only_there (length at.servers) least
      (λ k d l. (All-from_recursion _ least (own_least at plan is (row_of entry)) k d l).there) arc e

  -- where no server passes no query counts
  only_none : (test : ℕ → Bool) → ((i : ℕ) → i < length at.servers → test i ≡ false)
      → only_least_where at plan test entries ≡ 0
  only_none test fails =
      same_by (λ (entry : Entry). has_only test (only_arc (least_of at plan (row_of entry)))) (λ (entry : Entry). 0)
      entries
      (λ entry. only_zero test (only_arc (least_of at plan (row_of entry)))
      (λ arc e. fails arc.server (server_there entry arc e)))
      ∙ sum_by_none entries

  -- classes bring nothing past the servers
  load_none : (j : ℕ) → length at.servers ≤ j → load_at at plan [] j ≡ 0
  load_none j past =
      load_is at plan j
      ∙ sum_by_same_all (λ (sent : ℕ × ℕ). if sent.0 == j then sent.1 else 0) (λ (sent : ℕ × ℕ). 0)
      (all_sends plan.classes)
      (λ k d l.
      let there = sends_there (length at.servers) plan.classes (valid reason.NoSuchServer) k d l in
      rw (ne_eqb (get_or (all_sends plan.classes) k d).0 j (λ q. omega (arith, q, there, past))) refl)
      ∙ sum_by_none (all_sends plan.classes)

  -- no server is asked for more than it takes
  servers_within : (j : ℕ)
      → only_least_where at plan (λ i. i == j) entries + load_at at plan [] j ≤ capacity_at at j
  servers_within j = elim (cases_lt j (length at.servers)) [
    | inl inside ↦ omega (arith, (valid reason.Load).0 j inside, load_rows at plan entries j)
    | inr past ↦
        omega (
          arith,
          only_none (λ i. i == j) (λ i l. ne_eqb i j (λ q. omega (arith, q, l, past))),
          load_none j (omega (arith, past)),
        )
  ]

  -- ---- hosts

  -- what rows and classes bring to a host
  host_rows : (h : ℕ)
      → host_load_at at plan rows h
      ≡ only_least_where at plan (λ i. is_on (host_at at i) h) entries + host_load_at at plan [] h
  host_rows h =
      let n = length at.servers in
      let test = λ (j : ℕ). is_on (host_at at j) h in
      let only = λ (j : ℕ). only_least_where at plan (λ i. i == j) entries in
      let classes = λ (j : ℕ). load_at at plan [] j in
      let split : host_load_at at plan rows h
      ≡ sum_below n (λ j. if test j then only j else 0) + host_load_at at plan [] h =
      sum_below_same n (λ j. if test j then load_at at plan rows j else 0)
      (λ j. (if test j then only j else 0) + (if test j then classes j else 0))
      (λ j l. ap (λ v. if test j then v else 0) (load_rows at plan entries j) ∙ if_add (test j) (only j) (classes j))
      ∙ sum_below_add n (λ j. if test j then only j else 0) (λ j. if test j then classes j else 0) in
      let terms : sum_below n (λ j. one_if (test j) * only j) ≡ sum_below n (λ j. if test j then only j else 0) =
      sum_below_same n (λ j. one_if (test j) * only j) (λ j. if test j then only j else 0)
      (λ j l. as_times (test j) (only j)) in
      let each : only_least_where at plan test entries ≡ sum_below n (λ j. one_if (test j) * only j) =
      by_terms (λ (entry : Entry). has_only test (only_arc (least_of at plan (row_of entry))))
      (λ j (entry : Entry). has_only (λ i. i == j) (only_arc (least_of at plan (row_of entry))))
      (λ j. one_if (test j)) n entries
      (λ k d l. only_term n test (only_arc (least_of at plan (row_of (get_or entries k d))))
      (server_there (get_or entries k d))) in
      omega (arith, split, terms, each)

  -- no host is asked for more than it takes
  hosts_within : (h : ℕ)
      → only_least_where at plan (λ i. is_on (host_at at i) h) entries + host_load_at at plan [] h ≤ limit_at at h
  hosts_within h = elim (cases_lt h (length at.hosts)) [
    | inl inside ↦ omega (arith, (valid reason.Load).1 h inside, host_rows h)
    | inr past ↦
        let off = λ (j : ℕ). no_host_past at.sites (length at.hosts) at.servers is.servers.each j h past in
        let none : host_load_at at plan [] h ≡ 0 =
        sum_below_zero (length at.servers) (λ j. if is_on (host_at at j) h then load_at at plan [] j else 0)
        (λ j l. rw (off j) refl) in
        omega (arith, only_none (λ i. is_on (host_at at i) h) (λ i l. off i), none)
  ]

  -- so the queries are within the plan
  within : AreWithinPlan at plan entries
  within = record {
    placed = all_placed;
    classes = λ k l. omega (arith, asked_is k l);
    servers = servers_within;
    hosts = hosts_within;
  }

-- queries of a valid plan ask for just what it has
pub valid_is_within_plan : ValidIsWithinPlan
valid_is_within_plan at plan entries is text valid =
    (within at plan entries is text valid, asked_is at plan entries is text valid)

-- so one front assigns each of them, and their answers cost what the plan does
pub costs_what_the_plan_does : PlanIsShown → CostsWhatThePlanDoes
costs_what_the_plan_does shows at plan own entries is text valid begun =
    costs at plan own entries text valid begun (within at plan entries is text valid)
    (asked_is at plan entries is text valid) (shows at (map row_of entries) plan is text valid)
