-- What answers cost together, where the plan's certificate is valid for the queries.
use Rattle.std.proofs.Common.{◌≡◌, ◌<◌, ◌≤◌, ◌+◌, ◌*◌, ◌==◌, ◌∙◌, ℕ, Bool, true, List, [], ◌∷◌, All, Option, None, Some}
use Rattle.std.proofs.Common.{ap, arith, eq-eqb, if◌then◌else◌, inl, inr, length, map, mul-one, mul-zero, mul_comm}
use Rattle.std.proofs.Common.{ne_eqb, one-mul, refl, slice_index, subst, sum, sum_by, sym, zero-mul}
use Rattle.std.specs.List.{AllByRecursion, Contains, count_by}
use Rattle.std.proofs.lemmas.Bool.{cases_lt, true≢false}
use Rattle.std.proofs.lemmas.List.{get_or_past, length-map}
use Rattle.std.proofs.lemmas.List.Elements.{All-from_recursion, All-head, All-tail}
use Rattle.std.proofs.lemmas.List.Sums.{sum_by-cons}
use Rattle.hsp_transport.specs.Sums.{sum_below, times}
use Rattle.hsp_transport.proofs.Rowwise.{same_by, turned}
use Rattle.hsp_transport.proofs.Summing.{sum_below_one, sum_below_same, sum_below_zero, sum_by_add, sum_by_same_all}
use Rattle.hsp_transport.proofs.Summing.{sum_by_times, sum_by_map}
use Rattle.hsp_check.specs.Plan.{Feasible, Plan, is_on, total}
use Rattle.hsp_check.specs.Prices.{at_host}
use Rattle.hsp_instance.specs.Instance.{Host, Row, Server}
use Rattle.hsp_instance.specs.declared.arc.Arc.{Arc}
use Rattle.hsp_prices.specs.Rows.{Service, network_for}
use Rattle.hsp_price_text.specs.Certificate.{IsCertificate}
use Rattle.hsp_price_text.specs.Claim.{Best}
use Rattle.hsp_price_text.specs.declared.certificate.PriceCertificate.TheVariants as certificate
use Rattle.hsp_prices.specs.Least.{arcs_of, host_at, least_of, only_arc, pay_over, price_at}
use Rattle.hsp_prices.specs.Shown.{IsShownBy}
use Rattle.hsp_prices.specs.Sums.{brings, first_pay, host_load_at, least_pay, load_at, paid_in_all, row_load}
use Rattle.hsp_prices.specs.Verdict.{IsVerdict}
use Rattle.hsp_prices.specs.declared.verdict.PriceReason.TheVariants as reason
use Rattle.hsp_prices.specs.declared.verdict.PriceVerdict.TheVariants.{Yes}
use Rattle.hsp_prices.proofs.LeastPay.{all_pay}
use Rattle.hsp_log.specs.Entries.{Entry}
use Rattle.hsp_price_check.specs.Passed.{class_at}
use Rattle.hsp_price_dispatch.specs.Choosing.{answer_by, choice_for, left_by, row_of}
use Rattle.hsp_price_dispatch.specs.Holding.{Held}
use Rattle.hsp_price_dispatch.specs.Laws.{answers_to, count_at, count_on, goes_to}
use Rattle.hsp_price_dispatch.specs.Planned.{AreWithinPlan, asked_at, cost_of_answer, has_only, is_assigned}
use Rattle.hsp_price_dispatch.specs.Planned.{only_least_where}
use Rattle.hsp_price_dispatch.specs.Starting.{Fits, IsBegun}
use Rattle.hsp_price_dispatch.specs.declared.answer.PriceAnswer.{PriceAnswer}
use Rattle.hsp_price_dispatch.specs.declared.answer.PriceAnswer.TheVariants.{Assigned, Diverted, Full, Unknown}
use Rattle.hsp_price_dispatch.proofs.Arcs.{goes_over}
use Rattle.hsp_price_dispatch.proofs.Planned.{plan_with, served_by_plan}
use Rattle.hsp_price_dispatch.proofs.RoomTaken.{one_if, same_service, takes_host_room, takes_room}
use Rattle.hsp_price_dispatch.proofs.Sums.{as_times}

-- ---- sums of tests

-- what each weighs by its terms, term by term
pub by_terms : {A : Type 0} (v : A → ℕ) (f : ℕ → A → ℕ) (w : ℕ → ℕ) (n : ℕ) (xs : List A)
    → All (λ a. v a ≡ sum_below n (λ j. w j * f j a)) xs → sum_by v xs ≡ sum_below n (λ j. w j * sum_by (f j) xs)
by_terms v f w n xs all =
    sum_by_same_all v (λ a. sum_below n (λ j. w j * f j a)) xs all ∙ turned (λ j a. w j * f j a) xs n
    ∙ sum_below_same n (λ j. sum_by (λ a. w j * f j a) xs) (λ j. w j * sum_by (f j) xs)
    (λ j l. sum_by_times (w j) (f j) xs)

-- where none of several passes the first doesn't, and none of the others does
none_count : {A : Type 0} (t : A → Bool) (x : A) (xs : List A) → count_by t (x ∷ xs) ≡ 0
    → (one_if (t x) ≡ 0) × (count_by t xs ≡ 0)
none_count t x xs e =
    let split : count_by t (x ∷ xs) ≡ one_if (t x) + count_by t xs = sum_by-cons (λ a. one_if (t a)) x xs in
    (omega (arith, split, e), omega (arith, split, e))

-- a sum of which only one term counts
pub one_term : (n : ℕ) (w : ℕ → ℕ) (i : ℕ) → ((j : ℕ) → n ≤ j → one_if (i == j) ≡ 0)
    → sum_below n (λ j. w j * one_if (i == j)) ≡ w i
one_term n w i none =
    let here : one_if (i == i) ≡ 1 = rw (eq-eqb i i refl) refl in
    let inside : i < n = elim (cases_lt i n) [
      | inl l ↦ l
      | inr past ↦ absurd (omega (arith, none i past, here))
    ] in
    sum_below_one n (λ j. w j * one_if (i == j)) i inside
    (λ k l other. let e : one_if (i == k) ≡ 0 = rw (ne_eqb i k (λ q. other (sym q))) refl in
    ap (λ v. w k * v) e ∙ mul-zero (w k))
    ∙ ap (λ v. w i * v) here ∙ mul-one (w i)

-- the same of a host, if there is one
host_term : (m : ℕ) (q : ℕ → ℕ) (o : Option ℕ) → ((h : ℕ) → m ≤ h → one_if (is_on o h) ≡ 0)
    → sum_below m (λ h. q h * one_if (is_on o h)) ≡ at_host o q
host_term m q None none = sum_below_zero m (λ h. q h * 0) (λ h l. mul-zero (q h))
host_term m q (Some g) none = one_term m q g none

-- ---- answers by their servers

-- what a weight of servers gives for an answer
abbrev weight_of : (ℕ → ℕ) → PriceAnswer → ℕ
weight_of w (Assigned arc) = w arc.server
weight_of w (Diverted arc) = w arc.server
weight_of w Full = 0
weight_of w Unknown = 0

-- two weights together
weight_add : (f g : ℕ → ℕ) (a : PriceAnswer) → weight_of (λ j. f j + g j) a ≡ weight_of f a + weight_of g a
weight_add f g (Assigned arc) = refl
weight_add f g (Diverted arc) = refl
weight_add f g Full = refl
weight_add f g Unknown = refl

-- a test as a weight
test_weight : (test : ℕ → Bool) (a : PriceAnswer) → one_if (goes_to test a) ≡ weight_of (λ j. one_if (test j)) a
test_weight test (Assigned arc) = refl
test_weight test (Diverted arc) = refl
test_weight test Full = refl
test_weight test Unknown = refl

-- nothing for an answer that goes nowhere
pub no_terms : (n : ℕ) (w : ℕ → ℕ) → 0 ≡ sum_below n (λ j. w j * 0)
no_terms n w = sym (sum_below_zero n (λ j. w j * 0) (λ j l. mul-zero (w j)))

-- the weight of an answer, server by server
server_term : (n : ℕ) (w : ℕ → ℕ) (a : PriceAnswer) → ((j : ℕ) → n ≤ j → one_if (goes_to (λ k. k == j) a) ≡ 0)
    → weight_of w a ≡ sum_below n (λ j. w j * one_if (goes_to (λ k. k == j) a))
server_term n w (Assigned arc) none = sym (one_term n w arc.server none)
server_term n w (Diverted arc) none = sym (one_term n w arc.server none)
server_term n w Full none = no_terms n w
server_term n w Unknown none = no_terms n w

-- and of all
server_terms : (n : ℕ) (w : ℕ → ℕ) (given : List PriceAnswer) → ((j : ℕ) → n ≤ j → count_at j given ≡ 0)
    → AllByRecursion (λ a. weight_of w a ≡ sum_below n (λ j. w j * one_if (goes_to (λ k. k == j) a))) given
server_terms n w [] none = tt
server_terms n w (a ∷ given) none = (
  server_term n w a (λ j l. (none_count (goes_to (λ k. k == j)) a given (none j l)).0),
  server_terms n w given (λ j l. (none_count (goes_to (λ k. k == j)) a given (none j l)).1),
)

-- so weights of servers add up to each server's weight as often as it is named
server_sum : (n : ℕ) (w : ℕ → ℕ) (given : List PriceAnswer) → ((j : ℕ) → n ≤ j → count_at j given ≡ 0)
    → sum_by (weight_of w) given ≡ sum_below n (λ j. w j * count_at j given)
server_sum n w given none =
    by_terms (weight_of w) (λ j a. one_if (goes_to (λ k. k == j) a)) w n given
    (All-from_recursion _ given (server_terms n w given none))

module _ (at : Service) where
  -- the weight of an answer's host
  host_weight : (m : ℕ) (q : ℕ → ℕ) (a : PriceAnswer)
      → ((h : ℕ) → m ≤ h → one_if (goes_to (λ k. is_on (host_at at k) h) a) ≡ 0)
      → weight_of (λ j. at_host (host_at at j) q) a
      ≡ sum_below m (λ h. q h * one_if (goes_to (λ k. is_on (host_at at k) h) a))
  host_weight m q (Assigned arc) none = sym (host_term m q (host_at at arc.server) none)
  host_weight m q (Diverted arc) none = sym (host_term m q (host_at at arc.server) none)
  host_weight m q Full none = no_terms m q
  host_weight m q Unknown none = no_terms m q

  -- and of all
  host_weights : (m : ℕ) (q : ℕ → ℕ) (given : List PriceAnswer) → ((h : ℕ) → m ≤ h → count_on at h given ≡ 0)
      → AllByRecursion (λ a. weight_of (λ j. at_host (host_at at j) q) a
      ≡ sum_below m (λ h. q h * one_if (goes_to (λ k. is_on (host_at at k) h) a))) given
  host_weights m q [] none = tt
  host_weights m q (a ∷ given) none = (
    host_weight m q a (λ h l. (none_count (goes_to (λ k. is_on (host_at at k) h)) a given (none h l)).0),
    host_weights m q given (λ h l. (none_count (goes_to (λ k. is_on (host_at at k) h)) a given (none h l)).1),
  )

  -- so weights of hosts add up to each host's weight as often as one of its servers is named
  host_sum : (m : ℕ) (q : ℕ → ℕ) (given : List PriceAnswer) → ((h : ℕ) → m ≤ h → count_on at h given ≡ 0)
      → sum_by (weight_of (λ j. at_host (host_at at j) q)) given ≡ sum_below m (λ h. q h * count_on at h given)
  host_sum m q given none =
      by_terms (weight_of (λ j. at_host (host_at at j) q)) (λ h a. one_if (goes_to (λ k. is_on (host_at at k) h) a)) q m
      given (All-from_recursion _ given (host_weights m q given none))

  -- what goes to the servers of a host, server by server
  count_on_is : (n h : ℕ) (given : List PriceAnswer) → ((j : ℕ) → n ≤ j → count_at j given ≡ 0)
      → count_on at h given ≡ sum_below n (λ j. if is_on (host_at at j) h then count_at j given else 0)
  count_on_is n h given none =
      let test = λ (j : ℕ). is_on (host_at at j) h in
      same_by (λ a. one_if (goes_to test a)) (weight_of (λ j. one_if (test j))) given (test_weight test)
      ∙ server_sum n (λ j. one_if (test j)) given none
      ∙ sum_below_same n (λ j. one_if (test j) * count_at j given) (λ j. if test j then count_at j given else 0)
      (λ j l. as_times (test j) (count_at j given))

-- ---- what full places take

-- a place that isn't full is free
full_term : (bound price taken : ℕ) → taken ≤ bound → (taken < bound → price ≡ 0) → price * taken ≡ bound * price
full_term bound price taken low idle = elim (cases_lt taken bound) [
  | inl less ↦ rw (idle less) (zero-mul taken ∙ sym (mul-zero bound))
  | inr not_less ↦
      let full : taken ≡ bound = omega arith in
      rw full (mul_comm price bound)
]

-- so what is taken pays for all bounds
full_times : (bounds prices : List ℕ) (taken : ℕ → ℕ) (n : ℕ) → length bounds ≡ n
    → ((j : ℕ) → j < n → taken j ≤ slice_index bounds j)
    → ((j : ℕ) → j < n → taken j < slice_index bounds j → slice_index prices j ≡ 0)
    → sum_below n (λ j. slice_index prices j * taken j) ≡ times bounds prices
full_times bounds prices taken n long low idle =
    sum_below_same n (λ j. slice_index prices j * taken j) (λ j. slice_index bounds j * slice_index prices j)
    (λ j l. full_term (slice_index bounds j) (slice_index prices j) (taken j) (low j l) (idle j l))
    ∙ ap (λ k. sum_below k (λ j. slice_index bounds j * slice_index prices j)) (sym long)

-- ---- what queries pay

module _ (at : Service) (plan : Best) where
  -- an assigned query pays the least that it can
  pays_least : (own : Held) (entry : Entry) (a : PriceAnswer) → own.service ≡ at → own.plan ≡ plan
      → answer_by own entry ≡ a → is_assigned a ≡ true
      → cost_of_answer a + weight_of (price_at at plan) a ≡ least_pay at plan (row_of entry)
  pays_least own entry (Assigned arc) s p e t =
      let there : Contains (least_of at plan (row_of entry)) arc = rw (s, p) at ((goes_over own entry arc).0 e) in
      let pay = pay_over at plan in
      let arcs = arcs_of at (row_of entry) in
      sym
      (subst (λ (own_arc : Arc). first_pay pay (least_of at plan (row_of entry)) ≡ pay own_arc) there.2
      (all_pay pay arcs there.0 arc there.1))
  pays_least own entry (Diverted arc) s p e t = absurd (true≢false (sym t))
  pays_least own entry Full s p e t = absurd (true≢false (sym t))
  pays_least own entry Unknown s p e t = absurd (true≢false (sym t))

  -- so do all together
  all_pay_least : (own : Held) (entries : List Entry) → own.service ≡ at → own.plan ≡ plan
      → All (λ answer. is_assigned answer ≡ true) (answers_to own entries)
      → sum_by cost_of_answer (answers_to own entries) + sum_by (weight_of (price_at at plan)) (answers_to own entries)
      ≡ sum_by (λ entry. least_pay at plan (row_of entry)) entries
  all_pay_least own [] s p all = refl
  all_pay_least own (entry ∷ entries) s p all =
      let answer = answer_by own entry in
      let next = left_by own entry in
      let given = answers_to next entries in
      let here = pays_least own entry answer s p refl
      (All-head (λ answer. is_assigned answer ≡ true) answer given all) in
      let later = all_pay_least next entries (same_service own entry ∙ s) (plan_with own (choice_for own entry) ∙ p)
      (All-tail (λ answer. is_assigned answer ≡ true) answer given all) in
      omega (
        arith,
        sum_by-cons cost_of_answer answer given,
        sum_by-cons (weight_of (price_at at plan)) answer given,
        sum_by-cons (λ (own_entry : Entry). least_pay at plan (row_of own_entry)) entry entries,
        here,
        later,
      )

  -- which is what their rows pay
  rows_pay : (entries : List Entry)
      → paid_in_all at plan (map row_of entries) ≡ sum_by (λ entry. least_pay at plan (row_of entry)) entries
  rows_pay entries =
      sum_by_map (λ (row : Row). row.count * least_pay at plan row) row_of entries
      ∙ same_by (λ (entry : Entry). 1 * least_pay at plan (row_of entry))
      (λ (entry : Entry). least_pay at plan (row_of entry)) entries
      (λ entry. one-mul (least_pay at plan (row_of entry)))

  -- ---- what servers get

  -- what a row of one query brings
  only_brings : (j : ℕ) (o : Option Arc) → brings 1 j o ≡ has_only (λ i. i == j) o
  only_brings j None = refl
  only_brings j (Some arc) = refl

  -- what rows and classes bring to a server
  pub load_rows : (entries : List Entry) (j : ℕ)
      → load_at at plan (map row_of entries) j
      ≡ only_least_where at plan (λ i. i == j) entries + load_at at plan [] j
  load_rows entries j =
      let rows = sum_by_map (row_load at plan j) row_of entries in
      let each : sum_by (λ entry. row_load at plan j (row_of entry)) entries
      ≡ only_least_where at plan (λ i. i == j) entries =
      same_by (λ (entry : Entry). row_load at plan j (row_of entry))
      (λ (entry : Entry). has_only (λ i. i == j) (only_arc (least_of at plan (row_of entry)))) entries
      (λ entry. only_brings j (only_arc (least_of at plan (row_of entry)))) in
      omega (arith, rows, each)

-- ---- the cost

module _ (at : Service) (plan : Best) (own : Held) (entries : List Entry)
    (text : IsCertificate (certificate.Plan plan))
    (valid : IsVerdict at (map row_of entries) (certificate.Plan plan) Yes) (begun : IsBegun at plan 1 0 own)
    (within : AreWithinPlan at plan entries)
    (exact : (k : ℕ) → k < length plan.classes → asked_at at plan k entries ≡ sum (class_at plan k).amounts)
    (shown : (x : Plan) × IsShownBy at (map row_of entries) plan x) where
  abbrev rows : List Row
  rows = map row_of entries

  abbrev given : List PriceAnswer
  given = answers_to own entries

  -- the plan fits
  fits : Fits at plan
  fits = record {
    shape = valid reason.Shape;
    there = valid reason.NoSuchServer;
    load = (λ j l. omega (arith, within.servers j), λ h l. omega (arith, within.hosts h));
  }

  -- no query goes past the servers
  no_count : (j : ℕ) → length at.servers ≤ j → count_at j given ≡ 0
  no_count j past =
      omega (arith, takes_room own entries j, get_or_past own.rooms j 0 (omega (arith, past, begun.rooms_many)))

  -- or past the hosts
  no_host_count : (h : ℕ) → length at.hosts ≤ h → count_on at h given ≡ 0
  no_host_count h past =
      let taken = takes_host_room own entries h in
      let none : count_on own.service h given ≡ 0 =
      omega (arith, taken, get_or_past own.host_rooms h 0 (omega (arith, past, begun.host_rooms_many))) in
      subst (λ (service : Service). count_on service h given ≡ 0) begun.service none

  -- each server gets what rows and classes bring
  count_is : (j : ℕ) → count_at j given ≡ load_at at plan rows j
  count_is j =
      (served_by_plan at plan own entries text fits begun within).2 exact j ∙ sym (load_rows at plan entries j)

  -- and so does each host
  host_count_is : (h : ℕ) → count_on at h given ≡ host_load_at at plan rows h
  host_count_is h =
      count_on_is at (length at.servers) h given no_count
      ∙ sum_below_same (length at.servers) (λ j. if is_on (host_at at j) h then count_at j given else 0)
      (λ j. if is_on (host_at at j) h then load_at at plan rows j else 0)
      (λ j l. ap (λ n. if is_on (host_at at j) h then n else 0) (count_is j))

  -- the servers' prices come to what full servers take
  servers_paid : sum_by (weight_of (λ j. slice_index plan.server_prices j)) given
      ≡ times (map (λ server. server.capacity) at.servers) plan.server_prices
  servers_paid =
      let n = length at.servers in
      let price = λ (j : ℕ). slice_index plan.server_prices j in
      server_sum n price given no_count
      ∙ sum_below_same n (λ j. price j * count_at j given) (λ j. price j * load_at at plan rows j)
      (λ j l. ap (λ v. price j * v) (count_is j))
      ∙ full_times (map (λ server. server.capacity) at.servers) plan.server_prices (load_at at plan rows) n
      (length-map at.servers (λ (server : Server). server.capacity)) (valid reason.Load).0 (valid reason.IdlePrice).0

  -- and those of hosts to what full hosts take
  hosts_paid : sum_by (weight_of (λ j. at_host (host_at at j) (λ h. slice_index plan.host_prices h))) given
      ≡ times (map (λ (host : Host). host.limit) at.hosts) plan.host_prices
  hosts_paid =
      let m = length at.hosts in
      let price = λ (h : ℕ). slice_index plan.host_prices h in
      host_sum at m price given no_host_count
      ∙ sum_below_same m (λ h. price h * count_on at h given) (λ h. price h * host_load_at at plan rows h)
      (λ h l. ap (λ v. price h * v) (host_count_is h))
      ∙ full_times (map (λ (host : Host). host.limit) at.hosts) plan.host_prices (host_load_at at plan rows) m
      (length-map at.hosts (λ (host : Host). host.limit)) (valid reason.Load).1 (valid reason.IdlePrice).1

  -- so the answers cost what the plan does
  cost_is : sum_by cost_of_answer given ≡ plan.cost
  cost_is =
      let price = λ (j : ℕ). slice_index plan.server_prices j in
      let host_price = λ (j : ℕ). at_host (host_at at j) (λ h. slice_index plan.host_prices h) in
      let both : sum_by (weight_of (price_at at plan)) given
      ≡ sum_by (weight_of price) given + sum_by (weight_of host_price) given =
      same_by (weight_of (price_at at plan)) (λ a. weight_of price a + weight_of host_price a) given
      (weight_add price host_price)
      ∙ sum_by_add (weight_of price) (weight_of host_price) given in
      let paid = all_pay_least at plan own entries begun.service begun.plan_is
      (served_by_plan at plan own entries text fits begun within).0 in
      omega (arith, paid, both, servers_paid, hosts_paid, rows_pay at plan entries, shown.1.bound)

  -- which no plan of the rows undercuts
  no_less : (x : Plan) → Feasible (network_for at rows) x → sum_by cost_of_answer given ≤ total (network_for at rows) x
  no_less x feasible = omega (arith, cost_is, shown.1.cost, shown.1.best.least x feasible)

  -- what the law says
  pub costs : All (λ answer. is_assigned answer ≡ true) given × (sum_by cost_of_answer given ≡ plan.cost)
      × ((x : Plan) → Feasible (network_for at rows) x
      → sum_by cost_of_answer given ≤ total (network_for at rows) x)
  costs = ((served_by_plan at plan own entries text fits begun within).0, cost_is, no_less)
