-- The room that is left by queries, one after another.
use Rattle.std.proofs.Common.{◌≡◌, ◌≢◌, ◌<◌, ◌+◌, ◌-◌, ◌==◌, ℕ, Bool, true, List, [], ◌∷◌, length, Option, Some, None}
use Rattle.std.proofs.Common.{inl, inr, refl, ap, sym, arith, if◌then◌else◌, nat_lt, slice_index, eq-eqb, ne_eqb}
use Rattle.std.proofs.Common.{get_or-set_other, get_or-set_same}
use Rattle.std.specs.Prelude.{⊤}
use Rattle.std.proofs.lemmas.Bool.{and_parts, cases_eq, cases_lt, ltb-true}
use Rattle.std.proofs.lemmas.List.{get_or_past}
use Rattle.std.proofs.lemmas.List.Sums.{sum_by-cons}
use Rattle.hsp_check.specs.Plan.{is_on}
use Rattle.hsp_instance.specs.declared.arc.Arc.{Arc}
use Rattle.hsp_prices.specs.Least.{arcs_of, host_at, least_of}
use Rattle.hsp_log.specs.Entries.{Entry}
use Rattle.hsp_price_dispatch.specs.Choosing.{answer_by, answer_of, choice_for, left_by, left_with, row_of}
use Rattle.hsp_price_dispatch.specs.Holding.{Held, has_room_at, host_passes, host_room_at, one_less, one_less_on}
use Rattle.hsp_price_dispatch.specs.Holding.{room_at, with_query_at}
use Rattle.hsp_price_dispatch.specs.Laws.{NeverExceeds, TakesHostRoom, TakesRoom, answers_to, count_at, count_on}
use Rattle.hsp_price_dispatch.specs.Laws.{goes_to, left_after}
use Rattle.hsp_price_dispatch.specs.declared.answer.Choice.{Choice}
use Rattle.hsp_price_dispatch.specs.declared.answer.Choice.TheVariants.{OfClass, Free, Diverted, Full, Unknown}
use Rattle.hsp_price_dispatch.proofs.Chosen.{IsGood, is_good}

abbrev pub one_if : Bool → ℕ
one_if t = if t then 1 else 0

-- ---- one less at a place

-- where a number is above 0
there : (numbers : List ℕ) (i : ℕ) → 0 < slice_index numbers i → i < length numbers
there numbers i some = elim (cases_lt i (length numbers)) [
  | inl inside ↦ inside
  | inr past ↦ let none = get_or_past numbers i 0 past in absurd (omega (arith, none))
]

-- one less at one place, and the others stay
pub less_at : (numbers : List ℕ) (i j : ℕ) → 0 < slice_index numbers i
    → one_if (i == j) + slice_index (one_less numbers i) j ≡ slice_index numbers j
less_at numbers i j some = elim (cases_eq i j) [
  | inl same ↦
      let set : slice_index (one_less numbers i) i ≡ slice_index numbers i - 1 =
      get_or-set_same numbers i (slice_index numbers i - 1) 0 (there numbers i some) in
      let here : 1 + slice_index (one_less numbers i) i ≡ slice_index numbers i = omega (arith, set) in
      rw (eq-eqb i j same, ← same) here
  | inr other ↦
      let apart : j ≢ i = λ q. other (sym q) in
      let set : slice_index (one_less numbers i) j ≡ slice_index numbers j =
      get_or-set_other numbers i j (slice_index numbers i - 1) 0 apart in
      rw (ne_eqb i j other) (omega (arith, set))
]

-- ---- one query

module _ (own : Held) where
  -- a query at a server with room takes one of its room
  pub server_takes : (i j : ℕ) → has_room_at own i ≡ true
      → one_if (i == j) + room_at (with_query_at own i) j ≡ room_at own j
  server_takes i j room =
      let parts =
      and_parts (nat_lt 0 (room_at own i)) (host_passes (host_at own.service i) (λ h. nat_lt 0 (host_room_at own h)))
      room in
      less_at own.rooms i j (ltb-true 0 (room_at own i) parts.0)

  -- and one of its host's
  host_takes_on : (o : Option ℕ) (h : ℕ) → host_passes o (λ h. nat_lt 0 (host_room_at own h)) ≡ true
      → one_if (is_on o h) + slice_index (one_less_on own.host_rooms o) h ≡ host_room_at own h
  host_takes_on None h room = omega arith
  host_takes_on (Some g) h room = less_at own.host_rooms g h (ltb-true 0 (host_room_at own g) room)

  -- so a query takes one of the room of its host
  pub host_takes : (i h : ℕ) → has_room_at own i ≡ true
      → one_if (is_on (host_at own.service i) h) + host_room_at (with_query_at own i) h ≡ host_room_at own h
  host_takes i h room =
      let parts =
      and_parts (nat_lt 0 (room_at own i)) (host_passes (host_at own.service i) (λ h. nat_lt 0 (host_room_at own h)))
      room in
      host_takes_on (host_at own.service i) h parts.1

  -- whatever a query is answered by
  choice_takes : (P Q : Arc → Type 0) (choice : Choice) (j : ℕ) → IsGood own P Q choice
      → one_if (goes_to (λ k. k == j) (answer_of choice)) + room_at (left_with own choice) j ≡ room_at own j
  choice_takes P Q (OfClass n arc) j is = server_takes arc.server j is.1
  choice_takes P Q (Free arc) j is = server_takes arc.server j is.1
  choice_takes P Q (Diverted arc) j is = server_takes arc.server j is.1
  choice_takes P Q Full j is = omega arith
  choice_takes P Q Unknown j is = omega arith

  -- so it is at a host
  host_choice_takes : (P Q : Arc → Type 0) (choice : Choice) (h : ℕ) → IsGood own P Q choice
      → one_if (goes_to (λ k. is_on (host_at own.service k) h) (answer_of choice))
      + host_room_at (left_with own choice) h ≡ host_room_at own h
  host_choice_takes P Q (OfClass n arc) h is = host_takes arc.server h is.1
  host_choice_takes P Q (Free arc) h is = host_takes arc.server h is.1
  host_choice_takes P Q (Diverted arc) h is = host_takes arc.server h is.1
  host_choice_takes P Q Full h is = omega arith
  host_choice_takes P Q Unknown h is = omega arith

  -- the service and the plan stay
  pub service_stays : (choice : Choice) → (left_with own choice).service ≡ own.service
  service_stays (OfClass n arc) = refl
  service_stays (Free arc) = refl
  service_stays (Diverted arc) = refl
  service_stays Full = refl
  service_stays Unknown = refl

-- any arc at all
abbrev pub AnyArc : Arc → Type 0
AnyArc arc = ⊤

-- there is room where a query goes
pub choice_good : (own : Held) (entry : Entry) → IsGood own AnyArc AnyArc (choice_for own entry)
choice_good own entry =
    is_good own AnyArc AnyArc entry.region (arcs_of own.service (row_of entry))
    (least_of own.service own.plan (row_of entry)) (λ k d l. tt) (λ k d l. tt)

-- a query that goes to a server takes one of its room
pub one_takes : (own : Held) (entry : Entry) (j : ℕ)
    → one_if (goes_to (λ k. k == j) (answer_by own entry)) + room_at (left_by own entry) j ≡ room_at own j
one_takes own entry j = choice_takes own AnyArc AnyArc (choice_for own entry) j (choice_good own entry)

-- and one of the room of its host
pub one_host_takes : (own : Held) (entry : Entry) (h : ℕ)
    → one_if (goes_to (λ k. is_on (host_at own.service k) h) (answer_by own entry))
    + host_room_at (left_by own entry) h ≡ host_room_at own h
one_host_takes own entry h = host_choice_takes own AnyArc AnyArc (choice_for own entry) h (choice_good own entry)

-- the service stays
pub same_service : (own : Held) (entry : Entry) → (left_by own entry).service ≡ own.service
same_service own entry = service_stays own (choice_for own entry)

-- ---- queries in turn

-- at a server
pub takes_room : TakesRoom
takes_room own [] j = omega arith
takes_room own (entry ∷ entries) j =
    let test = goes_to (λ k. k == j) in
    let answer = answer_by own entry in
    let next = left_by own entry in
    let split : count_at j (answer ∷ answers_to next entries)
    ≡ one_if (test answer) + count_at j (answers_to next entries) =
    sum_by-cons (λ given. if test given then 1 else 0) answer (answers_to next entries) in
    let later : count_at j (answers_to next entries) + room_at (left_after next entries) j ≡ room_at next j =
    takes_room next entries j in
    let now : one_if (test answer) + room_at next j ≡ room_at own j = one_takes own entry j in
    omega (arith, split, later, now)

-- and at a host
pub takes_host_room : TakesHostRoom
takes_host_room own [] h = omega arith
takes_host_room own (entry ∷ entries) h =
    let test = goes_to (λ k. is_on (host_at own.service k) h) in
    let answer = answer_by own entry in
    let next = left_by own entry in
    let given = answers_to next entries in
    let split : count_on own.service h (answer ∷ given) ≡ one_if (test answer) + count_on own.service h given =
    sum_by-cons (λ given. if test given then 1 else 0) answer given in
    let same : count_on next.service h given ≡ count_on own.service h given =
    ap (λ at. count_on at h given) (same_service own entry) in
    let later : count_on next.service h given + host_room_at (left_after next entries) h ≡ host_room_at next h =
    takes_host_room next entries h in
    let now : one_if (test answer) + host_room_at next h ≡ host_room_at own h = one_host_takes own entry h in
    omega (arith, split, same, later, now)

-- so no more queries come than there is room for
pub never_exceeds : NeverExceeds
never_exceeds own entries =
    (λ j. omega (arith, takes_room own entries j), λ h. omega (arith, takes_host_room own entries h))
