-- Fronts side by side: each answers by its own entries, and together they keep within what servers and hosts take.
use Rattle.std.proofs.Common.{◌≡◌, ◌<◌, ◌≤◌, ◌+◌, ◌-◌, ◌∙◌, ◌++◌, ◌==◌, ℕ, zero, suc, List, [], ◌∷◌, length, All, Bool}
use Rattle.std.proofs.Common.{ap, ap₂, arith, eq-eqb, inl, inr, ne_eqb, refl, subst, sym}
use Rattle.std.specs.List.{zip}
use Rattle.std.proofs.lemmas.Bool.{cases_eq}
use Rattle.std.proofs.lemmas.List.Elements.{All-append, All-head, All-tail}
use Rattle.hsp_transport.specs.Sums.{sum_below}
use Rattle.hsp_transport.proofs.Summing.{sum_below_add, sum_below_le, sum_below_same}
use Rattle.hsp_check.specs.Plan.{is_on}
use Rattle.hsp_prices.specs.Rows.{Service}
use Rattle.hsp_price_text.specs.Claim.{Best, Class}
use Rattle.hsp_prices.specs.Least.{host_at}
use Rattle.hsp_prices.specs.Sums.{host_load_at, load_at, sends}
use Rattle.hsp_log.specs.Entries.{Entry, each_after, Event, entries_at}
use Rattle.hsp_log.specs.FrontShares.{share}
use Rattle.hsp_log.proofs.Entries.{more_elsewhere, more_here}
use Rattle.hsp_log.proofs.FrontShares.{shares_add_up}
use Rattle.hsp_price_dispatch.specs.Choosing.{answer_by, left_by}
use Rattle.hsp_price_dispatch.specs.Holding.{Held, host_room_at, left_where, room_at}
use Rattle.hsp_price_dispatch.specs.Laws.{AnswersByItsOwn, AreBegun, EndsInTheSame, GoesByItsEntries, GoesOnWithTheRest}
use Rattle.hsp_price_dispatch.specs.Laws.{NeverExceedsTogether, RoomsAddUp, answers_at, answers_to, count_at, count_on}
use Rattle.hsp_price_dispatch.specs.Laws.{event_answer, left_after}
use Rattle.hsp_price_dispatch.specs.Starting.{Fits, capacity_at, limit_at}
use Rattle.hsp_price_dispatch.specs.declared.answer.PriceAnswer.{PriceAnswer}
use Rattle.hsp_price_dispatch.proofs.RoomTaken.{never_exceeds}
use Rattle.hsp_price_dispatch.proofs.Sums.{all_sends, host_load_is, left_is, load_is, sent_where, shares_together}
use Rattle.hsp_price_dispatch.proofs.Sums.{whole}

-- ---- each front alone

-- the second of two parts is answered by what the first leaves
pub goes_on_with_the_rest : GoesOnWithTheRest
goes_on_with_the_rest own [] more = (refl, refl)
goes_on_with_the_rest own (entry ∷ entries) more =
    let later = goes_on_with_the_rest (left_by own entry) entries more in
    (ap (λ (given : List PriceAnswer). answer_by own entry ∷ given) later.0, later.1)

module _ (begun : ℕ → Held) (front : ℕ) where
  -- the answers at a front are those to its own entries
  at_front : (before events : List Event)
      → answers_at front events (each_after (event_answer begun) before events)
      ≡ answers_to (left_after (begun front) (entries_at front before)) (entries_at front events)
  at_front before [] = refl
  at_front before (event ∷ events) =
      let state = left_after (begun front) (entries_at front before) in
      let later = at_front (before ++ event ∷ []) events in
      elim (cases_eq event.front front) [
        | inl here ↦
            let own : event_answer begun before event ≡ answer_by state event.entry =
            ap (λ (f : ℕ). answer_by (left_after (begun f) (entries_at f before)) event.entry) here in
            let next : left_after (begun front) (entries_at front (before ++ event ∷ [])) ≡ left_by state event.entry =
            ap (left_after (begun front)) (more_here front before event here)
            ∙ (goes_on_with_the_rest (begun front) (entries_at front before) (event.entry ∷ [])).1 in
            rw (eq-eqb event.front front here)
            (ap₂ (λ (x : PriceAnswer) (xs : List PriceAnswer). x ∷ xs) own
            (later ∙ ap (λ (held : Held). answers_to held (entries_at front events)) next))
        | inr other ↦
            let same : left_after (begun front) (entries_at front (before ++ event ∷ [])) ≡ state =
            ap (left_after (begun front)) (more_elsewhere front before event other) in
            rw (ne_eqb event.front front other)
            (later ∙ ap (λ (held : Held). answers_to held (entries_at front events)) same)
      ]

-- so each front answers as if there were no other
pub answers_alone : AnswersByItsOwn
answers_alone begun front events = at_front begun front [] events

-- by its own entries alone
pub by_its_entries : GoesByItsEntries
by_its_entries begun front a b same = (
  answers_alone begun front a ∙ ap (answers_to (begun front)) same ∙ sym (answers_alone begun front b),
  ap (left_after (begun front)) same,
)

-- in whatever order those of the others come
pub in_the_same : EndsInTheSame
in_the_same begun a b same front = ap (left_after (begun front)) (same front)

-- ---- all fronts together

-- the first of pairs
zip_there : (n : ℕ) (xs ys : List ℕ) → All (λ j. j < n) xs → All (λ (sent : ℕ × ℕ). sent.0 < n) (zip xs ys)
zip_there n [] ys all k d l = absurd (omega arith)
zip_there n (x ∷ xs) [] all k d l = absurd (omega arith)
zip_there n (x ∷ xs) (y ∷ ys) all zero d l = All-head (λ j. j < n) x xs all
zip_there n (x ∷ xs) (y ∷ ys) all (suc k) d l = zip_there n xs ys (All-tail (λ j. j < n) x xs all) k d (omega arith)

-- the servers of all classes are there
pub sends_there : (n : ℕ) (classes : List Class) → All (λ (class : Class). All (λ j. j < n) class.servers) classes
    → All (λ (sent : ℕ × ℕ). sent.0 < n) (all_sends classes)
sends_there n [] all = λ k d l. absurd (omega arith)
sends_there n (class ∷ classes) all =
    All-append (λ (sent : ℕ × ℕ). sent.0 < n) (sends class) (all_sends classes)
    (zip_there n class.servers class.amounts (All-head (λ (class : Class). All (λ j. j < n) class.servers) class
    classes all))
    (sends_there n classes (All-tail (λ (class : Class). All (λ j. j < n) class.servers) class classes all))

module _ (at : Service) (plan : Best) (fronts : ℕ) (begun : ℕ → Held) (some : 0 < fronts) (fits : Fits at plan)
    (are : AreBegun at plan fronts begun) where
  -- the room beside classes and the room for them, of all fronts
  together : (test : ℕ → Bool) (bound load : ℕ) → load ≤ bound
      → load ≡ sent_where whole test (all_sends plan.classes)
      → sum_below fronts
      (λ front. share fronts front (bound - load) + sent_where (share fronts front) test (all_sends plan.classes))
      ≡ bound
  together test bound load low is =
      let free = λ (front : ℕ). share fronts front (bound - load) in
      let held = λ (front : ℕ). sent_where (share fronts front) test (all_sends plan.classes) in
      let sum : sum_below fronts (λ front. free front + held front)
      ≡ sum_below fronts free + sum_below fronts held = sum_below_add fronts free held in
      let all_free : sum_below fronts free ≡ bound - load = shares_add_up fronts (bound - load) some in
      let all_held : sum_below fronts held ≡ load =
      shares_together fronts test (all_sends plan.classes) some ∙ sym is in
      omega (arith, sum, all_free, all_held, low)

  -- what a front holds at first at servers that pass a test
  held_first : (test : ℕ → Bool) (front : ℕ) → front < fronts
      → left_where test (begun front).cells ≡ sent_where (share fronts front) test (all_sends plan.classes)
  held_first test front inside =
      ap (left_where test) (are front inside).cells ∙ left_is fronts front test plan.classes

  -- the room of all fronts at a server
  pub rooms_together : (j : ℕ) → j < length at.servers
      → sum_below fronts (λ front. room_at (begun front) j) ≡ capacity_at at j
  rooms_together j l =
      sum_below_same fronts (λ front. room_at (begun front) j)
      (λ front. share fronts front (capacity_at at j - load_at at plan [] j)
      + sent_where (share fronts front) (λ k. k == j) (all_sends plan.classes))
      (λ front inside. (are front inside).rooms j l
      ∙ ap (λ n. share fronts front (capacity_at at j - load_at at plan [] j) + n)
      (held_first (λ k. k == j) front inside))
      ∙ together (λ k. k == j) (capacity_at at j) (load_at at plan [] j) (fits.load.0 j l) (load_is at plan j)

  -- and at a host
  pub host_rooms_together : (h : ℕ) → h < length at.hosts
      → sum_below fronts (λ front. host_room_at (begun front) h) ≡ limit_at at h
  host_rooms_together h l =
      let test = λ (k : ℕ). is_on (host_at at k) h in
      let free = limit_at at h - host_load_at at plan [] h in
      sum_below_same fronts (λ front. host_room_at (begun front) h)
      (λ front. share fronts front free + sent_where (share fronts front) test (all_sends plan.classes))
      (λ front inside. (are front inside).host_rooms h l
      ∙ ap (λ n. share fronts front free + n)
      (ap (λ (own : Service). left_where (λ k. is_on (host_at own k) h) (begun front).cells) (are front inside).service
      ∙ held_first test front inside))
      ∙ together test (limit_at at h) (host_load_at at plan [] h) (fits.load.1 h l)
      (host_load_is at plan h (sends_there (length at.servers) plan.classes fits.there))

  module _ (entries : ℕ → List Entry) where
    -- no server gets more than it takes
    pub exceeds_no_server : (j : ℕ) → j < length at.servers
        → sum_below fronts (λ front. count_at j (answers_to (begun front) (entries front))) ≤ capacity_at at j
    exceeds_no_server j l =
        let each =
        sum_below_le fronts (λ front. count_at j (answers_to (begun front) (entries front)))
        (λ front. room_at (begun front) j) (λ front inside. (never_exceeds (begun front) (entries front)).0 j) in
        omega (arith, each, rooms_together j l)

    -- and no host
    pub exceeds_no_host : (h : ℕ) → h < length at.hosts
        → sum_below fronts (λ front. count_on at h (answers_to (begun front) (entries front))) ≤ limit_at at h
    exceeds_no_host h l =
        let each =
        sum_below_le fronts (λ front. count_on at h (answers_to (begun front) (entries front)))
        (λ front. host_room_at (begun front) h)
        (λ front inside.
        subst (λ (own : Service). count_on own h (answers_to (begun front) (entries front)) ≤ host_room_at (begun
        front) h)
        (are front inside).service ((never_exceeds (begun front) (entries front)).1 h)) in
        omega (arith, each, host_rooms_together h l)

-- the rooms add up
pub rooms_add_up : RoomsAddUp
rooms_add_up at plan fronts begun some fits are =
    (rooms_together at plan fronts begun some fits are, host_rooms_together at plan fronts begun some fits are)

-- so nothing is exceeded
pub never_exceeds_together : NeverExceedsTogether
never_exceeds_together at plan fronts begun entries some fits are = (
  exceeds_no_server at plan fronts begun some fits are entries,
  exceeds_no_host at plan fronts begun some fits are entries,
)
