-- Over which arcs queries go, and where none has room.
use Rattle.std.proofs.Common.{◌≡◌, ◌<◌, ◌≤◌, ◌∙◌, ℕ, zero, suc, Bool, true, false, List, [], ◌∷◌, length}
use Rattle.std.proofs.Common.{All, Option, None, Some, arith, filter, get_or, inl}
use Rattle.std.proofs.Common.{inr, refl, subst, sym, nat_le, nat_lt}
use Rattle.std.specs.List.{Contains}
use Rattle.std.proofs.lemmas.Bool.{and_cases, cases_lt, false_from_ne_true, le-leb, lt-ltb, true≢false}
use Rattle.std.proofs.lemmas.List.Elements.{All-contains_itself, All-filter}
use Rattle.std.proofs.lemmas.List.Sums.{list_all-from_AllPass}
use Rattle.hsp_instance.specs.Building.{or_else}
use Rattle.hsp_instance.specs.declared.arc.Arc.{Arc}
use Rattle.hsp_prices.specs.Least.{arcs_of, host_at, is_least, least_arcs, least_of, pay_over}
use Rattle.hsp_price_dispatch.specs.Choosing.{answer_of, assigned, at_first, choice_among, choice_for}
use Rattle.hsp_price_dispatch.specs.Choosing.{diverted, elsewhere, or_full, row_of}
use Rattle.hsp_price_dispatch.specs.Holding.{Held, has_room, host_passes, host_room_at, is_free, room_at}
use Rattle.hsp_price_dispatch.specs.Laws.{GoesOverItsArcs, HasNoRoom, IsFullWithoutRoom, IsUnknownWithoutCost}
use Rattle.hsp_price_dispatch.specs.Laws.{LeastAreArcs}
use Rattle.hsp_price_dispatch.specs.declared.answer.Choice.{Choice}
use Rattle.hsp_price_dispatch.specs.declared.answer.Choice.TheVariants as choice
use Rattle.hsp_price_dispatch.specs.declared.answer.PriceAnswer.TheVariants.{Assigned, Diverted, Full, Unknown}
use Rattle.hsp_price_dispatch.proofs.Choices.{is_unknown, second_absent, there_or_full}
use Rattle.hsp_price_dispatch.proofs.Chosen.{IsGood, OnChoice, is_good, on_any}
use Rattle.hsp_price_dispatch.proofs.RoomTaken.{AnyArc}

-- ---- the arc of an answer

module _ (own : Held) (P Q : Arc → Type 0) where
  -- an assigned query goes over an arc with the one property
  assigned_over : (by : Choice) (arc : Arc) → IsGood own P Q by → answer_of by ≡ Assigned arc → P arc
  assigned_over (choice.OfClass n own_arc) arc is e = let same : own_arc ≡ arc = cc (e) in subst P same is.0
  assigned_over (choice.Free own_arc) arc is e = let same : own_arc ≡ arc = cc (e) in subst P same is.0
  assigned_over (choice.Diverted own_arc) arc is e = absurd (cc (e))
  assigned_over choice.Full arc is e = absurd (cc (e))
  assigned_over choice.Unknown arc is e = absurd (cc (e))

  -- and a diverted one over one with the other
  diverted_over : (by : Choice) (arc : Arc) → IsGood own P Q by → answer_of by ≡ Diverted arc → Q arc
  diverted_over (choice.OfClass n own_arc) arc is e = absurd (cc (e))
  diverted_over (choice.Free own_arc) arc is e = absurd (cc (e))
  diverted_over (choice.Diverted own_arc) arc is e = let same : own_arc ≡ arc = cc (e) in subst Q same is.0
  diverted_over choice.Full arc is e = absurd (cc (e))
  diverted_over choice.Unknown arc is e = absurd (cc (e))

-- so an answer goes over one of its own arcs
pub goes_over : GoesOverItsArcs
goes_over own entry arc =
    let arcs = arcs_of own.service (row_of entry) in
    let least = least_of own.service own.plan (row_of entry) in
    let is : IsGood own (Contains least) (Contains arcs) (choice_for own entry) =
    is_good own (Contains least) (Contains arcs) entry.region arcs least (All-contains_itself arcs)
    (All-contains_itself least) in (
      (λ e. assigned_over own (Contains least) (Contains arcs) (choice_for own entry) arc is e),
      (λ e. diverted_over own (Contains least) (Contains arcs) (choice_for own entry) arc is e),
    )

-- the least arcs are some of the arcs
pub least_are_arcs : LeastAreArcs
least_are_arcs own entry arc there =
    let arcs = arcs_of own.service (row_of entry) in
    let pay = pay_over own.service own.plan in
    let all : All (Contains arcs) (least_arcs pay arcs) =
    All-filter (is_least pay arcs) (Contains arcs) arcs (All-contains_itself arcs) in
    subst (Contains arcs) there.2 (all there.0 arc there.1)

-- ---- where no arc has room

-- an arc pays no more than any of some
abbrev PaysLeast : (Arc → ℕ) → List Arc → Arc → Type 0
PaysLeast pay arcs arc = All (λ other. pay arc ≤ pay other) arcs

-- one more
least_more : (pay : Arc → ℕ) (arc x : Arc) (xs : List Arc) → pay arc ≤ pay x → PaysLeast pay xs arc
    → PaysLeast pay (x ∷ xs) arc
least_more pay arc x xs here all zero d l = here
least_more pay arc x xs here all (suc k) d l = all k d (omega arith)

-- one of some arcs pays least
some_least : (pay : Arc → ℕ) (x : Arc) (xs : List Arc)
    → (arc : Arc) × Contains (x ∷ xs) arc × PaysLeast pay (x ∷ xs) arc
some_least pay x [] = (x, (0, omega arith, refl), least_more pay x x [] (omega arith) (λ k d l. absurd (omega arith)))
some_least pay x (y ∷ ys) =
    let more = some_least pay y ys in
    elim (cases_lt (pay more.0) (pay x)) [
      | inl low ↦ (
        more.0,
        (suc more.1.0, omega (arith, more.1.1), more.1.2),
        least_more pay more.0 x (y ∷ ys) (omega (arith, low)) more.2,
      )
      | inr high ↦ (
        x,
        (0, omega arith, refl),
        least_more pay x x (y ∷ ys) (omega arith)
            (λ k d l. let own = more.2 k d l in omega (arith, own, high)),
      )
    ]

-- a filter that keeps nothing passes over the first and keeps nothing of the rest
none_kept : (t : Bool) (test : Arc → Bool) (x : Arc) (xs : List Arc) → test x ≡ t → filter test (x ∷ xs) ≡ []
    → (test x ≡ false) × (filter test xs ≡ [])
none_kept true test x xs is none = absurd (cc (rw is at none))
none_kept false test x xs is none = (is, rw is at none)

-- so it passes over each
kept_at : (test : Arc → Bool) (xs : List Arc) (k : ℕ) (arc : Arc) → k < length xs → get_or xs k arc ≡ arc
    → filter test xs ≡ [] → test arc ≡ false
kept_at test [] k arc inside is none = absurd (omega arith)
kept_at test (x ∷ xs) zero arc inside is none =
    subst (λ (own : Arc). test own ≡ false) is (none_kept (test x) test x xs refl none).0
kept_at test (x ∷ xs) (suc k) arc inside is none =
    kept_at test xs k arc (omega arith) is (none_kept (test x) test x xs refl none).1

-- what passes is not filtered away
kept : (test : Arc → Bool) (xs : List Arc) (arc : Arc) → Contains xs arc → test arc ≡ true → filter test xs ≡ []
    → ⊥
kept test xs arc there e none = true≢false (sym e ∙ kept_at test xs there.0 arc there.1 there.2 none)

-- so some arcs have a least one
pub no_least : (pay : Arc → ℕ) (arcs : List Arc) → least_arcs pay arcs ≡ [] → arcs ≡ []
no_least pay [] none = refl
no_least pay (x ∷ xs) none =
    let least = some_least pay x xs in
    let passes : is_least pay (x ∷ xs) least.0 ≡ true =
    list_all-from_AllPass (λ other. nat_le (pay least.0) (pay other)) (x ∷ xs)
    (λ k d l. le-leb (pay least.0) (pay _) (least.2 k d l)) in
    absurd (kept (is_least pay (x ∷ xs)) (x ∷ xs) least.0 least.1 passes none)

-- where a filter keeps nothing each fails
pub all_fail : (test : Arc → Bool) (xs : List Arc) → filter test xs ≡ [] → All (λ x. test x ≡ false) xs
all_fail test xs none k d l =
    false_from_ne_true (test (get_or xs k d))
    (λ e. kept test xs (get_or xs k d) (All-contains_itself xs k d l) e none)

-- a number that isn't above 0
none_left : (n : ℕ) → nat_lt 0 n ≡ false → n ≡ 0
none_left n e = elim (cases_lt 0 n) [
  | inl some ↦ absurd (true≢false (sym (lt-ltb 0 n some) ∙ e))
  | inr none ↦ omega arith
]

-- no room at a host
no_host_room : (own : Held) (j : ℕ) (o : Option ℕ) → host_at own.service j ≡ o
    → host_passes o (λ h. nat_lt 0 (host_room_at own h)) ≡ false
    → (h : ℕ) × (host_at own.service j ≡ Some h) × (host_room_at own h ≡ 0)
no_host_room own j None is e = absurd (true≢false e)
no_host_room own j (Some h) is e = (h, is, none_left (host_room_at own h) e)

-- no room by the test is none
no_room : (own : Held) (arc : Arc) → has_room own arc ≡ false → HasNoRoom own arc
no_room own arc e =
    let host = host_at own.service arc.server in
    elim (and_cases (nat_lt 0 (room_at own arc.server)) (host_passes host (λ h. nat_lt 0 (host_room_at own h))) e) [
      | inl none ↦ inl (none_left (room_at own arc.server) none)
      | inr none ↦ inr (no_host_room own arc.server host refl none)
    ]

-- the first of no arcs
pub first_none : (by : Arc → Choice) (arcs : List Arc) → at_first by arcs ≡ None → arcs ≡ []
first_none by [] e = refl
first_none by (arc ∷ arcs) e = absurd (cc (e))

-- what is answered by Full goes nowhere
goes_nowhere : (own : Held) (o : Option Choice) → OnChoice own AnyArc AnyArc o → or_full o ≡ choice.Full → o ≡ None
goes_nowhere own None is e = refl
goes_nowhere own (Some by) is e = absurd (subst (λ (own_by : Choice). OnChoice own AnyArc AnyArc (Some own_by)) e is)

-- where no arc has room for a query, none of its arcs has
full_among : (own : Held) (region : List ℕ) (arcs least : List Arc)
    → choice_among own region arcs least ≡ choice.Full → All (HasNoRoom own) arcs
full_among own region [] least e k d l = absurd (omega arith)
full_among own region (arc ∷ arcs) least e k d l =
    let all = arc ∷ arcs in
    let pay = pay_over own.service own.plan in
    let none : or_else (assigned own region least) (elsewhere own all) ≡ None =
    goes_nowhere own (or_else (assigned own region least) (elsewhere own all))
    (on_any own AnyArc AnyArc region all least (λ k d l. tt) (λ k d l. tt)) e in
    let other : elsewhere own all ≡ None = second_absent (assigned own region least) (elsewhere own all) none in
    let roomy : diverted own (has_room own) all ≡ None =
    second_absent (diverted own (is_free own) all) (diverted own (has_room own) all) other in
    let nothing : filter (has_room own) all ≡ [] =
    no_least pay (filter (has_room own) all)
    (first_none choice.Diverted (least_arcs pay (filter (has_room own) all)) roomy) in
    no_room own (get_or all k d) (all_fail (has_room own) all nothing k d l)

-- only one choice is answered by Full
is_full : (by : Choice) → answer_of by ≡ Full → by ≡ choice.Full
is_full (choice.OfClass n arc) e = absurd (cc (e))
is_full (choice.Free arc) e = absurd (cc (e))
is_full (choice.Diverted arc) e = absurd (cc (e))
is_full choice.Full e = refl
is_full choice.Unknown e = absurd (cc (e))

-- so Full is answered only where no arc has room
pub full_without_room : IsFullWithoutRoom
full_without_room own entry e =
    full_among own entry.region (arcs_of own.service (row_of entry)) (least_of own.service own.plan (row_of entry))
    (is_full (choice_for own entry) e)

-- ---- where a query has no arc

-- what is answered by Unknown has no arc
unknown_among : (own : Held) (region : List ℕ) (arcs least : List Arc)
    → choice_among own region arcs least ≡ choice.Unknown → arcs ≡ []
unknown_among own region [] least e = refl
unknown_among own region (arc ∷ arcs) least e =
    let o = or_else (assigned own region least) (elsewhere own (arc ∷ arcs)) in
    elim (there_or_full o choice.Unknown e) [
      | inl there ↦
          absurd (subst (OnChoice own AnyArc AnyArc) there
          (on_any own AnyArc AnyArc region (arc ∷ arcs) least (λ k d l. tt) (λ k d l. tt)))
      | inr full ↦ absurd (cc (full))
    ]

-- so Unknown is answered just where there is no arc
pub unknown_without_cost : IsUnknownWithoutCost
unknown_without_cost own entry =
    let arcs = arcs_of own.service (row_of entry) in
    let least = least_of own.service own.plan (row_of entry) in (
      (λ e. unknown_among own entry.region arcs least (is_unknown (choice_for own entry) e)),
      (λ none. subst (λ list. answer_of (choice_among own entry.region list least) ≡ Unknown) (sym none) refl),
    )
