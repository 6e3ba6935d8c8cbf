-- The entries at a front, and what fronts assign, counted in the answers to all events.
use Rattle.std.proofs.Common.{◌≡◌, ◌<◌, ◌≤◌, ◌+◌, ◌-◌, ◌∙◌, ◌++◌, ◌==◌, ℕ, List, [], ◌∷◌, map, if◌then◌else◌, arith}
use Rattle.std.proofs.Common.{refl, sym, ap, eq-eqb, inl, inr}
use Rattle.std.specs.Prelude.{nat_lt}
use Rattle.std.proofs.lemmas.Bool.{cases_lt, le-ltb, lt-ltb, ne_eqb}
use Rattle.hsp_instance.specs.Instance.{Instance}
use Rattle.hsp_check.specs.Plan.{Plan}
use Rattle.hsp_transport.specs.Sums.{sum_below}
use Rattle.hsp_transport.proofs.Summing.{sum_below_add, sum_below_one, sum_below_same, sum_below_zero}
use Rattle.hsp_log.specs.Entries.{Entry, each_after, Event, entries_at}
use Rattle.hsp_dispatch.specs.Dispatch.{IsSame, answer_to, answers, answers_after, assigned_in, count_in, is_in, rest}
use Rattle.hsp_dispatch.specs.FrontLaws.{AnswersAsDispatchers}
use Rattle.hsp_dispatch.specs.Fronts.{answers_at, assigned_at, assigned_by_all, count_in_fronts, entries_of}
use Rattle.hsp_dispatch.specs.Fronts.{event_answer, event_answers_after, is_in_fronts, rest_at, share_of, shares_of}
use Rattle.hsp_dispatch.specs.declared.answer.Answer.{Answer}
use Rattle.hsp_dispatch.specs.declared.answer.FrontAnswer.{FrontAnswer}
use Rattle.hsp_dispatch.specs.declared.answer.FrontAnswer.TheVariants.{Answered, NoFront}
use Rattle.hsp_log.proofs.Each.{each_map}
use Rattle.hsp_log.proofs.Entries.{more_here, more_elsewhere}

-- ---- the entries at a front

-- ---- the answers at a front

-- the answer of a front to an entry, by its table and its earlier entries
abbrev pub own_answer : Instance → ℕ → (ℕ → Plan) → ℕ → List Entry → Entry → FrontAnswer
own_answer it fronts tables front earlier entry =
    if nat_lt front fronts then Answered (answer_to it (tables front) earlier entry) else NoFront

-- the answers at a front are those to its own entries
pub at_front : (it : Instance) (fronts : ℕ) (tables : ℕ → Plan) (front : ℕ) (before events : List Event)
    → answers_at front events (event_answers_after it fronts tables before events)
    ≡ each_after (own_answer it fronts tables front) (entries_at front before) (entries_at front events)
unfolding event_answers_after
at_front it fronts tables front before [] = refl
at_front it fronts tables front before (event ∷ events) =
    let later = at_front it fronts tables front (before ++ event ∷ []) events in
    grind (arith, later, more_here front before event, more_elsewhere front before event)

-- each front answers as a dispatcher of its share
pub as_dispatchers : AnswersAsDispatchers
unfolding answers_after
as_dispatchers it fronts x front events inside =
    at_front it fronts (shares_of fronts x) front [] events
    ∙ each_map Answered (answer_to it (share_of fronts front x)) (own_answer it fronts (shares_of fronts x) front)
    (λ earlier entry. rw (lt-ltb front fronts inside) refl) [] (entries_at front events)

-- ---- how many are assigned at a front

-- what a dispatcher assigns is counted in the same way
count_answered : (it : Instance) (row site : ℕ) (entries : List Entry) (given : List Answer)
    → count_in_fronts it row site entries (map Answered given) ≡ count_in it row site entries given
count_answered it row site [] given = refl
count_answered it row site (entry ∷ entries) [] = refl
count_answered it row site (entry ∷ entries) (answer ∷ given) =
    ap (λ (n : ℕ). (if is_in it row site entry answer then 1 else 0) + n) (count_answered it row site entries given)

-- as many as of a dispatcher that has its share
pub assigned_at_is : (it : Instance) (fronts : ℕ) (x : Plan) (front : ℕ) (events : List Event) (row site : ℕ)
    → front < fronts
    → assigned_at it fronts x front events row site
    ≡ assigned_in it (share_of fronts front x) (entries_at front events) row site
assigned_at_is it fronts x front events row site inside =
    ap (λ (given : List FrontAnswer). count_in_fronts it row site (entries_at front events) given)
    (as_dispatchers it fronts x front events inside)
    ∙ count_answered it row site (entries_at front events)
    (answers it (share_of fronts front x) (entries_at front events))

-- and the same is left
pub rest_at_is : (it : Instance) (fronts : ℕ) (x : Plan) (front : ℕ) (events : List Event) → front < fronts
    → IsSame (rest_at it fronts x front events) (rest it (share_of fronts front x) (entries_at front events))
rest_at_is it fronts x front events inside row site =
    ap (λ (n : ℕ). share_of fronts front x row site - n) (assigned_at_is it fronts x front events row site inside)

-- ---- how many are assigned at all fronts

-- a number that counts for one front, and for none where there is no such front
once : (fronts front n : ℕ) → (fronts ≤ front → n ≡ 0) → sum_below fronts (λ own. if front == own then n else 0) ≡ n
once fronts front n none = elim (cases_lt front fronts) [
  | inl inside ↦
      sum_below_one fronts (λ own. if front == own then n else 0) front inside
      (λ k l other. rw (ne_eqb front k (λ same. other (sym same))) refl)
      ∙ rw (eq-eqb front front refl) refl
  | inr past ↦
      sum_below_zero fronts (λ own. if front == own then n else 0)
      (λ k l. rw (ne_eqb front k (λ same. omega (arith, same, l, past))) refl)
      ∙ sym (none past)
]

module _ (it : Instance) (fronts : ℕ) (tables : ℕ → Plan) (row site : ℕ) where
  abbrev hit : Entry → FrontAnswer → ℕ
  hit entry answer = if is_in_fronts it row site entry answer then 1 else 0

  abbrev own_count : ℕ → List Event → List FrontAnswer → ℕ
  own_count front events given = count_in_fronts it row site (entries_at front events) (answers_at front events given)

  -- an event more adds what its front was given for it
  own_more : (front : ℕ) (event : Event) (events : List Event) (answer : FrontAnswer) (given : List FrontAnswer)
      → own_count front (event ∷ events) (answer ∷ given) ≡ (if event.front == front then hit event.entry answer else 0)
      + own_count front events given
  own_more front event events answer given = grind arith

  -- an event at no front is assigned nowhere
  no_hit : (earlier : List Event) (event : Event) → fronts ≤ event.front
      → hit event.entry (event_answer it fronts tables earlier event) ≡ 0
  no_hit earlier event past = rw (le-ltb event.front fronts past) refl

  -- the events that are assigned are those that are at each front
  pub all_together : (before events : List Event)
      → count_in_fronts it row site (entries_of events) (event_answers_after it fronts tables before events)
      ≡ sum_below fronts (λ front. own_count front events (event_answers_after it fronts tables before events))
  unfolding event_answers_after
  all_together before [] = sym (sum_below_zero fronts (λ front. 0) (λ k l. refl))
  all_together before (event ∷ events) =
      let answer = event_answer it fronts tables before event in
      let later = event_answers_after it fronts tables (before ++ event ∷ []) events in
      let n = hit event.entry answer in
      ap (λ (k : ℕ). n + k) (all_together (before ++ event ∷ []) events)
      ∙ ap (λ (k : ℕ). k + sum_below fronts (λ front. own_count front events later))
      (sym (once fronts event.front n (no_hit before event)))
      ∙ sym
      (sum_below_add fronts (λ front. if event.front == front then n else 0)
      (λ front. own_count front events later))
      ∙ sym (sum_below_same fronts (λ front. own_count front (event ∷ events) (answer ∷ later))
      (λ front. (if event.front == front then n else 0) + own_count front events later)
      (λ front l. own_more front event events answer later))

-- all fronts assign what their own answers come to
pub assigned_together : (it : Instance) (fronts : ℕ) (x : Plan) (events : List Event) (row site : ℕ)
    → assigned_by_all it fronts x events row site
    ≡ sum_below fronts (λ front. assigned_at it fronts x front events row site)
assigned_together it fronts x events row site = all_together it fronts (shares_of fronts x) row site [] events
