-- What holds of fronts.
use Rattle.std.proofs.Common.{◌≡◌, ◌<◌, ◌≤◌, ◌-◌, ◌∙◌, ◌++◌, ℕ, List, [], ◌∷◌, length, take, drop, if◌then◌else◌, arith}
use Rattle.std.proofs.Common.{refl, sym, ap, ap₂, eq-eqb, subst, inl, inr}
use Rattle.std.specs.Prelude.{nat_lt}
use Rattle.std.proofs.lemmas.Bool.{cases_eq, cases_lt, le-ltb, lt-ltb, ne_eqb}
use Rattle.hsp_instance.specs.Instance.{Instance}
use Rattle.hsp_check.specs.Plan.{Plan}
use Rattle.hsp_transport.specs.Sums.{sum_below}
use Rattle.hsp_transport.proofs.Summing.{sum_below_le, sum_below_same}
use Rattle.hsp_log.specs.Entries.{Entry, each_after, Event, entries_at}
use Rattle.hsp_dispatch.specs.Dispatch.{IsSame, answer_to, assigned_in, rest}
use Rattle.hsp_dispatch.specs.FrontLaws.{AnswersByShares, AreFrontsAfter, BeginsWithShares, EndsInTheSame}
use Rattle.hsp_dispatch.specs.FrontLaws.{GoesByItsEntries, IsSpentTogether, NeverExceedsTogether, WasSpentAt}
use Rattle.hsp_dispatch.specs.Fronts.{IsTakenAt, Tables, answer_among, answers_at, assigned_at, count_in_fronts}
use Rattle.hsp_dispatch.specs.Fronts.{event_answer, event_answers_after, front_answers, fronts_of, left_at_front}
use Rattle.hsp_dispatch.specs.Fronts.{share_of, shares_of}
use Rattle.hsp_log.specs.FrontShares.{share}
use Rattle.hsp_dispatch.specs.declared.answer.Answer.{Answer}
use Rattle.hsp_dispatch.specs.declared.answer.Answer.TheVariants.{Spent}
use Rattle.hsp_dispatch.specs.declared.answer.FrontAnswer.{FrontAnswer}
use Rattle.hsp_dispatch.specs.declared.answer.FrontAnswer.TheVariants.{Answered, NoFront}
use Rattle.hsp_dispatch.proofs.Dispatching.{is_spent_after_all, never_exceeds}
use Rattle.hsp_dispatch.proofs.FrontCounts.{assigned_at_is, assigned_together, at_front, own_answer, rest_at_is}
use Rattle.hsp_log.proofs.Entries.{entries_append, more_elsewhere, more_here}
use Rattle.hsp_log.proofs.FrontShares.{shares_add_up}
use Rattle.hsp_dispatch.proofs.Resting.{answer_after, assigned_is, rest_more, rest_none, times_parts}
use Rattle.hsp_dispatch.proofs.Spreads.{times, times_append}

-- ---- fronts that answer one event after the other

-- at first each front has its share of the plan
pub begins : BeginsWithShares
begins it x fronts tables are = record {
  instance = are.instance;
  many = are.many;
  each = λ front inside row site. are.each front inside row site ∙ rest_none it (share_of fronts front x) row site;
}

-- fronts that hold what events leave of their tables answer the next event by those tables
pub answered_by : (it : Instance) (fronts : ℕ) (tables : ℕ → Plan) (events : List Event) (event : Event) (old : Tables)
    → old.instance ≡ it → fronts_of old ≡ fronts
    → ((front : ℕ) → front < fronts
    → IsSame (left_at_front old front) (rest it (tables front) (entries_at front events)))
    → answer_among old event.front event.entry ≡ event_answer it fronts tables events event
answered_by it fronts tables events event old same many left = elim (cases_lt event.front fronts) [
  | inl inside ↦
      let by_table : answer_to old.instance (left_at_front old event.front) [] event.entry
      ≡ answer_to it (tables event.front) (entries_at event.front events) event.entry =
      ap (λ (i : Instance). answer_to i (left_at_front old event.front) [] event.entry) same
      ∙ answer_after it (tables event.front) (left_at_front old event.front) (entries_at event.front events) event.entry
      (left event.front inside) in
      rw (many, lt-ltb event.front fronts inside) (ap Answered by_table)
  | inr past ↦ rw (many, le-ltb event.front fronts past) refl
]

-- and hold then what one event more leaves
pub left_on : (it : Instance) (fronts : ℕ) (tables : ℕ → Plan) (events : List Event) (event : Event) (old new : Tables)
    → old.instance ≡ it → fronts_of old ≡ fronts
    → ((front : ℕ) → front < fronts
    → IsSame (left_at_front old front) (rest it (tables front) (entries_at front events)))
    → IsTakenAt event.front event.entry old new
    → (front : ℕ) → front < fronts
    → IsSame (left_at_front new front) (rest it (tables front) (entries_at front (events ++ event ∷ [])))
left_on it fronts tables events event old new same many left taken front inside = elim (cases_eq event.front front) [
  | inl here ↦
      let own = rw here at taken.own in
      let next : IsSame (left_at_front new front) (rest it (left_at_front old front) (event.entry ∷ [])) =
      λ row site. own (omega (arith, many, inside)) row site
      ∙ ap (λ (i : Instance). rest i (left_at_front old front) (event.entry ∷ []) row site) same in
      λ row site.
      rest_more it (tables front) (left_at_front old front) (left_at_front new front) (entries_at front events)
      event.entry (left front inside) next row site
      ∙ ap (λ (entries : List Entry). rest it (tables front) entries row site) (sym (more_here front events event here))
  | inr other ↦
      λ row site.
      taken.others front (λ is. other (sym is)) row site ∙ left front inside row site
      ∙ ap (λ (entries : List Entry). rest it (tables front) entries row site)
      (sym (more_elsewhere front events event other))
]

-- what fronts hold, by their own entries
pub hold_rests : (it : Instance) (x : Plan) (fronts : ℕ) (events : List Event) (tables : Tables)
    → AreFrontsAfter it x fronts events tables
    → (front : ℕ) → front < fronts
    → IsSame (left_at_front tables front) (rest it (share_of fronts front x) (entries_at front events))
hold_rests it x fronts events tables are front inside row site =
    are.each front inside row site ∙ rest_at_is it fronts x front events inside row site

-- what each front has left is what its entries left of its share
pub are_after : (it : Instance) (x : Plan) (fronts : ℕ) (events : List Event) (tables : Tables) → tables.instance ≡ it
    → fronts_of tables ≡ fronts
    → ((front : ℕ) → front < fronts
    → IsSame (left_at_front tables front) (rest it (share_of fronts front x) (entries_at front events)))
    → AreFrontsAfter it x fronts events tables
are_after it x fronts events tables instance many left = record {
  instance = instance;
  many = many;
  each =
      λ front inside row site. left front inside row site ∙ sym (rest_at_is it fronts x front events inside row site);
}

-- fronts answer by what is left of their shares
pub answers_by_shares : AnswersByShares
answers_by_shares it x fronts events event old new are taken =
    let left = hold_rests it x fronts events old are in (
      answered_by it fronts (shares_of fronts x) events event old are.instance are.many left,
      are_after it x fronts (events ++ event ∷ []) new (taken.instance ∙ are.instance) (taken.many ∙ are.many)
          (left_on it fronts (shares_of fronts x) events event old new are.instance are.many left taken),
    )

-- ---- each front apart

-- a front's answers depend on no other front
pub by_its_entries : GoesByItsEntries
by_its_entries it fronts x front a b same =
    let given : answers_at front a (front_answers it fronts x a) ≡ answers_at front b (front_answers it fronts x b) =
    at_front it fronts (shares_of fronts x) front [] a
    ∙ ap (λ (entries : List Entry). each_after (own_answer it fronts (shares_of fronts x) front) [] entries) same
    ∙ sym (at_front it fronts (shares_of fronts x) front [] b) in (
      given,
      λ row site.
          ap₂
          (λ (entries : List Entry) (answers : List FrontAnswer). share_of fronts front x row site - count_in_fronts
          it row site entries answers) same given,
    )

-- fronts end with the same whatever the order of events at different fronts
pub in_the_same : EndsInTheSame
in_the_same it fronts x a b same front = (by_its_entries it fronts x front a b (same front)).1

-- ---- all fronts together

-- no front has more than its share assigned
most_at : (it : Instance) (fronts : ℕ) (x : Plan) (events : List Event) (row site front : ℕ) → front < fronts
    → assigned_at it fronts x front events row site ≤ share fronts front (x row site)
most_at it fronts x events row site front inside =
    subst (λ (n : ℕ). n ≤ share fronts front (x row site))
    (sym (assigned_at_is it fronts x front events row site inside))
    (never_exceeds it (share_of fronts front x) (entries_at front events) row site)

-- together, fronts assign no more than the plan gives
pub never_exceeds_together : NeverExceedsTogether
never_exceeds_together it fronts x events row site some =
    let each : sum_below fronts (λ front. assigned_at it fronts x front events row site)
    ≤ sum_below fronts (λ front. share fronts front (x row site)) =
    sum_below_le fronts (λ front. assigned_at it fronts x front events row site)
    (λ front. share fronts front (x row site))
    (λ front inside. most_at it fronts x events row site front inside) in
    omega (arith, assigned_together it fronts x events row site, each, shares_add_up fronts (x row site) some)

-- more entries have no less assigned
grows : (it : Instance) (x : Plan) (a b : List Entry) (row site : ℕ)
    → assigned_in it x a row site ≤ assigned_in it x (a ++ b) row site
grows it x a b row site =
    omega (arith, assigned_is it x a row site, assigned_is it x (a ++ b) row site, times_parts it x a b row site)

-- two answers that are the same say the same
inner : (a b : Answer) → Answered a ≡ Answered b → a ≡ b
inner a b e = cc e

-- a front that has answered by Spent has assigned its share
spent_at : (it : Instance) (fronts : ℕ) (x : Plan) (events : List Event) (row site front : ℕ) → front < fronts
    → WasSpentAt it fronts x row front events → site < length it.sites
    → assigned_at it fronts x front events row site ≡ share fronts front (x row site)
spent_at it fronts x events row site front there was inside =
    let at_own : own_answer it fronts (shares_of fronts x) front (entries_at front was.earlier) was.event.entry
    ≡ Answered Spent =
    sym (ap (λ (n : ℕ). own_answer it fronts (shares_of fronts x) n (entries_at n was.earlier) was.event.entry) was.at)
    ∙ was.spent in
    let spent : answer_to it (share_of fronts front x) (entries_at front was.earlier) was.event.entry ≡ Spent =
    inner _ _ (rw (lt-ltb front fronts there) at at_own) in
    let all : assigned_in it (share_of fronts front x) (entries_at front was.earlier) row site
    ≡ share fronts front (x row site) =
    is_spent_after_all it (share_of fronts front x) (entries_at front was.earlier) was.event.entry row site was.of_row
    spent inside in
    let entries : entries_at front events ≡ entries_at front was.earlier ++ entries_at front (was.event ∷ was.later) =
    ap (λ (es : List Event). entries_at front es) was.parts
    ∙ entries_append front was.earlier (was.event ∷ was.later) in
    let same : assigned_at it fronts x front events row site
    ≡ assigned_in it (share_of fronts front x)
    (entries_at front was.earlier ++ entries_at front (was.event ∷ was.later)) row site =
    assigned_at_is it fronts x front events row site there
    ∙ ap (λ (es : List Entry). assigned_in it (share_of fronts front x) es row site) entries in
    let least =
    grows it (share_of fronts front x) (entries_at front was.earlier) (entries_at front (was.event ∷ was.later)) row
    site in
    let most = most_at it fronts x events row site front there in
    omega (arith, all, same, least, most)

-- together, fronts assign all that the plan gives
pub is_spent_together : IsSpentTogether
is_spent_together it fronts x events row site some was inside =
    assigned_together it fronts x events row site
    ∙ sum_below_same fronts (λ front. assigned_at it fronts x front events row site)
    (λ front. share fronts front (x row site))
    (λ front l. spent_at it fronts x events row site front l (was front l) inside)
    ∙ shares_add_up fronts (x row site) some
