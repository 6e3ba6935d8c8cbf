-- Answers over several calls are those to one list of all that was asked.
use Rattle.std.proofs.Common.{◌≡◌, ◌<◌, ◌∙◌, ◌++◌, ℕ, List, [], ◌∷◌, refl, sym, ap, ap₂, inl, inr}
use Rattle.std.proofs.lemmas.Bool.{cases_lt, le-ltb, lt-ltb}
use Rattle.std.proofs.lemmas.List.{append-nil, append_assoc}
use Rattle.hsp_instance.specs.Instance.{Instance}
use Rattle.hsp_check.specs.Plan.{Plan}
use Rattle.hsp_dispatch.specs.Desks.{answers_by}
use Rattle.hsp_log.specs.Entries.{Entry, Event, entries_at}
use Rattle.hsp_dispatch.specs.Dispatch.{IsSame, answer_to, answers, answers_after, rest}
use Rattle.hsp_dispatch.specs.FrontLaws.{FrontsGoOn}
use Rattle.hsp_dispatch.specs.Fronts.{event_answer, event_answers, event_answers_after, front_answers, fronts_of}
use Rattle.hsp_dispatch.specs.Fronts.{left_at_front, share_of, shares_of}
use Rattle.hsp_dispatch.specs.Laws.{DispatcherGoesOn}
use Rattle.hsp_dispatch.specs.declared.answer.Answer.{Answer}
use Rattle.hsp_dispatch.specs.declared.answer.FrontAnswer.{FrontAnswer}
use Rattle.hsp_dispatch.specs.declared.answer.FrontAnswer.TheVariants.{Answered}
use Rattle.hsp_log.proofs.Each.{each_goes_on, each_same}
use Rattle.hsp_log.proofs.Entries.{entries_append}
use Rattle.hsp_dispatch.proofs.FrontLaws.{are_after, hold_rests}
use Rattle.hsp_dispatch.proofs.Resting.{answer_parts, answer_same, rest_parts, rest_same}

-- ---- a dispatcher

-- plans that send alike answer alike
pub same_answers : (it : Instance) (x y : Plan) (earlier entries : List Entry) → IsSame x y
    → answers_after it x earlier entries ≡ answers_after it y earlier entries
unfolding answers_after
same_answers it x y earlier entries same =
    each_same (answer_to it x) (answer_to it y) [] (λ before entry. answer_same it x y before entry same) earlier
    entries

-- a dispatcher answers over several calls as in one
pub dispatcher_goes_on : DispatcherGoesOn
unfolding answers_after
dispatcher_goes_on it x old new entries more held left = (
  each_goes_on (answer_to it x) (answer_to it old) entries
      (λ earlier entry.
      sym (answer_same it old (rest it x entries) earlier entry held ∙ answer_parts it x entries earlier entry))
      more,
  λ row site. left row site ∙ rest_same it old (rest it x entries) more held row site
      ∙ rest_parts it x entries more row site,
)

-- ---- fronts

-- what each front holds is what events leave of its table
module _ (it : Instance) (fronts : ℕ) (tables held : ℕ → Plan) (events : List Event)
    (left : (front : ℕ) → front < fronts → IsSame (held front) (rest it (tables front) (entries_at front events))) where
  -- an event is answered by what the earlier ones left
  later_event : (earlier : List Event) (event : Event)
      → event_answer it fronts tables (events ++ earlier) event ≡ event_answer it fronts held earlier event
  later_event earlier event = elim (cases_lt event.front fronts) [
    | inl inside ↦
        let before = entries_at event.front events in
        let since = entries_at event.front earlier in
        rw (lt-ltb event.front fronts inside)
        (ap Answered
        (ap (λ (entries : List Entry). answer_to it (tables event.front) entries event.entry)
        (entries_append event.front events earlier)
        ∙ sym (answer_parts it (tables event.front) before since event.entry)
        ∙ sym
        (answer_same it (held event.front) (rest it (tables event.front) before) since event.entry
        (left event.front inside))))
    | inr past ↦ rw (le-ltb event.front fronts past) refl
  ]

  -- events after those are answered as they stand in one list
  in_one_list : (more : List Event)
      → event_answers it fronts tables (events ++ more) ≡ event_answers it fronts tables events
      ++ event_answers it fronts held more
  unfolding event_answers_after
  in_one_list more = each_goes_on (event_answer it fronts tables) (event_answer it fronts held) events later_event more

-- fronts answer over several calls as in one
pub fronts_go_on : FrontsGoOn
fronts_go_on it x fronts events more old new are left =
    let held = hold_rests it x fronts events old are in
    let given : answers_by old more ≡ event_answers it fronts (left_at_front old) more =
    ap₂ (λ (i : Instance) (many : ℕ). event_answers i many (left_at_front old) more) are.instance are.many in (
      in_one_list it fronts (shares_of fronts x) (left_at_front old) events held more
          ∙ ap (λ (others : List FrontAnswer). front_answers it fronts x events ++ others) (sym given),
      are_after it x fronts (events ++ more) new (left.instance ∙ are.instance) (left.many ∙ are.many)
          (λ front inside row site.
          let own = share_of fronts front x in
          let inside_old : front < fronts_of old = rw are.many inside in
          left.each front inside_old row site
          ∙ ap (λ (i : Instance). rest i (left_at_front old front) (entries_at front more) row site) are.instance
          ∙ rest_same it (left_at_front old front) (rest it own (entries_at front events)) (entries_at front more)
          (held front inside) row site
          ∙ rest_parts it own (entries_at front events) (entries_at front more) row site
          ∙ ap (λ (entries : List Entry). rest it own entries row site) (sym (entries_append front events more))),
    )
