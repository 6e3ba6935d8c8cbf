-- What one answer more adds to what a desk has answered.
use Rattle.std.proofs.Common.{◌≡◌, ◌≢◌, ◌++◌, ◌∙◌, ℕ, List, [], ◌∷◌, length, Option, Some, None, option_map, Result, Ok}
use Rattle.std.proofs.Common.{Err, IfOk, arith, refl, sym, ap}
use Rattle.std.specs.List.{slice_get}
use Rattle.std.proofs.lemmas.List.{map_push}
use Rattle.std.proofs.lemmas.Option.{slice_get-map}
use Rattle.hsp_text.proofs.Lists.{zip_push}
use Rattle.hsp_csv.specs.Records.{Fields}
use Rattle.hsp_instance.specs.Instance.{Instance, Server}
use Rattle.hsp_check.specs.Plan.{Plan}
use Rattle.hsp_dispatch.specs.Desks.{AnswersEntries, AnswersEvents, answers_by}
use Rattle.hsp_log.specs.Entries.{Entry, Event}
use Rattle.hsp_dispatch.specs.Dispatch.{IsSame, all_of, answer_to, answers, answers_after, rest, sums_of}
use Rattle.hsp_dispatch.specs.Fronts.{Tables, event_answer, event_answers_after, front_sums_of, fronts_of}
use Rattle.hsp_dispatch.specs.Fronts.{left_at_front}
use Rattle.hsp_dispatch.specs.Lines.{IsAmong, answer_of, counted, front_line, line_by, line_of, served_by}
use Rattle.hsp_log.specs.Lines.{lines_of, or_none, server_line}
use Rattle.hsp_log.specs.Log.{IsEntryIn, IsEventIn}
use Rattle.hsp_dispatch.specs.Shares.{Held, left_of}
use Rattle.hsp_dispatch.specs.Steps.{BeginsWithNone, GoesOn, Takes, TakesAt}
use Rattle.hsp_dispatch.specs.declared.answer.Answer.{Answer}
use Rattle.hsp_dispatch.specs.declared.answer.FrontAnswer.{FrontAnswer}
use Rattle.hsp_dispatch.specs.declared.answer.FrontAnswer.TheVariants.{Answered}
use Rattle.hsp_dispatch.specs.declared.answer.FrontSums.{FrontSums}
use Rattle.hsp_dispatch.specs.declared.answer.Given.{Given}
use Rattle.hsp_dispatch.specs.declared.answer.Given.TheVariants as given
use Rattle.hsp_log.specs.declared.form.Form.{Form}
use Rattle.hsp_dispatch.proofs.Counting.{counted_answer, counted_more}
use Rattle.hsp_log.proofs.Each.{each_parts}
use Rattle.hsp_dispatch.proofs.Lists.{none_from}
use Rattle.hsp_dispatch.proofs.FrontLaws.{answered_by, left_on}
use Rattle.hsp_dispatch.proofs.Resting.{answer_after, answers_more, rest_more, rest_none}

-- ---- lines

-- the line of a server that is there states it
at_number : (it : Instance) (server : Option Server) → server ≢ None
    → or_none (option_map (server_line it) server) ≡ line_of it (served_by server)
at_number it None there = absurd (there refl)
at_number it (Some server) there = refl

-- the line that is written states the answer
line_is : (it : Instance) (how : Given) → IsAmong (length it.servers) how
    → line_by (lines_of it) how ≡ front_line it (answer_of it how)
line_is it (given.Server number) among =
    ap or_none (slice_get-map (server_line it) it.servers number)
    ∙ at_number it (slice_get it.servers number)
    (λ none. absurd (omega (arith, none_from it.servers number none, among)))
line_is it given.Spent among = refl
line_is it given.Unknown among = refl
line_is it given.NoFront among = refl

-- ---- a dispatcher

-- a desk of a dispatcher begins with no entries
pub no_entries : (it : Instance) (x : Plan) → BeginsWithNone (AnswersEntries it x x)
unfolding answers_after
no_entries it x form = ([], tt, refl, refl, rest_none it x)

-- an entry more, where the earlier ones were answered by the plan `x`, of which `middle` was left
entry_on : (it : Instance) (x middle left : Plan) (form : Form) (rows : List Fields) (lines : List (List ℕ))
    (sums : FrontSums) (row : Fields) (entry : Entry) (how : Given)
    → IsEntryIn form row entry → answer_of it how ≡ Answered (answer_to it middle [] entry)
    → IsSame left (rest it middle (entry ∷ []))
    → IsAmong (length it.servers) how → AnswersEntries it x middle form rows lines sums
    → AnswersEntries it x left form (rows ++ row ∷ []) (lines ++ line_by (lines_of it) how ∷ []) (counted sums how)
entry_on it x middle left form rows lines sums row entry how is answer takes among so_far =
    let entries = so_far.0 in
    let own : answer_to it middle [] entry ≡ answer_to it x entries entry =
    answer_after it x middle entries entry so_far.4 in
    let given : answer_of it how ≡ Answered (answer_to it x entries entry) = answer ∙ ap Answered own in
    let all : answers it x (entries ++ entry ∷ []) ≡ answers it x entries ++ answer_to it x entries entry ∷ [] =
    answers_more it x [] entries entry in
    let line : line_by (lines_of it) how ≡ line_of it (answer_to it x entries entry) = line_is it how among
    ∙ ap (front_line it) given in (
      entries ++ entry ∷ [],
      zip_push (IsEntryIn form) rows entries row entry so_far.1 is,
      rw (so_far.2, line, all) (sym (map_push (line_of it) (answers it x entries) (answer_to it x entries entry))),
      counted_answer it how (answers it x entries) (answer_to it x entries entry) sums among so_far.3 given
          ∙ ap (λ (given : List Answer). all_of (sums_of given)) (sym all),
      rest_more it x middle left entries entry so_far.4 takes,
    )

-- one entry more is answered by what is left then
pub entry_more : (old new : Held) (form : Form) (row : Fields) (entry : Entry) (how : Given) → IsEntryIn form row entry
    → Takes old entry new how
    → IsAmong (length old.instance.servers) how
    → GoesOn (λ held. held.instance) (λ a b. AnswersEntries a.instance (left_of a) (left_of b)) old new form row
    (line_by (lines_of old.instance) how) how
entry_more old new form row entry how is takes among start rows lines sums same so_far =
    rw same (entry_on start.instance (left_of start) (left_of old) (left_of new) form rows lines sums row entry how is
    (rw same at takes.answer) (rw same at takes.left) (rw same at among) so_far)

-- ---- fronts

-- a desk of fronts begins with no events
pub no_events : (tables : Tables) → BeginsWithNone (AnswersEvents tables tables)
unfolding event_answers_after
no_events tables form = (
  [],
  tt,
  refl,
  refl,
  record {
    instance = refl;
    many = refl;
    each = λ front inside. rest_none tables.instance (left_at_front tables front);
  },
)

-- one event more has one answer more
answers_on : (it : Instance) (fronts : ℕ) (tables : ℕ → Plan) (before events : List Event) (event : Event)
    → event_answers_after it fronts tables before (events ++ event ∷ [])
    ≡ event_answers_after it fronts tables before events ++ event_answer it fronts tables (before ++ events) event
    ∷ []
unfolding event_answers_after
answers_on it fronts tables before events event = each_parts (event_answer it fronts tables) before events (event ∷ [])

-- one event more is answered by what its front has left then
pub event_more : (old new : Tables) (form : Form) (row : Fields) (event : Event) (how : Given) → IsEventIn row event
    → TakesAt event.front old event.entry new how
    → IsAmong (length old.instance.servers) how
    → GoesOn (λ held. held.instance) AnswersEvents old new form row (line_by (lines_of old.instance) how) how
event_more old new form row event how is takes among start rows lines sums same so_far =
    let events = so_far.0 in
    let left = so_far.4 in
    let it = start.instance in
    let fronts = fronts_of start in
    let tables = left_at_front start in
    let given : answer_of it how ≡ event_answer it fronts tables events event =
    ap (λ (i : Instance). answer_of i how) (sym same) ∙ takes.answer
    ∙ answered_by it fronts tables events event old same left.many left.each in
    let all : answers_by start (events ++ event ∷ []) ≡ answers_by start events
    ++ event_answer it fronts tables events event ∷ [] = answers_on it fronts tables [] events event in
    let line : line_by (lines_of old.instance) how ≡ front_line it (event_answer it fronts tables events event) =
    line_is old.instance how among ∙ ap (λ (i : Instance). front_line i (answer_of i how)) same
    ∙ ap (front_line it) given in (
      events ++ event ∷ [],
      zip_push IsEventIn rows events row event so_far.1 is,
      rw (so_far.2, line, all)
          (sym (map_push (front_line it) (answers_by start events) (event_answer it fronts tables events event))),
      counted_more it how (answers_by start events) sums (rw same at among) so_far.3
          ∙ ap (λ (last : FrontAnswer). front_sums_of (answers_by start events ++ last ∷ [])) given
          ∙ ap front_sums_of (sym all),
      record {
        instance = takes.left.instance ∙ same;
        many = takes.left.many ∙ left.many;
        each = left_on it fronts tables events event old new same left.many left.each takes.left;
      },
    )

-- ---- results

-- what two promises of a result show together
pub if_both : {A E : Type 0} {P Q R : A → Type 0} (result : Result A E) → IfOk result P → IfOk result Q
    → ((a : A) → P a → Q a → R a) → IfOk result R
if_both (Ok a) p q both = both a p q
if_both (Err e) p q both = tt
