-- Rows whose queries are answered by prices, each by what the ones before it left.
use Rattle.std.proofs.Common.{◌≡◌, ◌+◌, ◌∙◌, Bool, ℕ, List, [], ◌∷◌, Option, ap, arith, cond, count_by, map, refl}
use Rattle.std.proofs.lemmas.List.Sums.{sum_by-cons}
use Rattle.hsp_instance.specs.Instance.{Instance}
use Rattle.hsp_log.specs.Entries.{Entry}
use Rattle.hsp_log.specs.Lines.{lines_of}
use Rattle.hsp_log.specs.declared.form.Form.{Form}
use Rattle.hsp_price_dispatch.specs.Choosing.{answer_by, left_by}
use Rattle.hsp_price_dispatch.specs.Holding.{Held}
use Rattle.hsp_price_dispatch.specs.Laws.{answers_to}
use Rattle.hsp_price_dispatch.specs.declared.answer.PriceAnswer.{PriceAnswer}
use Rattle.hsp_price_dispatch.specs.declared.answer.PriceAnswer.TheVariants.{Assigned, Diverted, Full, Unknown}
use Rattle.hsp_price_check.specs.Tally.{capped}
use Rattle.hsp_price_answers.specs.Answering.{AreGiven, InTurn, lines_in}
use Rattle.hsp_price_answers.specs.Asking.{queries_in}
use Rattle.hsp_price_answers.specs.Lines.{line_by, price_line}
use Rattle.hsp_price_answers.specs.PriceAnswers.{ByPrices, PricesHeld, TakesByPrices, price_sums}
use Rattle.hsp_price_answers.specs.Sums.{is_assigned, is_diverted, is_full, is_unknown, no_sums, sums_of, with_answer}
use Rattle.hsp_price_answers.specs.Sums.{with_refused}
use Rattle.hsp_price_answers.specs.declared.sums.PriceSums.{PriceSums}
use Rattle.hsp_price_answers.proofs.Lines.{line_is}

-- sums with more answers
abbrev pub with_answers : PriceSums → List PriceAnswer → PriceSums
with_answers sums all = record {
  assigned = capped (sums.assigned + count_by is_assigned all);
  diverted = capped (sums.diverted + count_by is_diverted all);
  full = capped (sums.full + count_by is_full all);
  unknown = capped (sums.unknown + count_by is_unknown all);
  refused = sums.refused;
}

-- an answer before others counts where it is of the kind
counted_one : (kind : PriceAnswer → Bool) (answer : PriceAnswer) (more : List PriceAnswer)
    → count_by kind (answer ∷ more) ≡ cond (kind answer) 1 0 + count_by kind more
counted_one kind answer more = sum_by-cons (λ (a : PriceAnswer). cond (kind a) 1 0) answer more

-- sums with an answer before others
counted_all : (sums : PriceSums) (answer : PriceAnswer) (more : List PriceAnswer)
    → with_answers sums (answer ∷ more)
    ≡ record {
      assigned = capped (sums.assigned + (cond (is_assigned answer) 1 0 + count_by is_assigned more));
      diverted = capped (sums.diverted + (cond (is_diverted answer) 1 0 + count_by is_diverted more));
      full = capped (sums.full + (cond (is_full answer) 1 0 + count_by is_full more));
      unknown = capped (sums.unknown + (cond (is_unknown answer) 1 0 + count_by is_unknown more));
      refused = sums.refused;
    }
counted_all sums answer more =
    rw (
      counted_one is_assigned answer more,
      counted_one is_diverted answer more,
      counted_one is_full answer more,
      counted_one is_unknown answer more,
    )
    refl

-- counting an answer before others
counted_first : (sums : PriceSums) (answer : PriceAnswer) (more : List PriceAnswer)
    → with_answers (with_answer sums answer) more ≡ with_answers sums (answer ∷ more)
counted_first sums (Assigned arc) more = rw (counted_all sums (Assigned arc) more) (grind arith)
counted_first sums (Diverted arc) more = rw (counted_all sums (Diverted arc) more) (grind arith)
counted_first sums Full more = rw (counted_all sums Full more) (grind arith)
counted_first sums Unknown more = rw (counted_all sums Unknown more) (grind arith)

-- sums that are kept, with one answer more are kept too
kept_more : (sums : PriceSums) (answer : PriceAnswer) → sums ≡ with_answers sums []
    → with_answer sums answer ≡ with_answers (with_answer sums answer) []
kept_more sums (Assigned arc) kept = rw kept (grind arith)
kept_more sums (Diverted arc) kept = rw kept (grind arith)
kept_more sums Full kept = rw kept (grind arith)
kept_more sums Unknown kept = rw kept (grind arith)

-- queries that were taken in turn have the answers by what the front began with
taken_in_turn : (first last : PricesHeld) (entries : List Entry) (given : List (List ℕ))
    → first.sums ≡ with_answers first.sums [] → AreGiven TakesByPrices first entries last given
    → (given ≡ map (line_by first.lines) (answers_to first.own entries))
    × (last.sums ≡ with_answers first.sums (answers_to first.own entries))
taken_in_turn first last [] [] kept same = (refl, ap (λ (held : PricesHeld). held.sums) same ∙ kept)
taken_in_turn first last [] (line ∷ given) kept taken = absurd taken
taken_in_turn first last (entry ∷ entries) [] kept taken = absurd taken
taken_in_turn first last (entry ∷ entries) (line ∷ given) kept (next, takes, taken) =
    let answer = answer_by first.own entry in
    let next_kept : next.sums ≡ with_answers next.sums [] = rw takes.sums (kept_more first.sums answer kept) in
    let more = rw (takes.lines, takes.own) at (taken_in_turn next last entries given next_kept taken) in (
      rw (takes.line_is, more.0) refl,
      more.1 ∙ ap (λ (sums : PriceSums). with_answers sums (answers_to (left_by first.own entry) entries)) takes.sums
          ∙ counted_first first.sums answer (answers_to (left_by first.own entry) entries),
    )

-- all lines by those of servers
lines_are : (it : Instance) (answers : List PriceAnswer)
    → map (line_by (lines_of it)) answers ≡ map (price_line it) answers
lines_are it [] = refl
lines_are it (answer ∷ more) = rw (line_is it answer, lines_are it more) refl

-- the sums of all answers, from none on
sums_first : (all : List PriceAnswer) (refused : ℕ)
    → with_refused (with_answers no_sums all) refused ≡ sums_of all refused
sums_first all refused =
    let assigned : 0 + count_by is_assigned all ≡ count_by is_assigned all = omega arith in
    let diverted : 0 + count_by is_diverted all ≡ count_by is_diverted all = omega arith in
    let full : 0 + count_by is_full all ≡ count_by is_full all = omega arith in
    let unknown : 0 + count_by is_unknown all ≡ count_by is_unknown all = omega arith in
    rw (assigned, diverted, full, unknown) refl

-- rows whose queries are answered in turn are answered by what the front began with
pub turn_is_prices : (it : Instance) (own : Held) (form : Option Form) (sums : PriceSums) (rows lines : List (List ℕ))
    → InTurn TakesByPrices price_sums (record { own = own; lines = lines_of it; sums = no_sums }) form sums rows lines
    → ByPrices it own form sums rows lines
turn_is_prices it own form sums rows lines (last, refused, turn, counted) =
    let first : PricesHeld = record { own = own; lines = lines_of it; sums = no_sums } in
    let answers = answers_to own (queries_in turn.asked) in
    let all = taken_in_turn first last (queries_in turn.asked) turn.given refl turn.taken in
    record {
      asked = turn.asked;
      asks = turn.asks;
      lines_are = turn.lines_are ∙ ap (lines_in turn.asked) (all.0 ∙ lines_are it answers);
      sums_are =
          counted ∙ ap (λ (held : PriceSums). with_refused held refused) all.1 ∙ sums_first answers refused
          ∙ ap (sums_of answers) turn.refused_are;
    }
