-- Rows that are answered in turn.
use Rattle.std.proofs.Common.{◌≡◌, ◌+◌, ◌∙◌, ℕ, List, [], ◌∷◌, ap, cond, count_by, Option, None, arith, refl, subst}
use Rattle.std.proofs.Common.{sym}
use Rattle.std.proofs.lemmas.List.Sums.{sum_by-cons}
use Rattle.hsp_log.specs.declared.form.Form.{Form}
use Rattle.hsp_price_check.specs.Tally.{capped}
use Rattle.hsp_talk.specs.Talk.{AreTaken}
use Rattle.hsp_price_answers.specs.Answering.{Answering, AreGiven, AreInTurn, GivesLine, TakesQuery, TakesRow, lines_in}
use Rattle.hsp_price_answers.specs.Asking.{AreAsked, Asked, AsksAt, is_refused, queries_in}
use Rattle.hsp_price_answers.specs.Asking.Asked.{bad, nothing, query}

-- nothing and more
from_none : (n : ℕ) → 0 + n ≡ n
from_none n = omega arith

-- a sum is capped once or twice alike
capped_more : (n more : ℕ) → capped (capped (n + 1) + more) ≡ capped (n + (1 + more))
capped_more n more = grind arith

module _ {D : Type 0} (Takes : TakesQuery D) where
  -- rows were answered since a responder was `first`
  pub record HasAnswered (first last : Answering D) (rows lines : List (List ℕ)) : Type 0 where
    pub asked : List Asked
    pub given : List (List ℕ)
    pub asks : AreAsked first.form rows asked last.form
    pub taken : AreGiven Takes first.dispatcher (queries_in asked) last.dispatcher given
    pub lines_are : lines ≡ lines_in asked given
    pub refused_are : last.refused ≡ capped (first.refused + count_by is_refused asked)

  -- a row in front of others
  row_first : (first next last : Answering D) (row line : List ℕ) (rows lines : List (List ℕ)) (asked : Asked)
      → AsksAt first.form row asked next.form
      → GivesLine Takes first.dispatcher first.refused asked next.dispatcher next.refused line
      → HasAnswered next last rows lines → HasAnswered first last (row ∷ rows) (line ∷ lines)
  row_first first next last row line rows lines nothing asks (same, count, none) more = record {
    asked = nothing ∷ more.asked;
    given = more.given;
    asks = (next.form, asks, more.asks);
    taken = rw (← same) more.taken;
    lines_are = rw (none, more.lines_are) refl;
    refused_are = rw (← count) more.refused_are;
  }
  row_first first next last row line rows lines (query entry) asks (takes, count) more = record {
    asked = query entry ∷ more.asked;
    given = line ∷ more.given;
    asks = (next.form, asks, more.asks);
    taken = (next.dispatcher, takes, more.taken);
    lines_are = rw more.lines_are refl;
    refused_are = rw (← count) more.refused_are;
  }
  row_first first next last row line rows lines (bad refusal) asks (same, count, is) more = record {
    asked = bad refusal ∷ more.asked;
    given = more.given;
    asks = (next.form, asks, more.asks);
    taken = rw (← same) more.taken;
    lines_are = rw (is, more.lines_are) refl;
    refused_are =
        more.refused_are ∙ ap (λ (n : ℕ). capped (n + count_by is_refused more.asked)) count
        ∙ capped_more first.refused (count_by is_refused more.asked)
        ∙ ap (λ (n : ℕ). capped (first.refused + n))
        (sym (sum_by-cons (λ (a : Asked). cond (is_refused a) 1 0) (bad refusal) more.asked));
  }

  -- rows that were taken were answered
  pub answers_all : (first last : Answering D) (rows lines : List (List ℕ)) → first.refused ≡ capped first.refused
      → AreTaken (TakesRow Takes) first rows last lines → HasAnswered first last rows lines
  answers_all first last [] [] few same = record {
    asked = [];
    given = [];
    asks = ap (λ (a : Answering D). a.form) same;
    taken = ap (λ (a : Answering D). a.dispatcher) same;
    lines_are = refl;
    refused_are = rw same (few ∙ grind arith);
  }
  answers_all first last [] (line ∷ lines) few taken = absurd taken
  answers_all first last (row ∷ rows) [] few taken = absurd taken
  answers_all first last (row ∷ rows) (line ∷ lines) few (next, takes, taken) =
      row_first first next last row line rows lines takes.asked takes.asks takes.gives
      (answers_all next last rows lines (still takes.asked takes.gives) taken)
    where
      still : (asked : Asked)
          → GivesLine Takes first.dispatcher first.refused asked next.dispatcher next.refused line
          → next.refused ≡ capped next.refused
      still nothing (same, count, none) = rw count few
      still (query entry) (takes, count) = rw count few
      still (bad refusal) (same, count, is) = rw count (grind arith)

  -- so they were, from the beginning
  pub all_in_turn : (first last : Answering D) (rows lines : List (List ℕ)) → first.form ≡ None → first.refused ≡ 0
      → AreTaken (TakesRow Takes) first rows last lines
      → AreInTurn Takes first.dispatcher last.dispatcher last.form last.refused rows lines
  all_in_turn first last rows lines form none taken =
      let few : first.refused ≡ capped first.refused = rw none (grind arith) in
      let all = answers_all first last rows lines few taken in
      record {
        asked = all.asked;
        given = all.given;
        asks = subst (λ (f : Option Form). AreAsked f rows all.asked last.form) form all.asks;
        taken = all.taken;
        lines_are = all.lines_are;
        refused_are =
            all.refused_are ∙ ap (λ (n : ℕ). capped (n + count_by is_refused all.asked)) none
            ∙ ap capped (from_none (count_by is_refused all.asked));
      }
