-- How the queries of rows are answered by prices.
use Rattle.std.specs.Prelude.{◌≡◌, ℕ, List, Option, None, map}
use Rattle.hsp_instance.specs.Instance.{Instance}
use Rattle.hsp_log.specs.Entries.{Entry}
use Rattle.hsp_log.specs.declared.form.Form.{Form}
use Rattle.hsp_price_dispatch.specs.Choosing.{answer_by, left_by}
use Rattle.hsp_price_dispatch.specs.Holding.{Held}
use Rattle.hsp_price_dispatch.specs.Laws.{answers_to}
use Rattle.hsp_price_answers.specs.Answering.{lines_in, refused_in}
use Rattle.hsp_price_answers.specs.Asking.{AreAsked, Asked, queries_in}
use Rattle.hsp_price_answers.specs.Lines.{line_by, price_line}
use Rattle.hsp_price_answers.specs.Sums.{sums_of, with_answer, with_refused}
use Rattle.hsp_price_answers.specs.declared.sums.PriceSums.{PriceSums}

-- Rows were answered by what a front began with and by nothing else, each query by what the ones before it left.
pub record ByPrices (it : Instance) (own : Held) (form : Option Form) (sums : PriceSums)
    (rows lines : List (List ℕ)) : Type 0 where
  pub asked : List Asked
  pub asks : AreAsked None rows asked form
  pub lines_are : lines ≡ lines_in asked (map (price_line it) (answers_to own (queries_in asked)))
  pub sums_are : sums ≡ sums_of (answers_to own (queries_in asked)) (refused_in asked)

-- ---- one query

-- what a front holds, the lines of servers, and the sums of its answers
pub record PricesHeld : Type 0 where
  pub own : Held
  pub lines : List (List ℕ)
  pub sums : PriceSums

-- a query is answered by a line, and counted
pub record TakesByPrices (old : PricesHeld) (entry : Entry) (new : PricesHeld) (line : List ℕ) : Type 0 where
  pub own : new.own ≡ left_by old.own entry
  pub lines : new.lines ≡ old.lines
  pub line_is : line ≡ line_by old.lines (answer_by old.own entry)
  pub sums : new.sums ≡ with_answer old.sums (answer_by old.own entry)

-- the sums of what was answered, and of so many refused rows
abbrev pub price_sums : PricesHeld → ℕ → PriceSums
price_sums held refused = with_refused held.sums refused
