-- One step of each sum: what a row adds at its place.
use Rattle.std.proofs.Common.{◌≡◌, ◌<◌, ◌+◌, ◌∙◌, ℕ, Bool, true, false, List, length, slice_index}
use Rattle.std.proofs.Common.{ap, sym, arith, add-zero}
use Rattle.std.specs.Prelude.{◌==◌, ◌||◌, if◌then◌else◌}
use Rattle.hsp_check.specs.ArcFlows.{flag_at}
use Rattle.hsp_price_check.specs.Passed.{asked_with, capped, cost_with, load_with, seen_with, spent}
use Rattle.hsp_price_check.specs.declared.sums.RowPlace.{RowPlace}
use Rattle.hsp_price_check.specs.declared.sums.RowPlace.TheVariants.{Over, OfClass}
use Rattle.hsp_price_check.proofs.OneRow.{hits, taken}

-- a sum that is kept up to the greatest one goes on as the sum does
capped_more : (x o n count : ℕ) → o ≡ capped x → n ≡ capped (o + count) → n ≡ capped (x + count)
capped_more x o n count e f = omega arith

-- the same where a test says whether something is added
pub capped_where : (t : Bool) (x o n count : ℕ) → o ≡ capped x → n ≡ (if t then capped (o + count) else o)
    → n ≡ capped (x + (if t then count else 0))
capped_where true x o n count e f = capped_more x o n count e f
capped_where false x o n count e f = f ∙ e ∙ ap capped (sym (add-zero x))

-- the cost goes on
pub cost_step : (place : RowPlace) (count x o n : ℕ) → o ≡ capped x → n ≡ cost_with o place count
    → n ≡ capped (x + spent place count)
cost_step (Over arc) count x o n e f = capped_more x o n (spent (Over arc) count) e f
cost_step place count x o n e f = f ∙ e ∙ ap capped (sym (add-zero x))

module _ (old new : List ℕ) (count : ℕ) where
  -- a list that stays has the same sums
  stays : (j x : ℕ) → new ≡ old → slice_index old j ≡ capped x → slice_index new j ≡ capped (x + 0)
  stays j x same e = ap (λ xs. slice_index xs j) same ∙ e ∙ ap capped (sym (add-zero x))

  -- there are as many loads as before
  pub load_many : (place : RowPlace) → load_with old place count new → length new ≡ length old
  load_many (Over arc) is = is.many
  load_many place is = ap length is

  -- and each goes on
  pub load_step : (place : RowPlace) (j x : ℕ) → load_with old place count new → j < length old
      → slice_index old j ≡ capped x → slice_index new j ≡ capped (x + taken place count j)
  load_step (Over arc) j x is l e =
      capped_where (arc.server == j) x (slice_index old j) (slice_index new j) count e (is.each j l)
  load_step place j x is l e = stays j x is e

  -- so it is with what the rows of classes ask for
  pub asked_many : (place : RowPlace) → asked_with old place count new → length new ≡ length old
  asked_many (OfClass class) is = is.many
  asked_many place is = ap length is

  -- which goes on for the class that the row is of
  pub asked_step : (place : RowPlace) (k x : ℕ) → asked_with old place count new → k < length old
      → slice_index old k ≡ capped x → slice_index new k ≡ capped (x + (if hits place k then count else 0))
  asked_step (OfClass class) k x is l e =
      capped_where (class == k) x (slice_index old k) (slice_index new k) count e (is.each k l)
  asked_step place k x is l e = stays k x is e

module _ (old new : List Bool) where
  -- and with the flags of classes
  pub seen_many : (place : RowPlace) → seen_with old place new → length new ≡ length old
  seen_many (OfClass class) is = is.many
  seen_many place is = ap length is

  -- of which only that of the class of the row is set
  pub seen_step : (place : RowPlace) (k : ℕ) → seen_with old place new → k < length old
      → flag_at new k ≡ (hits place k || flag_at old k)
  seen_step (OfClass class) k is l = is.each k l
  seen_step place k is l = ap (λ xs. flag_at xs k) is
