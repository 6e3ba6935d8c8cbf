-- Logs that are answered in a talk.
use Rattle.std.specs.Prelude.{◌≡◌, ⊤, ℕ, List, Option, None, Some, Ok, Err, option_map}
use Rattle.hsp_cli.specs.declared.failure.Failure.TheVariants.{Refused}
use Rattle.hsp_cli_orders.specs.declared.stream_order.FrontWords.{FrontWords}
use Rattle.hsp_talk.specs.Known.{Known}
use Rattle.hsp_price_answers.specs.PriceAnswerRun.{IsPriceAnswered}
use Rattle.hsp_price_answers.specs.declared.front_words.FrontChoice.{FrontChoice}
use Rattle.hsp_price_answers.specs.declared.sums.PriceSums.{PriceSums}
use Rattle.hsp_price_answers.specs.AnswerRun.{run_of}
use Rattle.hsp_stream.specs.PlacesRun.{ArePlaced, ArePlacedUntil}
use Rattle.hsp_inputs.specs.Stopping.{MayStopBy}
use Rattle.hsp_stream_cli.specs.Printing.{Ended}
use Rattle.hsp_stream_cli.specs.declared.files.Priced.{Priced}
use Rattle.hsp_stream_cli.specs.declared.files.Sources.{Sources}

-- the words of a front are these
pub record IsFront (front : Option FrontWords) (words : FrontChoice) : Type 0 where
  pub fronts_are : option_map (λ v. v.items) words.fronts ≡ option_map (λ (it : FrontWords). it.fronts) front
  pub front_is : option_map (λ v. v.items) words.front ≡ option_map (λ (it : FrontWords). it.front) front

-- a failed read or write of the talk is reported only where one may fail
abbrev pub MayEnd : Type 0 → Type 0 → Ended → Known → Known → Type 0
MayEnd MayReadFail MayFail (Err (Refused fault)) old new = MayStopBy MayReadFail MayFail old new fault
MayEnd MayReadFail MayFail ended old new = ⊤

-- A talk over a reader that has some octets left, and over an output: what holds of a peer before it and after it, and
-- how it ended.
pub record TalksOver (MayReadFail MayFail : Type 0) (left old new : Option (List ℕ)) (ended : Ended)
    (Holds : Known → Known → Type 0) : Type 0 where
  pub before : Known
  pub after : Known
  pub coming : before.coming ≡ left
  pub held : before.written ≡ old
  pub written : after.written ≡ new
  pub holds : Holds before after
  pub may_end : MayEnd MayReadFail MayFail ended before after

-- places were stated, or the run's fault is returned
abbrev pub EndsPlaces : Sources → Ended → Known → Known → Type 0
EndsPlaces sources (Ok completed) old new =
    (completed ≡ record { status = 0; sums = None })
    × ArePlaced sources.settings.items (option_map (λ v. v.items) sources.values) old new
EndsPlaces sources (Err (Refused fault)) old new =
    ArePlacedUntil sources.settings.items (option_map (λ v. v.items) sources.values) old new fault
EndsPlaces sources (Err failure) old new = ⊥

-- a log was answered by a certificate by prices, and its sums are returned, or the run's fault
abbrev pub EndsPriced : Priced → FrontChoice → Ended → Known → Known → Type 0
EndsPriced priced words (Ok completed) old new =
    (sums : PriceSums) × (completed ≡ record { status = 0; sums = Some sums })
    × IsPriceAnswered words priced.inputs priced.prices.items (run_of old new (Ok sums))
EndsPriced priced words (Err (Refused fault)) old new =
    IsPriceAnswered words priced.inputs priced.prices.items (run_of old new (Err fault))
EndsPriced priced words (Err failure) old new = ⊥
