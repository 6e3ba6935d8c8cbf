-- A run gives back the writer that it was lent.
use Rattle.std.proofs.Common.{◌≡◌, ◌⊎◌, inl, inr, ℕ, List, Option, Some, Result, Ok, Err, ap, subst, sym}
use Rattle.std.specs.Borrow.{GName}
use Rattle.hsp_cli.specs.declared.failure.Failure.TheVariants.{Refused}
use Rattle.hsp_instance.specs.Instance.{Instance}
use Rattle.hsp_inputs.specs.declared.fault.Fault.{Fault}
use Rattle.hsp_inputs.specs.declared.inputs.Inputs.{Inputs}
use Rattle.hsp_talk.specs.Known.{Known, IsHandedOn as IsKnownHanded}
use Rattle.hsp_prices.specs.Rows.{Service}
use Rattle.hsp_log.specs.declared.front_share.Front.{Front}
use Rattle.hsp_price_text.specs.declared.certificate.PriceCertificate.{PriceCertificate}
use Rattle.hsp_price_text.specs.declared.certificate.PriceCertificate.TheVariants as prices
use Rattle.hsp_price_answers.specs.FrontWords.{front_spelled}
use Rattle.hsp_price_answers.specs.PriceAnswerRun.{AnswersClaim, AnswersFront, AnswersInstance, AnswersReading}
use Rattle.hsp_price_answers.specs.PriceAnswerRun.{AnswersText, IsPriceAnswered, PriceRun}
use Rattle.hsp_price_answers.specs.declared.front_words.FrontChoice.{FrontChoice}
use Rattle.hsp_price_answers.specs.Answering.{AnswersRows}
use Rattle.hsp_price_answers.specs.AnswerRun.{EndsTalk, Refuses, RunOf}
use Rattle.hsp_stream.specs.PlacesRun.{ArePlaced, ArePlacedUntil}
use Rattle.hsp_log.specs.declared.fault.RowFault.TheVariants as row
use Rattle.hsp_inputs.specs.declared.stream_fault.StreamFault.{StreamFault}
use Rattle.hsp_inputs.specs.declared.stream_fault.StreamFault.TheVariants as fault
use Rattle.hsp_stream_cli.specs.Printing.{Ended, IsFailedWrite, IsHandedOn}
use Rattle.hsp_stream_cli.specs.Talking.{MayEnd, TalksOver}

abbrev IsKept : Known → Known → Type 0
IsKept old new = new.lent ≡ old.lent

-- a peer at which nothing happened is kept
as_it_was : (old new : Known) → new ≡ old → IsKept old new
as_it_was old new same = ap (λ (k : Known). k.lent) same

-- ---- places

-- places that were stated up to a fault keep the peer
pub until_keep : (settings : List ℕ) (values : Option (List ℕ)) (old new : Known) (by : StreamFault)
    → ArePlacedUntil settings values old new by → IsKept old new
until_keep settings values old new (fault.Input e) (read, same) = as_it_was old new same
until_keep settings values old new (fault.Log e) (sites, read, (events, goes, so)) = goes.same
until_keep settings values old new fault.OutOfMemory so = elim so [
  | inl same ↦ as_it_was old new same
  | inr rest ↦ let (sites, read, (events, goes, stopped)) = rest in goes.same
]
until_keep settings values old new (fault.Refused reason) so = absurd so
until_keep settings values old new fault.TooLarge so = absurd so
until_keep settings values old new fault.BadFront so = absurd so

-- places that were stated to the end keep the peer
pub placed_keep : (settings : List ℕ) (values : Option (List ℕ)) (old new : Known) → ArePlaced settings values old new
    → IsKept old new
placed_keep settings values old new (sites, read, (events, goes, so)) = goes.same

-- ---- answers

-- a run that was refused keeps the peer
refused : {S : Type 0} (by : StreamFault) (run : RunOf S) → Refuses by run → IsKept run.before run.after
refused by run (same, answer) = as_it_was run.before run.after same

-- so does a log that is answered, whatever answers it
by_talk : {S : Type 0} (By : AnswersRows S) (run : RunOf S) → EndsTalk By run → IsKept run.before run.after
by_talk By run ends = elim ends [ inl refuses ↦ refused fault.OutOfMemory run refuses | inr so ↦ so.1.same ]

-- ---- answers by prices

-- answers by a plan by prices keep the peer
by_priced : (front : Front) (it : Instance) (at : Service) (certificate : PriceCertificate) (run : PriceRun)
    → AnswersClaim front it at certificate run → IsKept run.before run.after
by_priced front it at (prices.Plan plan) run ends = elim ends [
  | inl so ↦ let (own, fits, begun, talk) = so in by_talk _ run talk
  | inr rest ↦ let (fault, stands, refuses) = rest in refused _ run refuses
]
by_priced front it at (prices.Shortage set) run refuses = refused _ run refuses

-- so do answers by a certificate that was read
by_reading : (front : Front) (it : Instance) (at : Service) (run : PriceRun) (read : Result PriceCertificate Fault)
    → AnswersReading front it at run read → IsKept run.before run.after
by_reading front it at run (Ok certificate) so = by_priced front it at certificate run so
by_reading front it at run (Err e) refuses = refused _ run refuses

-- so do answers by its octets
by_text : (front : Front) (it : Instance) (at : Service) (octets : List ℕ) (run : PriceRun)
    → AnswersText front it at octets run → IsKept run.before run.after
by_text front it at octets run so = elim so [
  | inl refuses ↦ refused _ run refuses
  | inr rest ↦ by_reading front it at run rest.0 rest.2
]

-- so do answers by an instance
by_instance : (front : Front) (inputs : Inputs) (octets : List ℕ) (run : PriceRun) (read : Result Instance Fault)
    → AnswersInstance front inputs octets run read → IsKept run.before run.after
by_instance front inputs octets run (Ok it) (costs, read, so) = by_text front it _ octets run so
by_instance front inputs octets run (Err e) refuses = refused _ run refuses

-- so do answers by a front
by_front : (inputs : Inputs) (octets : List ℕ) (run : PriceRun) (front : Result Front StreamFault)
    → AnswersFront inputs octets run front → IsKept run.before run.after
by_front inputs octets run (Err e) refuses = refused e run refuses
by_front inputs octets run (Ok front) so = elim so [
  | inl refuses ↦ refused _ run refuses
  | inr rest ↦ by_instance front inputs octets run rest.0 rest.2
]

-- answers by prices keep the peer
pub priced_keep : (words : FrontChoice) (inputs : Inputs) (octets : List ℕ) (run : PriceRun)
    → IsPriceAnswered words inputs octets run → IsKept run.before run.after
priced_keep words inputs octets run so = by_front inputs octets run (front_spelled words) so

-- ---- names

-- a name that is known is the same
pub same_name : (a b : GName) → Some a ≡ Some b → a ≡ b
same_name a b e = cc e

-- what holds of a writer that is lent holds of the writer that is given back
pub given_back : {W : Type 0} (Holds : W → Type 0) (writer last : W) (before after : GName)
    → (before ≡ after → writer ≡ last) → after ≡ before → Holds last → Holds writer
given_back Holds writer last before after back same so = subst Holds (sym (back (sym same))) so

-- ---- outputs

-- what a peer handed on is what the writer did
pub hands : (old new : Known) (ended : Ended) → IsKnownHanded old new ⊎ IsFailedWrite ended
    → IsHandedOn old.written old.handed new.written new.handed ended
hands old new ended (inl (inl none)) = inl (none.written, none.handed)
hands old new ended (inl (inr all)) = inr (inl all)
hands old new ended (inr failed) = inr (inr failed)

-- a reader may fail only where its file may
may_weaker : (MayReadFail DiskFails MayFail : Type 0) (ended : Ended) (old new : Known) → (MayReadFail → DiskFails)
    → MayEnd MayReadFail MayFail ended old new → MayEnd DiskFails MayFail ended old new
may_weaker MayReadFail DiskFails MayFail (Err (Refused (fault.Log row.ReadFailed))) old new weaker may = elim may [
  | inl fails ↦ inl (weaker fails)
  | inr all ↦ inr all
]
may_weaker MayReadFail DiskFails MayFail (Err (Refused (fault.Log row.WriteFailed))) old new weaker may = may
may_weaker MayReadFail DiskFails MayFail (Err (Refused (fault.Log other))) old new weaker may = tt
may_weaker MayReadFail DiskFails MayFail (Err (Refused other)) old new weaker may = tt
may_weaker MayReadFail DiskFails MayFail ended old new weaker may = tt

-- what is true of a reader that may fail is true where the disk may
pub talks_weaker : (MayReadFail DiskFails MayFail : Type 0) (left old new : Option (List ℕ)) (ended : Ended)
    (Holds : Known → Known → Type 0) → (MayReadFail → DiskFails) →
    TalksOver MayReadFail MayFail left old new ended Holds → TalksOver DiskFails MayFail left old new ended Holds
talks_weaker MayReadFail DiskFails MayFail left old new ended Holds weaker so = record {
  before = so.before;
  after = so.after;
  coming = so.coming;
  held = so.held;
  written = so.written;
  holds = so.holds;
  may_end = may_weaker MayReadFail DiskFails MayFail ended so.before so.after weaker so.may_end;
}
