-- The run that answers the rows of a log by a front of a certificate by prices.
use Rattle.std.specs.Prelude.{◌⊎◌, ℕ, List, Result, Ok, Err}
use Rattle.hsp_tables.specs.Costs.{CostEntry}
use Rattle.hsp_instance.specs.Instance.{Instance}
use Rattle.hsp_prices.specs.Rows.{Service}
use Rattle.hsp_price_text.specs.Claim.{Best}
use Rattle.hsp_price_text.specs.declared.certificate.PriceCertificate.{PriceCertificate}
use Rattle.hsp_price_text.specs.declared.certificate.PriceCertificate.TheVariants.{Plan, Shortage}
use Rattle.hsp_prices.specs.declared.verdict.PriceReason.TheVariants.{Load, NoSuchServer, Shape}
use Rattle.hsp_log.specs.declared.front_share.Front.{Front}
use Rattle.hsp_price_dispatch.specs.Holding.{Held}
use Rattle.hsp_price_dispatch.specs.Starting.{Fits, IsBegun, Stands}
use Rattle.hsp_price_dispatch.specs.declared.fault.StartFault.{StartFault}
use Rattle.hsp_price_dispatch.specs.declared.fault.StartFault.TheVariants as start
use Rattle.hsp_inputs.specs.declared.fault.Fault.{Fault}
use Rattle.hsp_inputs.specs.declared.fault.Fault.TheVariants.{WrongKind}
use Rattle.hsp_inputs.specs.Instance.{IsInstanceOf, ReadsCosts}
use Rattle.hsp_inputs.specs.declared.inputs.Inputs.{Inputs}
use Rattle.hsp_price_check.specs.Classes.{service_of}
use Rattle.hsp_inputs.specs.Readings.{IsCertificateIn}
use Rattle.hsp_price_answers.specs.AnswerRun.{EndsTalk, Refuses, RunOf}
use Rattle.hsp_inputs.specs.Faults.{fault_of_input}
use Rattle.hsp_inputs.specs.declared.stream_fault.StreamFault.{StreamFault}
use Rattle.hsp_inputs.specs.declared.stream_fault.StreamFault.TheVariants.{Input, OutOfMemory, Refused}
use Rattle.hsp_price_answers.specs.FrontWords.{front_spelled}
use Rattle.hsp_price_answers.specs.PriceAnswers.{ByPrices}
use Rattle.hsp_price_answers.specs.declared.front_words.FrontChoice.{FrontChoice}
use Rattle.hsp_price_answers.specs.declared.sums.PriceSums.{PriceSums}
use Rattle.hsp_inputs.specs.Limits.{limits_of}

-- what is known of a peer before a run and after it, and what the run returns
abbrev pub PriceRun : Type 0
PriceRun = RunOf PriceSums

-- the fault of a dispatcher that can't start
abbrev pub fault_of_start : StartFault → StreamFault
fault_of_start start.Shape = Refused Shape
fault_of_start start.NoSuchServer = Refused NoSuchServer
fault_of_start start.Load = Refused Load
fault_of_start start.OutOfMemory = OutOfMemory

-- the log is answered by a front of the plan, which fits; or the plan doesn't fit
abbrev pub AnswersPlan : Front → Instance → Service → Best → PriceRun → Type 0
AnswersPlan front it at plan run =
    ((own : Held) × Fits at plan × IsBegun at plan front.fronts front.number own × EndsTalk (ByPrices it own) run)
    ⊎ ((fault : StartFault) × Stands at plan fault × Refuses (fault_of_start fault) run)

-- by a plan, and not by a shortage
abbrev pub AnswersClaim : Front → Instance → Service → PriceCertificate → PriceRun → Type 0
AnswersClaim front it at (Plan plan) run = AnswersPlan front it at plan run
AnswersClaim front it at (Shortage set) run = Refuses (Input WrongKind) run

-- by the certificate that was read, or its fault is returned
abbrev pub AnswersReading : Front → Instance → Service → PriceRun → Result PriceCertificate Fault → Type 0
AnswersReading front it at run (Ok certificate) = AnswersClaim front it at certificate run
AnswersReading front it at run (Err fault) = Refuses (fault_of_input fault) run

-- by the octets of a certificate, unless memory runs out
abbrev pub AnswersText : Front → Instance → Service → List ℕ → PriceRun → Type 0
AnswersText front it at octets run =
    Refuses OutOfMemory run
    ⊎ ((read : Result PriceCertificate Fault) × IsCertificateIn octets read × AnswersReading front it at run read)

-- by the instance that was read and the costs of the inputs, or its fault is returned
abbrev pub AnswersInstance : Front → Inputs → List ℕ → PriceRun → Result Instance Fault → Type 0
AnswersInstance front inputs octets run (Ok it) =
    (costs : List CostEntry) × ReadsCosts (limits_of inputs) inputs.costs.items (Ok costs)
    × AnswersText front it (service_of costs it) octets run
AnswersInstance front inputs octets run (Err fault) = Refuses (fault_of_input fault) run

-- by a front: first of all the inputs are read, unless memory runs out
abbrev pub AnswersFront : Inputs → List ℕ → PriceRun → Result Front StreamFault → Type 0
AnswersFront inputs octets run (Err fault) = Refuses fault run
AnswersFront inputs octets run (Ok front) =
    Refuses OutOfMemory run
    ⊎ ((read : Result Instance Fault) × IsInstanceOf inputs read × AnswersInstance front inputs octets run read)

-- the words of the front are read before all else
abbrev pub IsPriceAnswered : FrontChoice → Inputs → List ℕ → PriceRun → Type 0
IsPriceAnswered words inputs octets run = AnswersFront inputs octets run (front_spelled words)
