-- What a command does: for which words, and from which files.
use Rattle.std.specs.Prelude.{◌≡◌, ◌⊎◌, ℕ, List, Option, Result, Ok, Err}
use Rattle.hsp_cli_orders.specs.StreamOrders.{IsStreamOrdered}
use Rattle.hsp_cli_orders.specs.declared.fault.CommandFault.{CommandFault}
use Rattle.hsp_price_report.specs.declared.kind.PriceReportKind.{PriceReportKind}
use Rattle.hsp_cli_orders.specs.declared.stream_order.FaultsOf.{FaultsOf}
use Rattle.hsp_cli_orders.specs.declared.stream_order.FrontWords.{FrontWords}
use Rattle.hsp_cli_orders.specs.declared.stream_order.PlaceFiles.{PlaceFiles}
use Rattle.hsp_cli_orders.specs.declared.stream_order.PriceFiles.{PriceFiles}
use Rattle.hsp_cli_orders.specs.declared.stream_order.ServiceFiles.{ServiceFiles}
use Rattle.hsp_cli_orders.specs.declared.stream_order.SiteFiles.{SiteFiles}
use Rattle.hsp_cli_orders.specs.declared.stream_order.StreamOrder.{StreamOrder}
use Rattle.hsp_cli_orders.specs.declared.stream_order.StreamOrder.TheVariants as order
use Rattle.hsp_cli.specs.Failing as failing
use Rattle.hsp_cli.specs.Failing.{failure_of}
use Rattle.hsp_cli.specs.Files.{Disk, HoldsRest}
use Rattle.hsp_cli.specs.declared.failure.Failure.TheVariants.{Memory}
use Rattle.hsp_inputs.specs.declared.inputs.Inputs.{Inputs}
use Rattle.hsp_price_answers.specs.declared.front_words.FrontChoice.{FrontChoice}
use Rattle.hsp_stream_cli.specs.Checking.{PrintsVerdict}
use Rattle.hsp_stream_cli.specs.Faults.{EndsList, HoldsText, ReadsMayFail, asked_for}
use Rattle.hsp_stream_cli.specs.Files.{ArePricesHeld, AreServiceHeld, AreSourcesHeld, PricesFail, ServiceFails}
use Rattle.hsp_stream_cli.specs.Files.{SourcesFail}
use Rattle.hsp_stream_cli.specs.Listing.{PrintsInterfaces}
use Rattle.hsp_stream_cli.specs.Planning.{PrintsPlan}
use Rattle.hsp_stream_cli.specs.Printing.{Ended, PrintsText}
use Rattle.hsp_stream_cli.specs.Reporting.{PrintsReport}
use Rattle.hsp_stream_cli.specs.Talking.{EndsPlaces, EndsPriced, IsFront, TalksOver}
use Rattle.hsp_stream_cli.specs.declared.files.Priced.{Priced}
use Rattle.hsp_stream_cli.specs.declared.files.Sources.{Sources}
use Rattle.hsp_stream_cli.specs.declared.texts.TheConstants.{HELP, VERSION}

-- a file, which may fail to be read, wasn't read, or memory ran out; nothing was written
abbrev pub LacksFile : Type 0 → Option (List ℕ) → Option (List ℕ) → Ended → Type 0
LacksFile MayFail old new ended = (new ≡ old) × failing.LacksFile MayFail ended

-- the places of a log's handles are stated
abbrev pub StatesPlaces : Disk → Type 0 → PlaceFiles → Option (List ℕ) → Option (List ℕ) → Ended → Type 0
StatesPlaces disk MayFail files old new ended =
    LacksFile (SourcesFail disk files.sites ⊎ disk.fails files.log) old new ended
    ⊎ ((sources : Sources) × (left : Option (List ℕ)) × AreSourcesHeld disk files.sites sources
    × HoldsRest disk files.log left
    × TalksOver (disk.fails files.log) MayFail left old new ended (EndsPlaces sources ended))

-- what is printed of a certificate by prices, its inputs, and what is left of a log, where the files are read
abbrev pub ByPrices : Disk → PriceFiles → Option (List ℕ) → Option (List ℕ) → Ended
    → (Priced → Option (List ℕ) → Type 0) → Type 0
ByPrices disk files old new ended Prints =
    LacksFile (PricesFail disk files ⊎ disk.fails files.service.log) old new ended
    ⊎ ((priced : Priced) × (left : Option (List ℕ)) × ArePricesHeld disk files priced
    × HoldsRest disk files.service.log left
    × Prints priced left)

-- a log is answered by a certificate by prices
abbrev pub AnswersPriced : Disk → Type 0 → PriceFiles → Option FrontWords → Option (List ℕ) → Option (List ℕ) → Ended
    → Type 0
AnswersPriced disk MayFail files front old new ended =
    ((new ≡ old) × (ended ≡ Err Memory))
    ⊎ ByPrices disk files old new ended (λ priced left. (words : FrontChoice) × IsFront front words
    × TalksOver (disk.fails files.service.log) MayFail left old new ended (EndsPriced priced words ended))

-- a certificate by prices is judged for a log
abbrev pub ChecksPrices : Disk → Type 0 → PriceFiles → Option (List ℕ) → Option (List ℕ) → Ended → Type 0
ChecksPrices disk MayFail files old new ended =
    ByPrices disk files old new ended (λ priced left.
    PrintsVerdict (disk.fails files.service.log) MayFail priced left old new ended)

-- a log is reported on by such a certificate
abbrev pub ReportsPrices : Disk → Type 0 → PriceFiles → PriceReportKind → Option (List ℕ) → Option (List ℕ) → Ended
    → Type 0
ReportsPrices disk MayFail files kind old new ended =
    ByPrices disk files old new ended (λ priced left.
    PrintsReport (disk.fails files.service.log) MayFail priced kind left old new ended)

-- the rows of a log are planned
abbrev pub PlansLog : Disk → Type 0 → ServiceFiles → Option (List ℕ) → Option (List ℕ) → Ended → Type 0
PlansLog disk MayFail files old new ended =
    LacksFile (ServiceFails disk files ⊎ disk.fails files.log) old new ended
    ⊎ ((inputs : Inputs) × (left : Option (List ℕ)) × AreServiceHeld disk files inputs × HoldsRest disk files.log left
    × PrintsPlan (disk.fails files.log) MayFail inputs left old new ended)

-- the service interfaces of servers are listed
abbrev pub ListsInterfaces : Disk → Type 0 → SiteFiles → Option (List ℕ) → Option (List ℕ) → Ended → Type 0
ListsInterfaces disk MayFail files old new ended =
    LacksFile (SourcesFail disk files) old new ended
    ⊎ ((sources : Sources) × AreSourcesHeld disk files sources × PrintsInterfaces MayFail sources old new ended)

-- the faulty rows of a file are listed
abbrev pub ListsFaults : Disk → Type 0 → FaultsOf → List ℕ → Option (List ℕ) → Option (List ℕ) → Ended → Type 0
ListsFaults disk MayFail of file old new ended =
    LacksFile (disk.fails file) old new ended
    ⊎ ((text : Option (List ℕ)) × HoldsText disk of file text
    × EndsList (ReadsMayFail disk of file) MayFail (asked_for of) text old new ended)

-- an order is carried out on an output, whose writes may fail or not
abbrev pub CarriesOut : Disk → Type 0 → StreamOrder → Option (List ℕ) → Option (List ℕ) → Ended → Type 0
CarriesOut disk MayFail order.Help old new ended = PrintsText MayFail HELP.now old new ended
CarriesOut disk MayFail order.Version old new ended = PrintsText MayFail VERSION.now old new ended
CarriesOut disk MayFail (order.Places files) old new ended = StatesPlaces disk MayFail files old new ended
CarriesOut disk MayFail (order.Answer files front) old new ended = AnswersPriced disk MayFail files front old new ended
CarriesOut disk MayFail (order.Plan files) old new ended = PlansLog disk MayFail files old new ended
CarriesOut disk MayFail (order.Check files) old new ended = ChecksPrices disk MayFail files old new ended
CarriesOut disk MayFail (order.Report files kind) old new ended = ReportsPrices disk MayFail files kind old new ended
CarriesOut disk MayFail (order.Interfaces files) old new ended = ListsInterfaces disk MayFail files old new ended
CarriesOut disk MayFail (order.Faults of file) old new ended = ListsFaults disk MayFail of file old new ended

-- the order is carried out; where there is none, nothing was written, and the failure is reported
abbrev pub ActsOn : Disk → Type 0 → Result StreamOrder CommandFault → Option (List ℕ) → Option (List ℕ) → Ended → Type 0
ActsOn disk MayFail (Ok order) old new ended = CarriesOut disk MayFail order old new ended
ActsOn disk MayFail (Err fault) old new ended = (new ≡ old) × (ended ≡ Err (failure_of fault))

-- the words are obeyed
abbrev pub Obeys : Disk → Type 0 → List (List ℕ) → Option (List ℕ) → Option (List ℕ) → Ended → Type 0
Obeys disk MayFail words old new ended =
    (order : Result StreamOrder CommandFault) × IsStreamOrdered words order × ActsOn disk MayFail order old new ended
