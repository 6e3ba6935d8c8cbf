-- What a command answers: to which words, and from which files.
use Rattle.std.specs.Prelude.{◌≡◌, ◌⊎◌, ⊤, ℕ, List, [], Option, Some, None, Result, Ok, Err, option_map}
use Rattle.hsp_cli_orders.specs.Commands.{hsplan_app}
use Rattle.clap.specs.Words.{fault_of, subcommand_of}
use Rattle.hsp_cli_orders.specs.Orders.{IsOrderOf, IsUsage}
use Rattle.hsp_cli_orders.specs.declared.fault.CommandFault.{CommandFault}
use Rattle.hsp_cli_orders.specs.declared.fault.CommandFault.TheVariants as command_fault
use Rattle.hsp_cli_orders.specs.declared.order.InputFiles.{InputFiles}
use Rattle.hsp_report.specs.declared.kind.ReportKind.{ReportKind}
use Rattle.hsp_cli_orders.specs.declared.order.Order.{Order}
use Rattle.hsp_cli_orders.specs.declared.order.Order.TheVariants as order
use Rattle.hsp_runs.specs.Locate.{AreLocated, placed}
use Rattle.hsp_runs.specs.SiteText.{IsSiteRun}
use Rattle.hsp_runs.specs.Report.{IsReported}
use Rattle.hsp_inputs.specs.declared.inputs.Inputs.{Inputs}
use Rattle.hsp_cli.specs.Answers.{Answered, IsAnswered, IsShownPlan, IsShownVerdict, fields_reply, plan_reply}
use Rattle.hsp_cli.specs.Answers.{text_reply, verdict_reply}
use Rattle.hsp_cli.specs.Dispatching.{Dispatches, Opened}
use Rattle.hsp_cli.specs.Failing.{LacksFile, failure_of}
use Rattle.hsp_cli.specs.Files.{Disk, HoldsRest}
use Rattle.hsp_cli.specs.Printing.{Ended, Prints}

-- the octets of a file that may be named
abbrev pub HoldsNamed : Disk → Option (List ℕ) → Option (List ℕ) → Type 0
HoldsNamed disk None None = ⊤
HoldsNamed disk (Some path) (Some octets) = disk.holds path octets
HoldsNamed disk path octets = ⊥

-- it may fail to be read
abbrev pub FailsNamed : Disk → Option (List ℕ) → Type 0
FailsNamed disk None = ⊥
FailsNamed disk (Some path) = disk.fails path

-- each input is what its own file holds
pub record AreHeld (disk : Disk) (files : InputFiles) (inputs : Inputs) : Type 0 where
  pub settings : disk.holds files.settings inputs.settings.items
  pub values : HoldsNamed disk files.values (option_map (λ v. v.items) inputs.values)
  pub demand : HoldsNamed disk (Some files.demand) (option_map (λ d. d.items) inputs.demand)
  pub costs : disk.holds files.costs inputs.costs.items
  pub capacity : disk.holds files.capacity inputs.capacity.items

-- one of the files of inputs may fail to be read
abbrev pub OneFails : Disk → InputFiles → Type 0
OneFails disk files =
    disk.fails files.settings ⊎ FailsNamed disk files.values ⊎ disk.fails files.demand ⊎ disk.fails files.costs
    ⊎ disk.fails files.capacity

abbrev pub AnswersSites : Disk → List ℕ → Option (List ℕ) → List ℕ → Answered → Type 0
AnswersSites disk settings values handle answer =
    LacksFile (disk.fails settings ⊎ FailsNamed disk values) answer
    ⊎ ((s : List ℕ) × (v : Option (List ℕ)) × disk.holds settings s × HoldsNamed disk values v
    × IsAnswered text_reply (AreLocated s v handle) answer)

abbrev pub AnswersSite : Disk → Option (List ℕ) → List ℕ → Answered → Type 0
AnswersSite disk index file answer =
    LacksFile (disk.fails file) answer
    ⊎ ((octets : List ℕ) × disk.holds file octets × IsAnswered fields_reply (IsSiteRun octets index) answer)

abbrev pub AnswersPlan : Disk → InputFiles → Answered → Type 0
AnswersPlan disk files answer =
    LacksFile (OneFails disk files) answer
    ⊎ ((inputs : Inputs) × AreHeld disk files inputs × IsAnswered plan_reply (IsShownPlan inputs) answer)

abbrev pub AnswersCheck : Disk → InputFiles → List ℕ → Answered → Type 0
AnswersCheck disk files plan answer =
    LacksFile (OneFails disk files ⊎ disk.fails plan) answer
    ⊎ ((inputs : Inputs) × (octets : List ℕ) × AreHeld disk files inputs × disk.holds plan octets
    × IsAnswered verdict_reply (IsShownVerdict inputs octets) answer)

abbrev pub AnswersReport : Disk → InputFiles → List ℕ → ReportKind → Answered → Type 0
AnswersReport disk files plan asked answer =
    LacksFile (OneFails disk files ⊎ disk.fails plan) answer
    ⊎ ((inputs : Inputs) × (octets : List ℕ) × AreHeld disk files inputs × disk.holds plan octets
    × IsAnswered text_reply (IsReported inputs octets asked) answer)

-- the answer to an order whose text is printed as one; a log's lines are not
abbrev pub AnswersTo : Disk → Order → Answered → Type 0
AnswersTo disk (order.LocatePlace option servers handle) answer =
    IsAnswered text_reply (λ text. text ≡ placed option servers handle) answer
AnswersTo disk (order.LocateSites settings values handle) answer = AnswersSites disk settings values handle answer
AnswersTo disk (order.Site index file) answer = AnswersSite disk index file answer
AnswersTo disk (order.Plan inputs) answer = AnswersPlan disk inputs answer
AnswersTo disk (order.Check inputs plan) answer = AnswersCheck disk inputs plan answer
AnswersTo disk (order.Report inputs plan kind) answer = AnswersReport disk inputs plan kind answer
AnswersTo disk (order.Dispatch inputs plan log fronts) answer = ⊥

-- each file holds what was read of it, and the log's file what is left to be read
pub record AreOpened (disk : Disk) (files : InputFiles) (plan log : List ℕ) (it : Opened) : Type 0 where
  pub held : AreHeld disk files it.inputs
  pub certificate : disk.holds plan it.certificate
  pub rest : HoldsRest disk log it.left

-- one of the files of a dispatch may fail to be read
abbrev pub DispatchFails : Disk → InputFiles → List ℕ → List ℕ → Type 0
DispatchFails disk files plan log = OneFails disk files ⊎ disk.fails plan ⊎ disk.fails log

-- a file, which may fail to be read, wasn't read, or memory ran out, and nothing was written; or the log was answered
abbrev pub DispatchesFrom : Disk → Type 0 → InputFiles → List ℕ → List ℕ → Option (List ℕ) → Option (List ℕ)
    → Option (List ℕ) → Ended → Type 0
DispatchesFrom disk MayFail files plan log fronts old new ended =
    ((new ≡ old) × LacksFile (DispatchFails disk files plan log) ended)
    ⊎ ((it : Opened) × AreOpened disk files plan log it × Dispatches MayFail fronts it old new ended)

-- an order is carried out on an output, whose writes may fail or not: a log is answered, or the order's answer is
-- printed
abbrev pub CarriesOut : Disk → Type 0 → Order → Option (List ℕ) → Option (List ℕ) → Ended → Type 0
CarriesOut disk MayFail (order.Dispatch inputs plan log fronts) old new ended =
    DispatchesFrom disk MayFail inputs plan log fronts old new ended
CarriesOut disk MayFail order old new ended =
    (answer : Answered) × AnswersTo disk order answer × Prints MayFail answer old new ended

-- the order that words give, in which clap finds no fault; or that they give none; or that memory ran out
abbrev pub IsOrdered : List (List ℕ) → Result Order CommandFault → Type 0
IsOrdered words (Ok order) = (fault_of hsplan_app words ≡ []) × IsOrderOf order (subcommand_of hsplan_app words)
IsOrdered words (Err command_fault.Usage) = IsUsage words
IsOrdered words (Err command_fault.OutOfMemory) = ⊤

-- it is carried out; where there is none, nothing was written, and the failure is reported
abbrev pub ActsOn : Disk → Type 0 → Result Order CommandFault → Option (List ℕ) → Option (List ℕ) → Ended → Type 0
ActsOn disk MayFail (Ok order) old new ended = CarriesOut disk MayFail order old new ended
ActsOn disk MayFail (Err fault) old new ended = (new ≡ old) × (ended ≡ Err (failure_of fault))

-- the words are obeyed
abbrev pub Obeys : Disk → Type 0 → List (List ℕ) → Option (List ℕ) → Option (List ℕ) → Ended → Type 0
Obeys disk MayFail words old new ended =
    (order : Result Order CommandFault) × IsOrdered words order × ActsOn disk MayFail order old new ended
