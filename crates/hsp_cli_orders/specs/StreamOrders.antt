-- What an order of hsplan-stream holds: a request for help or for the version, or the subcommand that clap met in the
-- words with the values of its options.
use Rattle.std.specs.Prelude.{◌≡◌, ◌||◌, ⊤, Bool, ℕ, List, [], ◌∷◌, codes, Option, Some, None, Result, Ok, Err}
use Rattle.std.specs.Prelude.{if◌then◌else◌}
use Rattle.std.specs.Str.{bytes_eq}
use Rattle.clap.specs.Words.{Row, Text, fault_of, first_of, subcommand_of}
use Rattle.hsp_cli_orders.specs.Commands.{stream_app}
use Rattle.hsp_cli_orders.specs.declared.fault.CommandFault.{CommandFault}
use Rattle.hsp_cli_orders.specs.declared.fault.CommandFault.TheVariants as fault
use Rattle.hsp_price_report.specs.declared.kind.PriceReportKind.{PriceReportKind}
use Rattle.hsp_price_report.specs.declared.kind.PriceReportKind.TheVariants as shown
use Rattle.hsp_cli_orders.specs.declared.stream_order.FaultsOf.{FaultsOf}
use Rattle.hsp_cli_orders.specs.declared.stream_order.FaultsOf.TheVariants as of
use Rattle.hsp_cli_orders.specs.declared.stream_order.FrontWords.{FrontWords}
use Rattle.hsp_cli_orders.specs.declared.stream_order.PlaceFiles.{PlaceFiles}
use Rattle.hsp_cli_orders.specs.declared.stream_order.PriceFiles.{PriceFiles}
use Rattle.hsp_cli_orders.specs.declared.stream_order.ServiceFiles.{ServiceFiles}
use Rattle.hsp_cli_orders.specs.declared.stream_order.SiteFiles.{SiteFiles}
use Rattle.hsp_cli_orders.specs.declared.stream_order.StreamOrder.{StreamOrder}
use Rattle.hsp_cli_orders.specs.declared.stream_order.StreamOrder.TheVariants as order

-- ---- help and version

abbrev pub is_help : Text → Bool
is_help word = bytes_eq word (codes "--help") || bytes_eq word (codes "-h")

abbrev pub is_version : Text → Bool
is_version word = bytes_eq word (codes "--version") || bytes_eq word (codes "-V")

-- help or the version is asked for: by the only word, and help also by the second of two
abbrev pub asked : List Text → Option StreamOrder
asked [] = None
asked (word ∷ []) = if is_help word then Some order.Help else if is_version word then Some order.Version else None
asked (command ∷ word ∷ []) = if is_help word then Some order.Help else None
asked (command ∷ second ∷ third ∷ more) = None

-- ---- commands

-- the number of fronts and that of one of them are both given, or neither is
abbrev pub HasFront : List Row → Option FrontWords → Type 0
HasFront rows None = (first_of (codes "fronts") rows ≡ None) × (first_of (codes "front") rows ≡ None)
HasFront rows (Some words) =
    (first_of (codes "fronts") rows ≡ Some words.fronts) × (first_of (codes "front") rows ≡ Some words.front)

-- what defines sites
pub record HasSiteFiles (rows : List Row) (files : SiteFiles) : Type 0 where
  pub settings : first_of (codes "settings") rows ≡ Some files.settings
  pub values : first_of (codes "values") rows ≡ files.values

-- a log, and the sites at which its handles have places
pub record HasPlaceFiles (rows : List Row) (files : PlaceFiles) : Type 0 where
  pub sites : HasSiteFiles rows files.sites
  pub log : first_of (codes "log") rows ≡ Some files.log

-- a log, and the service that its queries are for
pub record HasServiceFiles (rows : List Row) (files : ServiceFiles) : Type 0 where
  pub settings : first_of (codes "settings") rows ≡ Some files.settings
  pub values : first_of (codes "values") rows ≡ files.values
  pub costs : first_of (codes "costs") rows ≡ Some files.costs
  pub capacity : first_of (codes "capacity") rows ≡ Some files.capacity
  pub log : first_of (codes "log") rows ≡ Some files.log

-- a log with its service, and a certificate by prices
pub record HasPriceFiles (rows : List Row) (files : PriceFiles) : Type 0 where
  pub service : HasServiceFiles rows files.service
  pub prices : first_of (codes "prices") rows ≡ Some files.prices

-- the word for a kind of report
abbrev pub price_report_word : PriceReportKind → Text
price_report_word shown.Load = codes "load"
price_report_word shown.Region = codes "region"

-- just this one of the four files is given
abbrev pub IsOnly : FaultsOf → List ℕ → List Row → Type 0
IsOnly of.Demand file rows =
    (first_of (codes "demand") rows ≡ Some file) × (first_of (codes "costs") rows ≡ None)
    × (first_of (codes "capacity") rows ≡ None) × (first_of (codes "log") rows ≡ None)
IsOnly of.Costs file rows =
    (first_of (codes "demand") rows ≡ None) × (first_of (codes "costs") rows ≡ Some file)
    × (first_of (codes "capacity") rows ≡ None) × (first_of (codes "log") rows ≡ None)
IsOnly of.Capacity file rows =
    (first_of (codes "demand") rows ≡ None) × (first_of (codes "costs") rows ≡ None)
    × (first_of (codes "capacity") rows ≡ Some file) × (first_of (codes "log") rows ≡ None)
IsOnly of.Log file rows =
    (first_of (codes "demand") rows ≡ None) × (first_of (codes "costs") rows ≡ None)
    × (first_of (codes "capacity") rows ≡ None) × (first_of (codes "log") rows ≡ Some file)

-- the values of a subcommand are the order's; each has a value of its own, or none, so that words give one order at
-- most
abbrev pub IsStreamOrderIn : StreamOrder → Text → List Row → Type 0
IsStreamOrderIn order.Help name rows = ⊥
IsStreamOrderIn order.Version name rows = ⊥
IsStreamOrderIn (order.Places files) name rows = (name ≡ codes "places") × HasPlaceFiles rows files
IsStreamOrderIn (order.Plan files) name rows = (name ≡ codes "plan") × HasServiceFiles rows files
IsStreamOrderIn (order.Answer files front) name rows =
    (name ≡ codes "answer") × HasPriceFiles rows files × HasFront rows front
IsStreamOrderIn (order.Check files) name rows = (name ≡ codes "check") × HasPriceFiles rows files
IsStreamOrderIn (order.Report files kind) name rows =
    (name ≡ codes "report") × HasPriceFiles rows files
    × (first_of (codes "kind") rows ≡ Some (price_report_word kind))
IsStreamOrderIn (order.Interfaces files) name rows = (name ≡ codes "interfaces") × HasSiteFiles rows files
IsStreamOrderIn (order.Faults of file) name rows = (name ≡ codes "faults") × IsOnly of file rows

-- the order of what clap's matches give
abbrev pub IsStreamOrder : StreamOrder → Option (Text × List Row) → Type 0
IsStreamOrder o None = ⊥
IsStreamOrder o (Some (name, rows)) = IsStreamOrderIn o name rows

-- the words give no order: clap refuses them, or what it found in them is the values of none
abbrev pub IsStreamUsage : List Text → Type 0
IsStreamUsage words =
    fault_of stream_app words ≡ [] → (o : StreamOrder) → IsStreamOrder o (subcommand_of stream_app words) → ⊥

-- the order of a command, in whose words clap finds no fault; or they give none; or memory ran out
abbrev pub IsCommandOrder : List Text → Result StreamOrder CommandFault → Type 0
IsCommandOrder words (Ok o) = (fault_of stream_app words ≡ []) × IsStreamOrder o (subcommand_of stream_app words)
IsCommandOrder words (Err fault.Usage) = IsStreamUsage words
IsCommandOrder words (Err fault.OutOfMemory) = ⊤

-- what was asked for, or otherwise the order of a command
abbrev pub IsOrderOrAsked : List Text → Option StreamOrder → Result StreamOrder CommandFault → Type 0
IsOrderOrAsked words (Some order) answer = answer ≡ Ok order
IsOrderOrAsked words None answer = IsCommandOrder words answer

abbrev pub IsStreamOrdered : List Text → Result StreamOrder CommandFault → Type 0
IsStreamOrdered words answer = IsOrderOrAsked words (asked words) answer
