-- What an order holds: the subcommand that clap met in the words, and the values of its options and words.
use Rattle.std.specs.Prelude.{◌≡◌, List, [], codes, Option, Some, None}
use Rattle.clap.specs.Words.{Row, Text, fault_of, first_of, subcommand_of}
use Rattle.hsp_cli_orders.specs.Commands.{hsplan_app}
use Rattle.hsp_cli_orders.specs.declared.order.Order.{Order}
use Rattle.hsp_cli_orders.specs.declared.order.InputFiles.{InputFiles}
use Rattle.hsp_cli_orders.specs.declared.order.Order.TheVariants as order
use Rattle.hsp_report.specs.declared.kind.ReportKind.{ReportKind}
use Rattle.hsp_report.specs.declared.kind.ReportKind.TheVariants.{Load, Region, Shortage}

-- the files of the inputs
pub record HasInputs (rows : List Row) (inputs : InputFiles) : Type 0 where
  pub settings : first_of (codes "settings") rows ≡ Some inputs.settings
  pub values : first_of (codes "values") rows ≡ inputs.values
  pub demand : first_of (codes "demand") rows ≡ Some inputs.demand
  pub costs : first_of (codes "costs") rows ≡ Some inputs.costs
  pub capacity : first_of (codes "capacity") rows ≡ Some inputs.capacity

-- the word for a kind of report
abbrev pub report_word : ReportKind → Text
report_word Load = codes "load"
report_word Region = codes "region"
report_word Shortage = codes "shortage"

-- the values of a subcommand are the order's
abbrev pub IsOrderIn : Order → Text → List Row → Type 0
IsOrderIn (order.LocatePlace option servers handle) name rows =
    (name ≡ codes "locate") × (first_of (codes "option") rows ≡ Some option)
    × (first_of (codes "servers") rows ≡ Some servers)
    × (first_of (codes "settings") rows ≡ None) × (first_of (codes "values") rows ≡ None)
    × (first_of (codes "handle") rows ≡ Some handle)
IsOrderIn (order.LocateSites settings values handle) name rows =
    (name ≡ codes "locate") × (first_of (codes "option") rows ≡ None) × (first_of (codes "servers") rows ≡ None)
    × (first_of (codes "settings") rows ≡ Some settings) × (first_of (codes "values") rows ≡ values)
    × (first_of (codes "handle") rows ≡ Some handle)
IsOrderIn (order.Site index file) name rows =
    (name ≡ codes "site") × (first_of (codes "index") rows ≡ index) × (first_of (codes "file") rows ≡ Some file)
IsOrderIn (order.Plan inputs) name rows = (name ≡ codes "plan") × HasInputs rows inputs
IsOrderIn (order.Check inputs plan) name rows =
    (name ≡ codes "check") × HasInputs rows inputs × (first_of (codes "plan") rows ≡ Some plan)
IsOrderIn (order.Dispatch inputs plan log fronts) name rows =
    (name ≡ codes "dispatch") × HasInputs rows inputs × (first_of (codes "plan") rows ≡ Some plan)
    × (first_of (codes "log") rows ≡ Some log)
    × (first_of (codes "fronts") rows ≡ fronts)
IsOrderIn (order.Report inputs plan kind) name rows =
    (name ≡ codes "report") × HasInputs rows inputs × (first_of (codes "plan") rows ≡ Some plan)
    × (first_of (codes "kind") rows ≡ Some (report_word kind))

-- no value asks for a place
abbrev pub HasNoPlace : List Row → Type 0
HasNoPlace rows = (first_of (codes "option") rows ≡ None) × (first_of (codes "servers") rows ≡ None)

-- the order of what clap's matches give
abbrev pub IsOrderOf : Order → Option (Text × List Row) → Type 0
IsOrderOf o None = ⊥
IsOrderOf o (Some (name, rows)) = IsOrderIn o name rows

-- the words give no order: clap refuses them, or what it found in them is the values of none
abbrev pub IsUsage : List Text → Type 0
IsUsage words = fault_of hsplan_app words ≡ [] → (o : Order) → IsOrderOf o (subcommand_of hsplan_app words) → ⊥
