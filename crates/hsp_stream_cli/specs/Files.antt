-- The files of commands.
use Rattle.std.specs.Prelude.{◌≡◌, ◌⊎◌, None, option_map}
use Rattle.hsp_cli.specs.Commands.{FailsNamed, HoldsNamed}
use Rattle.hsp_cli.specs.Files.{Disk}
use Rattle.hsp_cli_orders.specs.declared.stream_order.PriceFiles.{PriceFiles}
use Rattle.hsp_cli_orders.specs.declared.stream_order.ServiceFiles.{ServiceFiles}
use Rattle.hsp_cli_orders.specs.declared.stream_order.SiteFiles.{SiteFiles}
use Rattle.hsp_inputs.specs.declared.inputs.Inputs.{Inputs}
use Rattle.hsp_stream_cli.specs.declared.files.Priced.{Priced}
use Rattle.hsp_stream_cli.specs.declared.files.Sources.{Sources}

-- each source is what its own file holds
pub record AreSourcesHeld (disk : Disk) (files : SiteFiles) (sources : Sources) : Type 0 where
  pub settings_held : disk.holds files.settings sources.settings.items
  pub values_held : HoldsNamed disk files.values (option_map (λ v. v.items) sources.values)

-- the same of the inputs of a service, whose rows are those of a log
pub record AreServiceHeld (disk : Disk) (files : ServiceFiles) (inputs : Inputs) : Type 0 where
  pub settings_held : disk.holds files.settings inputs.settings.items
  pub values_held : HoldsNamed disk files.values (option_map (λ v. v.items) inputs.values)
  pub no_demand : inputs.demand ≡ None
  pub costs_held : disk.holds files.costs inputs.costs.items
  pub capacity_held : disk.holds files.capacity inputs.capacity.items

-- and of those with a certificate by prices
pub record ArePricesHeld (disk : Disk) (files : PriceFiles) (priced : Priced) : Type 0 where
  pub service_held : AreServiceHeld disk files.service priced.inputs
  pub prices_held : disk.holds files.prices priced.prices.items

-- one of the files may fail to be read
abbrev pub SourcesFail : Disk → SiteFiles → Type 0
SourcesFail disk files = disk.fails files.settings ⊎ FailsNamed disk files.values

abbrev pub ServiceFails : Disk → ServiceFiles → Type 0
ServiceFails disk files =
    disk.fails files.settings ⊎ FailsNamed disk files.values ⊎ disk.fails files.costs ⊎ disk.fails files.capacity

abbrev pub PricesFail : Disk → PriceFiles → Type 0
PricesFail disk files = ServiceFails disk files.service ⊎ disk.fails files.prices
