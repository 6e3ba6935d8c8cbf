-- The network of a table's rows by prices, and the arcs of a row, by the page.
use Rattle.std.proofs.Common.{◌≡◌, ◌∙◌, List, [], ◌∷◌, Result, Ok, refl, sym}
use Rattle.hsp_csv.specs.Records.{records_of}
use Rattle.hsp_names.specs.Handle.{ReadingsAreHandles}
use Rattle.hsp_tables.specs.Costs.{CostEntry, cost_table}
use Rattle.hsp_tables.specs.Table.{table_of}
use Rattle.hsp_tables.specs.declared.fault.TableFault.{TableFault}
use Rattle.hsp_instance.specs.Building as building
use Rattle.hsp_instance.specs.Building.{IsBuilt, arcs_from}
use Rattle.hsp_instance.specs.Instance.{Instance, Row}
use Rattle.hsp_instance.proofs.BuiltParts.{BuiltOf, built_has_its_parts, built_of}
use Rattle.hsp_inputs.specs.Headline.{AreArcs, AreCosts, Defines}
use Rattle.hsp_inputs.specs.declared.inputs.Inputs.{Inputs}
use Rattle.hsp_inputs.proofs.Page.{Holds, costs_are_read_as, is_read}
use Rattle.hsp_inputs.proofs.PageArcs.{arcs_are}
use Rattle.hsp_inputs.proofs.PageBuilt.{is_built, sites_of_instance}
use Rattle.hsp_price_runs.specs.OneTheory.{RowsHaveTheirArcs, TableHasItsNetwork}
use Rattle.hsp_inputs.specs.Limits.{limits_of}

-- what was read of inputs that define an instance is built to it, with these costs
record ReadWith (inputs : Inputs) (it : Instance) (costs : List CostEntry) : Type 0 where
  read : building.Inputs
  built : BuiltOf read it
  costs_are : read.costs ≡ costs

module _ (handles : ReadingsAreHandles) where
  -- the costs of the page are those that were read
  read_with : (inputs : Inputs) (it : Instance) (costs : List CostEntry) → Defines inputs it
      → AreCosts (limits_of inputs) it.sites inputs.costs.items costs → ReadWith inputs it costs
  read_with inputs it costs page are =
      let (read, holds, built) = is_read handles inputs it page in
      let sites = sites_of_instance page.values page.settings.site.0 it.sites page.settings.site.2 in
      let both : ◌≡◌ {A = Result (List CostEntry) TableFault} (Ok read.costs) (Ok costs) =
      sym holds.costs ∙ costs_are_read_as (limits_of inputs) it.sites inputs.costs.items costs sites are in
      record { read = read; built = built_of read it built; costs_are = cc (both) }

  -- the arcs of the instance are built by the function that gives a row its arcs by prices
  pub table_has_its_network : TableHasItsNetwork
  table_has_its_network inputs it costs page are =
      let own = read_with inputs it costs page are in
      rw (own.built.arcs, own.costs_are) refl

  -- a row has the arcs of an instance whose only row it is
  pub rows_have_their_arcs : RowsHaveTheirArcs
  rows_have_their_arcs inputs it costs row page are =
      let own = read_with inputs it costs page are in
      let read : building.Inputs =
      record {
        settings = own.read.settings;
        values = own.read.values;
        demand = record { region = row.region; handle = row.handle; count = row.count } ∷ [];
        costs = own.read.costs;
        capacities = own.read.capacities;
      } in
      let made : Instance =
      record {
        rows = row ∷ [];
        sites = it.sites;
        servers = it.servers;
        hosts = it.hosts;
        arcs = arcs_from own.read.costs row 0 0 it.sites ∷ [];
      } in
      let built : BuiltOf read made = record {
        sites = own.built.sites;
        costs = own.built.costs;
        capacities = own.built.capacities;
        rows = refl;
        hosts = own.built.hosts;
        servers = own.built.servers;
        arcs = refl;
      } in
      let has = built_has_its_parts read made (is_built read made built) in
      let of : AreCosts (limits_of inputs) it.sites inputs.costs.items own.read.costs = rw own.costs_are are in
      let all : AreArcs own.read.costs made = arcs_are read made of.0.apart has refl refl in
      rw own.costs_are at (all.each 0 row (arcs_from own.read.costs row 0 0 it.sites) refl refl)
