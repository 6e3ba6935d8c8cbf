-- Rows of demand, and the networks of rows.
use Rattle.std.specs.Prelude.{◌+◌, List, map}
use Rattle.hsp_tables.specs.Costs.{CostEntry}
use Rattle.hsp_instance.specs.Building.{arcs_from}
use Rattle.hsp_instance.specs.Instance.{Host, Row, Server, Site}
use Rattle.hsp_instance.specs.declared.arc.Arc.{Arc}
use Rattle.hsp_check.specs.Network.{Network}
use Rattle.hsp_check.specs.Instance.{network_of}

-- a row with the count of another row added
abbrev pub with_count_of : Row → Row → Row
with_count_of a b = record { region = a.region; handle = a.handle; count = a.count + b.count }

-- a service without its rows, of which there may be any number
pub record Service : Type 0 where
  pub costs : List CostEntry
  pub sites : List Site
  pub servers : List Server
  pub hosts : List Host

-- the network of rows, where a function says which arcs a row has
abbrev pub network_by : Service → (Row → List Arc) → List Row → Network
network_by at arcs rows =
    network_of
    (record { rows = rows; sites = at.sites; servers = at.servers; hosts = at.hosts; arcs = map arcs rows })

-- the network of rows with all their arcs
abbrev pub network_for : Service → List Row → Network
network_for at rows = network_by at (λ row. arcs_from at.costs row 0 0 at.sites) rows
