-- What queries from a region cost at each site, and the arcs by these costs.
use Rattle.std.specs.Prelude.{◌≡◌, ◌+◌, ℕ, List, [], ◌∷◌, ◌++◌, length, map, Option, Vec}
use Rattle.std.specs.declared.alloc.Global.{Global}
use Rattle.hsp_tables.specs.Costs.{CostEntry}
use Rattle.hsp_tables.specs.Demand.{DemandEntry}
use Rattle.hsp_instance.specs.Building.{arc_to, arcs_from, cost_of, row_of}
use Rattle.hsp_instance.specs.Instance.{Site}
use Rattle.hsp_instance.specs.declared.arc.Arc.{Arc}

-- a region with what a query from there costs at each site
abbrev pub KnownRegion : Type 0
KnownRegion = Vec ℕ Global × Vec (Option ℕ) Global

abbrev pub costs_of_entry : KnownRegion → List (Option ℕ)
costs_of_entry known = known.1.items

-- what a query from a region costs at each of the sites
abbrev pub costs_at : List CostEntry → List ℕ → List Site → List (Option ℕ)
costs_at table region sites = map (λ site. cost_of table region site.name) sites

-- the costs of a region are those of the table
abbrev pub HasCosts : List CostEntry → List Site → KnownRegion → Type 0
HasCosts table sites known = costs_of_entry known ≡ costs_at table known.0.items sites

-- the arcs for a handle to the sites from site `n` on, whose servers are numbered from `first` on, by the cost at each
abbrev pub arcs_by : List ℕ → ℕ → ℕ → List Site → List (Option ℕ) → List Arc
arcs_by handle n first [] costs = []
arcs_by handle n first (site ∷ more) [] = []
arcs_by handle n first (site ∷ more) (cost ∷ costs) =
    arc_to handle n first site cost ++ arcs_by handle (n + 1) (first + length site.servers) more costs

-- the arcs of a row of demand to the sites
abbrev pub arcs_of : List CostEntry → List Site → DemandEntry → List Arc
arcs_of table sites entry = arcs_from table (row_of entry) 0 0 sites
