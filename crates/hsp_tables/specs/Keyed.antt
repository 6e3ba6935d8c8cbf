-- Two names by which a row is kept, and the rows that are kept by them.
use Rattle.std.specs.Prelude.{ℕ, List, drop, take}
use Rattle.hsp_pair_map.specs.Pairs.{Pair}
use Rattle.hsp_tables.specs.Costs.{CostEntry}
use Rattle.hsp_tables.specs.Demand.{DemandEntry}

pub record PairName : Type 0 where
  pub first : List ℕ
  pub second : List ℕ

-- the names whose octets lie one after the other, so many of them the first's
abbrev pub names_cut : ℕ → List ℕ → PairName
names_cut cut octets = record { first = take cut octets; second = drop cut octets }

-- a row of demand is kept by its region and handle, a row of costs by its region and site
abbrev pub demand_entry : PairName × ℕ → DemandEntry
demand_entry e = record { region = e.0.first; handle = e.0.second; count = e.1 }

abbrev pub cost_entry : PairName × ℕ → CostEntry
cost_entry e = record { region = e.0.first; site = e.0.second; cost = e.1 }

-- the names of a row
abbrev pub pair_of : PairName × ℕ → Pair
pair_of e = record { first = e.0.first; second = e.0.second }
