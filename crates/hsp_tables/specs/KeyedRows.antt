-- Rows and names of the maps and sets that hold them, without where they lie in memory.
use Rattle.std.specs.Prelude.{ℕ, List, Vec, map}
use Rattle.std.specs.declared.alloc.Global.{Global}
use Rattle.hsp_tables.specs.Capacities.{CapacityEntry}
use Rattle.hsp_tables.specs.declared.keyed.ServerKey.{ServerKey}

abbrev pub server_entry : ServerKey × ℕ → CapacityEntry
server_entry e = record { site = e.0.site.items; server_id = e.0.server_id; capacity = e.1 }

abbrev pub names_in : List (Vec ℕ Global) → List (List ℕ)
names_in keys = map (λ (k : Vec ℕ Global). k.items) keys
