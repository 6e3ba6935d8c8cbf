use Rattle.std.proofs.Common.{map}
use Rattle.hsp_csv.specs.Records.{records_of}
use Rattle.hsp_tables.specs.Keyed.{demand_entry}
use Rattle.hsp_tables.proofs.TableRows.{demand_is_read}
use Rattle.hsp_tables.proofs.demand.read_demand.Goals as goal

pub demand_of-requires : goal.demand_of-requires
demand_of-requires c =
    ((demand_is_read (records_of c.args.text.now) (map demand_entry c.in_ok-rows.rows.entries)).0
    c.in_ok-rows.ensures).1
