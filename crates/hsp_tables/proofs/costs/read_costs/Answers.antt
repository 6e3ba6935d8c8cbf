use Rattle.std.proofs.Common.{map}
use Rattle.hsp_csv.specs.Records.{records_of}
use Rattle.hsp_tables.specs.Keyed.{cost_entry}
use Rattle.hsp_tables.proofs.TableRows.{costs_are, costs_fit}
use Rattle.hsp_tables.proofs.costs.read_costs.Goals as goal

pub invariant_of-result : goal.invariant_of-result
invariant_of-result c =
    let rows = map cost_entry c.in_ok-rows.rows.entries in
    costs_fit c.args.limits rows ((costs_are c.args.limits (records_of c.args.text.now) rows).0 c.in_ok-rows.ensures).1
