use Rattle.std.proofs.Common.{inr}
use Rattle.hsp_csv.specs.Records.{records_of}
use Rattle.hsp_tables.proofs.TableLaws.{table_of_headed, table_of_headless}
use Rattle.hsp_tables.proofs.table.read_table.Goals as goal

pub returns-then-not-branch : goal.returns-then-not-branch
returns-then-not-branch g c =
    let lacks = (rw c.if-not-branch.true at c.in_ok-take_header.ensures.header) c.read_records-records.ensures.known in
    inr
    (table_of_headless g.K.Kind.table (records_of c.args.text.now)
    (rw (c.read_records-records.ensures.records, c.requires) at lacks))

pub returns : goal.returns
returns g c =
    let took = (rw c.if-not-branch.false at c.in_ok-take_header.ensures.header) c.read_records-records.ensures.known in
    let headed = rw (c.read_records-records.ensures.records, c.requires) at took.0 in
    rw (table_of_headed g.K.Kind.table (records_of c.args.text.now) _ headed) c.rows_left.ensures
