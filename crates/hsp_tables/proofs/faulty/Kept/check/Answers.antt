use Rattle.std.proofs.Common.{◌≡◌, ◌∙◌, Err, ap, map, sym}
use Rattle.csv.specs.Records.{fields_of}
use Rattle.hsp_csv.specs.Walks.{shown}
use Rattle.hsp_tables.specs.Table.{row_at}
use Rattle.hsp_tables.proofs.FaultyRows.{none_added, not_memory, refused_alone}
use Rattle.hsp_tables.proofs.faulty.Kept.check.Goals as goal

pub returns-in_default : goal.returns-in_default
returns-in_default g c =
    let table = g.K.Kind.table in
    let entries = c.args.self.now.rows.entries in
    let earlier = map g.K.Kind.entry entries in
    let read = row_at table c.args.self.now.row earlier (shown c.args.placed.now).fields in
    let err = not_memory c.in-Err.ensures.err c.in_default.not-OutOfMemory in
    let kept = not_memory c.in-Err.ensures.kept c.in_default.not-OutOfMemory in
    let refused : read ≡ Err c.in-Err.fault =
    rw (← c.fields.ensures)
    (refused_alone (row_at table c.args.self.now.row) earlier (fields_of c.fields.result.now) c.in-Err.fault err) in
    record {
      checked = c.faulty.ensures read refused;
      rows = rw kept.0 (none_added earlier read c.in-Err.fault refused);
      row = c.saturating_add-self.ensures;
      whole = rw (kept.0, kept.1) c.requires;
    }
