use Rattle.std.proofs.Common.{◌≡◌, ◌∙◌, length, map, sym}
use Rattle.std.proofs.lemmas.List.{length-map}
use Rattle.hsp_tables.proofs.table.add_next.Goals as goal

pub returns-clause-ok : goal.returns-clause-ok
returns-clause-ok g c =
    let number : c.len-row.result ≡ length (map g.K.Kind.entry c.args.rows.now.entries)
    = c.len-row.ensures.len ∙ sym (length-map c.args.rows.now.entries g.K.Kind.entry) in
    rw number at c.add_record.ensures.ok

pub returns-clause-err : goal.returns-clause-err
returns-clause-err g c =
    let number : c.len-row.result ≡ length (map g.K.Kind.entry c.args.rows.now.entries)
    = c.len-row.ensures.len ∙ sym (length-map c.args.rows.now.entries g.K.Kind.entry) in
    rw number at c.add_record.ensures.err
