use Rattle.std.proofs.Common.{◌≡◌, ◌∙◌, ap, arith, inr, length, nat_lt, sym, false}
use Rattle.std.proofs.lemmas.Bool.{ltb-false}
use Rattle.csv.specs.Records.{fields_of}
use Rattle.hsp_tables.specs.Table.{regions_of, seen_with}
use Rattle.hsp_tables.proofs.KeptRows.{Spells, kept_next, kept_regions, kept_too_many, kept_twice}
use Rattle.hsp_tables.proofs.table.add_record.Goals as goal

pub returns-then-contains_key-clause-err : goal.returns-then-contains_key-clause-err
returns-then-contains_key-clause-err g c =
    let table = g.K.Kind.table in
    let entry = g.K.Kind.entry in
    let eq = g.K.Key.PartialEq.eq in
    let spells : Spells table entry eq g.met.K.Kind.same c.args.rows.now c.in_ok-key.key c.in_ok-key.number c.args.row
    (fields_of c.args.fields.now) c.contains_key.result =
    record {
      room = omega (arith, c.len.ensures.len, c.most_rows.ensures);
      spells = rw c.in-Some.ensures.found c.in_ok-key.ensures;
      looked = c.contains_key.ensures;
    } in
    inr
    (kept_twice table entry eq g.met.K.Kind.same c.args.rows.now c.in_ok-key.key c.in_ok-key.number _ _ _ spells
    c.if-contains_key.true)

pub returns-then-is_one_too_many-clause-err : goal.returns-then-is_one_too_many-clause-err
returns-then-is_one_too_many-clause-err g c =
    let table = g.K.Kind.table in
    let entry = g.K.Kind.entry in
    let eq = g.K.Key.PartialEq.eq in
    let spells : Spells table entry eq g.met.K.Kind.same c.args.rows.now c.in_ok-key.key c.in_ok-key.number c.args.row
    (fields_of c.args.fields.now) c.contains_key.result =
    record {
      room = omega (arith, c.len.ensures.len, c.most_rows.ensures);
      spells = rw c.in-Some.ensures.found c.in_ok-key.ensures;
      looked = c.contains_key.ensures;
    } in
    let many =
    sym (rw c.requires.regions at (c.is_one_too_many.ensures c.in_ok-key.number)) ∙ c.if-is_one_too_many.true in
    inr
    (kept_too_many table entry eq g.met.K.Kind.same c.args.rows.now c.in_ok-key.key c.in_ok-key.number _ _ _ spells
    c.if-contains_key.false many)

pub returns-clause-ok : goal.returns-clause-ok
returns-clause-ok g c =
    let table = g.K.Kind.table in
    let entry = g.K.Kind.entry in
    let eq = g.K.Key.PartialEq.eq in
    let spells : Spells table entry eq g.met.K.Kind.same c.args.rows.now c.in_ok-key.key c.in_ok-key.number c.args.row
    (fields_of c.args.fields.now) c.contains_key.result =
    record {
      room = omega (arith, c.len.ensures.len, c.most_rows.ensures);
      spells = rw c.in-Some.ensures.found c.in_ok-key.ensures;
      looked = c.contains_key.ensures;
    } in
    let few =
    sym (rw c.requires.regions at (c.is_one_too_many.ensures c.in_ok-key.number)) ∙ c.if-is_one_too_many.false in
    kept_next table entry eq g.met.K.Kind.same c.args.rows.now c.in_ok-key.key c.in_ok-key.number _ _ _ spells
    c.if-contains_key.false
    c.insert.new.self.entries c.in_ok-insert.ensures.entries few

pub returns-clause-regions : goal.returns-clause-regions
returns-clause-regions g c =
    let table = g.K.Kind.table in
    let entry = g.K.Kind.entry in
    let eq = g.K.Key.PartialEq.eq in
    let spells : Spells table entry eq g.met.K.Kind.same c.args.rows.now c.in_ok-key.key c.in_ok-key.number c.args.row
    (fields_of c.args.fields.now) c.contains_key.result =
    record {
      room = omega (arith, c.len.ensures.len, c.most_rows.ensures);
      spells = rw c.in-Some.ensures.found c.in_ok-key.ensures;
      looked = c.contains_key.ensures;
    } in
    rw (c.in_ok-see_region.ensures.ok c.in_ok-key.number, c.requires.regions)
    (kept_regions table entry eq g.met.K.Kind.same c.args.rows.now c.in_ok-key.key c.in_ok-key.number _ _ _ spells
    c.if-contains_key.false
    c.insert.new.self.entries c.in_ok-insert.ensures.entries)

pub returns-clause-few : goal.returns-clause-few
returns-clause-few g c =
    let few = sym (c.is_one_too_many.ensures c.in_ok-key.number) ∙ c.if-is_one_too_many.false in
    rw (c.in_ok-see_region.ensures.ok c.in_ok-key.number) (ltb-false g.K.Kind.table.most_regions _ few)
