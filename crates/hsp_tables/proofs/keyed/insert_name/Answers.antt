use Rattle.std.proofs.Common.{◌∙◌, ap, sym, List, ℕ}
use Rattle.std.specs.Str.{bytes_eq}
use Rattle.indexmap.specs.IndexSet.{insert_key}
use Rattle.hsp_tables.specs.KeyedRows.{names_in}
use Rattle.hsp_tables.proofs.SeenNames.{names_in-insert_key, seen_before}
use Rattle.hsp_tables.proofs.keyed.insert_name.Goals as goal

pub returns-in_ok-insert : goal.returns-in_ok-insert
returns-in_ok-insert c =
    let old = c.args.names.now.keys in
    ap names_in c.in_ok-insert.ensures.keys ∙ names_in-insert_key c.in_ok-from_slice.field-0 old
    ∙ ap (λ (t : List ℕ). insert_key bytes_eq (names_in old) t) c.in_ok-from_slice.ensures.items

pub returns-else-not-contains : goal.returns-else-not-contains
returns-else-not-contains c =
    seen_before c.args.name.now c.args.names.now.keys (sym c.contains.ensures ∙ c.if-not-contains.false)
