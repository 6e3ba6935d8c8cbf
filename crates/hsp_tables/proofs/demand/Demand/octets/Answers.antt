use Rattle.std.proofs.Common.{refl}
use Rattle.std.proofs.lemmas.Option.{slice_get-map}
use Rattle.hsp_tables.proofs.TableRows.{handle_was_read}
use Rattle.hsp_tables.proofs.demand.Demand.octets.Goals as goal

pub returns-clause-handle : goal.returns-clause-handle
returns-clause-handle c =
    handle_was_read c.args.self.now c.args.number c.first.result.now c.second.result.now c.unwrap.result.1.now
    (rw c.self.view_is at c.self.invariant.0)
    (rw (
      ← c.self.view_is,
      slice_get-map,
      ← c.deref.ensures,
      ← c.get_index.ensures.entry,
      c.unwrap.ensures,
      c.first.ensures,
      c.second.ensures,
    ) refl)
