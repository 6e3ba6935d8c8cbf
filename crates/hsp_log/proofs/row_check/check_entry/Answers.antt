use Rattle.std.proofs.Common.{◌∙◌, refl}
use Rattle.hsp_log.specs.Entries.{Entry}
use Rattle.hsp_log.proofs.RowFields.{spells}
use Rattle.hsp_log.proofs.row_check.check_entry.Goals as goal

pub returns-in_ok-check_handle-in-Handles-clause-good : goal.returns-in_ok-check_handle-in-Handles-clause-good
returns-in_ok-check_handle-in-Handles-clause-good c =
    let entry : Entry = record { region = c.in-Some._region.now; handle = c.in-Some.field.now } in (
      entry,
      spells c.args.form _ _ _ entry c.in-Some.ensures.found refl (rw c.in-Handles.is refl)
          c.in_ok-check_handle-in-Handles.ensures.good,
    )

pub returns-in_ok-check_handle-in-Bodies-clause-good : goal.returns-in_ok-check_handle-in-Bodies-clause-good
returns-in_ok-check_handle-in-Bodies-clause-good c =
    let entry : Entry = record { region = c.in-Some._region.now; handle = c.handle.result.now } in (
      entry,
      spells c.args.form _ _ _ entry c.in-Some.ensures.found refl
          (rw c.in-Bodies.is (
            _,
            c.in-Some-request_in.ensures.0,
            rw c.in-Some-2.is at c.in_ok-octets-in-Bodies.ensures,
            rw c.deref.ensures.value at c.in-Some-request_in.ensures.1,
            c.handle.ensures ∙ c.in-Some-request_in.ensures.2,
          ))
          c.in_ok-check_handle-in-Bodies.ensures.good,
    )
