use Rattle.std.proofs.Common.{◌∙◌, refl, sym}
use Rattle.hsp_log.specs.Entries.{Entry}
use Rattle.hsp_log.proofs.RowFields.{spells_event}
use Rattle.hsp_log.proofs.row_check.check_event.Goals as goal

pub returns-in_ok-check_handle-in-Ok-clause-good : goal.returns-in_ok-check_handle-in-Ok-clause-good
returns-in_ok-check_handle-in-Ok-clause-good c =
    let entry : Entry = record { region = c.in-Some._region.now; handle = c.in-Some.handle.now } in
    let number = sym c.read_whole.ensures ∙ c.in-Ok.is in (
      record { front = c.in-Ok.field-0; entry = entry },
      spells_event _ _ _ _ _ c.in-Some.ensures.found number refl refl c.in_ok-check_handle-in-Ok.ensures.good,
    )
