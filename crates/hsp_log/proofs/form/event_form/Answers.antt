use Rattle.std.proofs.Common.{◌∙◌, sym}
use Rattle.csv.specs.Records.{fields_of}
use Rattle.hsp_log.specs.Log.{front_header}
use Rattle.hsp_csv.proofs.SameFields.{is_other, same_fields_are}
use Rattle.hsp_log.proofs.form.event_form.Goals as goal

pub returns-then-is_header-clause-header : goal.returns-then-is_header-clause-header
returns-then-is_header-clause-header c =
    same_fields_are (fields_of c.args.record.now) front_header (sym c.is_header.ensures ∙ c.if-is_header.true)

pub returns-clause-none : goal.returns-clause-none
returns-clause-none c =
    is_other (fields_of c.args.record.now) front_header (sym c.is_header.ensures ∙ c.if-is_header.false)
