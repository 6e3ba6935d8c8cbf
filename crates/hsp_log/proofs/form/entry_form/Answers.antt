use Rattle.std.proofs.Common.{◌∙◌, sym}
use Rattle.csv.specs.Records.{fields_of}
use Rattle.hsp_log.specs.Log.{header_of}
use Rattle.hsp_log.specs.declared.form.Form.TheVariants.{Handles, Bodies}
use Rattle.hsp_csv.proofs.SameFields.{same_fields_are}
use Rattle.hsp_log.proofs.RowFields.{is_no_header}
use Rattle.hsp_log.proofs.form.entry_form.Goals as goal

pub returns-then-is_header-clause-header : goal.returns-then-is_header-clause-header
returns-then-is_header-clause-header c =
    same_fields_are (fields_of c.args.record.now) (header_of Handles) (sym c.is_header.ensures ∙ c.if-is_header.true)

pub returns-then-is_header-2-clause-header : goal.returns-then-is_header-2-clause-header
returns-then-is_header-2-clause-header c =
    same_fields_are (fields_of c.args.record.now) (header_of Bodies) (sym c.is_header-2.ensures ∙ c.if-is_header-2.true)

pub returns-clause-none : goal.returns-clause-none
returns-clause-none c =
    is_no_header (fields_of c.args.record.now) (sym c.is_header.ensures ∙ c.if-is_header.false)
    (sym c.is_header-2.ensures ∙ c.if-is_header-2.false)
