use Rattle.hsp_csv.proofs.Shapes.{more_fields, no_fields, one_field, two_fields}
use Rattle.csv.specs.Records.{fields_of}
use Rattle.hsp_csv.proofs.row_fields.fields_of.Goals as goal

pub returns-in_default : goal.returns-in_default
returns-in_default c = no_fields (fields_of c.args.record.now) (rw c.in_default.is at c.get.ensures.value)

pub returns-in_default-get : goal.returns-in_default-get
returns-in_default-get c =
    one_field (fields_of c.args.record.now) _ c.in-Some.ensures.value (rw c.in_default-get.is at c.get-2.ensures.value)

pub returns-in-None : goal.returns-in-None
returns-in-None c =
    two_fields (fields_of c.args.record.now) _ _ c.in-Some.ensures.value c.in-Some-get.ensures.value
    c.in-None.ensures.value

pub returns-in-Some-get-2 : goal.returns-in-Some-get-2
returns-in-Some-get-2 c = more_fields (fields_of c.args.record.now) _ c.in-Some-get-2.ensures.value
