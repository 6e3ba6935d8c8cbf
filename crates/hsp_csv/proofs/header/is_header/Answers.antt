use Rattle.std.proofs.Common.{◌∙◌, sym, arith}
use Rattle.csv.specs.Records.{fields_of}
use Rattle.hsp_csv.proofs.Headers.{all_same, ends, goes_on, other_length}
use Rattle.hsp_csv.proofs.header.is_header.Goals as goal

pub returns-then-len-header : goal.returns-then-len-header
returns-then-len-header c =
    sym
    (other_length (fields_of c.args.«record».now) c.args.header.now
    (λ same. c.if-len-header.true (c.len.ensures ∙ same)))

pub loop-place-preserved : goal.loop-place-preserved
loop-place-preserved c =
    goes_on (fields_of c.args.«record».now) c.args.header.now c.loop-place.place _ c.loop-place-test.true
    (sym c.is_field.ensures ∙ c.if-not-is_field.false)
    ∙ c.loop-place.invariant

pub returns-then-not-is_field : goal.returns-then-not-is_field
returns-then-not-is_field c =
    sym
    (ends (fields_of c.args.«record».now) c.args.header.now c.loop-place.place _ c.loop-place-test.true
    (sym c.is_field.ensures ∙ c.if-not-is_field.true))
    ∙ c.loop-place.invariant

pub returns : goal.returns
returns c =
    sym
    (all_same (fields_of c.args.«record».now) c.args.header.now c.loop-place.place
    (sym c.len.ensures ∙ c.if-len-header.false) (omega arith))
    ∙ c.loop-place.invariant
