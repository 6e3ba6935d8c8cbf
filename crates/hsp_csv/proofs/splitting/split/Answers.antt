use Rattle.std.proofs.Common.{◌≡◌, ◌∙◌, eq-eqb, eqb-true, length, sym, true≢false}
use Rattle.hsp_csv.proofs.PlainLines.{row_of_more, row_of_empty, row_of_one, row_of_two}
use Rattle.hsp_csv.proofs.splitting.split.Goals as goal

pub returns-then-is_empty : goal.returns-then-is_empty
returns-then-is_empty c =
    sym
    (row_of_empty c.args.line.now (eqb-true (length c.args.line.now) 0 (sym c.is_empty.ensures ∙ c.if-is_empty.true)))

pub returns-in_default : goal.returns-in_default
returns-in_default c =
    let some =
    λ (e : length c.args.line.now ≡ 0). true≢false
    (sym (eq-eqb (length c.args.line.now) 0 e) ∙ sym c.is_empty.ensures ∙ c.if-is_empty.false) in
    sym (row_of_one c.args.line.now c.requires some c.in_default.ensures)

pub returns-in-None : goal.returns-in-None
returns-in-None c =
    sym
    (row_of_two c.args.line.now c.in-Some.first.now c.in-Some.rest.now c.requires c.in-Some.ensures.0
    c.in-Some.ensures.1 c.in-None.ensures)

pub returns-in-Some-split_at_comma : goal.returns-in-Some-split_at_comma
returns-in-Some-split_at_comma c =
    let again = c.in-Some-split_at_comma.ensures in
    sym
    (row_of_more c.args.line.now c.in-Some.first.now c.in-Some.rest.now _ _ c.requires c.in-Some.ensures.0
    c.in-Some.ensures.1 again.0 again.1)
