use Rattle.std.proofs.Common.{◌∙◌}
use Rattle.hsp_csv.proofs.Marks.{marked, unmarked}
use Rattle.hsp_csv.proofs.row_fields.without_mark.Goals as goal

pub returns-in-Some : goal.returns-in-Some
returns-in-Some c = c.in-Some.ensures.cases.1 ∙ marked c.args.line.now c.in-Some.ensures.cases.0

pub returns-in-None : goal.returns-in-None
returns-in-None c = unmarked c.args.line.now c.in-None.ensures.cases
