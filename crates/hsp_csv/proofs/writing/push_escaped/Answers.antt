use Rattle.std.proofs.Common.{drop}
use Rattle.std.proofs.lemmas.List.{drop_all, drop_more}
use Rattle.hsp_csv.proofs.EscapedFields.{all_escaped, one_escaped}
use Rattle.hsp_csv.proofs.writing.push_escaped.Goals as goal

pub loop-octet-preserved : goal.loop-octet-preserved
loop-octet-preserved c =
    one_escaped c.loop-octet.out.items c.push_octet.new.out.items
    (drop c.loop-octet.octet-index c.args.field.now) _ _ _
    (drop_more c.args.field.now c.loop-octet.octet-index 0 c.loop-octet-test.true)
    c.in_ok-push_octet.ensures c.loop-octet.invariant

pub returns : goal.returns
returns c =
    all_escaped c.loop-octet.out.items (drop c.loop-octet.octet-index c.args.field.now) _
    (drop_all c.loop-octet.octet-index c.args.field.now c.loop-octet-test.false) c.loop-octet.invariant
