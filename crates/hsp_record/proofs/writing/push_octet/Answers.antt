use Rattle.std.proofs.Common.{◌++◌, List, ℕ, sym, ap, ◌∙◌}
use Rattle.hsp_record.proofs.Appending.{octet_itself}
use Rattle.hsp_record.proofs.writing.push_octet.Goals as goal

pub returns : goal.returns
returns c =
    c.in_ok-push.ensures.items
    ∙ ap (λ (l : List ℕ). c.args.out.now.items ++ l) (sym (octet_itself c.args.octet c.ranges.octet.fits))
