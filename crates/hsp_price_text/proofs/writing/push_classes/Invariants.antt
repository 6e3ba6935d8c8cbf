use Rattle.std.proofs.Common.{◌≡◌, ◌++◌, map, drop}
use Rattle.hsp_cert.specs.Text.{unlines}
use Rattle.hsp_price_text.specs.Text.{class_line}
use Rattle.hsp_price_text.proofs.writing.push_classes.Given as goal

abbrev pub invariant-loop-class : goal.invariant-loop-class
invariant-loop-class l =
    l.out.items ++ unlines (map class_line (drop l.class-index l.classes))
    ≡ l.fn.out.items ++ unlines (map class_line l.classes)
