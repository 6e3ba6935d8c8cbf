use Rattle.std.proofs.Common.{◌≡◌, ◌++◌, map, drop}
use Rattle.hsp_cert.specs.Text.{line_of, unlines, use_items}
use Rattle.hsp_cert.proofs.writing.push_uses.Given as goal

abbrev pub invariant-loop-one : goal.invariant-loop-one
invariant-loop-one l =
    l.out.items ++ unlines (map line_of (use_items (drop l.one-index l.uses))) ≡ l.fn.out.items
    ++ unlines (map line_of (use_items l.uses))
