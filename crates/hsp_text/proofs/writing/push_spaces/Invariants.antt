use Rattle.std.proofs.Common.{◌≡◌, ◌++◌, replicate}
use Rattle.hsp_text.proofs.writing.push_spaces.Given as goal

abbrev pub invariant-loop-place : goal.invariant-loop-place
invariant-loop-place l = l.out.items ≡ l.fn.out.items ++ replicate l._place 32
