use Rattle.std.proofs.Common.{◌≡◌, ◌++◌, drop, length, take}
use Rattle.hsp_text.specs.Writing.{numbered, spaced}
use Rattle.hsp_text.proofs.writing.push_line_part.Given as goal

abbrev pub invariant-loop-number : goal.invariant-loop-number
invariant-loop-number l = record {
  line : l.out.items ++ spaced (drop l.number-index l.numbers) ≡ l.fn.out.items ++ numbered l.word l.numbers;
  kept : take (length l.fn.out.items) l.out.items ≡ l.fn.out.items;
}
