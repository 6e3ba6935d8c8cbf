use Rattle.std.proofs.Common.{length, ◌≤◌, take}
use Rattle.std.specs.Io.KnownBytes.{Appends}
use Rattle.hsp_talk.proofs.sink.write_whole.Given as goal

-- what stands before `at` was written
abbrev pub invariant-loop-again : goal.invariant-loop-again
invariant-loop-again g l = record {
  within : l.at ≤ length l.octets;
  written : Appends (g.W.Write.contents l.fn.writer) (g.W.Write.contents l.writer) (take l.at l.octets);
}
