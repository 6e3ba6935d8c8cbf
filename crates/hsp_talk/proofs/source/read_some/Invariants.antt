use Rattle.std.proofs.Common.{◌≡◌, length}
use Rattle.std.specs.Io.KnownBytes.{Keeps}
use Rattle.hsp_talk.proofs.source.read_some.Given as goal

-- nothing was read yet
abbrev pub invariant-loop-again : goal.invariant-loop-again
invariant-loop-again g l = record {
  long : length l.piece ≡ length l.fn.piece;
  unread : Keeps (g.R.Read.remaining l.fn.reader) (g.R.Read.remaining l.reader);
}
