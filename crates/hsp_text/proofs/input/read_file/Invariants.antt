use Rattle.std.proofs.Common.{◌≤◌, ◌-◌, length}
use Rattle.std.specs.Io.KnownBytes.{Consumes}
use Rattle.hsp_text.specs.declared.limits.TheConstants.{LARGEST_FILE}
use Rattle.hsp_text.proofs.input.read_file.Given as goal

abbrev pub invariant-pieces : goal.invariant-pieces
invariant-pieces g l = record {
  within : length l.whole.items ≤ LARGEST_FILE;
  read : Consumes (g.R.Read.remaining l.fn.reader) (g.R.Read.remaining l.reader) l.whole.items;
}

abbrev pub decreases-pieces : goal.decreases-pieces
decreases-pieces g l = LARGEST_FILE - length l.whole.items
