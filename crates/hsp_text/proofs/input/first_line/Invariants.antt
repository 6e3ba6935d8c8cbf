use Rattle.std.proofs.Common.{◌≡◌, ◌≤◌, ◌-◌, length, false}
use Rattle.std.specs.List.{list_any}
use Rattle.std.specs.Io.KnownBytes.{Consumes}
use Rattle.hsp_text.specs.declared.limits.TheConstants.{LONGEST_FIRST_LINE}
use Rattle.hsp_text.specs.Input.{is_lf}
use Rattle.hsp_text.proofs.input.first_line.Given as goal

abbrev pub invariant-octets : goal.invariant-octets
invariant-octets g l = record {
  within : length l.line.items ≤ LONGEST_FIRST_LINE;
  unbroken : list_any is_lf l.line.items ≡ false;
  read : Consumes (g.R.Read.remaining l.fn.reader) (g.R.Read.remaining l.reader) l.line.items;
}

abbrev pub decreases-octets : goal.decreases-octets
decreases-octets g l = LONGEST_FIRST_LINE - length l.line.items
