use Rattle.std.proofs.Common.{◌≡◌, ◌≤◌, drop, true}
use Rattle.std.specs.Str.{all_ascii_digits}
use Rattle.std.specs.Str.Parse.{digits_value, digits_value_after}
use Rattle.hsp_text.proofs.whole.read_whole.Given as goal

abbrev pub invariant-loop-digit : goal.invariant-loop-digit
invariant-loop-digit l = record {
  small : l.number ≤ l.max;
  digits : all_ascii_digits (drop l.digit-index l.text) ≡ true;
  told : digits_value_after 10 l.number (drop l.digit-index l.text) ≡ digits_value 10 l.text;
}
