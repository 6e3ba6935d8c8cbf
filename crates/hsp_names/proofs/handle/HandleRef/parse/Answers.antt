use Rattle.std.proofs.Common.{◌≡◌, rules, false, true}
use Rattle.std.specs.Str.{is_utf8}
use Rattle.std.proofs.lemmas.Str.{IsUtf8-from_is_utf8, is_utf8-from_IsUtf8}
use Rattle.std.proofs.lemmas.Bool.{both_ways}
use Rattle.hsp_names.specs.Handle.{has_segments, naming_authority, is_handle}
use Rattle.hsp_names.proofs.Reading.{is_one, none_without}
use Rattle.hsp_names.proofs.handle.HandleRef.parse.Goals as goal

pub returns-then-not-is_text-clause-fault : goal.returns-then-not-is_text-clause-fault
returns-then-not-is_text-clause-fault c =
    let not_text : is_utf8 c.args.octets.now ≡ false = search rules in (
      c.if-octets-gt-LONGEST_HANDLE.false,
      λ text. both_ways (is_utf8 c.args.octets.now) not_text (is_utf8-from_IsUtf8 c.args.octets.now text),
    )

pub returns-in_default-clause-fault : goal.returns-in_default-clause-fault
returns-in_default-clause-fault c =
    let text : is_utf8 c.args.octets.now ≡ true = search rules in
    (c.if-octets-gt-LONGEST_HANDLE.false, IsUtf8-from_is_utf8 c.args.octets.now text, c.in_default.ensures.none)

pub returns-then-not-has_segments-clause-fault : goal.returns-then-not-has_segments-clause-fault
returns-then-not-has_segments-clause-fault c =
    let text : is_utf8 c.args.octets.now ≡ true = search rules in
    let empty : has_segments (naming_authority c.args.octets.now) ≡ false = search rules in (
      c.if-octets-gt-LONGEST_HANDLE.false,
      IsUtf8-from_is_utf8 c.args.octets.now text,
      c.in-Some.ensures.some,
      none_without c.args.octets.now empty,
    )

pub returns-clause-handle : goal.returns-clause-handle
returns-clause-handle c = let told : is_handle c.args.octets.now ≡ true = search rules in is_one c.args.octets.now told
