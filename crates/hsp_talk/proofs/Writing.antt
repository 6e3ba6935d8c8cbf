-- A text that was written whole, before what was written was handed on.
use Rattle.std.specs.Prelude.{OnErr}
use Rattle.std.proofs.Common.{◌∙◌, ◌++◌, ℕ, List, Option, Some, None, Result, Ok, Err, length, ap, sym}
use Rattle.std.proofs.KnownBytes.{Appends-kept}
use Rattle.std.specs.Io.KnownBytes.{Appends, Keeps}
use Rattle.std.proofs.Math.Seq.{take-length}
use Rattle.hsp_talk.specs.Writing.{IsBegun, Puts}

-- what stays is the whole text
kept_whole : (a b c : Option (List ℕ)) (text : List ℕ) → Appends a b text → Keeps b c → IsBegun a c text
kept_whole None b c text written kept = (0, tt)
kept_whole (Some x) None c text written kept = absurd written
kept_whole (Some x) (Some y) None text written kept = absurd kept
kept_whole (Some x) (Some y) (Some z) text written kept =
    (length text, kept ∙ written ∙ ap (λ (t : List ℕ). x ++ t) (sym (take-length text)))

-- a text that was written whole was put, if what was written was handed on
pub put_whole : {E : Type 0} (MayFail : Type 0) (a b c : Option (List ℕ)) (text : List ℕ) (handed : Result (Unit {0}) E)
    → Appends a b text → Keeps b c
    → OnErr handed MayFail → Puts MayFail text a c handed
put_whole MayFail a b c text (Ok done) written kept may = Appends-kept a b c text written kept
put_whole MayFail a b c text (Err failed) written kept may = (may, kept_whole a b c text written kept)
