-- What stands at the beginning of a text stays when more is put behind it.
use Rattle.std.proofs.Common.{◌≡◌, ◌++◌, List, [], ◌∷◌, length, refl, take}
use Rattle.std.proofs.Math.Seq.{take-append_seam}

-- a text is the beginning of itself with more behind it
pub kept_behind : {A : Type 0} → (text more : List A) → take (length text) (text ++ more) ≡ text
kept_behind text more = take-append_seam text more

-- the beginning of a text is that of the text with more behind it
pub kept_on : {A : Type 0} → (start text more : List A) → take (length start) text ≡ start
    → take (length start) (text ++ more) ≡ start
kept_on [] text more kept = refl
kept_on (s ∷ start) [] more kept = cc (kept)
kept_on (s ∷ start) (x ∷ text) more kept =
    let first : x ≡ s = cc (kept) in
    let rest : take (length start) text ≡ start = cc (kept) in
    rw (kept_on start text more rest, first) refl
