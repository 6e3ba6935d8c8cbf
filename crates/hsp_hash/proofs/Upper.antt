-- A message put in upper case part by part.
use Rattle.std.proofs.Common.{◌≡◌, ◌++◌, ◌∙◌, ℕ, List, length, take, drop, map, ap, sym, append_assoc}
use Rattle.std.specs.Char.{to_ascii_uppercase}
use Rattle.std.proofs.lemmas.List.{map-append, take-append-drop}

-- a part more is done
pub done_with : (whole done rest part more : List ℕ) (n : ℕ) → whole ≡ done ++ rest → part ≡ take n rest
    → more ≡ drop n rest → whole ≡ (done ++ part) ++ more
done_with whole done rest part more n w p m =
    rw (w, p, m)
    (ap (λ (t : List ℕ). done ++ t) (sym (take-append-drop n rest))
    ∙ sym (append_assoc done (take n rest) (drop n rest)))

-- the block begins with the part in upper case
pub upper_with : (done part block : List ℕ) (n : ℕ) → take (length part) block ≡ map to_ascii_uppercase part
    → length part ≡ n →
    map to_ascii_uppercase done ++ take n block ≡ map to_ascii_uppercase (done ++ part)
upper_with done part block n b l =
    ap (λ (t : List ℕ). map to_ascii_uppercase done ++ t) (rw l at b) ∙ sym (map-append to_ascii_uppercase done part)
