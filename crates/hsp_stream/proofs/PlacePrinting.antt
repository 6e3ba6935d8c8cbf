-- Lines that are written piece by piece.
use Rattle.std.proofs.Common.{◌≡◌, ◌∙◌, ℕ, ◌+◌, List, [], ◌∷◌, ◌++◌, Option, Some, None, drop, option_map, refl}
use Rattle.std.proofs.Common.{ap, sym, append_assoc}
use Rattle.std.specs.List.{slice_get}
use Rattle.hsp_instance.specs.Instance.{Site}
use Rattle.hsp_instance.proofs.Lists.{drop_at}
use Rattle.hsp_stream.specs.PlaceLines.{place_line, place_lines}

-- the pieces of a line, one after the other
pub line_pieces : (out a b p i n1 n2 n3 n4 n5 n6 n7 n8 : List ℕ) → n1 ≡ out ++ a → n2 ≡ n1 ++ 44 ∷ [] → n3 ≡ n2 ++ b
    → n4 ≡ n3 ++ 44 ∷ [] → n5 ≡ n4 ++ p → n6 ≡ n5 ++ 44 ∷ [] → n7 ≡ n6 ++ i → n8 ≡ n7 ++ 10 ∷ []
    → n8 ≡ out ++ (a ++ (44 ∷ (b ++ (44 ∷ (p ++ (44 ∷ (i ++ 10 ∷ [])))))))
line_pieces out a b p i n1 n2 n3 n4 n5 n6 n7 n8 e1 e2 e3 e4 e5 e6 e7 e8 =
    rw (e8, e7, e6, e5, e4, e3, e2, e1) (simp append_assoc)

-- the line of one site more is written
pub one_placed : (handle out new : List ℕ) (sites : List Site) (n : ℕ) (whole : List ℕ)
    → option_map (λ site. out ++ place_line handle site) (slice_get sites n) ≡ Some new
    → out ++ place_lines handle (drop n sites) ≡ whole → new ++ place_lines handle (drop (n + 1) sites) ≡ whole
one_placed handle out new sites n whole line all = by (slice_get sites n) refl line
  where
    by : (site : Option Site) → slice_get sites n ≡ site
        → option_map (λ site. out ++ place_line handle site) site ≡ Some new
        → new ++ place_lines handle (drop (n + 1) sites) ≡ whole
    by None at e = let none : ◌≡◌ {A = Option (List ℕ)} None (Some new) = e in cc
    by (Some site) at e =
        let is : out ++ place_line handle site ≡ new = cc e in
        ap (λ o. o ++ place_lines handle (drop (n + 1) sites)) (sym is)
        ∙ append_assoc out (place_line handle site) (place_lines handle (drop (n + 1) sites))
        ∙ ap (λ left. out ++ place_lines handle left) (sym (drop_at sites n site at)) ∙ all
