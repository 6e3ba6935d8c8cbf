-- The links of a row of a network whose arcs stand in one list a row.
use Rattle.std.proofs.Common.{◌≡◌, ℕ, zero, suc, ◌+◌, ◌<◌, ◌≤◌, List, [], ◌∷◌, ◌++◌, length, map, slice_index_or, All}
use Rattle.std.proofs.Common.{refl, ap, ap₂, sym, ◌∙◌, arith, eq-eqb, ne_eqb, append-nil}
use Rattle.std.proofs.lemmas.List.Elements.{All-append, All-nil, All-cons}
use Rattle.hsp_transport.specs.Kinds.{Link, links_in}
use Rattle.hsp_instance.specs.declared.arc.Arc.{Arc}
use Rattle.hsp_check.specs.declared.arc.NetworkArc.{NetworkArc}
use Rattle.hsp_check.specs.Instance.{arc_of, arcs_from}
use Rattle.hsp_check.specs.Network.{Network, site_of, transport}

-- an arc of an instance as a link
abbrev pub link : Arc → Link
link a = record { site = a.site; server = a.server; cost = a.cost }

module _ (n : Network) where
  abbrev links : List NetworkArc → ℕ → List Link
  links arcs i = links_in site_of (transport n) arcs i

  -- the links of two lists of arcs stand one after the other
  links_append : (xs ys : List NetworkArc) (i : ℕ) → links (xs ++ ys) i ≡ links xs i ++ links ys i
  links_append [] ys i = refl
  links_append (x ∷ xs) ys i = grind (arith, links_append xs ys i)

  -- the links of a row's own arcs are those arcs
  own_links : (arcs : List Arc) (j : ℕ) → links (map (arc_of j) arcs) j ≡ map link arcs
  own_links [] j = refl
  own_links (a ∷ arcs) j = grind (arith, own_links arcs j, eq-eqb j j refl)

  -- another row's arcs are no links of this row
  no_links : (arcs : List Arc) (j i : ℕ) → (j ≡ i → ⊥) → links (map (arc_of j) arcs) i ≡ []
  no_links [] j i ne = refl
  no_links (a ∷ arcs) j i ne = grind (arith, no_links arcs j i ne, ne_eqb j i ne)

  -- rows behind a row have no links of it
  before_links : (lists : List (List Arc)) (j i : ℕ) → i < j → links (arcs_from j lists) i ≡ []
  before_links [] j i l = refl
  before_links (arcs ∷ lists) j i l =
      links_append (map (arc_of j) arcs) (arcs_from (j + 1) lists) i
      ∙ ap₂ (λ x y. x ++ y) (no_links arcs j i (λ e. omega arith)) (before_links lists (j + 1) i (omega arith))

  -- the links of a row are its own list
  links_from : (lists : List (List Arc)) (j i : ℕ)
      → links (arcs_from j lists) (j + i) ≡ map link (slice_index_or lists i [])
  links_from [] j i = refl
  links_from (arcs ∷ lists) j zero =
      let e : j + 0 ≡ j = omega arith in
      ap (links (arcs_from j (arcs ∷ lists))) e
      ∙ links_append (map (arc_of j) arcs) (arcs_from (j + 1) lists) j
      ∙ ap₂ (λ x y. x ++ y) (own_links arcs j) (before_links lists (j + 1) j (omega arith)) ∙ append-nil (map link arcs)
  links_from (arcs ∷ lists) j (suc i) =
      let e : (j + 1) + i ≡ j + suc i = omega arith in
      links_append (map (arc_of j) arcs) (arcs_from (j + 1) lists) (j + suc i)
      ∙ ap₂ (λ x y. x ++ y) (no_links arcs j (j + suc i) (λ q. omega arith))
      (ap (links (arcs_from (j + 1) lists)) (sym e) ∙ links_from lists (j + 1) i)

  -- they are those of its list
  pub links_of_row : (lists : List (List Arc)) (i : ℕ)
      → links (arcs_from 0 lists) i ≡ map link (slice_index_or lists i [])
  links_of_row lists i =
      let e : 0 + i ≡ i = omega arith in ap (links (arcs_from 0 lists)) (sym e) ∙ links_from lists 0 i

-- each arc is of a row that is there
pub rows_below : (lists : List (List Arc)) (j most : ℕ) → j + length lists ≤ most
    → All (λ (a : NetworkArc). a.row < most) (arcs_from j lists)
rows_below [] j most l = All-nil (λ (a : NetworkArc). a.row < most)
rows_below (arcs ∷ lists) j most l =
    All-append (λ (a : NetworkArc). a.row < most) (map (arc_of j) arcs) (arcs_from (j + 1) lists) (own arcs)
    (rows_below lists (j + 1) most (omega arith))
  where
    own : (arcs : List Arc) → All (λ (a : NetworkArc). a.row < most) (map (arc_of j) arcs)
    own [] = All-nil (λ (a : NetworkArc). a.row < most)
    own (a ∷ rest) =
        All-cons (λ (b : NetworkArc). b.row < most) (arc_of j a) (map (arc_of j) rest) (omega arith) (own rest)
