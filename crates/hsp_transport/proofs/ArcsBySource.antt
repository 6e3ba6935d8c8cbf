-- The arcs of a network, source by source.
use Rattle.std.proofs.Common.{ℕ, ◌<◌, ◌==◌, inl, inr, List, [], ◌∷◌}
use Rattle.std.proofs.Common.{All, refl, eq-eqb}
use Rattle.std.proofs.lemmas.Bool.{cases_Bool}
use Rattle.std.proofs.lemmas.List.Elements.{All-cons, All-head, All-nil, All-tail}
use Rattle.hsp_transport.specs.Network.{Network}
use Rattle.hsp_transport.specs.Kinds.{Link, link_of, links_in}

module _ {A : Type 0} (site : A → ℕ) (n : Network A) where
  -- what holds of the links of each source holds of all arcs
  pub of_all : (P : ℕ → Link → Type 0) (rows : ℕ) (arcs : List A) → All (λ a. n.source a < rows) arcs
      → ((i : ℕ) → i < rows → All (P i) (links_in site n arcs i))
      → All (λ a. P (n.source a) (link_of site n a)) arcs
  of_all P rows [] inside each = All-nil (λ a. P (n.source a) (link_of site n a))
  of_all P rows (a ∷ rest) inside each =
      let first = each (n.source a) (All-head (λ b. n.source b < rows) a rest inside) in
      All-cons (λ b. P (n.source b) (link_of site n b)) a rest
      (All-head (P (n.source a)) (link_of site n a) (links_in site n rest (n.source a))
      (rw (eq-eqb (n.source a) (n.source a) refl) at first))
      (of_all P rows rest (All-tail (λ b. n.source b < rows) a rest inside)
      (λ i l. elim (cases_Bool (n.source a == i)) [
        | inl t ↦ All-tail (P i) (link_of site n a) (links_in site n rest i) (rw t at (each i l))
        | inr f ↦ rw f at (each i l)
      ]))
