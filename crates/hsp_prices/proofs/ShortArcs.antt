-- A flagged group reaches the servers of all its arcs.
use Rattle.std.proofs.Common.{◌≡◌, ℕ, zero, suc, ◌+◌, ◌<◌, ◌==◌, ◌&&◌, ◌∙◌, inl, inr, Bool, true, List, [], ◌∷◌}
use Rattle.std.proofs.Common.{length, map, slice_index, slice_index_or, refl, ap, ap₂, sym, subst, arith, eq-eqb}
use Rattle.std.specs.List.{list_all, list_any}
use Rattle.std.proofs.lemmas.Bool.{and_from, or_cases, or_left, or_right}
use Rattle.std.proofs.lemmas.List.{get_or-map, length-map}
use Rattle.std.proofs.lemmas.List.Folds.{list_any-append, list_any_at}
use Rattle.hsp_transport.specs.Cut.{reaches}
use Rattle.hsp_transport.specs.Sums.{any_below}
use Rattle.hsp_transport.proofs.Places.{any_number, any_place, any_same}
use Rattle.hsp_network.specs.Network.{numbered}
use Rattle.hsp_instance.specs.declared.arc.Arc.{Arc}
use Rattle.hsp_check.specs.declared.arc.NetworkArc.{NetworkArc}
use Rattle.hsp_check.specs.Instance.{arc_of, arcs_from}
use Rattle.hsp_prices.specs.Rows.{Service}
use Rattle.hsp_prices.specs.Groups.{Group, network_of_groups}

abbrev no_arc : NetworkArc
no_arc = record { row = 0; site = 0; server = 0; cost = 0 }

module _ (flag : ℕ → Bool) (j : ℕ) where
  -- the arc leads from a flagged row to the server
  abbrev pub leads : NetworkArc → Bool
  leads a = flag a.row && a.server == j

  -- some arc of a flagged row leads there where some of its arcs does
  own_leads : (n : ℕ) → flag n ≡ true → (arcs : List Arc) → list_any (λ (a : Arc). a.server == j) arcs ≡ true
      → list_any leads (map (arc_of n) arcs) ≡ true
  own_leads n set [] e = e
  own_leads n set (a ∷ arcs) e =
      elim (or_cases (a.server == j) (list_any (λ (b : Arc). b.server == j) arcs) e) [
        | inl here ↦
            or_left (flag n && a.server == j) (list_any leads (map (arc_of n) arcs))
            (and_from (flag n) (a.server == j) set here)
        | inr later ↦
            or_right (flag n && a.server == j) (list_any leads (map (arc_of n) arcs)) (own_leads n set arcs later)
      ]

  -- the same of the arcs of all rows
  some_leads : (lists : List (List Arc)) (n i : ℕ) (d : List Arc) → i < length lists → flag (n + i) ≡ true
      → list_any (λ (a : Arc). a.server == j) (slice_index_or lists i d) ≡ true
      → list_any leads (arcs_from n lists) ≡ true
  some_leads [] n i d l set e = absurd (omega arith)
  some_leads (arcs ∷ rest) n zero d l set e =
      let same : n + 0 ≡ n = omega arith in
      list_any-append leads (map (arc_of n) arcs) (arcs_from (n + 1) rest)
      ∙ or_left (list_any leads (map (arc_of n) arcs)) (list_any leads (arcs_from (n + 1) rest))
      (own_leads n (rw same at set) arcs e)
  some_leads (arcs ∷ rest) n (suc i) d l set e =
      let same : n + suc i ≡ n + 1 + i = omega arith in
      list_any-append leads (map (arc_of n) arcs) (arcs_from (n + 1) rest)
      ∙ or_right (list_any leads (map (arc_of n) arcs)) (list_any leads (arcs_from (n + 1) rest))
      (some_leads rest (n + 1) i d (omega arith) (subst (λ m. flag m ≡ true) same set) e)

-- a test that all arcs' servers pass, arc by arc
all_pass : (test : ℕ → Bool) (arcs : List Arc)
    → ((k : ℕ) (d : Arc) → k < length arcs → test (slice_index_or arcs k d).server ≡ true)
    → list_all (λ arc. test arc.server) arcs ≡ true
all_pass test [] each = refl
all_pass test (a ∷ arcs) each =
    and_from (test a.server) (list_all (λ arc. test arc.server) arcs) (each zero a (omega arith))
    (all_pass test arcs (λ k d l. each (suc k) d (omega arith)))

module _ (at : Service) (groups : List Group) (flag : ℕ → Bool) where
  abbrev arcs : List NetworkArc
  arcs = arcs_from 0 (map (λ group. group.arcs) groups)

  -- what the flagged sources of the columns reach, by arcs
  pub reaches_is : (j : ℕ) → list_any (leads flag j) arcs ≡ reaches (numbered (network_of_groups at groups)) flag j
  reaches_is j =
      let sources = map (λ (a : NetworkArc). a.row) arcs in
      let servers = map (λ (a : NetworkArc). a.server) arcs in
      any_place (leads flag j) no_arc arcs
      ∙ any_same (length arcs) (λ k. leads flag j (slice_index_or arcs k no_arc))
      (λ k. flag (slice_index sources k) && slice_index servers k == j)
      (λ k l.
      ap₂ (λ r s. flag r && s == j) (sym (get_or-map (λ (a : NetworkArc). a.row) arcs k no_arc 0 l))
      (sym (get_or-map (λ (a : NetworkArc). a.server) arcs k no_arc 0 l)))
      ∙ ap (λ c. any_below c (λ k. flag (slice_index sources k) && slice_index servers k == j))
      (sym (length-map arcs (λ (a : NetworkArc). a.row)))
      ∙ sym (any_number (λ k. flag (slice_index sources k) && slice_index servers k == j) (length sources))

  -- a flagged group reaches the servers of its arcs
  pub group_reaches : (i : ℕ) (d : Group) → i < length groups → flag i ≡ true
      → list_all (λ arc. reaches (numbered (network_of_groups at groups)) flag arc.server)
      (slice_index_or groups i d).arcs ≡ true
  group_reaches i d l set =
      let own = (slice_index_or groups i d).arcs in
      let lists = map (λ (group : Group). group.arcs) groups in
      let is : slice_index_or lists i [] ≡ own = get_or-map (λ (group : Group). group.arcs) groups i d [] l in
      let many : length lists ≡ length groups = length-map groups (λ (group : Group). group.arcs) in
      let first : 0 + i ≡ i = omega arith in
      all_pass (reaches (numbered (network_of_groups at groups)) flag) own (λ k e m.
      let j = (slice_index_or own k e).server in
      sym (reaches_is j)
      ∙ some_leads flag j lists 0 i [] (omega arith) (rw first set)
      (ap (list_any (λ (a : Arc). a.server == j)) is
      ∙ list_any_at (λ (a : Arc). a.server == j) own k e m (eq-eqb j j refl)))
