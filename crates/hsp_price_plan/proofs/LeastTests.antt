-- The least pay over arcs, as a test of each arc.
use Rattle.std.proofs.Common.{◌≡◌, ◌≤◌, ◌<◌, ◌+◌, ◌-◌, ◌^◌, ◌∙◌, inl, inr, ℕ, Bool, List, [], ◌∷◌}
use Rattle.std.proofs.Common.{add-zero, ap, arith, drop, get_or, length, map, min, refl, sym}
use Rattle.std.proofs.Math.Bool.{and-true, and_assoc}
use Rattle.std.proofs.lemmas.Bool.{and_left, and_right, and_from, cases_lt, le-leb, lt-leb}
use Rattle.std.proofs.lemmas.List.{drop_all, drop_more}
use Rattle.std.specs.Prelude.{◌&&◌, nat_le}
use Rattle.std.specs.List.{AllByRecursion, list_all}
use Rattle.hsp_instance.specs.declared.arc.Arc.{Arc}
use Rattle.hsp_prices.specs.Least.{is_least}
use Rattle.hsp_prices.specs.KeptRows.{KeptArc, kept_if}
use Rattle.hsp_price_plan.specs.Entries.{bare_arcs, entry_arc}
use Rattle.hsp_price_plan.specs.Keeping.{is_near, least_from}
use Rattle.hsp_price_plan.specs.declared.region.SiteCost.{SiteCost}
use Rattle.hsp_price_plan.proofs.ArcEntries.{get_or-bare_arcs, length-bare_arcs}

-- a number is at most the smaller of two where it is at most each
at_most_both : (p a b : ℕ) → nat_le p (min a b) ≡ (nat_le p a && nat_le p b)
at_most_both p a b = elim (cases_lt a p) [
  | inl low ↦ lt-leb p (min a b) (omega (arith, low)) ∙ sym (and_left _ _ (lt-leb p a low))
  | inr high ↦ elim (cases_lt b p) [
    | inl low ↦ lt-leb p (min a b) (omega (arith, low)) ∙ sym (and_right _ _ (lt-leb p b low))
    | inr other ↦
        le-leb p (min a b) (omega (arith, high, other))
        ∙ sym (and_from _ _ (le-leb p a high) (le-leb p b other))
  ]
]

module _ (pay : Arc → ℕ) (window p : ℕ) where
  -- a window from the least of two is one from each
  least_step : (least : ℕ) (arc : Arc)
      → nat_le p (min least (pay arc) + window) ≡ (nat_le p (least + window) && nat_le p (pay arc + window))
  least_step least arc =
      let both : min least (pay arc) + window ≡ min (least + window) (pay arc + window) = omega arith in
      ap (nat_le p) both ∙ at_most_both p (least + window) (pay arc + window)

  -- a number is at most the least and a window where it is at most each pay and the window
  pub least_test : (least : ℕ) (arcs : List Arc)
      → nat_le p (least_from pay least arcs + window)
      ≡ (nat_le p (least + window) && list_all (λ other. nat_le p (pay other + window)) arcs)
  least_test least [] = sym (and-true (nat_le p (least + window)))
  least_test least (arc ∷ arcs) =
      least_test (min least (pay arc)) arcs
      ∙ ap (λ b. b && list_all (λ other. nat_le p (pay other + window)) arcs) (least_step least arc)
      ∙ and_assoc (nat_le p (least + window)) (nat_le p (pay arc + window))
      (list_all (λ other. nat_le p (pay other + window)) arcs)

-- of a pay that fits 64 bits
pub near_test : (pay : Arc → ℕ) (window : ℕ) (arcs : List Arc) (arc : Arc) → pay arc < 2 ^ 64
    → nat_le (pay arc) (min (least_from pay (2 ^ 64 - 1) arcs + window) (2 ^ 64 - 1)) ≡ is_near pay window arcs arc
near_test pay window arcs arc small =
    at_most_both (pay arc) (least_from pay (2 ^ 64 - 1) arcs + window) (2 ^ 64 - 1)
    ∙ ap (λ b. nat_le (pay arc) (least_from pay (2 ^ 64 - 1) arcs + window) && b)
    (le-leb (pay arc) (2 ^ 64 - 1) (omega (arith, small)))
    ∙ and-true (nat_le (pay arc) (least_from pay (2 ^ 64 - 1) arcs + window))
    ∙ least_test pay window (pay arc) (2 ^ 64 - 1) arcs
    ∙ ap (λ b. b && is_near pay window arcs arc)
    (le-leb (pay arc) (2 ^ 64 - 1 + window) (omega (arith, small)))

-- an arc within the least pay is a least one
pub least_is : (pay : Arc → ℕ) (arcs : List Arc) (arc : Arc) → pay arc < 2 ^ 64
    → nat_le (pay arc) (least_from pay (2 ^ 64 - 1) arcs) ≡ is_least pay arcs arc
least_is pay arcs arc small =
    let test = simp add-zero at (least_test pay 0 (pay arc) (2 ^ 64 - 1) arcs) in
    test ∙ ap (λ b. b && is_least pay arcs arc) (le-leb (pay arc) (2 ^ 64 - 1) (omega (arith, small)))

-- tests that agree on all arcs keep the same
pub kept_same : (f g : Arc → Bool) (arcs : List KeptArc) → AllByRecursion (λ arc. f arc ≡ g arc) (map (λ a. a.arc) arcs)
    → map (kept_if f) arcs ≡ map (kept_if g) arcs
kept_same f g [] all = refl
kept_same f g (a ∷ arcs) all = rw (all.0, kept_same f g arcs all.1) refl

-- ---- the least of the arcs from a place on

-- one arc more lowers the least to what it pays at most
pub least_more : (pay : Arc → ℕ) (shape : List SiteCost) (entries : List ℕ) (i least : ℕ) (z : SiteCost)
    → i < length shape → length shape ≤ length entries
    → least_from pay least (drop i (bare_arcs shape entries))
    ≡ least_from pay (min least (pay (entry_arc (get_or shape i z) (get_or entries i 0))))
    (drop (i + 1) (bare_arcs shape entries))
least_more pay shape entries i least z inside many =
    let arcs = bare_arcs shape entries in
    let own = entry_arc (get_or shape i z) (get_or entries i 0) in
    let all : length arcs ≡ length shape = length-bare_arcs shape entries many in
    ap (least_from pay least) (drop_more arcs i own (omega arith))
    ∙ ap (λ arc. least_from pay (min least (pay arc)) (drop (i + 1) arcs))
    (get_or-bare_arcs shape entries i own z inside many)

-- past the last arc the least stays
pub least_all : (pay : Arc → ℕ) (shape : List SiteCost) (entries : List ℕ) (i least : ℕ) → length shape ≤ i
    → length shape ≤ length entries → least_from pay least (drop i (bare_arcs shape entries)) ≡ least
least_all pay shape entries i least end many =
    let all : length (bare_arcs shape entries) ≡ length shape = length-bare_arcs shape entries many in
    ap (least_from pay least) (drop_all i (bare_arcs shape entries) (omega arith))
