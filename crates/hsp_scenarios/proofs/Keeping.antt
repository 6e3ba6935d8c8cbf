-- What portions keep at home of a plan: as much as the plan still sends there, one portion after another.
use Rattle.std.proofs.Common.{◌≡◌, ℕ, ◌+◌, ◌<◌, ◌≤◌, ◌==◌, ◌∙◌, inl, inr, false, length, min, slice_index, refl, ap}
use Rattle.std.proofs.Common.{sym, arith, eq-eqb, ne_eqb}
use Rattle.std.proofs.lemmas.Bool.{cases_eq, cases_lt}
use Rattle.std.proofs.lemmas.List.{get_or_past}
use Rattle.hsp_transport.specs.Flow.{sent}
use Rattle.hsp_transport.specs.Plans.{Feasible, Plan, is_allowed, planned}
use Rattle.hsp_transport.specs.Kinds.{together}
use Rattle.hsp_transport.specs.Spread.{beside}
use Rattle.hsp_transport.specs.Sums.{sum_below}
use Rattle.hsp_transport.proofs.Rowwise.{when, when_zero, sum_below_when}
use Rattle.hsp_transport.proofs.Spreading.{along_rows}
use Rattle.hsp_transport.proofs.Summing.{sum_below_le, sum_below_same}
use Rattle.hsp_scenarios.specs.Moves.{Today}
use Rattle.hsp_scenarios.specs.Portions.{ArePortions, Portions, at_home, is_home, joined}
use Rattle.hsp_scenarios.proofs.Adding.{below_turned}
use Rattle.hsp_scenarios.proofs.Homes.{home_within}
use Rattle.hsp_scenarios.proofs.Carrying.{allowed_is, sent_source}

-- what the portions of a source have at home at a site
abbrev pub homed : {A : Type 0} → Portions A → ℕ → ℕ → ℕ → ℕ
homed p i s k = when (p.source_of k == i) (at_home p k s)

-- what a portion keeps there, of what the plan sends
abbrev pub kept : {A : Type 0} → Portions A → Plan → Plan
kept p x k s =
    let before = sum_below k (homed p (p.source_of k) s) in
    beside before (before + at_home p k s) 0 (x (p.source_of k) s)

-- all that the portions of a source keep at a site is what the old plan and the new one both send there
pub kept_joined : {A : Type 0} (p : Portions A) (x : Plan) (i s : ℕ)
    → joined p (kept p x) i s ≡ min (joined p (at_home p) i s) (x i s)
kept_joined p x i s =
    sum_below_same (length p.network.demands) _ _ (λ k l. each k)
    ∙ along_rows (length p.network.demands) (homed p i s) 0 (x i s) (omega arith)
    ∙ omega arith
  where
    each : (k : ℕ) →
        when (p.source_of k == i) (kept p x k s)
        ≡ beside (sum_below k (homed p i s)) (sum_below k (homed p i s) + homed p i s k) 0 (x i s)
    each k = elim (cases_eq (p.source_of k) i) [
      | inl e ↦ rw e (rw (eq-eqb i i refl))
      | inr ne ↦ rw (ne_eqb (p.source_of k) i ne) (omega arith)
    ]

module _ {A : Type 0} (t : Today A) (p : Portions A) (are : ArePortions t p) (x : Plan)
    (feasible : Feasible t.site t.network x) where
  -- nothing is kept where a portion may not go
  pub kept_allowed : (k s : ℕ) → is_allowed t.site p.network k s ≡ false → kept p x k s ≡ 0
  kept_allowed k s off = elim (cases_lt k (length p.network.demands)) [
    | inl l ↦ omega (arith, feasible.allowed (p.source_of k) s (sym (allowed_is t p are k s l) ∙ off))
    | inr past ↦
        let home = is_home (p.home_of k) s in
        let none : at_home p k s ≡ 0 = ap (when home) (get_or_past p.network.demands k 0 past) ∙ when_zero home in
        omega arith
  ]

  -- a portion keeps no more than it is
  pub kept_within : (k : ℕ) → sum_below t.sites (kept p x k) ≤ slice_index p.network.demands k
  kept_within k =
      let some : sum_below t.sites (kept p x k) ≤ sum_below t.sites (at_home p k) =
      sum_below_le t.sites _ _ (λ s l. omega arith) in
      omega (arith, home_within t.sites (p.home_of k) (are.homes k) (slice_index p.network.demands k))

  -- what a source sends of what is kept, by its portions
  pub kept_sent : (i : ℕ) → i < length t.network.demands →
      sent t.network (planned t.site t.network (joined p (kept p x))) i
      ≡ together p.network p.source_of (λ k. sum_below t.sites (kept p x k)) i
  kept_sent i l =
      sent_source t p are (joined p (kept p x))
      (λ r s off. omega (arith, feasible.allowed r s off, kept_joined p x r s)) i l
      ∙ below_turned t.sites (length p.network.demands) (λ s k. when (p.source_of k == i) (kept p x k s))
      ∙ sum_below_same (length p.network.demands) _ _ (λ k m. sum_below_when (p.source_of k == i) t.sites (kept p x k))
