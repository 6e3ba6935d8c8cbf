-- What a group sends over its arcs, added up by the servers of its least arcs.
use Rattle.std.proofs.Common.{◌≡◌, ℕ, ◌+◌, ◌<◌, ◌==◌, ◌∙◌, Bool, true, false, List, [], ◌∷◌, filter, sum_by, zip}
use Rattle.std.proofs.Common.{inl, inr, refl, ap, ap₂, sym, arith, zero-add}
use Rattle.std.specs.Prelude.{⊤}
use Rattle.std.specs.List.{AllByRecursion}
use Rattle.std.proofs.lemmas.Bool.{cases_lt, both_ways}
use Rattle.std.proofs.lemmas.List.Sums.{sum_by-cons}
use Rattle.hsp_transport.proofs.Rowwise.{same_by, sum_by_none, when, when_here, when_there, when_zero}
use Rattle.hsp_instance.specs.declared.arc.Arc.{Arc}
use Rattle.hsp_instance.proofs.Lists.{all_so}
use Rattle.hsp_prices.proofs.Lists.{same_sum}

-- the arcs lead to servers that all differ
abbrev pub AreApart : List Arc → Type 0
AreApart [] = ⊤
AreApart (a ∷ arcs) = AllByRecursion (λ (b : Arc). a.server ≡ b.server → ⊥) arcs × AreApart arcs

-- what flows to a server over arcs
abbrev pub flow_over : ℕ → List (Arc × ℕ) → ℕ
flow_over j own = sum_by (λ (x : Arc × ℕ). when (x.0.server == j) x.1) own

-- nothing counts nothing
abbrev pub CountsNone : (Arc → ℕ → ℕ) → Type 0
CountsNone H = (a : Arc) → H a 0 ≡ 0

module _ (H : Arc → ℕ → ℕ) (none : CountsNone H) (test : Arc → Bool) where
  -- what flows on arcs with nothing but such that pass the test is nothing on the others
  abbrev FlowsOn : Arc × ℕ → Type 0
  FlowsOn x = 0 < x.1 → test x.0 ≡ true

  -- a server that no arc that passes leads to gets nothing
  pub none_over : (j : ℕ) (arcs : List Arc) (flows : List ℕ) → AllByRecursion FlowsOn (zip arcs flows)
      → AllByRecursion (λ (b : Arc). j ≡ b.server → ⊥) (filter test arcs) → flow_over j (zip arcs flows) ≡ 0
  none_over j [] flows on other = refl
  none_over j (a ∷ arcs) [] on other = refl
  none_over j (a ∷ arcs) (f ∷ flows) on other = one (test a) refl (none_over j arcs flows on.1)
    where
      one : (t : Bool) → test a ≡ t
          → (AllByRecursion (λ (b : Arc). j ≡ b.server → ⊥) (filter test arcs) → flow_over j (zip arcs flows) ≡ 0)
          → flow_over j (zip (a ∷ arcs) (f ∷ flows)) ≡ 0
      one true e more =
          let both = rw e at other in
          omega (
            arith,
            sum_by-cons (λ (x : Arc × ℕ). when (x.0.server == j) x.1) (a, f) (zip arcs flows),
            when_there a.server j f (λ s. both.0 (sym s)),
            more both.1,
          )
      one false e more =
          let idle : f ≡ 0 = elim (cases_lt 0 f) [
            | inl some ↦ absurd (both_ways (test a) e (on.0 some))
            | inr low ↦ omega arith
          ] in
          omega (
            arith,
            sum_by-cons (λ (x : Arc × ℕ). when (x.0.server == j) x.1) (a, f) (zip arcs flows),
            ap (λ v. when (a.server == j) v) idle ∙ when_zero (a.server == j),
            more (rw e at other),
          )

  -- what counts for what each of the arcs that pass gets is what counts for what flows
  pub sum_passing : (arcs : List Arc) (flows : List ℕ) → AllByRecursion FlowsOn (zip arcs flows)
      → AreApart (filter test arcs) →
      sum_by (λ (a : Arc). H a (flow_over a.server (zip arcs flows))) (filter test arcs)
      ≡ sum_by (λ (x : Arc × ℕ). H x.0 x.1) (zip arcs flows)
  sum_passing [] flows on apart = refl
  sum_passing (a ∷ arcs) [] on apart =
      same_by _ (λ b. 0) (filter test (a ∷ arcs)) none ∙ sum_by_none (filter test (a ∷ arcs))
  sum_passing (a ∷ arcs) (f ∷ flows) on apart = one (test a) refl (sum_passing arcs flows on.1)
    where
      -- what flows to a server, with one arc more
      more_over : (j : ℕ)
          → flow_over j (zip (a ∷ arcs) (f ∷ flows)) ≡ when (a.server == j) f + flow_over j (zip arcs flows)
      more_over j = sum_by-cons (λ (x : Arc × ℕ). when (x.0.server == j) x.1) (a, f) (zip arcs flows)

      -- arcs to other servers get as much as without it
      others : (rest : List Arc)
          → AllByRecursion (λ (b : Arc). when (a.server == b.server) f ≡ 0) rest →
          sum_by (λ (b : Arc). H b (flow_over b.server (zip (a ∷ arcs) (f ∷ flows)))) rest
          ≡ sum_by (λ (b : Arc). H b (flow_over b.server (zip arcs flows))) rest
      others rest other =
          same_sum (λ (b : Arc). H b (flow_over b.server (zip (a ∷ arcs) (f ∷ flows))))
          (λ (b : Arc). H b (flow_over b.server (zip arcs flows))) rest
          (all_so (λ (b : Arc). when (a.server == b.server) f ≡ 0) _ rest
          (λ b nothing. ap (H b) (omega (arith, more_over b.server, nothing))) other)

      one : (t : Bool) → test a ≡ t
          → (AreApart (filter test arcs) →
          sum_by (λ (b : Arc). H b (flow_over b.server (zip arcs flows))) (filter test arcs)
          ≡ sum_by (λ (x : Arc × ℕ). H x.0 x.1) (zip arcs flows)) →
          sum_by (λ (b : Arc). H b (flow_over b.server (zip (a ∷ arcs) (f ∷ flows)))) (filter test (a ∷ arcs))
          ≡ sum_by (λ (x : Arc × ℕ). H x.0 x.1) (zip (a ∷ arcs) (f ∷ flows))
      one true e more =
          let both = rw e at apart in
          let own : flow_over a.server (zip (a ∷ arcs) (f ∷ flows)) ≡ f =
          omega
          (arith, more_over a.server, when_here a.server f, none_over a.server arcs flows on.1 both.0) in
          rw e
          (sum_by-cons (λ (b : Arc). H b (flow_over b.server (zip (a ∷ arcs) (f ∷ flows)))) a (filter test arcs)
          ∙ ap₂ (λ v w. v + w) (ap (H a) own)
          (others (filter test arcs)
          (all_so (λ (b : Arc). a.server ≡ b.server → ⊥) _ (filter test arcs)
          (λ b ne. when_there a.server b.server f ne) both.0)
          ∙ more both.1)
          ∙ sym (sum_by-cons (λ (x : Arc × ℕ). H x.0 x.1) (a, f) (zip arcs flows)))
      one false e more =
          let idle : f ≡ 0 = elim (cases_lt 0 f) [
            | inl some ↦ absurd (both_ways (test a) e (on.0 some))
            | inr low ↦ omega arith
          ] in
          rw e
          (others (filter test arcs) (no_flow idle (filter test arcs))
          ∙ more (rw e at apart)
          ∙ sym
          (sum_by-cons (λ (x : Arc × ℕ). H x.0 x.1) (a, f) (zip arcs flows)
          ∙ ap (λ v. v + sum_by (λ (x : Arc × ℕ). H x.0 x.1) (zip arcs flows)) (ap (H a) idle ∙ none a)
          ∙ zero-add (sum_by (λ (x : Arc × ℕ). H x.0 x.1) (zip arcs flows))))
        where
          no_flow : f ≡ 0 → (rest : List Arc) → AllByRecursion (λ (b : Arc). when (a.server == b.server) f ≡ 0) rest
          no_flow idle [] = tt
          no_flow idle (b ∷ rest) =
              (ap (λ v. when (a.server == b.server) v) idle ∙ when_zero (a.server == b.server), no_flow idle rest)
