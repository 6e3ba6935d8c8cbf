-- Rows that only keep arcs into a set of servers, and have no other arc.
use Rattle.std.proofs.Common.{◌≡◌, ℕ, ◌+◌, ◌∙◌, inl, inr, Bool, true, false, List, [], ◌∷◌, filter, map, not, sum_by}
use Rattle.std.proofs.Common.{refl, ap, ap₂, sym}
use Rattle.std.specs.Prelude.{◌||◌}
use Rattle.std.specs.List.{AllByRecursion, AllZip, list_all, list_any}
use Rattle.std.proofs.lemmas.Bool.{and_from, and_parts, false≢true, not-false, or_cases}
use Rattle.std.proofs.lemmas.List.Sums.{sum_by-cons}
use Rattle.hsp_transport.proofs.Rowwise.{when}
use Rattle.hsp_instance.specs.Instance.{Row}
use Rattle.hsp_instance.specs.declared.arc.Arc.{Arc}
use Rattle.hsp_check.specs.Verdict.{is_one_of}
use Rattle.hsp_prices.specs.Rows.{Service}
use Rattle.hsp_prices.specs.Sums.{caught_count, caught_in_all}
use Rattle.hsp_prices.specs.KeptRows.{IsRow, KeptArc, KeptRow, arcs_in, kept_if, kept_in, keeping, with_leaving}

module _ (set : ℕ → Bool) where
  -- the arc leads into the set
  abbrev pub leads_in : Arc → Bool
  leads_in arc = set arc.server

  abbrev leads_out : Arc → Bool
  leads_out arc = not (set arc.server)

  -- where all kept arcs lead into the set and keeping those that leave it changes none, all arcs lead into it
  all_lead : (arcs : List KeptArc) → list_all leads_in (map (λ a. a.arc) (filter (λ a. a.is_kept) arcs)) ≡ true
      → map (kept_if leads_out) arcs ≡ arcs → list_all leads_in (map (λ a. a.arc) arcs) ≡ true
  all_lead [] inside same = refl
  all_lead (a ∷ arcs) inside same = one a.is_kept refl (λ more. all_lead arcs more rest)
    where
      first : (a.is_kept || not (set a.arc.server)) ≡ a.is_kept
      first = let e : kept_if leads_out a ≡ a = cc in ap (λ (b : KeptArc). b.is_kept) e

      rest : map (kept_if leads_out) arcs ≡ arcs
      rest = cc

      one : (t : Bool) → a.is_kept ≡ t
          → (list_all leads_in (map (λ b. b.arc) (filter (λ b. b.is_kept) arcs)) ≡ true
          → list_all leads_in (map (λ b. b.arc) arcs) ≡ true)
          → list_all leads_in (map (λ b. b.arc) (a ∷ arcs)) ≡ true
      one true e more =
          let parts = and_parts (leads_in a.arc)
          (list_all leads_in (map (λ (b : KeptArc). b.arc) (filter (λ b. b.is_kept) arcs))) (rw e at inside) in
          and_from (leads_in a.arc) (list_all leads_in (map (λ b. b.arc) arcs)) parts.0 (more parts.1)
      one false e more =
          and_from (leads_in a.arc) (list_all leads_in (map (λ b. b.arc) arcs))
          (not-false (set a.arc.server) (rw e at first)) (more (rw e at inside))

  -- a row that only keeps arcs into the set, where no arc is passed over, has no other arc
  pub row_stays : (row : KeptRow) → list_all leads_in (kept_in row) ≡ true → with_leaving set row ≡ row
      → list_all leads_in (arcs_in row) ≡ true
  row_stays row inside same =
      let kept : keeping leads_out row ≡ row = rw inside at same in
      all_lead row.arcs inside (ap (λ (r : KeptRow). r.arcs) kept)

  -- what a row asks for, all whose arcs lead into the set
  abbrev pub count_in : KeptRow → ℕ
  count_in row = when (list_all leads_in (arcs_in row)) row.count

-- what holds of all holds of one that passes a test
pub found_of : {A : Type 0} (P : A → Type 0) (Q : Type 0) (test : A → Bool) (xs : List A) → AllByRecursion P xs
    → ((x : A) → P x → test x ≡ true → Q) → list_any test xs ≡ true → Q
found_of P Q test [] all so e = absurd (false≢true e)
found_of P Q test (x ∷ xs) all so e = elim (or_cases (test x) (list_any test xs) e) [
  | inl here ↦ so x all.0 here
  | inr later ↦ found_of P Q test xs all.1 so later
]

-- what is caught of the rows in memory is what is caught of the rows
pub caught_same : (at : Service) (servers : List ℕ) (rows : List Row) (kept : List KeptRow)
    → AllZip (IsRow at) rows kept → sum_by (count_in (is_one_of servers)) kept ≡ caught_in_all at servers rows
caught_same at servers [] [] are = refl
caught_same at servers [] (k ∷ kept) are = absurd are
caught_same at servers (row ∷ rows) [] are = absurd are
caught_same at servers (row ∷ rows) (k ∷ kept) are =
    sum_by-cons (count_in (is_one_of servers)) k kept
    ∙ ap₂ (λ m n. m + n)
    (ap₂ (λ arcs n. when (list_all (leads_in (is_one_of servers)) arcs) n) are.0.arcs are.0.count)
    (caught_same at servers rows kept are.1)
    ∙ sym (sum_by-cons (caught_count at servers) row rows)
