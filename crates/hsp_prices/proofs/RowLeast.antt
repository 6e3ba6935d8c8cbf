-- The least arcs of a row are those of the arcs that it keeps, where it keeps them.
use Rattle.std.proofs.Common.{◌≡◌, ℕ, ◌≤◌, ◌==◌, ◌∙◌, Bool, true, false, List, [], ◌∷◌, filter, map, inl, inr}
use Rattle.std.proofs.Common.{refl, ap, sym, arith, nat_le, leb-true, le-leb, eqb-true, eq-eqb}
use Rattle.std.specs.List.{AllByRecursion, list_all, list_any}
use Rattle.std.proofs.lemmas.Bool.{and_from, and_parts, both_ways, cases_lt, false≢true, or_cases, or_left, or_right}
use Rattle.std.proofs.lemmas.List.Elements.{filter_agree}
use Rattle.hsp_instance.proofs.Lists.{all_so}
use Rattle.hsp_instance.specs.declared.arc.Arc.{Arc}
use Rattle.hsp_prices.specs.Least.{is_least, least_arcs}
use Rattle.hsp_prices.specs.KeptRows.{KeptArc, KeptRow, arcs_in, kept_if, kept_in, with_least}

-- two tests that follow from each other are the same
pub same_test : (s t : Bool) → (s ≡ true → t ≡ true) → (t ≡ true → s ≡ true) → s ≡ t
same_test true t there back = sym (there refl)
same_test false true there back = back refl
same_test false false there back = refl

-- an arc that costs what none is below is a least one
pub low_least : (pay : Arc → ℕ) (n : ℕ) (a : Arc) (arcs : List Arc) → pay a ≤ n
    → AllByRecursion (λ b. n ≤ pay b) arcs → is_least pay arcs a ≡ true
low_least pay n a [] is low = refl
low_least pay n a (b ∷ arcs) is low =
    and_from (nat_le (pay a) (pay b)) (list_all (λ c. nat_le (pay a) (pay c)) arcs)
    (le-leb (pay a) (pay b) (omega (arith, is, low.0))) (low_least pay n a arcs is low.1)

-- the least that is paid over some arcs: over none less, and over one of them this much
record IsLowest (pay : Arc → ℕ) (arcs : List Arc) (n : ℕ) : Type 0 where
  low : AllByRecursion (λ b. n ≤ pay b) arcs
  paid : list_any (λ b. pay b == n) arcs ≡ true

-- some arcs have one
lowest : (pay : Arc → ℕ) (a : Arc) (arcs : List Arc) → (n : ℕ) × IsLowest pay (a ∷ arcs) n
lowest pay a [] = (
  pay a,
  record {
    low = (omega arith, tt);
    paid = or_left (pay a == pay a) false (eq-eqb (pay a) (pay a) refl);
  },
)
lowest pay a (b ∷ arcs) = one (lowest pay b arcs)
  where
    one : ((n : ℕ) × IsLowest pay (b ∷ arcs) n) → (n : ℕ) × IsLowest pay (a ∷ b ∷ arcs) n
    one (n, is) = elim (cases_lt (pay a) n) [
      | inl less ↦ (
        pay a,
        record {
          low = (
            omega arith,
            all_so (λ c. n ≤ pay c) (λ c. pay a ≤ pay c) (b ∷ arcs) (λ c l. omega (arith, less, l)) is.low,
          );
          paid =
              or_left (pay a == pay a) (list_any (λ c. pay c == pay a) (b ∷ arcs)) (eq-eqb (pay a) (pay a) refl);
        },
      )
      | inr more ↦ (
        n,
        record {
          low = (more, is.low);
          paid = or_right (pay a == n) (list_any (λ c. pay c == n) (b ∷ arcs)) is.paid;
        },
      )
    ]

-- where one of some arcs costs so much, a least one costs no more
no_more : (pay : Arc → ℕ) (n : ℕ) (a : Arc) (arcs : List Arc) → list_any (λ b. pay b == n) arcs ≡ true
    → is_least pay arcs a ≡ true → pay a ≤ n
no_more pay n a [] some least = absurd (false≢true some)
no_more pay n a (b ∷ arcs) some least =
    let parts = and_parts (nat_le (pay a) (pay b)) (list_all (λ c. nat_le (pay a) (pay c)) arcs) least in
    elim (or_cases (pay b == n) (list_any (λ c. pay c == n) arcs) some) [
      | inl here ↦ omega (arith, eqb-true (pay b) n here, leb-true (pay a) (pay b) parts.0)
      | inr later ↦ no_more pay n a arcs later parts.1
    ]

-- the arcs of a list
abbrev all_of : List KeptArc → List Arc
all_of arcs = map (λ (a : KeptArc). a.arc) arcs

-- those of them that are kept
abbrev kept_of : List KeptArc → List Arc
kept_of arcs = map (λ (a : KeptArc). a.arc) (filter (λ (a : KeptArc). a.is_kept) arcs)

-- each arc that passes a test is kept
abbrev Keeps : (Arc → Bool) → List KeptArc → Type 0
Keeps test arcs = AllByRecursion (λ (a : KeptArc). test a.arc ≡ true → a.is_kept ≡ true) arcs

-- arcs that don't change when those that pass a test are kept keep them
keeps : (test : Arc → Bool) (arcs : List KeptArc) → map (kept_if test) arcs ≡ arcs → Keeps test arcs
keeps test [] same = tt
keeps test (a ∷ arcs) same =
    let first : kept_if test a ≡ a = cc in
    let rest : map (kept_if test) arcs ≡ arcs = cc in (
      (λ e. sym (ap (λ (b : KeptArc). b.is_kept) first) ∙ or_right a.is_kept (test a.arc) e),
      keeps test arcs rest,
    )

-- a test that all arcs pass is passed by all that are kept
pass_kept : (test : Arc → Bool) (arcs : List KeptArc) → list_all test (all_of arcs) ≡ true
    → list_all test (kept_of arcs) ≡ true
pass_kept test [] all = refl
pass_kept test (a ∷ arcs) all =
    let parts = and_parts (test a.arc) (list_all test (all_of arcs)) all in
    one a.is_kept refl parts.0 (pass_kept test arcs parts.1)
  where
    one : (t : Bool) → a.is_kept ≡ t → test a.arc ≡ true → list_all test (kept_of arcs) ≡ true
        → list_all test (kept_of (a ∷ arcs)) ≡ true
    one true e own more = rw e (and_from (test a.arc) (list_all test (kept_of arcs)) own more)
    one false e own more = rw e more

-- an arc that passes a test for arcs that are kept is found among those
found_kept : (test search : Arc → Bool) → ((b : Arc) → search b ≡ true → test b ≡ true) → (arcs : List KeptArc)
    → Keeps test arcs → list_any search (all_of arcs) ≡ true → list_any search (kept_of arcs) ≡ true
found_kept test search tells [] keep some = absurd (false≢true some)
found_kept test search tells (a ∷ arcs) keep some =
    elim (or_cases (search a.arc) (list_any search (all_of arcs)) some) [
      | inl here ↦
          let kept : a.is_kept ≡ true = keep.0 (tells a.arc here) in
          rw kept (or_left (search a.arc) (list_any search (kept_of arcs)) here)
      | inr later ↦ one a.is_kept refl (found_kept test search tells arcs keep.1 later)
    ]
  where
    one : (t : Bool) → a.is_kept ≡ t → list_any search (kept_of arcs) ≡ true
        → list_any search (kept_of (a ∷ arcs)) ≡ true
    one true e more = rw e (or_right (search a.arc) (list_any search (kept_of arcs)) more)
    one false e more = rw e more

-- the arcs that pass a test are those of the kept ones that do
passing_kept : (test : Arc → Bool) (arcs : List KeptArc) → Keeps test arcs
    → filter test (all_of arcs) ≡ filter test (kept_of arcs)
passing_kept test [] keep = refl
passing_kept test (a ∷ arcs) keep = one (test a.arc) a.is_kept refl refl (passing_kept test arcs keep.1)
  where
    one : (t k : Bool) → test a.arc ≡ t → a.is_kept ≡ k → filter test (all_of arcs) ≡ filter test (kept_of arcs)
        → filter test (all_of (a ∷ arcs)) ≡ filter test (kept_of (a ∷ arcs))
    one true true e f more = rw (f, e, more) refl
    one true false e f more = absurd (both_ways a.is_kept f (keep.0 e))
    one false true e f more = rw (f, e, more) refl
    one false false e f more = rw (f, e, more) refl

-- an arc is least among all arcs where it is among the kept ones
least_alike : (pay : Arc → ℕ) (arcs : List KeptArc) → Keeps (is_least pay (all_of arcs)) arcs → (b : Arc)
    → is_least pay (all_of arcs) b ≡ is_least pay (kept_of arcs) b
least_alike pay [] keep b = refl
least_alike pay (a ∷ arcs) keep b =
    let low = lowest pay a.arc (all_of arcs) in
    same_test (is_least pay (all_of (a ∷ arcs)) b) (is_least pay (kept_of (a ∷ arcs)) b)
    (pass_kept (λ c. nat_le (pay b) (pay c)) (a ∷ arcs))
    (λ least.
    let there =
    found_kept (is_least pay (all_of (a ∷ arcs))) (λ c. pay c == low.0)
    (λ c e. low_least pay low.0 c (all_of (a ∷ arcs)) (omega (arith, eqb-true (pay c) low.0 e)) low.1.low) (a ∷ arcs)
    keep low.1.paid in
    low_least pay low.0 b (all_of (a ∷ arcs)) (no_more pay low.0 b (kept_of (a ∷ arcs)) there least) low.1.low)

-- the least arcs of a row that keeps them are the least ones that it keeps
pub least_kept : (pay : Arc → ℕ) (row : KeptRow) → with_least pay row ≡ row
    → least_arcs pay (arcs_in row) ≡ least_arcs pay (kept_in row)
least_kept pay row same =
    let keep = keeps (is_least pay (arcs_in row)) row.arcs (ap (λ (r : KeptRow). r.arcs) same) in
    passing_kept (is_least pay (arcs_in row)) row.arcs keep
    ∙ filter_agree (is_least pay (arcs_in row)) (is_least pay (kept_in row)) (least_alike pay row.arcs keep)
    (kept_in row)
