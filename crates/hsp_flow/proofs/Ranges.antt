-- The numbers of a feasible plan of an instance are within the ranges of a certificate.
use Rattle.std.proofs.Common.{◌≡◌, ◌≢◌, ℕ, suc, ◌+◌, ◌<◌, ◌≤◌, ◌==◌, ◌⊎◌, Bool, true, false, List, [], ◌∷◌, length}
use Rattle.std.proofs.Common.{slice_index, refl, inl, inr, arith, ne_eqb}
use Rattle.std.specs.Prelude.{◌&&◌, ◌||◌, Option, Some, None, nat_lt}
use Rattle.std.specs.List.{AllByRecursion, list_all}
use Rattle.std.proofs.lemmas.Bool.{cases_eq, and_from}
use Rattle.std.proofs.lemmas.Bool.Decides.{nat_tests}
use Rattle.hsp_cert.specs.declared.use_line.UseLine.{UseLine}
use Rattle.hsp_cert.specs.Certificate.{is_use, is_before, is_price, is_row, goes_on_from, ascends_from, ascends}
use Rattle.hsp_instance.specs.Instance.{Instance}
use Rattle.hsp_check.specs.declared.arc.NetworkArc.{NetworkArc}
use Rattle.hsp_flow.specs.Ordered.{IsLater, AreOrdered}
use Rattle.hsp_flow.specs.Planning.{uses_of, flagged_from}
use Rattle.hsp_instance.proofs.Lists.{all_so}

-- ---- arcs

-- what an arc of an instance is
pub record IsSmallArc (it : Instance) (a : NetworkArc) : Type 0 where
  pub row : a.row < length it.rows
  pub site : a.site ≤ 31
  pub server : a.server < length it.servers
  pub cost : a.cost ≤ 1000000

-- ---- orders

-- the use comes before any of the arc
abbrev Before : UseLine → NetworkArc → Type 0
Before u a = (nat_lt u.row a.row || (u.row == a.row && nat_lt u.site a.site)) ≡ true

-- a use comes before those of later arcs
before_later : (row site count : ℕ) (b : NetworkArc) → (row < b.row) ⊎ ((row ≡ b.row) × (site < b.site))
    → Before (record { row = row; site = site; count = count }) b
before_later row site count b (inl up) = grind (arith, nat_tests)
before_later row site count b (inr same) = grind (arith, nat_tests)

abbrev AreAfter : Option UseLine → List NetworkArc → Type 0
AreAfter None arcs = Unit {0}
AreAfter (Some u) arcs = AllByRecursion (Before u) arcs

-- the use of the next arc goes on from the last
go_on : (last : Option UseLine) (a : NetworkArc) (arcs : List NetworkArc) (count : ℕ) → AreAfter last (a ∷ arcs)
    → goes_on_from is_before last (record { row = a.row; site = a.site; count = count }) ≡ true
go_on None a arcs count h = refl
go_on (Some u) a arcs count h = h.0

-- what comes after an arc comes after those before it
after_more : (last : Option UseLine) (a : NetworkArc) (arcs : List NetworkArc) → AreAfter last (a ∷ arcs)
    → AreAfter last arcs
after_more None a arcs h = tt
after_more (Some u) a arcs h = h.1

-- the uses ascend by rows and sites
pub uses_ascend : (last : Option UseLine) (arcs : List NetworkArc) (flows : List ℕ) → AreOrdered arcs
    → AreAfter last arcs → ascends_from is_before last (uses_of arcs flows) ≡ true
uses_ascend last [] flows up after = refl
uses_ascend last (a ∷ arcs) [] up after = refl
uses_ascend last (a ∷ arcs) (flow ∷ flows) up after = elim (cases_eq flow 0) [
  | inl none ↦ rw none (uses_ascend last arcs flows up.1 (after_more last a arcs after))
  | inr some ↦ rw (ne_eqb flow 0 some)
      (and_from _ _ (go_on last a arcs flow after)
      (uses_ascend (Some (record { row = a.row; site = a.site; count = flow })) arcs flows up.1
      (all_so (IsLater a) (Before (record { row = a.row; site = a.site; count = flow })) arcs
      (λ b later. before_later a.row a.site flow b later) up.0)))
]

-- ---- ranges

-- a use of a row and a site within the limits is in its range
use_fits : (row site count : ℕ) → row ≤ 8191 → site ≤ 31 → count ≢ 0 → count ≤ 1000000
    → is_use (record { row = row; site = site; count = count }) ≡ true
use_fits row site count r s some c = let one : 1 ≤ count = omega arith in grind (arith, nat_tests)

-- all uses are in their ranges
pub uses_fit : (arcs : List NetworkArc) (flows : List ℕ) → AllByRecursion (λ a. (a.row ≤ 8191) × (a.site ≤ 31)) arcs
    → ((k : ℕ) → k < length arcs → slice_index flows k ≤ 1000000) → list_all is_use (uses_of arcs flows) ≡ true
uses_fit [] flows ends low = refl
uses_fit (a ∷ arcs) [] ends low = refl
uses_fit (a ∷ arcs) (flow ∷ flows) ends low =
    let rest : list_all is_use (uses_of arcs flows) ≡ true =
    uses_fit arcs flows ends.1 (λ k l. low (suc k) (omega arith)) in
    elim (cases_eq flow 0) [
      | inl none ↦ rw none rest
      | inr some ↦
          rw (ne_eqb flow 0 some)
          (and_from _ _ (use_fits a.row a.site flow ends.0.0 ends.0.1 some (low 0 (omega arith))) rest)
    ]

-- all prices are in their range
pub prices_fit : (prices : List ℕ) → ((i : ℕ) → i < length prices → slice_index prices i ≤ 1000000000000)
    → list_all is_price prices ≡ true
prices_fit [] low = refl
prices_fit (price ∷ prices) low =
    let here : price ≤ 1000000000000 = low 0 (omega arith) in
    let fits : is_price price ≡ true = grind (arith, nat_tests) in
    and_from _ _ fits (prices_fit prices (λ i l. low (suc i) (omega arith)))

-- the flagged rows ascend
flags_after : (last : ℕ) (j : ℕ) (flags : List Bool) → last < j
    → ascends_from nat_lt (Some last) (flagged_from j flags) ≡ true
flags_after last j [] l = refl
flags_after last j (true ∷ flags) l =
    let less : nat_lt last j ≡ true = grind (arith, nat_tests) in
    and_from _ _ less (flags_after j (j + 1) flags (omega arith))
flags_after last j (false ∷ flags) l = flags_after last (j + 1) flags (omega arith)

-- the flagged rows ascend
pub flags_ascend : (j : ℕ) (flags : List Bool) → ascends nat_lt (flagged_from j flags) ≡ true
flags_ascend j [] = refl
flags_ascend j (true ∷ flags) = flags_after j (j + 1) flags (omega arith)
flags_ascend j (false ∷ flags) = flags_ascend (j + 1) flags

-- the flagged rows are in their range
pub flags_fit : (j : ℕ) (flags : List Bool) → j + length flags ≤ 8192 → list_all is_row (flagged_from j flags) ≡ true
flags_fit j [] few = refl
flags_fit j (true ∷ flags) few =
    let here : is_row j ≡ true = grind (arith, nat_tests) in and_from _ _ here (flags_fit (j + 1) flags (omega arith))
flags_fit j (false ∷ flags) few = flags_fit (j + 1) flags (omega arith)
