-- The arcs of an instance stand in the order of their rows, and in a row in the order of their sites.
use Rattle.std.proofs.Common.{◌≡◌, ℕ, zero, suc, ◌+◌, ◌*◌, ◌<◌, ◌≤◌, List, [], ◌∷◌, ◌++◌, length, map, slice_index_or}
use Rattle.std.proofs.Common.{refl, ap, sym, inl, inr, arith, length-append, take, zero-add, Some}
use Rattle.std.specs.List.{AllByRecursion}
use Rattle.std.proofs.lemmas.List.{length-map}
use Rattle.std.specs.Prelude.{slice_get}
use Rattle.std.proofs.lemmas.Option.{slice_get_within, get_or_from_slice_get}
use Rattle.std.proofs.lemmas.Bool.{cases_lt}
use Rattle.hsp_instance.specs.declared.arc.Arc.{Arc}
use Rattle.hsp_instance.specs.Instance.{IsAscending}
use Rattle.hsp_check.specs.declared.arc.NetworkArc.{NetworkArc}
use Rattle.hsp_check.specs.Instance.{arc_of, arcs_from}
use Rattle.hsp_check.proofs.RowLists.{arcs_more}
use Rattle.hsp_flow.specs.Ordered.{IsLater, AreOrdered}
use Rattle.hsp_text.proofs.Lists.{all_append}
use Rattle.hsp_instance.proofs.Lists.{all_so}

-- what stands past the end of arcs
abbrev pub no_arc : NetworkArc
no_arc = record { row = 0; site = 0; server = 0; cost = 0 }

-- what holds of all holds of the element at a place
pub each_at : {A : Type 0} (P : A → Type 0) (xs : List A) (k : ℕ) (d : A) → k < length xs → AllByRecursion P xs
    → P (slice_index_or xs k d)
each_at P [] k d l h = absurd (omega arith)
each_at P (x ∷ xs) zero d l h = h.0
each_at P (x ∷ xs) (suc k) d l h = each_at P xs k d (omega arith) h.1

-- the row's arcs are of the row
of_row : (i : ℕ) (arcs : List Arc) → AllByRecursion (λ a. a.row ≡ i) (map (arc_of i) arcs)
of_row i [] = tt
of_row i (a ∷ arcs) = (refl, of_row i arcs)

-- no arc is of a row before the first, or past the last
pub rows_between : (i : ℕ) (lists : List (List Arc))
    → AllByRecursion (λ a. (i ≤ a.row) × (a.row < i + length lists)) (arcs_from i lists)
rows_between i [] = tt
rows_between i (arcs ∷ rest) =
    all_append (λ a. (i ≤ a.row) × (a.row < i + suc (length rest))) (map (arc_of i) arcs) (arcs_from (i + 1) rest)
    (all_so (λ a. a.row ≡ i) _ (map (arc_of i) arcs) (λ a e. (omega arith, omega arith)) (of_row i arcs))
    (all_so _ _ (arcs_from (i + 1) rest) (λ a b. (omega (arith, b.0), omega (arith, b.1)))
    (rows_between (i + 1) rest))

-- ordered arcs behind ordered arcs are ordered, if all come later
ordered_append : (xs ys : List NetworkArc) → AreOrdered xs → AreOrdered ys
    → AllByRecursion (λ x. AllByRecursion (IsLater x) ys) xs → AreOrdered (xs ++ ys)
ordered_append [] ys h k across = k
ordered_append (x ∷ xs) ys h k across = (all_append (IsLater x) xs ys h.0 across.0, ordered_append xs ys h.1 k across.1)

-- arcs to later sites come later in their row
later_sites : (i : ℕ) (a : Arc) (arcs : List Arc) → AllByRecursion (λ (later : Arc). a.site < later.site) arcs
    → AllByRecursion (IsLater (arc_of i a)) (map (arc_of i) arcs)
later_sites i a [] h = tt
later_sites i a (b ∷ arcs) h = (inr (refl, h.0), later_sites i a arcs h.1)

-- the arcs of a row are in order
row_ordered : (i : ℕ) (arcs : List Arc) → IsAscending arcs → AreOrdered (map (arc_of i) arcs)
row_ordered i [] up = tt
row_ordered i (a ∷ arcs) up = (later_sites i a arcs up.0, row_ordered i arcs up.1)

-- arcs of ascending rows are in order
pub all_ordered : (i : ℕ) (lists : List (List Arc)) → AllByRecursion IsAscending lists → AreOrdered (arcs_from i lists)
all_ordered i [] up = tt
all_ordered i (arcs ∷ rest) up =
    ordered_append (map (arc_of i) arcs) (arcs_from (i + 1) rest) (row_ordered i arcs up.0)
    (all_ordered (i + 1) rest up.1)
    (all_so (λ a. a.row ≡ i) _ (map (arc_of i) arcs)
    (λ a e.
    all_so _ (IsLater a) (arcs_from (i + 1) rest) (λ b between. inl (omega (arith, between.0)))
    (rows_between (i + 1) rest)) (of_row i arcs))

-- of two places the later one has the later arc
pub later_at : (arcs : List NetworkArc) → AreOrdered arcs → (j k : ℕ) → j < k → k < length arcs
    → IsLater (slice_index_or arcs j no_arc) (slice_index_or arcs k no_arc)
later_at [] h j k less l = absurd (omega arith)
later_at (a ∷ arcs) h j zero less l = absurd (omega arith)
later_at (a ∷ arcs) h zero (suc k) less l = each_at (IsLater a) arcs k no_arc (omega arith) h.0
later_at (a ∷ arcs) h (suc j) (suc k) less l = later_at arcs h.1 j k (omega arith) (omega arith)

-- arcs of one row to one site are one
pub one_place : (arcs : List NetworkArc) → AreOrdered arcs → (j k : ℕ) → j < length arcs → k < length arcs →
    (slice_index_or arcs j no_arc).row ≡ (slice_index_or arcs k no_arc).row
    → (slice_index_or arcs j no_arc).site ≡ (slice_index_or arcs k no_arc).site → j ≡ k
one_place arcs h j k l m row site = elim (cases_lt j k) [
  | inl less ↦
      elim (later_at arcs h j k less m) [
        | inl up ↦ absurd (omega (arith, up, row))
        | inr same ↦
            absurd (omega (arith, same.1, site))
      ]
  | inr rest ↦ elim (cases_lt k j) [
    | inl more ↦
        elim (later_at arcs h k j more l) [
          | inl up ↦ absurd (omega (arith, up, row))
          | inr same ↦
              absurd (omega (arith, same.1, site))
        ]
    | inr equal ↦ omega arith
  ]
]

-- rows don't fall
pub rows_ordered : (arcs : List NetworkArc) → AreOrdered arcs → (j k : ℕ) → j ≤ k → k < length arcs
    → (slice_index_or arcs j no_arc).row ≤ (slice_index_or arcs k no_arc).row
rows_ordered arcs h j k le m = elim (cases_lt j k) [
  | inl less ↦ elim (later_at arcs h j k less m) [ inl up ↦ omega (arith, up) | inr same ↦ omega (arith, same.0) ]
  | inr rest ↦ let e : j ≡ k =
      omega arith in let r : (slice_index_or arcs j no_arc).row ≡ (slice_index_or arcs k no_arc).row =
      ap (λ n. (slice_index_or arcs n no_arc).row) e in omega arith
]

-- how many arcs there are
pub arcs_many : (i : ℕ) (lists : List (List Arc)) → AllByRecursion (λ arcs. length arcs ≤ 32) lists
    → length (arcs_from i lists) ≤ 32 * length lists
arcs_many i [] few = omega arith
arcs_many i (arcs ∷ rest) few =
    let own = length-map arcs (arc_of i) in
    let more = arcs_many (i + 1) rest few.1 in
    omega (arith, few.0, length-append (map (arc_of i) arcs) (arcs_from (i + 1) rest))

-- the arcs with those of a row more, as they were read
pub arcs_read : (lists : List (List Arc)) (k : ℕ) (arcs : List Arc) (all : List NetworkArc)
    → slice_get lists k ≡ Some arcs → all ≡ arcs_from 0 (take k lists) →
    all ++ map (arc_of k) arcs ≡ arcs_from 0 (take (k + 1) lists)
arcs_read lists k arcs all read so_far =
    let inside = slice_get_within lists k arcs read in
    let one : slice_index_or lists k [] ≡ arcs = get_or_from_slice_get lists k arcs [] read in
    rw so_far (sym (rw (zero-add k, one) at (arcs_more 0 k lists inside)))
