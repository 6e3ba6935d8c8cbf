-- Rows joined into groups one after another: the groups with those of one row more.
use Rattle.std.proofs.Common.{◌≡◌, ℕ, suc, ◌+◌, ◌∙◌, inl, inr, Bool, true, false, All, List, [], ◌∷◌, ◌++◌}
use Rattle.std.proofs.Common.{map, slice_index_or, if◌then◌else◌, refl, ap, ap₂, subst, sym, arith}
use Rattle.std.specs.Bool.{⊤}
use Rattle.std.specs.List.{AllByRecursion, AllPairs, list_any}
use Rattle.std.proofs.lemmas.Bool.{cases_Bool, false_from_ne_true, false≢true, or_cases, or_from, or_left}
use Rattle.std.proofs.lemmas.Bool.{or_right}
use Rattle.std.proofs.lemmas.List.Elements.{All-from_recursion, recursion_from_All}
use Rattle.std.proofs.lemmas.List.Folds.{list_any-append}
use Rattle.std.proofs.lemmas.List.Kept.{AllPairs-cons}
use Rattle.std.proofs.lemmas.List.Sums.{sum_by-cons, sum_by_push}
use Rattle.hsp_text.proofs.Lists.{all_push}
use Rattle.hsp_instance.specs.declared.arc.Arc.{Arc}
use Rattle.hsp_instance.proofs.Lists.{all_so}
use Rattle.hsp_prices.proofs.Tabling.{both_equal}
use Rattle.hsp_prices.specs.Least.{servers_of}
use Rattle.hsp_prices.proofs.Lists.{all_both}
use Rattle.hsp_prices.specs.Groups.{Group, asked_by, is_in, is_same}
use Rattle.hsp_prices.specs.KeptRows.{KeptRow, kept_in}
use Rattle.hsp_price_plan.specs.Grouping.{AreArcsBy, IsGrouping, IsOfRow, with_count}

-- the group of a row alone
abbrev pub group_of : KeptRow → Group
group_of row = record { region = row.region; arcs = kept_in row; demand = row.count }

-- the groups with that of one row more: where it is there already, it asks for the row's count more
abbrev pub with_group : Group → List Group → List Group
with_group own [] = own ∷ []
with_group own (group ∷ groups) =
    if is_same group own then with_count own.demand group ∷ groups else group ∷ with_group own groups

-- ---- groups that differ

-- the parts of two groups that are the same
same_parts : (g h : Group) → is_same g h ≡ true → (g.region ≡ h.region) × (servers_of g.arcs ≡ servers_of h.arcs)
same_parts g h = (both_equal g.region h.region (servers_of g.arcs) (servers_of h.arcs)).0

-- two groups that are the same as a third are the same
same_by_third : (g h k : Group) → is_same g k ≡ true → is_same h k ≡ true → is_same g h ≡ true
same_by_third g h k s t =
    let p = same_parts g k s in
    let q = same_parts h k t in
    (both_equal g.region h.region (servers_of g.arcs) (servers_of h.arcs)).1 (p.0 ∙ sym q.0, p.1 ∙ sym q.1)

-- no two groups are the same
abbrev Apart : List Group → Type 0
Apart [] = ⊤
Apart (g ∷ groups) = AllByRecursion (λ h. is_same g h ≡ false) groups × Apart groups

-- groups that differ in pairs differ from each later one
from_pairs : (groups : List Group) → AllPairs (λ g h. is_same g h ≡ false) groups → Apart groups
from_pairs [] apart = tt
from_pairs (g ∷ groups) apart = (
  recursion_from_All (λ h. is_same g h ≡ false) groups
      (λ k d l. apart 0 (suc k) d (omega arith) (omega arith)),
  from_pairs groups (λ i j d l m. apart (suc i) (suc j) d (omega arith) (omega arith)),
)

-- and the other way round
to_pairs : (groups : List Group) → Apart groups → AllPairs (λ g h. is_same g h ≡ false) groups
to_pairs [] apart = λ i j d l m. absurd (omega arith)
to_pairs (g ∷ groups) apart =
    AllPairs-cons (λ (a b : Group). is_same a b ≡ false) g groups
    (All-from_recursion (λ h. is_same g h ≡ false) groups apart.0) (to_pairs groups apart.1)

-- ---- the groups with one more

module _ (own : Group) where
  -- a group that differs from one that is the same as another differs from that one
  differs : (g h : Group) → is_same g own ≡ true → is_same g h ≡ false → is_same h own ≡ false
  differs g h same other =
      false_from_ne_true (is_same h own) (λ t. false≢true (sym other ∙ same_by_third g h own same t))

  -- what holds of all groups with one more
  all_with : (P Q : Group → Type 0) → ((g : Group) → is_same g own ≡ false → P g → Q g)
      → ((g : Group) → is_same g own ≡ true → P g → Q (with_count own.demand g)) → (groups : List Group)
      → Apart groups → (list_any (λ g. is_same g own) groups ≡ false → Q own) → AllByRecursion P groups
      → AllByRecursion Q (with_group own groups)
  all_with P Q keeps adds [] apart new all = (new refl, tt)
  all_with P Q keeps adds (g ∷ groups) apart new all = elim (cases_Bool (is_same g own)) [
    | inl e ↦ rw e (
      adds g e all.0,
      all_both (λ h. is_same g h ≡ false) P Q groups (λ h other p. keeps h (differs g h e other) p) apart.0
          all.1,
    )
    | inr e ↦ rw e (
      keeps g e all.0,
      all_with P Q keeps adds groups apart.1
          (λ none. new (or_from (is_same g own) (list_any (λ h. is_same h own) groups) e none)) all.1,
    )
  ]

  -- they differ
  apart_with : (groups : List Group) → Apart groups → Apart (with_group own groups)
  apart_with [] apart = (tt, tt)
  apart_with (g ∷ groups) apart = elim (cases_Bool (is_same g own)) [
    | inl e ↦ rw e apart
    | inr e ↦ rw e (
      all_with (λ h. is_same g h ≡ false) (λ h. is_same g h ≡ false) (λ h other s. s) (λ h same s. s) groups
          apart.1 (λ none. e) apart.0,
      apart_with groups apart.1,
    )
  ]

  module _ (test : Group → Bool) (stays : (g : Group) (count : ℕ) → test (with_count count g) ≡ test g) where
    -- what is among the groups is among them still
    any_still : (groups : List Group) → list_any test groups ≡ true → list_any test (with_group own groups) ≡ true
    any_still [] some = absurd (false≢true some)
    any_still (g ∷ groups) some = elim (cases_Bool (is_same g own)) [
      | inl e ↦ rw (e, stays g own.demand) some
      | inr e ↦ rw e (elim (or_cases (test g) (list_any test groups) some) [
        | inl here ↦ or_left (test g) (list_any test (with_group own groups)) here
        | inr later ↦ or_right (test g) (list_any test (with_group own groups)) (any_still groups later)
      ])
    ]

    -- and so is the one more
    any_own : test own ≡ true → ((g : Group) → is_same g own ≡ true → test g ≡ true) → (groups : List Group)
        → list_any test (with_group own groups) ≡ true
    any_own passes alike [] = or_left (test own) false passes
    any_own passes alike (g ∷ groups) = elim (cases_Bool (is_same g own)) [
      | inl e ↦ rw (e, stays g own.demand) (or_left (test g) (list_any test groups) (alike g e))
      | inr e ↦ rw e (or_right (test g) (list_any test (with_group own groups)) (any_own passes alike groups))
    ]

-- ---- their rows

-- a test that follows from another passes where that one does
any_so : {A : Type 0} (p q : A → Bool) → ((x : A) → p x ≡ true → q x ≡ true) → (xs : List A)
    → list_any p xs ≡ true → list_any q xs ≡ true
any_so p q so [] some = absurd (false≢true some)
any_so p q so (x ∷ xs) some = elim (or_cases (p x) (list_any p xs) some) [
  | inl here ↦ or_left (q x) (list_any q xs) (so x here)
  | inr later ↦ or_right (q x) (list_any q xs) (any_so p q so xs later)
]

-- rows of other groups add nothing to a group that is none of these
none_asked : (own : Group) (groups : List Group) (rows : List KeptRow)
    → AllByRecursion (λ row. list_any (λ g. is_in g row) groups ≡ true) rows
    → list_any (λ g. is_same g own) groups ≡ false → asked_by rows own ≡ 0
none_asked own groups [] placed none = refl
none_asked own groups (row ∷ rows) placed none =
    let other : is_in own row ≡ false =
    false_from_ne_true (is_in own row)
    (λ t.
    false≢true
    (sym none
    ∙ any_so (λ g. is_in g row) (λ g. is_same g own)
    (λ g s. same_by_third g own (group_of row) s t) groups placed.0)) in
    omega (
      arith,
      sum_by-cons (λ r. if is_in own r then r.count else 0) row rows,
      ap (λ t. if t then row.count else 0) other,
      none_asked own groups rows placed.1 none,
    )

module _ (arc_by : List ℕ → ℕ → Arc) where
  -- arcs of one region to the same servers are the same
  same_arcs : (r s : List ℕ) (a b : List Arc) → r ≡ s → servers_of a ≡ servers_of b → AreArcsBy arc_by r a
      → AreArcsBy arc_by s b → a ≡ b
  same_arcs r s a b e f p q = sym p ∙ ap₂ (λ v w. map (arc_by v) w) e f ∙ q

  module _ (rows : List KeptRow) (groups : List Group) (row : KeptRow) where
    -- what the rows of a group ask for, with one more
    asked_more : (g : Group)
        → asked_by (rows ++ row ∷ []) g ≡ asked_by rows g + (if is_in g row then row.count else 0)
    asked_more g = sum_by_push (λ r. if is_in g r then r.count else 0) rows row

    -- a row is in its own group
    own_in : is_in (group_of row) row ≡ true
    own_in =
        (both_equal row.region row.region (servers_of (kept_in row)) (servers_of (kept_in row))).1 (refl, refl)

    -- the groups of rows with those of one more
    pub grouped_more : IsGrouping arc_by rows groups → AreArcsBy arc_by row.region (kept_in row)
        → IsGrouping arc_by (rows ++ row ∷ []) (with_group (group_of row) groups)
    grouped_more was own_arcs = record {
      row_arcs = row_arcs;
      group_arcs = group_arcs;
      of_rows = record {
        placed =
            All-from_recursion (λ r. list_any (λ g. is_in g r) next ≡ true) (rows ++ row ∷ [])
            (all_push (λ r. list_any (λ g. is_in g r) next ≡ true) rows row
            (all_so (λ r. list_any (λ g. is_in g r) groups ≡ true) (λ r. list_any (λ g. is_in g r) next ≡ true)
            rows (λ r some. any_still own (λ g. is_in g r) (λ g count. refl) groups some) placed)
            (any_own own (λ g. is_in g row) (λ g count. refl) own_in (λ g same. same) groups));
        apart = to_pairs next (apart_with own groups apart);
        used =
            All-from_recursion (λ g. list_any (λ r. is_in g r) (rows ++ row ∷ []) ≡ true) next
            (all_with own (λ g. list_any (λ r. is_in g r) rows ≡ true)
            (λ g. list_any (λ r. is_in g r) (rows ++ row ∷ []) ≡ true) (λ g other some. used_still g some)
            (λ g same some. used_still g some) groups apart (λ none. used_own)
            (recursion_from_All (λ g. list_any (λ r. is_in g r) rows ≡ true) groups was.of_rows.used));
        arcs = λ k d l m e n is.
            let r = slice_index_or (rows ++ row ∷ []) k d in
            let g = slice_index_or next m e in
            let parts = (both_equal g.region r.region (servers_of g.arcs) (servers_of (kept_in r))).0 is in
            same_arcs r.region g.region (kept_in r) g.arcs (sym parts.0) (sym parts.1) (row_arcs k d l)
            (group_arcs m e n);
        asked =
            All-from_recursion (λ (g : Group). g.demand ≡ asked_by (rows ++ row ∷ []) g) next
            (all_with own (λ (g : Group). g.demand ≡ asked_by rows g)
            (λ (g : Group). g.demand ≡ asked_by (rows ++ row ∷ []) g)
            (λ g other e.
            omega (arith, asked_more g, ap (λ t. if t then row.count else 0) other, e))
            (λ g same e.
            omega (arith, asked_more g, ap (λ t. if t then row.count else 0) same, e)) groups apart
            (λ none.
            omega (
              arith,
              asked_more own,
              ap (λ t. if t then row.count else 0) own_in,
              none_asked own groups rows placed none,
            ))
            (recursion_from_All (λ (g : Group). g.demand ≡ asked_by rows g) groups was.of_rows.asked));
      };
    }
      where
        own : Group
        own = group_of row

        next : List Group
        next = with_group own groups

        apart : Apart groups
        apart = from_pairs groups was.of_rows.apart

        placed : AllByRecursion (λ r. list_any (λ g. is_in g r) groups ≡ true) rows
        placed = recursion_from_All (λ r. list_any (λ g. is_in g r) groups ≡ true) rows was.of_rows.placed

        row_arcs : All (λ (r : KeptRow). AreArcsBy arc_by r.region (kept_in r)) (rows ++ row ∷ [])
        row_arcs =
            All-from_recursion (λ (r : KeptRow). AreArcsBy arc_by r.region (kept_in r)) (rows ++ row ∷ [])
            (all_push (λ (r : KeptRow). AreArcsBy arc_by r.region (kept_in r)) rows row
            (recursion_from_All (λ (r : KeptRow). AreArcsBy arc_by r.region (kept_in r)) rows was.row_arcs)
            own_arcs)

        group_arcs : All (λ (g : Group). AreArcsBy arc_by g.region g.arcs) next
        group_arcs =
            All-from_recursion (λ (g : Group). AreArcsBy arc_by g.region g.arcs) next
            (all_with own (λ (g : Group). AreArcsBy arc_by g.region g.arcs)
            (λ (g : Group). AreArcsBy arc_by g.region g.arcs) (λ g other p. p) (λ g same p. p) groups apart
            (λ none. own_arcs)
            (recursion_from_All (λ (g : Group). AreArcsBy arc_by g.region g.arcs) groups was.group_arcs))

        used_still : (g : Group) → list_any (λ r. is_in g r) rows ≡ true
            → list_any (λ r. is_in g r) (rows ++ row ∷ []) ≡ true
        used_still g some =
            list_any-append (λ r. is_in g r) rows (row ∷ [])
            ∙ or_left (list_any (λ r. is_in g r) rows) (list_any (λ r. is_in g r) (row ∷ [])) some

        used_own : list_any (λ r. is_in own r) (rows ++ row ∷ []) ≡ true
        used_own =
            list_any-append (λ r. is_in own r) rows (row ∷ [])
            ∙ or_right (list_any (λ r. is_in own r) rows) (list_any (λ r. is_in own r) (row ∷ []))
            (or_left (is_in own row) false own_in)

-- the groups of rows with those of one more, by its region, its kept arcs and its count
pub grouped_as : (arc_by : List ℕ → ℕ → Arc) (rows : List KeptRow) (old new : List Group) (row : KeptRow)
    (region : List ℕ) (kept : List Arc) (count : ℕ)
    → new ≡ with_group (record { region = region; arcs = kept; demand = count }) old → IsGrouping arc_by rows old
    → IsOfRow row region kept count → AreArcsBy arc_by region kept → IsGrouping arc_by (rows ++ row ∷ []) new
grouped_as arc_by rows old new row region kept count e was is by =
    let own : Group = record { region = region; arcs = kept; demand = count } in
    let r = is.region_is in
    let k = is.kept_is in
    let n = is.count_is in
    let same : group_of row ≡ own = cc in
    subst (IsGrouping arc_by (rows ++ row ∷ [])) (ap (λ g. with_group g old) same ∙ sym e)
    (grouped_more arc_by rows old row was
    (subst (λ s. AreArcsBy arc_by s (kept_in row)) (sym r) (subst (AreArcsBy arc_by region) (sym k) by)))
