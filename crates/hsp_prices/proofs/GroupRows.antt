-- Rows and their groups: what sums over rows are over groups, and what a group's least arcs are.
use Rattle.std.proofs.Common.{◌≡◌, ℕ, ◌<◌, ◌∙◌, ◌&&◌, Bool, true, List, [], ◌∷◌, All, length, sum_by}
use Rattle.std.proofs.Common.{ap, ap₂, sym, subst, slice_index_or, arith}
use Rattle.std.specs.List.{AllByRecursion, AllZip, list_any}
use Rattle.std.specs.Str.{bytes_eq}
use Rattle.std.proofs.lemmas.List.Elements.{All-from_recursion, recursion_from_All}
use Rattle.std.proofs.lemmas.List.Folds.{Any-from_list_any}
use Rattle.hsp_transport.proofs.Rowwise.{when, when_same}
use Rattle.hsp_instance.specs.Instance.{IsAscending, Row}
use Rattle.hsp_instance.specs.declared.arc.Arc.{Arc}
use Rattle.hsp_instance.proofs.Lists.{all_so}
use Rattle.hsp_prices.specs.Rows.{Service}
use Rattle.hsp_prices.proofs.Tabling.{both_equal}
use Rattle.hsp_price_text.specs.Claim.{Best, Class}
use Rattle.hsp_prices.specs.Least.{is_of, least_arcs, least_of, pay_over, servers_of}
use Rattle.hsp_prices.specs.Shown.{IsService}
use Rattle.hsp_prices.specs.Sums.{cost_at}
use Rattle.hsp_prices.proofs.ClassKinds.{least_ascend, own_least}
use Rattle.hsp_prices.proofs.Lists.{all_both, same_sum}
use Rattle.hsp_prices.proofs.Once.{AtMostOnce}
use Rattle.hsp_prices.specs.Groups.{AreGroupsOf, Group, is_in, is_same}
use Rattle.hsp_prices.specs.KeptRows.{IsRow, KeptRow, kept_in, with_least}
use Rattle.hsp_prices.specs.Solved.{AreRows, is_part}
use Rattle.hsp_prices.proofs.LeastFlows.{AreApart}
use Rattle.hsp_prices.proofs.Parted.{once_apart, sum_parted}
use Rattle.hsp_prices.proofs.RowLeast.{least_kept}
use Rattle.hsp_prices.proofs.RowPairs.{alike_so, with_first}

module _ (at : Service) (plan : Best) where
  -- the least arcs that a row keeps
  abbrev pub least_in : KeptRow → List Arc
  least_in row = least_arcs (pay_over at plan) (kept_in row)

  -- those of a group
  abbrev pub least_by : Group → List Arc
  least_by group = least_arcs (pay_over at plan) group.arcs

  -- the same row, which keeps its least arcs
  pub record IsKeptAs (row : Row) (kept : KeptRow) : Type 0 where
    pub region : kept.region ≡ row.region
    pub count : kept.count ≡ row.count
    pub least : least_of at plan row ≡ least_in kept

  -- rows in memory that keep their least arcs are such
  pub all_kept_as : (rows : List Row) (kept : List KeptRow) → AreRows at rows kept
      → All (λ row. with_least (pay_over at plan) row ≡ row) kept → AllZip IsKeptAs rows kept
  all_kept_as rows kept are least =
      alike_so (IsRow at) IsKeptAs (λ row. with_least (pay_over at plan) row ≡ row)
      (λ row k is same. record {
        region = is.region;
        count = is.count;
        least = ap (least_arcs (pay_over at plan)) (sym is.arcs) ∙ least_kept (pay_over at plan) k same;
      }) rows kept are
      (recursion_from_All (λ row. with_least (pay_over at plan) row ≡ row) kept least)

  -- a row is of a class, by the arcs that it keeps
  abbrev pub is_of_kept : Class → KeptRow → Bool
  is_of_kept class row = bytes_eq class.region row.region && bytes_eq class.servers (servers_of (least_in row))

  -- which is what it is by all its arcs
  pub same_class : (class : Class) (row : Row) (kept : KeptRow) → IsKeptAs row kept
      → is_of at plan class row ≡ is_of_kept class kept
  same_class class row kept is =
      ap₂ (λ r arcs. bytes_eq class.region r && bytes_eq class.servers (servers_of arcs)) (sym is.region) is.least

  -- a row is of a class where its group is
  pub class_of_group : (class : Class) (group : Group) (row : KeptRow) → is_in group row ≡ true
      → kept_in row ≡ group.arcs → is_of_kept class row ≡ is_part at plan class group
  class_of_group class group row own same =
      ap₂
      (λ r arcs. bytes_eq class.region r
      && bytes_eq class.servers (servers_of (least_arcs (pay_over at plan) arcs)))
      (sym ((both_equal group.region row.region (servers_of group.arcs) (servers_of (kept_in row))).0 own).0) same

  -- ---- the groups of rows

  -- a row is of at most one group
  once_in : (groups : List Group) (kept : List KeptRow) → AreGroupsOf kept groups → (row : KeptRow)
      → AtMostOnce (λ group. is_in group row) groups
  once_in groups kept are row =
      once_apart (λ group. is_in group row) is_same
      (λ g h s t.
      let p = (both_equal g.region row.region (servers_of g.arcs) (servers_of (kept_in row))).0 s in
      let q = (both_equal h.region row.region (servers_of h.arcs) (servers_of (kept_in row))).0 t in
      (both_equal g.region h.region (servers_of g.arcs) (servers_of h.arcs)).1 (p.0 ∙ sym q.0, p.1 ∙ sym q.1))
      groups are.apart

  -- a sum over rows is the sum over groups of the sums over their rows
  pub by_group : (groups : List Group) (kept : List KeptRow) → AreGroupsOf kept groups → (w : KeptRow → ℕ)
      (v : Group → KeptRow → ℕ)
      → ((group : Group) (row : KeptRow) → is_in group row ≡ true → kept_in row ≡ group.arcs → w row ≡ v group row)
      → sum_by w kept ≡ sum_by (λ group. sum_by (λ row. when (is_in group row) (v group row)) kept) groups
  by_group groups kept are w v same =
      sum_parted is_in w kept groups
      (recursion_from_All (λ row. list_any (λ group. is_in group row) groups ≡ true) kept are.placed)
      (once_in groups kept are)
      ∙ same_sum _ _ groups
      (recursion_from_All
      (λ group. sum_by (λ row. when (is_in group row) (w row)) kept
      ≡ sum_by (λ row. when (is_in group row) (v group row)) kept) groups
      (λ k d l.
      let group = slice_index_or groups k d in
      same_sum (λ row. when (is_in group row) (w row)) (λ row. when (is_in group row) (v group row)) kept
      (recursion_from_All (λ row. when (is_in group row) (w row) ≡ when (is_in group row) (v group row)) kept
      (λ i e m.
      let row = slice_index_or kept i e in
      when_same (is_in group row) (w row) (v group row) (λ own.
      same group row own (are.arcs i e m k d l own))))))

  -- ---- the least arcs of a group

  -- an arc's server is there, and its cost is that of its region
  abbrev pub Stands : List ℕ → Arc → Type 0
  Stands region arc = (arc.server < length at.servers) × (arc.cost ≡ cost_at at region arc.server)

  -- arcs of a region to servers that differ
  pub record AreLeast (region : List ℕ) (arcs : List Arc) : Type 0 where
    pub apart : AreApart arcs
    pub stand : AllByRecursion (Stands region) arcs

  -- a row of a group, with its place
  pub record HasRow (kept : List KeptRow) (group : Group) : Type 0 where
    pub place : ℕ
    pub other : KeptRow
    pub there : place < length kept
    pub own : is_in group (slice_index_or kept place other) ≡ true
    pub arcs : kept_in (slice_index_or kept place other) ≡ group.arcs

  -- each group has one
  pub has_row : (groups : List Group) (kept : List KeptRow) → AreGroupsOf kept groups → All (HasRow kept) groups
  has_row groups kept are k d l =
      let group = slice_index_or groups k d in
      let found = Any-from_list_any (λ row. is_in group row) kept (are.used k d l) in
      let own : is_in group (slice_index_or kept found.0 found.1) ≡ true =
      ap (λ row. is_in group row) found.3 ∙ found.4 in record {
        place = found.0;
        other = found.1;
        there = found.2;
        own = own;
        arcs = are.arcs found.0 found.1 found.2 k d l own;
      }

  -- ascending arcs that are known by their servers lead to servers that differ
  apart_servers : (P : Arc → Type 0) → ((a b : Arc) → P a → P b → a.server ≡ b.server → a ≡ b) → (arcs : List Arc)
      → IsAscending arcs → AllByRecursion P arcs → AreApart arcs
  apart_servers P known [] up own = tt
  apart_servers P known (a ∷ arcs) up own = (
    all_both (λ (b : Arc). a.site < b.site) P (λ (b : Arc). a.server ≡ b.server → ⊥) arcs
        (λ b after is e.
        let same : a.site ≡ b.site = ap (λ (c : Arc). c.site) (known a b own.0 is e) in omega (arith, after, same))
        up.0 own.1,
    apart_servers P known arcs up.1 own.1,
  )

  module _ (is : IsService at) where
    -- the least arcs of a row are such
    row_least : (row : Row) → AreLeast row.region (least_of at plan row)
    row_least row = record {
      apart = apart_servers _ (λ a b p q e. let own = p.same in let other = q.same in cc) (least_of at plan row)
          (least_ascend at plan row) (own_least at plan is row);
      stand =
          all_so _ (Stands row.region) (least_of at plan row)
          (λ a own. (own.there, ap (λ (b : Arc). b.cost) own.same)) (own_least at plan is row);
    }

    -- and so are those of a group
    pub group_least : (rows : List Row) (kept : List KeptRow) (groups : List Group) → AllZip IsKeptAs rows kept
        → AreGroupsOf kept groups
        → AllByRecursion (λ (group : Group). AreLeast group.region (least_by group)) groups
    group_least rows kept groups are-kept are =
        recursion_from_All (λ (group : Group). AreLeast group.region (least_by group)) groups
        (λ k d l.
        let group = slice_index_or groups k d in
        let has = has_row groups kept are k d l in
        let row = slice_index_or kept has.place has.other in
        let shown =
        All-from_recursion (λ r. (x : Row) × IsKeptAs x r) kept (with_first IsKeptAs rows kept are-kept) has.place
        has.other has.there in
        let region : shown.0.region ≡ group.region =
        sym
        (((both_equal group.region row.region (servers_of group.arcs) (servers_of (kept_in row))).0 has.own).0
        ∙ shown.1.region) in
        let least : least_of at plan shown.0 ≡ least_by group =
        shown.1.least ∙ ap (least_arcs (pay_over at plan)) has.arcs in
        subst (λ r. AreLeast r (least_by group)) region
        (subst (AreLeast shown.0.region) least (row_least shown.0)))
