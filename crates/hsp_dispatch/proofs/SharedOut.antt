-- The cells that the uses of a plan give the rows of an instance.
use Rattle.std.proofs.Common.{◌≡◌, ◌<◌, ◌≤◌, ◌+◌, ◌∙◌, ◌++◌, ◌==◌, ◌&&◌, Bool, true, ℕ, zero, suc, List, [], ◌∷◌}
use Rattle.std.proofs.Common.{length, map, take, replicate, if◌then◌else◌, Option, Some, None, arith, refl, sym, ap}
use Rattle.std.proofs.Common.{subst, eq-eqb, eqb-true}
use Rattle.std.proofs.Common.{inl, inr}
use Rattle.std.specs.List.{AllByRecursion, list_all, list_any, slice_get}
use Rattle.std.proofs.lemmas.Bool.{and_parts, cases_Bool, cases_eq, cases_lt, ne_eqb, or_cases}
use Rattle.std.proofs.lemmas.List.{append-nil, get_or-set_other, get_or-set_same, length-replicate, length-set}
use Rattle.std.proofs.lemmas.List.Elements.{recursion_from_All}
use Rattle.std.proofs.lemmas.List.Folds.{list_any-append}
use Rattle.std.proofs.lemmas.List.Sums.{sum_by-cons}
use Rattle.std.proofs.lemmas.Option.{get_or_from_slice_get, slice_get_past, slice_get_within}
use Rattle.std.proofs.Math.ListN.{set}
use Rattle.hsp_text.specs.declared.limits.TheConstants.{GREATEST_COUNT}
use Rattle.hsp_cert.specs.declared.use_line.UseLine.{UseLine}
use Rattle.hsp_cert.specs.Certificate.{ascends, ascends_from, is_before, is_use}
use Rattle.hsp_instance.specs.Instance.{AreArcs, Instance, IsArc, IsInstance, IsServer}
use Rattle.hsp_instance.specs.declared.arc.Arc.{Arc}
use Rattle.hsp_instance.proofs.Lists.{all_at, all_from}
use Rattle.hsp_check.specs.declared.arc.NetworkArc.{NetworkArc}
use Rattle.hsp_check.specs.Instance.{arc_of, arcs_from, network_of}
use Rattle.hsp_check.specs.Network.{is_allowed}
use Rattle.hsp_check.specs.Uses.{table}
use Rattle.hsp_dispatch.specs.Dispatch.{IsSame, arc_to}
use Rattle.hsp_dispatch.specs.Shares.{AreCells, AreUsesOf, IsCellOf, IsHeld, cell_of, cells_at, cells_of, holding}
use Rattle.hsp_dispatch.specs.Shares.{left_at, left_of, number_of, with_first}
use Rattle.hsp_dispatch.specs.Standings.{AreBounded}
use Rattle.hsp_dispatch.specs.declared.share.Cell.{Cell}
use Rattle.hsp_dispatch.proofs.Lists.{take_next}
use Rattle.hsp_dispatch.proofs.Shares.{none_at}
use Rattle.hsp_text.proofs.Lists.{all_take}
use Rattle.hsp_instance.proofs.Lists.{all_so}

-- ---- uses in order

-- a use before another one
pub record Before (u v : UseLine) : Type 0 where
  pub rows : u.row ≤ v.row
  pub sites : u.row ≡ v.row → u.site < v.site

-- the test of two uses in order is that of their places
before_is : (u v : UseLine) → is_before u v ≡ true → Before u v
before_is u v test = record { rows = grind arith; sites = λ same. grind arith }

-- a use before one is before those behind it
before_both : (u v w : UseLine) → Before u v → Before v w → Before u w
before_both u v w a b =
    let sites : u.row ≡ w.row → u.site < w.site = λ same. grind (arith, a.sites, b.sites, a.rows, b.rows) in
    record { rows = omega (arith, a.rows, b.rows); sites = sites }

abbrev pub InOrder : List UseLine → Type 0
InOrder [] = Unit {0}
InOrder (one ∷ uses) = AllByRecursion (Before one) uses × InOrder uses

-- uses that ascend from one are all behind it
order_from : (one : UseLine) (uses : List UseLine) → ascends_from is_before (Some one) uses ≡ true
    → AllByRecursion (Before one) uses × InOrder uses
order_from one [] order = (tt, tt)
order_from one (next ∷ uses) order =
    let parts = and_parts (is_before one next) (ascends_from is_before (Some next) uses) order in
    let first = before_is one next parts.0 in
    let rest = order_from next uses parts.1 in (
      (first, all_so (Before next) (Before one) uses (λ later after. before_both one next later first after) rest.0),
      rest,
    )

-- uses that ascend are in order
pub in_order : (uses : List UseLine) → ascends is_before uses ≡ true → InOrder uses
in_order [] order = tt
in_order (one ∷ uses) order = order_from one uses (and_parts true (ascends_from is_before (Some one) uses) order).1

-- a use has something, and no more than a row may
abbrev IsCounted : UseLine → Type 0
IsCounted one = (0 < one.count) × (one.count ≤ GREATEST_COUNT)

-- a use that passes its test has a count within its limit
is_counted : (one : UseLine) → is_use one ≡ true → IsCounted one
is_counted one is = (grind arith, grind arith)

-- so has each use
counted : (uses : List UseLine) → list_all is_use uses ≡ true → AllByRecursion IsCounted uses
counted [] all = tt
counted (one ∷ uses) all =
    let each = and_parts (is_use one) (list_all is_use uses) all in
    (is_counted one each.0, counted uses each.1)

-- ---- cells in order

-- what holds of the cells of a row, since it holds of its uses
cells_so : (it : Instance) (row : ℕ) (P : UseLine → Type 0) (Q : Cell → Type 0)
    → ((one : UseLine) → one.row ≡ row → P one → Q (cell_of it one)) → (uses : List UseLine)
    → AllByRecursion P uses → AllByRecursion Q (cells_of it row uses)
cells_so it row P Q so [] all = tt
cells_so it row P Q so (one ∷ uses) all = elim (cases_eq one.row row) [
  | inl here ↦ rw (eq-eqb one.row row here) (so one here all.0, cells_so it row P Q so uses all.1)
  | inr other ↦ rw (ne_eqb one.row row other) (cells_so it row P Q so uses all.1)
]

-- the cells of a row come after a site where the uses of the row do
cells_after : (it : Instance) (first : UseLine) (uses : List UseLine) → AllByRecursion (Before first) uses
    → AllByRecursion (λ (cell : Cell). first.site < cell.site) (cells_of it first.row uses)
cells_after it first uses after =
    cells_so it first.row (Before first) (λ (cell : Cell). first.site < cell.site)
    (λ one here before. before.sites (sym here)) uses after

-- the cells of a row's uses are in order, and none is empty
are_cells : (it : Instance) (row : ℕ) (uses : List UseLine) → InOrder uses → AllByRecursion IsCounted uses
    → AreCells (cells_of it row uses)
are_cells it row [] order counts = tt
are_cells it row (one ∷ uses) order counts = elim (cases_eq one.row row) [
  | inl here ↦
      let later : AllByRecursion (λ (cell : Cell). one.site < cell.site) (cells_of it row uses) =
      rw (← here) (cells_after it one uses order.0) in
      rw (eq-eqb one.row row here) (counts.0.0, (later, are_cells it row uses order.1 counts.1))
  | inr other ↦ rw (ne_eqb one.row row other) (are_cells it row uses order.1 counts.1)
]

-- what a use adds to a place of the table
abbrev count_at : ℕ → ℕ → UseLine → ℕ
count_at row site one = if one.row == row && one.site == site then one.count else 0

-- what is left of the cells is what the uses say
left_is : (it : Instance) (row site : ℕ) (uses : List UseLine) → InOrder uses
    → left_at (cells_of it row uses) site ≡ table uses row site
left_is it row site [] order = refl
left_is it row site (one ∷ uses) order =
    let later = λ (here : one.row ≡ row). cells_after it one uses order.0 in
    let cells = cells_of it row uses in
    let none = λ (here : one.row ≡ row) (at : one.site ≡ site). none_at cells site (rw (← here, ← at) (later here)) in
    grind (arith, none, sum_by-cons (count_at row site) one uses, left_is it row site uses order.1)

-- ---- uses that go where they may

-- among the arcs of a row, if any, is one to the site
pub record HasArcTo (site : ℕ) (arcs : Option (List Arc)) : Type 0 where
  pub arc : Arc
  pub is_arc : arc_to site arcs ≡ Some arc

-- the test of the arcs of a row to a site
abbrev goes : ℕ → ℕ → NetworkArc → Bool
goes row site a = a.row == row && a.site == site

-- an arc among those of a row leads to the site
arc_among : (i row site : ℕ) (arcs : List Arc) → list_any (goes row site) (map (arc_of i) arcs) ≡ true
    → (i ≡ row) × HasArcTo site (Some arcs)
arc_among i row site [] any = absurd (cc)
arc_among i row site (arc ∷ arcs) any =
    elim (or_cases (i == row && arc.site == site) (list_any (goes row site) (map (arc_of i) arcs)) any) [
      | inl here ↦
          let parts = and_parts (i == row) (arc.site == site) here in
          (eqb-true i row parts.0, record { arc = arc; is_arc = rw parts.1 refl })
      | inr later ↦
          let rest = arc_among i row site arcs later in (
            rest.0,
            elim (cases_Bool (arc.site == site)) [
              | inl at ↦ record { arc = arc; is_arc = rw at refl }
              | inr away ↦ record { arc = rest.1.arc; is_arc = rw away rest.1.is_arc }
            ],
          )
    ]

-- an arc among those of all rows is of one row's list
arc_from : (i row site : ℕ) (lists : List (List Arc)) → list_any (goes row site) (arcs_from i lists) ≡ true
    → (k : ℕ) × (row ≡ i + k) × HasArcTo site (slice_get lists k)
arc_from i row site [] any = absurd (cc)
arc_from i row site (arcs ∷ lists) any =
    elim (or_cases (list_any (goes row site) (map (arc_of i) arcs)) (list_any (goes row site) (arcs_from (i + 1) lists))
    (sym (list_any-append (goes row site) (map (arc_of i) arcs) (arcs_from (i + 1) lists)) ∙ any)) [
      | inl here ↦
          let own = arc_among i row site arcs here in
          (0, omega (arith, own.0), own.1)
      | inr later ↦
          let rest = arc_from (i + 1) row site lists later in
          (suc rest.0, omega (arith, rest.1), rest.2)
    ]

-- an allowed site has an arc of the row
pub has_arc : (it : Instance) (row site : ℕ) → is_allowed (network_of it) row site ≡ true
    → HasArcTo site (slice_get it.arcs row)
has_arc it row site allowed =
    let found = arc_from 0 row site it.arcs allowed in
    let same : row ≡ found.0 = omega (arith, found.1) in
    rw same found.2

-- ---- cells of an instance

-- a row with an arc is there
row_there : (site row : ℕ) (lists : List (List Arc)) → HasArcTo site (slice_get lists row) → row < length lists
row_there site row lists has = elim (cases_lt row (length lists)) [
  | inl inside ↦ inside
  | inr past ↦ let none : arc_to site (slice_get lists row) ≡ None =
      rw (slice_get_past lists row past) refl in absurd (cc (none, has.is_arc))
]

-- the arc that is found is one of the arcs, and of the site
pub found_so : (P : Arc → Type 0) (site : ℕ) (arcs : List Arc) (arc : Arc) → AllByRecursion P arcs
    → arc_to site (Some arcs) ≡ Some arc → P arc × (arc.site ≡ site)
found_so P site [] arc all found = absurd (cc)
found_so P site (first ∷ arcs) arc all found = elim (cases_Bool (first.site == site)) [
  | inl at ↦
      let same : first ≡ arc = cc (rw at at found) in
      rw (← same) (all.0, eqb-true first.site site at)
  | inr away ↦ found_so P site arcs arc all.1 (rw away at found)
]

-- the arc of a row to a site is one of the instance
pub own_arc : (it : Instance) (row site : ℕ) (arc : Arc) → IsInstance it
    → arc_to site (slice_get it.arcs row) ≡ Some arc → IsArc it.servers arc × (arc.site ≡ site)
own_arc it row site arc is found = by_list (slice_get it.arcs row) refl found
  where
    by_list : (own : Option (List Arc)) → slice_get it.arcs row ≡ own → arc_to site own ≡ Some arc
        → IsArc it.servers arc × (arc.site ≡ site)
    by_list None e found = absurd (cc)
    by_list (Some arcs) e found =
        found_so (IsArc it.servers) site arcs arc (all_at (AreArcs it.servers) it.arcs row arcs is.arcs e).each found

-- the cell of a use has the server of its arc
cell_is : (it : Instance) (one : UseLine) → IsInstance it → is_allowed (network_of it) one.row one.site ≡ true
    → IsCellOf it one.row (cell_of it one)
cell_is it one is allowed =
    let has = has_arc it one.row one.site allowed in
    let own = own_arc it one.row one.site has.arc is has.is_arc in
    let server =
    all_at (IsServer it.sites (length it.hosts)) it.servers has.arc.server own.0.server is.servers.each
    own.0.is_server in
    let number : (cell_of it one).server ≡ has.arc.server = ap number_of has.is_arc in
    record {
      site =
          rw (sym own.1 ∙ own.0.same_site)
          (slice_get_within it.sites own.0.server.site server.place.site server.place.is_site);
      arc = has.arc;
      is_arc = has.is_arc;
      server = sym number;
      there = rw number (slice_get_within it.servers has.arc.server own.0.server own.0.is_server);
    }

abbrev Goes : Instance → UseLine → Type 0
Goes it one = is_allowed (network_of it) one.row one.site ≡ true

-- so has each cell of a row
each_is : (it : Instance) (row : ℕ) (uses : List UseLine) → IsInstance it → AllByRecursion (Goes it) uses
    → AllByRecursion (IsCellOf it row) (cells_of it row uses)
each_is it row uses is goes =
    cells_so it row (Goes it) (IsCellOf it row)
    (λ one here allowed. subst (λ (r : ℕ). IsCellOf it r (cell_of it one)) here (cell_is it one is allowed)) uses
    goes

-- ---- one use after the other

-- one use more is one cell more of its own row
cells_more : (it : Instance) (row : ℕ) (uses : List UseLine) (one : UseLine)
    → cells_of it row (uses ++ one ∷ []) ≡ cells_of it row uses ++ (if one.row == row then cell_of it one ∷ [] else [])
cells_more it row [] one = refl
cells_more it row (first ∷ uses) one = grind (arith, cells_more it row uses one)

-- the first uses
record AreGiven (it : Instance) (uses : List UseLine) : Type 0 where
  order : InOrder uses
  counts : AllByRecursion IsCounted uses
  goes : AllByRecursion (Goes it) uses

-- the first of uses in order are in order
order_take : (n : ℕ) (uses : List UseLine) → InOrder uses → InOrder (take n uses)
order_take zero uses order = tt
order_take (suc n) [] order = tt
order_take (suc n) (one ∷ uses) order = (all_take (Before one) n uses order.0, order_take n uses order.1)

-- uses of a certificate keep to its rules
are_given : (it : Instance) (uses : List UseLine) → AreUsesOf it uses → AreGiven it uses
are_given it uses are =
    record {
      order = in_order uses are.order;
      counts = counted uses are.ranges;
      goes = recursion_from_All (Goes it) uses are.allowed;
    }

-- the row of a use is there
pub use_there : (it : Instance) (uses : List UseLine) (k : ℕ) (one : UseLine) → IsInstance it → AreUsesOf it uses
    → slice_get uses k ≡ Some one → one.row < length it.rows
use_there it uses k one is are e =
    let goes = all_at (Goes it) uses k one (are_given it uses are).goes e in
    let inside = row_there one.site one.row it.arcs (has_arc it one.row one.site goes) in
    omega (arith, is.one_list_a_row)

-- the next use puts its cell behind those of its row
own_more : (it : Instance) (uses : List UseLine) (k : ℕ) (one : UseLine) → slice_get uses k ≡ Some one
    → cells_of it one.row (take (k + 1) uses) ≡ cells_of it one.row (take k uses) ++ cell_of it one ∷ []
own_more it uses k one e =
    ap (λ (us : List UseLine). cells_of it one.row us) (take_next uses k one e)
    ∙ cells_more it one.row (take k uses) one ∙ rw (eq-eqb one.row one.row refl) refl

-- so it does where nothing is put in for nothing, since a use has something
cell_more : (it : Instance) (uses : List UseLine) (k : ℕ) (one : UseLine) → AreUsesOf it uses
    → slice_get uses k ≡ Some one
    → cells_of it one.row (take (k + 1) uses) ≡ cells_of it one.row (take k uses) ++ with_first (cell_of it one) []
cell_more it uses k one are e =
    let some : 0 < one.count = (all_at IsCounted uses k one (counted uses are.ranges) e).0 in
    own_more it uses k one e ∙ rw (ne_eqb one.count 0 (λ none. omega (arith, some, none))) refl

-- the cell of a use comes after those of its row's earlier ones
pub cells_stay : (it : Instance) (uses : List UseLine) (k : ℕ) (one : UseLine) → AreUsesOf it uses
    → slice_get uses k ≡ Some one
    → AreCells (cells_of it one.row (take k uses) ++ with_first (cell_of it one) [])
cells_stay it uses k one are e =
    let given = are_given it uses are in
    subst AreCells (cell_more it uses k one are e)
    (are_cells it one.row (take (k + 1) uses) (order_take (k + 1) uses given.order)
    (all_take IsCounted (k + 1) uses given.counts))

-- for each row the cells that the uses give it
pub record AreSharesOf (it : Instance) (uses : List UseLine) (shares : List (List Cell)) : Type 0 where
  pub one_a_row : length shares ≡ length it.rows
  pub each : (row : ℕ) → cells_at shares row ≡ cells_of it row uses

-- at first no row has a cell
pub shared_none : (it : Instance) → AreSharesOf it [] (replicate (length it.rows) [])
shared_none it = record { one_a_row = length-replicate (length it.rows) []; each = none_at_row (length it.rows) }
  where
    none_at_row : (n row : ℕ) → cells_at (replicate n []) row ≡ []
    none_at_row zero row = refl
    none_at_row (suc n) zero = refl
    none_at_row (suc n) (suc row) = none_at_row n row

-- one use more: its cell is added to those of its row
pub shared_more : (it : Instance) (uses : List UseLine) (k : ℕ) (one : UseLine) (shares : List (List Cell))
    (cells : List Cell) → AreUsesOf it uses → slice_get uses k ≡ Some one
    → AreSharesOf it (take k uses) shares → one.row < length it.rows
    → cells ≡ cells_of it one.row (take k uses) ++ with_first (cell_of it one) []
    → AreSharesOf it (take (k + 1) uses) (set shares one.row cells)
shared_more it uses k one shares cells own e are inside new = record {
  one_a_row = length-set shares one.row cells ∙ are.one_a_row;
  each = λ row. elim (cases_eq one.row row) [
    | inl here ↦
        rw (← here)
        (get_or-set_same shares one.row cells [] (omega (arith, are.one_a_row)) ∙ new
        ∙ sym (cell_more it uses k one own e))
    | inr other ↦
        get_or-set_other shares one.row row cells [] (λ same. other (sym same)) ∙ are.each row
        ∙ sym
        (ap (λ (us : List UseLine). cells_of it row us) (take_next uses k one e)
        ∙ cells_more it row (take k uses) one
        ∙ rw (ne_eqb one.row row other) (append-nil (cells_of it row (take k uses))))
  ];
}

-- ---- all uses

module _ (it : Instance) (uses : List UseLine) (shares : List (List Cell)) (are : AreUsesOf it uses)
    (shared : AreSharesOf it uses shares) where
  -- the cells are held for the rows of the instance
  pub are_held : IsInstance it → IsHeld (holding it shares)
  are_held is =
      let given = are_given it uses are in
      record {
        within = is;
        one_a_row = shared.one_a_row;
        each = λ row.
            rw (shared.each row)
            (record {
              each = each_is it row uses is given.goes;
              are = are_cells it row uses given.order given.counts;
            });
      }

  -- what is held is the plan
  pub table_held : IsSame (left_of (holding it shares)) (table uses)
  table_held row site =
      ap (λ (cells : List Cell). left_at cells site) (shared.each row)
      ∙ left_is it row site uses (are_given it uses are).order

  -- each cell has no more than a row's count may be
  pub all_bounded : AllByRecursion AreBounded shares
  all_bounded =
      all_from AreBounded shares (λ row cells e.
      let same : cells ≡ cells_of it row uses =
      sym (get_or_from_slice_get shares row cells [] e) ∙ shared.each row in
      rw same
      (cells_so it row IsCounted (λ (cell : Cell). cell.left ≤ GREATEST_COUNT) (λ u here counts. counts.1) uses
      (counted uses are.ranges)))
