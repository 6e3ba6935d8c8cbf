-- What the fronts hold.
use Rattle.std.proofs.Common.{◌≡◌, ◌≢◌, ◌<◌, ◌≤◌, ◌+◌, ◌-◌, ◌*◌, ◌∙◌, ℕ, zero, suc, List, [], ◌∷◌, length, option_map}
use Rattle.std.proofs.Common.{set, slice_index, slice_index_or, Option, None, Some, Ok, arith, refl, sym, ap, zero-add}
use Rattle.std.proofs.Common.{inl, inr}
use Rattle.std.specs.Prelude.{IfSome}
use Rattle.std.specs.List.{range_with_len, slice_get}
use Rattle.std.proofs.lemmas.Bool.{cases_eq, cases_lt, lt-ltb}
use Rattle.std.proofs.lemmas.List.{get_or-map, get_or-set_other, get_or-set_same, get_or_past}
use Rattle.std.proofs.lemmas.List.FromFn.{get_or-range_with_len, length-map-range_with_len, length-range_with_len}
use Rattle.std.proofs.lemmas.Option.{get_or_from_slice_get, slice_get_within}
use Rattle.std.proofs.Math.Nat.{mul-le-mul_right, suc-mul}
use Rattle.hsp_text.specs.declared.limits.TheConstants.{MOST_SITES}
use Rattle.hsp_names.specs.Handle.{handle_in}
use Rattle.hsp_instance.specs.Instance.{Instance}
use Rattle.hsp_check.specs.Plan.{Plan}
use Rattle.hsp_log.specs.Entries.{Entry}
use Rattle.hsp_dispatch.specs.Dispatch.{IsSame, row_of}
use Rattle.hsp_dispatch.specs.Lines.{answer_of, given_of}
use Rattle.hsp_dispatch.specs.Shares.{AreCellsOf, IsCellOf, IsHeld, cells_at, first_answer, first_of, holding, left_at}
use Rattle.hsp_dispatch.specs.Shares.{left_of, taken_answer, without_first}
use Rattle.hsp_dispatch.specs.Fronts.{AreFrontsOf, AreHeld, IsTakenAt, IsTakenOf, Tables, answer_among, held_at}
use Rattle.hsp_dispatch.specs.Fronts.{left_at_front}
use Rattle.hsp_log.specs.FrontShares.{share}
use Rattle.hsp_dispatch.specs.Standings.{all_sums, left_among, lefts_from, lefts_of, place_of, shares_in}
use Rattle.hsp_dispatch.specs.Steps.{TakesAt}
use Rattle.hsp_dispatch.specs.declared.answer.FrontAnswer.TheVariants.{Answered}
use Rattle.hsp_dispatch.specs.declared.answer.Given.{Given}
use Rattle.hsp_dispatch.specs.declared.share.Cell.{Cell}
use Rattle.hsp_log.proofs.FrontShares.{share_none}
use Rattle.hsp_dispatch.proofs.Parts.{part_left, parts_of_row}
use Rattle.hsp_dispatch.proofs.Shares.{sites_within}
use Rattle.hsp_dispatch.proofs.Standings.{few_cells, left_taken, left_whole, sums_at}
use Rattle.hsp_dispatch.proofs.Taking.{IsTakenFrom, held_after, rest_after, taken_by}

-- what is held by the cells of rows and the numbers of fronts
abbrev pub tables_by : Instance → ℕ → List (List Cell) → List ℕ → Tables
tables_by it fronts rows lefts = record { instance = it; fronts = fronts; shares = lefts_of fronts rows lefts }

-- the cells of a front
abbrev shares_at : Tables → ℕ → List (List Cell)
shares_at tables front = (held_at tables front).shares

-- ---- the cells that a front has left of a row

-- the cells of a front and row go by the number that it has left
from_at : (fronts front first : ℕ) (rows : List (List Cell)) (lefts : List ℕ) (row : ℕ)
    → cells_at (lefts_from fronts front first rows lefts) row
    ≡ left_among fronts front (slice_index lefts (place_of fronts front (first + row))) (cells_at rows row)
from_at fronts front first [] lefts row = refl
from_at fronts front first (cells ∷ rows) lefts zero = let same : first + 0 ≡ first = omega arith in rw same refl
from_at fronts front first (cells ∷ rows) lefts (suc row) =
    let same : first + 1 + row ≡ first + suc row = omega arith in
    rw same at (from_at fronts front (first + 1) rows lefts row)

-- each row has its cells
from_long : (fronts front first : ℕ) (rows : List (List Cell)) (lefts : List ℕ)
    → length (lefts_from fronts front first rows lefts) ≡ length rows
from_long fronts front first [] lefts = refl
from_long fronts front first (cells ∷ rows) lefts = ap suc (from_long fronts front (first + 1) rows lefts)

-- the same where the front's numbers are the same
from_same : (fronts front first : ℕ) (rows : List (List Cell)) (lefts new : List ℕ)
    → ((row : ℕ) → slice_index new (place_of fronts front row) ≡ slice_index lefts (place_of fronts front row))
    → lefts_from fronts front first rows new ≡ lefts_from fronts front first rows lefts
from_same fronts front first [] lefts new same = refl
from_same fronts front first (cells ∷ rows) lefts new same =
    rw (same first, from_same fronts front (first + 1) rows lefts new same) refl

-- the lists of the fronts that there are
front_here : (fronts : ℕ) (rows : List (List Cell)) (lefts : List ℕ) (front : ℕ) → front < fronts
    → slice_index_or (lefts_of fronts rows lefts) front [] ≡ lefts_from fronts front 0 rows lefts
front_here fronts rows lefts front inside =
    let own : ℕ → List (List Cell) = λ (n : ℕ). lefts_from fronts n 0 rows lefts in
    get_or-map own (range_with_len 0 fronts) front 0 [] (omega (arith, inside, length-range_with_len 0 fronts))
    ∙ ap own (get_or-range_with_len 0 fronts front 0 inside ∙ zero-add front)

-- a front that is not there has nothing
no_front : (fronts : ℕ) (rows : List (List Cell)) (lefts : List ℕ) (front : ℕ) → fronts ≤ front
    → slice_index_or (lefts_of fronts rows lefts) front [] ≡ []
no_front fronts rows lefts front past =
    get_or_past (lefts_of fronts rows lefts) front []
    (omega (arith, past, length-map-range_with_len (λ (n : ℕ). lefts_from fronts n 0 rows lefts) 0 fronts))

module _ (it : Instance) (fronts : ℕ) (rows : List (List Cell)) (lefts : List ℕ) (front : ℕ) (inside : front < fronts)
  where
    cells_left_of : (row : ℕ)
        → cells_at (shares_at (tables_by it fronts rows lefts) front) row
        ≡ left_among fronts front (slice_index lefts (place_of fronts front row)) (cells_at rows row)
    cells_left_of row =
        rw (front_here fronts rows lefts front inside) (rw (zero-add row) at (from_at fronts front 0 rows lefts row))

    pub long : length (shares_at (tables_by it fronts rows lefts) front) ≡ length rows
    long = rw (front_here fronts rows lefts front inside) (from_long fronts front 0 rows lefts)

    -- what is left at a site
    pub number_left : (row left site : ℕ) → slice_get lefts (place_of fronts front row) ≡ Some left
        → left_at (left_among fronts front left (cells_at rows row)) site
        ≡ left_at_front (tables_by it fronts rows lefts) front row site
    number_left row left site at =
        ap (λ (n : ℕ). left_at (left_among fronts front n (cells_at rows row)) site)
        (sym (get_or_from_slice_get lefts (place_of fronts front row) left 0 at))
        ∙ ap (λ (cells : List Cell). left_at cells site) (sym (cells_left_of row))

    -- nothing where there is no such row
    pub no_row_left : (row site : ℕ) → length rows ≤ row
        → 0 ≡ left_at_front (tables_by it fronts rows lefts) front row site
    no_row_left row site past =
        ap
        (λ (cells : List Cell). left_at
        (left_among fronts front (slice_index lefts (place_of fronts front row)) cells) site)
        (sym (get_or_past rows row [] past))
        ∙ ap (λ (cells : List Cell). left_at cells site) (sym (cells_left_of row))

-- nor where there is no such front
pub no_front_left : (it : Instance) (fronts : ℕ) (rows : List (List Cell)) (lefts : List ℕ) (front row site : ℕ)
    → fronts ≤ front
    → 0 ≡ left_at_front (tables_by it fronts rows lefts) front row site
no_front_left it fronts rows lefts front row site past = rw (no_front fronts rows lefts front past) refl

-- ---- at first each front holds its shares

module _ (it : Instance) (fronts : ℕ) (rows : List (List Cell)) (held : IsHeld (holding it rows)) where
  abbrev first : Tables
  first = tables_by it fronts rows (all_sums fronts rows)

  -- at first a front has its share of each cell
  first_cells : (front : ℕ) → front < fronts → (row : ℕ)
      → cells_at (shares_at first front) row ≡ shares_in fronts front (cells_at rows row)
  first_cells front inside row =
      cells_left_of it fronts rows (all_sums fronts rows) front inside row ∙ elim (cases_lt row (length rows)) [
        | inl there ↦ left_whole fronts front _ (cells_at rows row) (sums_at fronts front row rows inside there)
        | inr past ↦ rw (get_or_past rows row [] past) refl
      ]

  -- at first every front holds its share
  pub all_hold : AreHeld first
  all_hold = record {
    within = held.within;
    each = λ front inside. record {
      within = held.within;
      one_a_row = long it fronts rows (all_sums fronts rows) front inside ∙ held.one_a_row;
      each =
          λ row.
          rw (first_cells front inside row)
          (parts_of_row (share fronts front) it row (cells_at rows row) (held.each row));
    };
  }

  -- the shares of all fronts are the plan
  pub all_share : (x : Plan) → IsSame (left_of (holding it rows)) x → AreFrontsOf it x fronts first
  all_share x same = record {
    instance = refl;
    many = refl;
    each = λ front inside row site.
        ap (λ (cells : List Cell). left_at cells site) (first_cells front inside row)
        ∙ part_left (share fronts front) (share_none fronts front) site (cells_at rows row) (held.each row).are
        ∙ ap (share fronts front) (same row site);
  }

-- the cells of a row are no more than the sites may be
pub few_held : (it : Instance) (shares : List (List Cell)) (row : ℕ) (cells : List Cell) → IsHeld (holding it shares)
    → slice_get shares row ≡ Some cells
    → length cells ≤ MOST_SITES
few_held it shares row cells is e =
    let own : AreCellsOf it row cells = rw (get_or_from_slice_get shares row cells [] e) at (is.each row) in
    omega (arith, few_cells (length it.sites) 0 cells own.are (sites_within it row cells own), is.within.sites.few)

-- ---- one front takes of a row

-- no two fronts and no two rows have their number at one place
row_of_place : (fronts one other front row : ℕ) → one < fronts → front < fronts
    → place_of fronts one other ≡ place_of fronts front row → other ≤ row
row_of_place fronts one other front row inside there same = elim (cases_lt row other) [
  | inl less ↦
      let next : suc row * fronts ≤ other * fronts = mul-le-mul_right fronts less in
      absurd (omega (arith, next, suc-mul row fronts, same, there))
  | inr most ↦ most
]

-- each front and row has a place of its own
one_place : (fronts one other front row : ℕ) → one < fronts → front < fronts
    → place_of fronts one other ≡ place_of fronts front row → (other ≡ row) × (one ≡ front)
one_place fronts one other front row inside there same =
    let row_is : other ≡ row =
    omega (
      arith,
      row_of_place fronts one other front row inside there same,
      row_of_place fronts front row one other there inside (sym same),
    ) in
    (row_is, omega (arith, rw row_is at same))

-- a front has taken one of a row: its number is one less
module _ (it : Instance) (fronts : ℕ) (rows : List (List Cell)) (lefts : List ℕ) (front row left : ℕ)
    (are : AreHeld (tables_by it fronts rows lefts))
    (inside : front < fronts) (at : slice_get lefts (place_of fronts front row) ≡ Some left) where
  abbrev place : ℕ
  place = place_of fronts front row

  abbrev old : Tables
  old = tables_by it fronts rows lefts

  abbrev new : Tables
  new = tables_by it fronts rows (set lefts place (left - 1))

  -- that place is there
  there : place < length lefts
  there = slice_get_within lefts place left at

  -- what a front has of a row goes by its number there
  own_cells : cells_at (shares_at old front) row ≡ left_among fronts front left (cells_at rows row)
  own_cells =
      cells_left_of it fronts rows lefts front inside row
      ∙ ap (λ (n : ℕ). left_among fronts front n (cells_at rows row)) (get_or_from_slice_get lefts place left 0 at)

  -- by what it has left there
  pub number_answers : (taken : Option ℕ)
      → taken ≡ option_map (λ (cell : Cell). cell.server) (first_of (left_among fronts front left (cells_at rows row)))
      → (taken_answer it taken ≡ first_answer (held_at old front) row)
      × IfSome taken (λ server. server < length it.servers)
  number_answers taken is =
      taken_by (held_at old front) row taken (are.each front inside)
      (is ∙ ap (λ (cells : List Cell). option_map (λ (cell : Cell). cell.server) (first_of cells)) (sym own_cells))

  -- taking a query takes it from the front's own cells
  own_taken : IsTakenFrom (shares_at old front) row (shares_at new front)
  own_taken = record {
    many = long it fronts rows (set lefts place (left - 1)) front inside ∙ sym (long it fronts rows lefts front inside);
    own =
        cells_left_of it fronts rows (set lefts place (left - 1)) front inside row
        ∙ ap (λ (n : ℕ). left_among fronts front n (cells_at rows row)) (get_or-set_same lefts place (left - 1) 0 there)
        ∙ sym (ap without_first own_cells ∙ left_taken fronts front left (cells_at rows row));
    others = λ other apart.
        cells_left_of it fronts rows (set lefts place (left - 1)) front inside other
        ∙ ap (λ (n : ℕ). left_among fronts front n (cells_at rows other))
        (get_or-set_other lefts place (place_of fronts front other) (left - 1) 0
        (λ same. apart (sym (one_place fronts front other front row inside inside same).0)))
        ∙ sym (cells_left_of it fronts rows lefts front inside other);
  }

  -- the other fronts keep what they have
  others_same : (other : ℕ) → other ≢ front → shares_at new other ≡ shares_at old other
  others_same other apart = elim (cases_lt other fronts) [
    | inl is ↦
        front_here fronts rows (set lefts place (left - 1)) other is
        ∙ from_same fronts other 0 rows lefts (set lefts place (left - 1))
        (λ n.
        get_or-set_other lefts place (place_of fronts other n) (left - 1) 0
        (λ same. apart (one_place fronts other n front row is inside same).1))
        ∙ sym (front_here fronts rows lefts other is)
    | inr past ↦ no_front fronts rows (set lefts place (left - 1)) other past
        ∙ sym (no_front fronts rows lefts other past)
  ]

  -- one number less is one query taken
  pub number_taken : IsTakenOf front row old new
  number_taken entry found = record {
    instance = refl;
    many = refl;
    own =
        λ is.
        rest_after it (shares_at old front) row (shares_at new front) (are.each front inside) own_taken entry found;
    others =
        λ other apart place site.
        ap (λ (shares : List (List Cell)). left_of (holding it shares) place site) (others_same other apart);
  }

  -- the numbers still say what each front has
  pub number_held : AreHeld new
  number_held = record {
    within = are.within;
    each = λ other within. elim (cases_eq other front) [
      | inl same ↦
          rw same (held_after it (shares_at old front) row (shares_at new front) (are.each front inside) own_taken)
      | inr apart ↦ rw (others_same other apart) (are.each other within)
    ];
  }

-- ---- answers by what is taken

-- what is taken of the row of an entry answers it
pub answered_at : (tables : Tables) (front row : ℕ) (entry : Entry) (taken : Option ℕ) → front < tables.fronts
    → row_of tables.instance entry ≡ Some row
    → taken_answer tables.instance taken ≡ first_answer (held_at tables front) row
    → Answered (taken_answer tables.instance taken) ≡ answer_among tables front entry
answered_at tables front row entry taken inside found first =
    rw (lt-ltb front tables.fronts inside, found) (ap Answered first)

-- how an answer was given is that answer
given_answer : (it : Instance) (taken : Option ℕ) → answer_of it (given_of taken) ≡ Answered (taken_answer it taken)
given_answer it None = refl
given_answer it (Some number) = refl

-- the answer at a front is the first that is left to it
pub given_at : (tables after : Tables) (front row : ℕ) (entry : Entry) (taken : Option ℕ) (given : Given)
    → front < tables.fronts
    → handle_in entry.handle ≡ Ok entry.handle → row_of tables.instance entry ≡ Some row → given ≡ given_of taken
    → taken_answer tables.instance taken ≡ first_answer (held_at tables front) row → IsTakenOf front row tables after
    → TakesAt front tables entry after given
given_at tables after front row entry taken given inside good found is first rest = record {
  handle = good;
  answer =
      ap (answer_of tables.instance) is ∙ given_answer tables.instance taken
      ∙ answered_at tables front row entry taken inside found first;
  left = rest entry found;
}
