-- Rows that are passed over one after another.
use Rattle.std.proofs.Common.{◌≡◌, ◌≤◌, ◌<◌, ◌+◌, ◌*◌, ◌∙◌, ◌++◌, ℕ, List, drop, length, map, take, get_or, set, suc}
use Rattle.std.proofs.Common.{add-one, ap, arith, subst, sym, take_all}
use Rattle.std.proofs.Math.Nat.{suc-mul}
use Rattle.std.proofs.lemmas.List.{append-nil, drop_all, get_or_read, take_at}
use Rattle.std.proofs.lemmas.List.Edits.{map_over_more}
use Rattle.std.proofs.lemmas.List.Elements.{All-from_recursion}
use Rattle.std.proofs.lemmas.List.Sums.{sum_by-set}
use Rattle.std.specs.List.{AllByRecursion}
use borrow.Rule.Slice.PartMut.{put_mid}
use Rattle.hsp_instance.specs.RowArcs.{IsWithin}
use Rattle.hsp_prices.specs.KeptRows.{KeptRow, arcs_in, loose_in, loose_of}
use Rattle.hsp_price_plan.specs.Entries.{arcs_by, bare_arcs, loose_count}
use Rattle.hsp_price_plan.specs.Held.{AreInPlace, AreWithin, HeldRows, no_row, rows_by}
use Rattle.hsp_price_plan.specs.Keeping.{IsKeptBy, row_by}
use Rattle.hsp_price_plan.specs.Regions.{RegionArcs, no_region, region_at}
use Rattle.hsp_price_plan.specs.declared.region.SiteCost.{SiteCost}
use Rattle.hsp_price_plan.proofs.Halves.{half_at}
use Rattle.hsp_price_plan.proofs.Settling.{IsKeeping, rows_settled}
use Rattle.hsp_price_plan.proofs.RowPlaces.{entries_at, get_or-rows_by, length-entries_at, length-rows_by}
use Rattle.hsp_price_plan.proofs.RowPlaces.{length-with_entries, rows_by-with_entries, with_entries}

-- the region of a row
abbrev pub region_by : List RegionArcs → List ℕ → ℕ → RegionArcs
region_by regions numbers row = region_at regions (get_or numbers row 0)

-- the region of a row is there
pub number_below : (sites : ℕ) (regions : List RegionArcs) (numbers counts places : List ℕ) (row : ℕ)
    → AreInPlace sites regions numbers counts places → row < length numbers → get_or numbers row 0 < length regions
number_below sites regions numbers counts places row place inside =
    All-from_recursion (λ number. number < length regions) numbers place.known row 0 inside

-- its sites are no more than there may be
pub shape_short : (sites : ℕ) (regions : List RegionArcs) (numbers counts places : List ℕ) (row : ℕ)
    → AreInPlace sites regions numbers counts places → row < length numbers
    → length (region_by regions numbers row).shape ≤ sites
shape_short sites regions numbers counts places row place inside =
    All-from_recursion (λ region. length region.shape ≤ sites) regions place.shapes (get_or numbers row 0) no_region
    (number_below sites regions numbers counts places row place inside)

-- the rows before one are changed, and those from it on stay
pub record ArePassed (f : KeptRow → KeptRow) (sites : ℕ) (regions : List RegionArcs) (numbers counts old now : List ℕ)
    (row kept : ℕ) : Type 0 where
  pub many : length now ≡ length old
  pub rows : rows_by sites regions numbers counts now
      ≡ map f (take row (rows_by sites regions numbers counts old))
      ++ drop row (rows_by sites regions numbers counts old)
  pub counted : kept + loose_of (rows_by sites regions numbers counts now)
      ≡ loose_of (rows_by sites regions numbers counts old)
  pub few : kept ≤ row * sites

-- one row more keeps no more arcs than it has sites
few_more : (sites row kept count : ℕ) → count ≤ sites → kept ≤ row * sites → kept + count ≤ (row + 1) * sites
few_more sites row kept count one less =
    let more : suc row * sites ≡ row * sites + sites = suc-mul row sites in
    rw add-one (omega (arith, more, one, less))

module _ (f : KeptRow → KeptRow) (sites : ℕ) (regions : List RegionArcs) (numbers counts old : List ℕ)
    (place : AreInPlace sites regions numbers counts old) where
  -- there are as many rows as regions of them
  old_rows : length (rows_by sites regions numbers counts old) ≡ length numbers
  old_rows = length-rows_by sites regions numbers counts old place.many_counts

  -- a row that is still as it was leads where it did
  pub passed_within : (servers : ℕ) (now : List ℕ) (row kept : ℕ) → row < length numbers
      → ArePassed f sites regions numbers counts old now row kept
      → AreWithin servers (rows_by sites regions numbers counts old)
      → AllByRecursion (IsWithin servers) (bare_arcs (region_by regions numbers row).shape (entries_at sites row now))
  passed_within servers now row kept inside so within =
      let was = All-from_recursion (λ own. AllByRecursion (IsWithin servers) (arcs_in own))
      (rows_by sites regions numbers counts old) within row no_row (omega (arith, old_rows, inside)) in
      let here : get_or (rows_by sites regions numbers counts old) row no_row
      ≡ row_by (region_by regions numbers row) (entries_at sites row now) (get_or counts row 0) =
      sym (half_at f (rows_by sites regions numbers counts old) row no_row (omega (arith, old_rows, inside)))
      ∙ ap (λ rows. get_or rows row no_row) (sym so.rows)
      ∙ get_or-rows_by sites regions numbers counts now row no_row inside place.many_counts in
      let P : KeptRow → Type 0 = λ own. AllByRecursion (IsWithin servers) (arcs_in own) in
      subst P here was

  -- one row more is passed over
  pub passed_more : (now entries : List ℕ) (row kept count : ℕ) → row < length numbers → length entries ≡ sites
      → IsKeptBy f (region_by regions numbers row).shape (entries_at sites row now) entries count
      → ArePassed f sites regions numbers counts old now row kept
      → ArePassed f sites regions numbers counts old (with_entries sites (row * sites) now entries) (row + 1)
      (kept + count)
  passed_more now entries row kept count inside own is so =
      let region = region_by regions numbers row in
      let all = rows_by sites regions numbers counts in
      let n = get_or counts row 0 in
      let was = row_by region (entries_at sites row now) n in
      let now_many : length now ≡ length numbers * sites = so.many ∙ place.many_places in
      let now_rows : length (all now) ≡ length numbers =
      length-rows_by sites regions numbers counts now place.many_counts in
      let written : all (with_entries sites (row * sites) now entries) ≡ set (all now) row (row_by region entries n) =
      rows_by-with_entries sites regions numbers counts now entries row inside place.many_counts now_many own in
      let read : get_or (all now) row was ≡ was =
      get_or-rows_by sites regions numbers counts now row was inside place.many_counts in
      let sums = sum_by-set loose_in (all now) row (row_by region entries n) was (omega (arith, now_rows, inside)) in
      let short = shape_short sites regions numbers counts old row place inside in
      record {
        many = length-with_entries (length numbers) row sites now entries inside now_many own ∙ so.many;
        rows =
            written ∙ ap (set (all now) row) (is.row region.name n)
            ∙ map_over_more f (all old) (all now) row was (omega (arith, old_rows, inside)) so.rows (sym read);
        counted =
            let after : loose_of (all (with_entries sites (row * sites) now entries))
            ≡ loose_of (set (all now) row (row_by region entries n)) =
            ap loose_of written in
            let here : loose_of (set (all now) row (row_by region entries n))
            + loose_count (arcs_by region.shape (entries_at sites row now))
            ≡ loose_of (all now) + loose_count (arcs_by region.shape entries) =
            rw read at sums in
            omega (arith, after, here, so.counted, is.counted);
        few = few_more sites row kept count (omega (arith, is.few, short)) so.few;
      }

  -- past the last row all are
  pub passed_all : (now : List ℕ) (row kept : ℕ) → length numbers ≤ row
      → ArePassed f sites regions numbers counts old now row kept
      → rows_by sites regions numbers counts now ≡ map f (rows_by sites regions numbers counts old)
  passed_all now row kept end so =
      let rows = rows_by sites regions numbers counts old in
      so.rows ∙ ap (λ part. map f part ++ drop row rows) (take_all row rows (omega (arith, old_rows, end)))
      ∙ ap (λ part. map f rows ++ part) (drop_all row rows (omega (arith, old_rows, end))) ∙ append-nil (map f rows)

  -- ---- as a pass over places in memory has them

  -- the arcs of the next row lead to servers that are there
  pub within_next : (servers : ℕ) (now places : List ℕ) (shape : List SiteCost) (row kept s k : ℕ)
      → row < length numbers → s ≡ sites → k ≡ sites → places ≡ now → shape ≡ (region_by regions numbers row).shape
      → ArePassed f sites regions numbers counts old now row kept
      → AreWithin servers (rows_by sites regions numbers counts old)
      → AllByRecursion (IsWithin servers) (bare_arcs shape (take k (drop (row * s) places)))
  within_next servers now places shape row kept s k inside s_is k_is places_is shape_is so within =
      rw (s_is, k_is, places_is, shape_is) (passed_within servers now row kept inside so within)

  -- the next row is passed over in place
  pub passed_next : (now places entries rest : List ℕ) (shape : List SiteCost) (row kept count s k len : ℕ)
      → row < length numbers → s ≡ sites → k ≡ sites → len ≡ length now → places ≡ now
      → shape ≡ (region_by regions numbers row).shape
      → length entries ≡ length (take k (drop (row * s) places))
      → IsKeptBy f shape (take k (drop (row * s) places)) entries count
      → ArePassed f sites regions numbers counts old now row kept
      → ArePassed f sites regions numbers counts old (take len (put_mid (row * s) k places entries ++ rest)) (row + 1)
      (kept + count)
  passed_next now places entries rest shape row kept count s k len inside s_is k_is len_is places_is shape_is own is
      so =
      let now_many : length now ≡ length numbers * sites = so.many ∙ place.many_places in
      let own_many : length entries ≡ sites =
      (rw (s_is, k_is, places_is) at own) ∙ length-entries_at (length numbers) row sites now inside now_many in
      let all = length-with_entries (length numbers) row sites now entries inside now_many own_many in
      let new = with_entries sites (row * sites) now entries in
      rw (s_is, k_is, places_is, take_at new rest len (omega (arith, all, len_is)))
      (passed_more now entries row kept count inside own_many (rw (s_is, k_is, places_is, shape_is) at is) so)

  -- where nothing was kept the rows are as before
  pub passed_settled : (now : List ℕ) (row kept : ℕ) → IsKeeping f → length numbers ≤ row → kept ≡ 0
      → ArePassed f sites regions numbers counts old now row kept
      → rows_by sites regions numbers counts now ≡ rows_by sites regions numbers counts old
  passed_settled now row kept keeps end none so =
      let all = passed_all now row kept end so in
      let same : loose_of (map f (rows_by sites regions numbers counts old))
      ≡ loose_of (rows_by sites regions numbers counts old) =
      ap loose_of (sym all) ∙ omega (arith, so.counted, none) in
      all ∙ rows_settled f keeps (rows_by sites regions numbers counts old) same

-- the region that is read for a row
pub region_read : (regions : List RegionArcs) (numbers : List ℕ) (row number read : ℕ) (region : RegionArcs)
    → row < length numbers → get_or numbers row 0 < length regions → number ≡ read → read ≡ get_or numbers row read
    → region ≡ get_or regions number region → region ≡ region_by regions numbers row
region_read regions numbers row number read region inside below number_is read_is region_is =
    let which : number ≡ get_or numbers row 0 = number_is ∙ get_or_read numbers row read inside read_is 0 in
    get_or_read regions number region (omega (arith, which, below)) region_is no_region
    ∙ ap (λ n. get_or regions n no_region) which

-- the value of rows in memory
abbrev pub held_with : ℕ → List RegionArcs → List KeptRow → HeldRows
held_with sites regions rows = record { sites = sites; regions = regions; rows = rows }
