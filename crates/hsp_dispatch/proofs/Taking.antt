-- What a query takes of what is held.
use Rattle.std.proofs.Common.{◌≡◌, ◌≢◌, ◌<◌, ◌-◌, ◌∙◌, true, ℕ, List, [], ◌∷◌, length, position, take, Option, Some, Ok}
use Rattle.std.proofs.Common.{IfSome, option_map, arith, refl, sym, ap, subst, eq-eqb}
use Rattle.std.proofs.Common.{inl, inr}
use Rattle.std.specs.List.{slice_get}
use Rattle.std.specs.Str.{bytes_eq}
use Rattle.std.proofs.lemmas.Bool.{and_parts, cases_eq, ne_eqb}
use Rattle.std.proofs.lemmas.List.{get_or-set_other, get_or-set_same, length-set}
use Rattle.std.proofs.lemmas.List.Quantifiers.{position-Some}
use Rattle.std.proofs.lemmas.Option.{get_or_from_slice_get}
use Rattle.std.proofs.lemmas.Slice.Eq.{bytes_eq-Decides}
use Rattle.std.proofs.Math.ListN.{set}
use Rattle.hsp_names.specs.Handle.{handle_in}
use Rattle.hsp_instance.specs.Instance.{Instance, IsInstance, IsNamed, Row, Server, has_keys}
use Rattle.hsp_instance.specs.declared.arc.Arc.{Arc}
use Rattle.hsp_instance.proofs.Lists.{all_at, there}
use Rattle.hsp_dispatch.specs.Dispatch.{answer_at, assigned_to, end_of, server_to, spread}
use Rattle.hsp_dispatch.specs.Lines.{served_by}
use Rattle.hsp_dispatch.specs.Shares.{AreCells, AreCellsOf, Held, IsCellOf, IsHeld, IsRestOf, cells_at, first_answer}
use Rattle.hsp_dispatch.specs.Shares.{first_of, holding, left_at, left_of, taken_answer, without_first}
use Rattle.hsp_dispatch.specs.declared.answer.Answer.TheVariants.{Assigned}
use Rattle.hsp_dispatch.specs.declared.share.Cell.{Cell}
use Rattle.hsp_dispatch.proofs.Resting.{rest_here, rest_other}
use Rattle.hsp_dispatch.proofs.Shares.{first_site, none_at, sites_of, sites_within, spread_is}
use Rattle.hsp_dispatch.proofs.SharedOut.{own_arc}
use Rattle.hsp_dispatch.proofs.Spreads.{times}

-- the spread of what is left of a row
spread_held : (held : Held) (row : ℕ) → IsHeld held
    → spread held.instance (left_of held) row ≡ sites_of (cells_at held.shares row)
spread_held held row is =
    spread_is (length held.instance.sites) 0 (cells_at held.shares row) (is.each row).are
    (sites_within held.instance row (cells_at held.shares row) (is.each row))

-- ---- the answer

-- the server of a cell is at the cell's site
served : (it : Instance) (row : ℕ) (cell : Cell) → IsInstance it → IsCellOf it row cell
    → served_by (slice_get it.servers cell.server) ≡ assigned_to cell.site (server_to it row cell.site)
served it row cell is own =
    let arc = own_arc it row cell.site own.arc is own.is_arc in
    let server = arc.0.server in
    let at : slice_get it.servers cell.server ≡ Some server =
    ap (λ (n : ℕ). slice_get it.servers n) (sym own.server) ∙ arc.0.is_server in
    let to : server_to it row cell.site ≡ Some server =
    ap (λ (o : Option Arc). end_of it o) own.is_arc ∙ arc.0.is_server in
    ap served_by at ∙ ap (λ (site : ℕ). Assigned site server.place server.id) (sym arc.0.same_site ∙ arc.1)
    ∙ sym (ap (λ (o : Option Server). assigned_to cell.site o) to)

-- what is taken of the cells of a row answers a query for it, and its server is there
pub taken_by : (held : Held) (row : ℕ) (taken : Option ℕ) → IsHeld held
    → taken ≡ option_map (λ (cell : Cell). cell.server) (first_of (cells_at held.shares row))
    → (taken_answer held.instance taken ≡ first_answer held row)
    × IfSome taken (λ server. server < length held.instance.servers)
taken_by held row taken is first =
    rw (first, spread_held held row is) (by_cells (cells_at held.shares row) (is.each row))
  where
    by_cells : (cells : List Cell) → AreCellsOf held.instance row cells
        → (taken_answer held.instance (option_map (λ (cell : Cell). cell.server) (first_of cells))
        ≡ answer_at held.instance row (slice_get (sites_of cells) 0))
        × IfSome (option_map (λ (cell : Cell). cell.server) (first_of cells))
        (λ server. server < length held.instance.servers)
    by_cells [] are = (refl, tt)
    by_cells (cell ∷ cells) are = (
      served held.instance row cell is.within are.each.0
          ∙ sym
          (ap (λ (sites : List ℕ). answer_at held.instance row (slice_get sites 0))
          (first_site cells cell are.are).1),
      are.each.0.there,
    )

-- ---- what is left

-- one less at the first site
left_after : (cells : List Cell) (site : ℕ) → AreCells cells
    → left_at (without_first cells) site ≡ left_at cells site - times site (take 1 (sites_of cells))
left_after [] site are = omega arith
left_after (cell ∷ cells) site are =
    let first : take 1 (sites_of (cell ∷ cells)) ≡ cell.site ∷ [] =
    ap (λ (sites : List ℕ). take 1 sites) (first_site cells cell are).1 in
    let none = λ (at : cell.site ≡ site). none_at cells site (rw at at are.1.0) in
    rw first (grind (arith, none))

-- the cells that are left are still of the row
cells_after : (it : Instance) (row : ℕ) (cells : List Cell) → AreCellsOf it row cells
    → AreCellsOf it row (without_first cells)
cells_after it row [] are = are
cells_after it row (cell ∷ cells) are = elim (cases_eq cell.left 1) [
  | inl last ↦ rw (eq-eqb cell.left 1 last) (record { each = are.each.1; are = are.are.1.1 })
  | inr more ↦ rw (ne_eqb cell.left 1 more) (
      let own = are.each.0 in
      let some = are.are.0 in
      let same : IsCellOf it row (record cell { left = cell.left - 1 }) =
      record { site = own.site; arc = own.arc; is_arc = own.is_arc; server = own.server; there = own.there } in
      record { each = (same, are.each.1); are = (omega arith, are.are.1) })
]

-- one query is taken of the cells of a row
pub record IsTakenFrom (old : List (List Cell)) (row : ℕ) (new : List (List Cell)) : Type 0 where
  pub many : length new ≡ length old
  pub own : cells_at new row ≡ without_first (cells_at old row)
  pub others : (other : ℕ) → row ≢ other → cells_at new other ≡ cells_at old other

-- so it is where the first cell of one row is written anew
pub taken_one : (shares : List (List Cell)) (row : ℕ) (cells : List Cell) → row < length shares
    → cells ≡ without_first (cells_at shares row)
    → IsTakenFrom shares row (set shares row cells)
taken_one shares row cells inside is = record {
  many = length-set shares row cells;
  own = get_or-set_same shares row cells [] inside ∙ is;
  others = λ other apart. get_or-set_other shares row other cells [] (λ same. apart (sym same));
}

-- what is left is still held for the rows of the instance
pub held_after : (it : Instance) (old : List (List Cell)) (row : ℕ) (new : List (List Cell)) → IsHeld (holding it old)
    → IsTakenFrom old row new → IsHeld (holding it new)
held_after it old row new is taken = record {
  within = is.within;
  one_a_row = taken.many ∙ is.one_a_row;
  each = λ other. elim (cases_eq row other) [
    | inl here ↦ rw (← here, taken.own) (cells_after it row (cells_at old row) (is.each row))
    | inr apart ↦ rw (taken.others other apart) (is.each other)
  ];
}

-- what is left is what the query left of the plan
pub rest_after : (it : Instance) (old : List (List Cell)) (row : ℕ) (new : List (List Cell)) → IsHeld (holding it old)
    → IsTakenFrom old row new
    → IsRestOf (holding it old) row (holding it new)
rest_after it old row new is taken entry found other site = elim (cases_eq row other) [
  | inl here ↦ rw (← here) (
      ap (λ (cells : List Cell). left_at cells site) taken.own ∙ left_after (cells_at old row) site (is.each row).are
      ∙ ap (λ (sites : List ℕ). left_of (holding it old) row site - times site (take 1 sites))
      (sym (spread_held (holding it old) row is))
      ∙ sym (rest_here it (left_of (holding it old)) row site entry found))
  | inr apart ↦
      ap (λ (cells : List Cell). left_at cells site) (taken.others other apart)
      ∙ sym (rest_other it (left_of (holding it old)) row other site entry found apart)
]

-- ---- the row of a query

-- the row that is found is of the handle
pub row_found : (it : Instance) (region handle : List ℕ) (row : ℕ)
    → position (has_keys region handle) it.rows ≡ Some row
    → (own : Row) × (slice_get it.rows row ≡ Some own) × (handle ≡ own.handle)
row_found it region handle row found =
    let none : Row = record { region = []; handle = []; count = 0 } in
    let at = position-Some (has_keys region handle) it.rows row none found in
    let own = there it.rows row at.0 in
    let tested : has_keys region handle own.0 ≡ true =
    rw (get_or_from_slice_get it.rows row own.0 none own.1) at at.1 in (
      own.0,
      own.1,
      (bytes_eq-Decides handle own.0.handle).0
          (and_parts (bytes_eq region own.0.region) (bytes_eq handle own.0.handle) tested).1,
    )

-- a row that was found by a handle has that handle
pub row_handle : (it : Instance) (region handle : List ℕ) (row : ℕ) → IsInstance it
    → position (has_keys region handle) it.rows ≡ Some row → handle_in handle ≡ Ok handle
row_handle it region handle row is found =
    let own = row_found it region handle row found in
    subst (λ (octets : List ℕ). handle_in octets ≡ Ok octets) (sym own.2)
    (all_at IsNamed it.rows row own.0 is.rows.named own.1).handle
