-- Rows of demand, of whose arcs some are kept. A search holds the other arcs back until its end shows that none of
-- them matters.
use Rattle.std.specs.Prelude.{◌≡◌, ◌||◌, ℕ, Bool, false, not, List, filter, length, map, sum_by, if◌then◌else◌}
use Rattle.std.specs.List.{list_all}
use Rattle.hsp_instance.specs.Instance.{Row}
use Rattle.hsp_instance.specs.declared.arc.Arc.{Arc}
use Rattle.hsp_prices.specs.Rows.{Service}
use Rattle.hsp_prices.specs.Least.{arcs_of, is_least}

-- an arc, and whether it is kept
pub record KeptArc : Type 0 where
  pub arc : Arc
  pub is_kept : Bool

-- a row's region, its arcs and how many queries it asks for
pub record KeptRow : Type 0 where
  pub region : List ℕ
  pub arcs : List KeptArc
  pub count : ℕ

-- all its arcs, and those that are kept
abbrev pub arcs_in : KeptRow → List Arc
arcs_in row = map (λ a. a.arc) row.arcs

abbrev pub kept_in : KeptRow → List Arc
kept_in row = map (λ a. a.arc) (filter (λ a. a.is_kept) row.arcs)

-- a row of a service with its arcs, none of which is kept
abbrev pub row_with : Service → Row → KeptRow
row_with at row = record {
  region = row.region;
  arcs = map (λ arc. record { arc = arc; is_kept = false }) (arcs_of at row);
  count = row.count;
}

-- the same row, whichever of its arcs are kept
pub record IsRow (at : Service) (row : Row) (kept : KeptRow) : Type 0 where
  pub region : kept.region ≡ row.region
  pub arcs : arcs_in kept ≡ arcs_of at row
  pub count : kept.count ≡ row.count

-- ---- to keep more arcs

-- an arc that passes a test is kept too
abbrev pub kept_if : (Arc → Bool) → KeptArc → KeptArc
kept_if test a = record { arc = a.arc; is_kept = a.is_kept || test a.arc }

abbrev pub keeping : (Arc → Bool) → KeptRow → KeptRow
keeping test row = record {
  region = row.region;
  arcs = map (kept_if test) row.arcs;
  count = row.count;
}

-- with the arcs over which a query pays least
abbrev pub with_least : (Arc → ℕ) → KeptRow → KeptRow
with_least pay row = keeping (is_least pay (arcs_in row)) row

-- with all arcs, where each of those that are kept leads into a set of servers and another arc doesn't
abbrev pub with_leaving : (ℕ → Bool) → KeptRow → KeptRow
with_leaving set row =
    if list_all (λ arc. set arc.server) (kept_in row) then keeping (λ arc. not (set arc.server)) row else row

-- how many arcs of rows aren't kept
abbrev pub loose_in : KeptRow → ℕ
loose_in row = length (filter (λ a. not a.is_kept) row.arcs)

abbrev pub loose_of : List KeptRow → ℕ
loose_of rows = sum_by loose_in rows
