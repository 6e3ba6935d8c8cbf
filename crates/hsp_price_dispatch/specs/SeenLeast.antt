-- The least arcs of rows that were seen.
use Rattle.std.specs.Prelude.{◌≡◌, ◌++◌, ℕ, List, [], ◌∷◌, Option, None, Some, if◌then◌else◌, length, option_map}
use Rattle.std.specs.Prelude.{slice_get}
use Rattle.std.specs.List.{AllByRecursion, find}
use Rattle.hsp_prices.specs.Rows.{Service}
use Rattle.hsp_price_text.specs.Claim.{Best}
use Rattle.hsp_price_check.specs.Seen.{Seen, is_left_out, number_of, of_row}
use Rattle.hsp_price_dispatch.specs.Choosing.{Least, least_for}
use Rattle.hsp_price_dispatch.specs.declared.seen_least.LentLeast.{LentLeast}

abbrev pub lent_least : LentLeast → Least
lent_least least = record { arcs = least.arcs.now; class = least.class }

-- rows, each with the number of a list of least arcs, and these lists
pub record SeenLists : Type 0 where
  pub rows : List Seen
  pub lists : List Least

-- the list with a number
abbrev pub list_at : List Least → Option ℕ → Option Least
list_at lists None = None
list_at lists (Some number) = slice_get lists number

-- the least arcs that were put in for a row
abbrev pub least_seen : SeenLists → List ℕ → List ℕ → Option Least
least_seen seen region handle = list_at seen.lists (option_map number_of (find (of_row region handle) seen.rows))

-- with the least arcs of one row more, which may be left out
abbrev pub with_least : SeenLists → List ℕ → List ℕ → Least → SeenLists
with_least seen region handle least =
    if is_left_out seen.rows region handle then seen else record {
      rows = seen.rows ++ record { region = region; handle = handle; number = length seen.lists } ∷ [];
      lists = seen.lists ++ least ∷ [];
    }

-- a row has its own least arcs of a service, by a plan
abbrev pub HasItsLeast : Service → Best → List Least → Seen → Type 0
HasItsLeast at plan lists seen = slice_get lists seen.number ≡ Some (least_for at plan seen.region seen.handle)

abbrev pub HaveTheirLeast : Service → Best → SeenLists → Type 0
HaveTheirLeast at plan seen = AllByRecursion (HasItsLeast at plan seen.lists) seen.rows
