-- What a front holds of a plan by prices: what is left of the amounts of classes, and the room that is left at servers
-- and hosts.
use Rattle.std.specs.Prelude.{ℕ, ◌-◌, ◌==◌, ◌&&◌, Bool, true, List, Option, None, Some, nat_lt, slice_index, slice_set}
use Rattle.std.specs.Prelude.{slice_index_or, sum_by, if◌then◌else◌}
use Rattle.hsp_check.specs.Plan.{is_on}
use Rattle.hsp_prices.specs.Rows.{Service}
use Rattle.hsp_price_text.specs.Claim.{Best}
use Rattle.hsp_prices.specs.Least.{host_at}
use Rattle.hsp_instance.specs.declared.arc.Arc.{Arc}
use Rattle.hsp_price_dispatch.specs.declared.cells.Cell.{Cell}

-- a service, the plan, a cell for each server of each class in their order, and the room left at each server and host
pub record Held : Type 0 where
  pub service : Service
  pub plan : Best
  pub cells : List Cell
  pub rooms : List ℕ
  pub host_rooms : List ℕ

-- ---- room

-- the room left at a server, and at a host
abbrev pub room_at : Held → ℕ → ℕ
room_at own j = slice_index own.rooms j

abbrev pub host_room_at : Held → ℕ → ℕ
host_room_at own h = slice_index own.host_rooms h

-- what is left of the amounts of classes at the servers that pass a test
abbrev pub left_where : (ℕ → Bool) → List Cell → ℕ
left_where test cells = sum_by (λ cell. if test cell.server then cell.left else 0) cells

-- how much room is held for classes at a server, and at the servers of a host
abbrev pub held_at : Held → ℕ → ℕ
held_at own j = left_where (λ k. k == j) own.cells

abbrev pub host_held_at : Held → ℕ → ℕ
host_held_at own h = left_where (λ k. is_on (host_at own.service k) h) own.cells

-- the host passes, if there is one
abbrev pub host_passes : Option ℕ → (ℕ → Bool) → Bool
host_passes None test = true
host_passes (Some h) test = test h

-- more room is left at a server than is held there, and so it is at its host
abbrev pub is_free_at : Held → ℕ → Bool
is_free_at own j =
    nat_lt (held_at own j) (room_at own j)
    && host_passes (host_at own.service j) (λ h. nat_lt (host_held_at own h) (host_room_at own h))

-- room is left at a server, and so it is at its host
abbrev pub has_room_at : Held → ℕ → Bool
has_room_at own j =
    nat_lt 0 (room_at own j) && host_passes (host_at own.service j) (λ h. nat_lt 0 (host_room_at own h))

-- the same of the server of an arc
abbrev pub is_free : Held → Arc → Bool
is_free own arc = is_free_at own arc.server

abbrev pub has_room : Held → Arc → Bool
has_room own arc = has_room_at own arc.server

-- ---- a query more

-- the numbers, one less at a place
abbrev pub one_less : List ℕ → ℕ → List ℕ
one_less numbers j = slice_set numbers j (slice_index numbers j - 1)

abbrev pub one_less_on : List ℕ → Option ℕ → List ℕ
one_less_on numbers None = numbers
one_less_on numbers (Some h) = one_less numbers h

-- a query at a server leaves one less of its room and of its host's
abbrev pub with_query_at : Held → ℕ → Held
with_query_at own j =
    record own { rooms = one_less own.rooms j; host_rooms = one_less_on own.host_rooms (host_at own.service j) }

-- what stands past the end of the cells
abbrev pub no_cell : Cell
no_cell = record { server = 0; share = 0; left = 0 }

abbrev pub cell_at : List Cell → ℕ → Cell
cell_at cells n = slice_index_or cells n no_cell

abbrev pub one_given : Cell → Cell
one_given cell = record cell { left = cell.left - 1 }

-- a query of a class leaves one less of the amount of its cell
abbrev pub with_given : Held → ℕ → Held
with_given own n = record own { cells = slice_set own.cells n (one_given (cell_at own.cells n)) }
