-- What is held for classes, as one query is taken from a cell.
use Rattle.std.proofs.Common.{◌≡◌, ◌<◌, ◌+◌, ◌==◌, ◌∙◌, ℕ, Bool, true, false, List, length, Option, Some}
use Rattle.std.proofs.Common.{None, refl, ap, sym, arith, if◌then◌else◌, slice_index, slice_set}
use Rattle.std.proofs.Common.{eq-eqb}
use Rattle.std.specs.Prelude.{nat_lt}
use Rattle.std.specs.Prelude.{IfSome}
use Rattle.std.proofs.lemmas.List.Elements.{All-set}
use Rattle.std.proofs.lemmas.List.Sums.{get_or-le-sum_by, sum_by-set}
use Rattle.hsp_check.specs.Plan.{is_on}
use Rattle.hsp_prices.specs.Least.{host_at}
use Rattle.hsp_price_dispatch.specs.Holding.{Held, cell_at, left_where, no_cell, one_given, one_less, one_less_on}
use Rattle.hsp_price_dispatch.specs.Holding.{host_held_at, host_room_at, held_at, is_free_at}
use Rattle.hsp_price_dispatch.specs.Holding.{room_at, with_given}
use Rattle.hsp_price_dispatch.specs.Standing.{IsStanding}
use Rattle.hsp_price_dispatch.specs.declared.cells.Cell.{Cell}
use Rattle.hsp_price_dispatch.proofs.RoomTaken.{less_at, one_if}

-- what a cell has at the servers that pass a test
abbrev pub has_where : (ℕ → Bool) → Cell → ℕ
has_where test cell = if test cell.server then cell.left else 0

module _ (test : ℕ → Bool) (cells : List Cell) (n : ℕ) (inside : n < length cells) (some : 0 < (cell_at cells n).left)
  where
    abbrev cell : Cell
    cell = cell_at cells n

    -- a cell with one given has one less, where its server passes
    given_has : (t : Bool) → test cell.server ≡ t
        → one_if t + has_where test (one_given cell) ≡ has_where test cell
    given_has true e = rw e (omega (arith, some))
    given_has false e = rw e (omega arith)

    -- so one less is left where its server passes
    pub given_left : one_if (test cell.server) + left_where test (slice_set cells n (one_given cell))
        ≡ left_where test cells
    given_left =
        let all = sum_by-set (has_where test) cells n (one_given cell) no_cell inside in
        let one = given_has (test cell.server) refl in
        omega (arith, all, one)

    -- and where it passes some is left
    pub some_left : test cell.server ≡ true → 0 < left_where test cells
    some_left e =
        let low = get_or-le-sum_by (has_where test) cells n no_cell inside in
        let own : has_where test cell ≡ cell.left = rw e refl in
        omega (arith, low, own, some)

-- one less of two equal numbers above 0
same_less : (a b c n : ℕ) → n + a ≡ c → n + b ≡ c → a ≡ b
same_less a b c n e f = omega arith

-- ---- a query at a server

module _ (own : Held) (server_hosts : List (Option ℕ)) (held host_held : List ℕ)
    (is : IsStanding own server_hosts held host_held) where
  module _ (n : ℕ) (inside : n < length own.cells) (some : 0 < (cell_at own.cells n).left) where
    abbrev at_cell : ℕ
    at_cell = (cell_at own.cells n).server

    -- something is held at the cell's server
    pub held_some : 0 < slice_index held at_cell
    held_some =
        let left = some_left (λ k. k == at_cell) own.cells n inside some (eq-eqb at_cell at_cell refl) in
        omega (arith, left, is.held_is at_cell)

    -- and at its host
    host_held_on : (o : Option ℕ) → host_at own.service at_cell ≡ o → IfSome o (λ h. 0 < slice_index host_held h)
    host_held_on None e = tt
    host_held_on (Some h) e =
        let on : is_on (host_at own.service at_cell) h ≡ true = rw e (eq-eqb h h refl) in
        let left = some_left (λ k. is_on (host_at own.service k) h) own.cells n inside some on in
        omega (arith, left, is.host_held_is h)

    -- if there is one
    pub host_held_some : IfSome (host_at own.service at_cell) (λ h. 0 < slice_index host_held h)
    host_held_some = host_held_on (host_at own.service at_cell) refl

    -- one less is held at the host
    less_on : (o : Option ℕ) (h : ℕ) → IfSome o (λ h. 0 < slice_index host_held h)
        → one_if (is_on o h) + slice_index (one_less_on host_held o) h ≡ slice_index host_held h
    less_on None h low = omega arith
    less_on (Some g) h low = less_at host_held g h low

    -- with one less held at the server and at its host
    pub given_stands : IsStanding (with_given own n) server_hosts (one_less held at_cell)
        (one_less_on host_held (host_at own.service at_cell))
    given_stands = record {
      server_hosts_are = is.server_hosts_are;
      hosts_below = is.hosts_below;
      rooms_many = is.rooms_many;
      servers_in =
          All-set (λ (cell : Cell). cell.server < length own.service.servers) own.cells n
          (one_given (cell_at own.cells n)) (is.servers_in n no_cell inside) is.servers_in;
      held_is = λ j.
          same_less (slice_index (one_less held at_cell) j)
          (left_where (λ k. k == j) (slice_set own.cells n (one_given (cell_at own.cells n))))
          (slice_index held j) (one_if (at_cell == j)) (less_at held at_cell j held_some)
          (given_left (λ k. k == j) own.cells n inside some ∙ sym (is.held_is j));
      host_held_is = λ h.
          same_less (slice_index (one_less_on host_held (host_at own.service at_cell)) h)
          (left_where (λ k. is_on (host_at own.service k) h) (slice_set own.cells n (one_given (cell_at own.cells n))))
          (slice_index host_held h) (one_if (is_on (host_at own.service at_cell) h))
          (less_on (host_at own.service at_cell) h host_held_some)
          (given_left (λ k. is_on (host_at own.service k) h) own.cells n inside some ∙ sym (is.host_held_is h));
    }

    -- so it is with lists that are these
    pub amount_taken : (server : ℕ) (host : Option ℕ) (cells : List Cell)
        (rooms host_rooms new_held new_host_held : List ℕ) → server ≡ at_cell → host ≡ host_at own.service server
        → cells ≡ slice_set own.cells n (one_given (cell_at own.cells n)) → rooms ≡ own.rooms
        → host_rooms ≡ own.host_rooms → new_held ≡ one_less held server → new_host_held ≡ one_less_on host_held host
        → IsStanding
        (record {
          service = own.service;
          plan = own.plan;
          cells = cells;
          rooms = rooms;
          host_rooms = host_rooms;
        }) server_hosts new_held new_host_held
    amount_taken server host cells rooms host_rooms new_held new_host_held e1 e2 e3 e4 e5 e6 e7 =
        rw (e7, e6, e5, e4, e3, e2, e1) given_stands

  -- ---- free room

  -- free room by the lists is free room
  pub free_is : (j h : ℕ) (given : Bool) → host_at own.service j ≡ Some h
      → nat_lt (slice_index held j) (room_at own j) ≡ true
      → given ≡ nat_lt (slice_index host_held h) (host_room_at own h) → given ≡ is_free_at own j
  free_is j h given on free is_given =
      let at_server : nat_lt (held_at own j) (room_at own j) ≡ true = rw (is.held_is j) at free in
      let at_host : given ≡ nat_lt (host_held_at own h) (host_room_at own h) =
      is_given ∙ ap (λ n. nat_lt n (host_room_at own h)) (is.host_held_is h) in
      rw (at_server, on) at_host
