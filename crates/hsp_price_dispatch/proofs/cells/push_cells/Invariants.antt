use Rattle.std.proofs.Common.{◌≡◌, ◌++◌, map}
use Rattle.std.specs.List.{zip}
use Rattle.hsp_price_dispatch.specs.Starting.{cell_of, cells_of}
use Rattle.hsp_price_dispatch.proofs.cells.push_cells.Given as goal

-- the cells so far and those of the rest are all
abbrev pub invariant-loop-server : goal.invariant-loop-server
invariant-loop-server l =
    l.cells.items
    ++ map (cell_of l.front.fronts l.front.number) (zip l.server-iterator.a.rest.now l.server-iterator.b.rest.now)
    ≡ l.initial.cells.items ++ cells_of l.front.fronts l.front.number l.class
