use Rattle.std.proofs.Common.{◌≡◌, ◌∙◌, ◌++◌, [], ap, map, sym, inl, inr}
use Rattle.std.specs.List.{zip}
use Rattle.std.proofs.lemmas.List.{append-nil}
use Rattle.hsp_price_dispatch.specs.Starting.{cell_of}
use Rattle.hsp_price_check.proofs.ClassSums.{none_left}
use Rattle.hsp_price_dispatch.proofs.cells.push_cells.Goals as goal

pub returns : goal.returns
returns c =
    let cells = c.loop-server.cells.items in
    let cell = cell_of c.args.front.fronts c.args.front.number in
    let none : zip c.loop-server.server-iterator.a.rest.now c.loop-server.server-iterator.b.rest.now ≡ [] =
    none_left c.loop-server.server-iterator.a.rest.now c.loop-server.server-iterator.b.rest.now
    (elim c.in-None.ensures.steps [ inl (x, (none, same)) ↦ inl none | inr (x, (none, same)) ↦ inr none ]) in
    sym (append-nil cells) ∙ ap (λ rest. cells ++ map cell rest) (sym none) ∙ c.loop-server.invariant
