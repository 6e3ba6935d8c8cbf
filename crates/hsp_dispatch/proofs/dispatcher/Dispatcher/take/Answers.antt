use Rattle.std.proofs.Common.{◌≡◌, ◌<◌, ◌∙◌, [], length, set, Option, IfSome, option_map, arith, ap, sym}
use Rattle.std.proofs.lemmas.List.{get_or_read}
use Rattle.hsp_dispatch.specs.Shares.{cells_at, first_answer, first_of, holding, taken_answer}
use Rattle.hsp_dispatch.specs.declared.share.Cell.{Cell}
use Rattle.hsp_dispatch.proofs.Taking.{IsTakenFrom, held_after, rest_after, taken_by, taken_one}
use Rattle.hsp_dispatch.proofs.dispatcher.Dispatcher.take.Goals as goal
use Rattle.hsp_dispatch.proofs.dispatcher.Dispatcher.take.Goals.{After-take}

-- the row is there
inside : (c : After-take) → c.args.row < length c.self.inside.shares.items
inside c = omega (arith, rw (← c.self.view_is) at c.requires, c.self.invariant.one_a_row)

-- its share is that of the row
own : (c : After-take) → c.index_mut.result.now ≡ cells_at c.self.inside.shares.items c.args.row
own c = get_or_read c.self.inside.shares.items c.args.row c.index_mut.result.now (inside c) c.index_mut.ensures.value []

-- and loses its first query
taken : (c : After-take)
    → IsTakenFrom c.self.inside.shares.items c.args.row (set c.self.inside.shares.items c.args.row c.take.new.self)
taken c = taken_one c.self.inside.shares.items c.args.row c.take.new.self (inside c) (rw (own c) at c.take.ensures.rest)

-- which answers a query for it, by a server that is there
given : (c : After-take)
    → let held = holding c.self.inside.instance.now c.self.inside.shares.items in
    (taken_answer held.instance (option_map (λ (cell : Cell). cell.server) c.take.result)
    ≡ first_answer held c.args.row)
    × IfSome (option_map (λ (cell : Cell). cell.server) c.take.result) (λ server. server < length held.instance.servers)
given c =
    taken_by (holding c.self.inside.instance.now c.self.inside.shares.items) c.args.row _ c.self.invariant
    (ap (λ (first : Option Cell). option_map (λ (cell : Cell). cell.server) first)
    (c.take.ensures.taken ∙ ap first_of (own c)))

pub returns-in_err-cell-clause-taken : goal.returns-in_err-cell-clause-taken
returns-in_err-cell-clause-taken c =
    rw (c.from_residual.ensures, ← c.self.view_is)
    (rw c.in_err-cell.was at (given (goal.at.returns-in_err-cell-clause-taken c).After-take).0)

pub returns-in_err-cell-clause-rest : goal.returns-in_err-cell-clause-rest
returns-in_err-cell-clause-rest c =
    rw (← c.self.view_is)
    (rest_after c.self.inside.instance.now _ c.args.row _ c.self.invariant
    (taken (goal.at.returns-in_err-cell-clause-rest c).After-take))

pub invariant_of-self-2 : goal.invariant_of-self-2
invariant_of-self-2 c =
    held_after c.self.inside.instance.now _ c.args.row _ c.self.invariant
    (taken (goal.at.invariant_of-self-2 c).After-take)

pub returns-clause-taken : goal.returns-clause-taken
returns-clause-taken c =
    rw (← c.self.view_is) (rw c.in_ok-cell.was at (given (goal.at.returns-clause-taken c).After-take).0)

pub returns-clause-there : goal.returns-clause-there
returns-clause-there c =
    rw (← c.self.view_is) (rw c.in_ok-cell.was at (given (goal.at.returns-clause-there c).After-take).1)

pub returns-clause-rest : goal.returns-clause-rest
returns-clause-rest c =
    rw (← c.self.view_is)
    (rest_after c.self.inside.instance.now _ c.args.row _ c.self.invariant
    (taken (goal.at.returns-clause-rest c).After-take))
