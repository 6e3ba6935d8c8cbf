use Rattle.std.proofs.Common.{◌∙◌, ap, subst, refl}
use Rattle.std.specs.Prelude.{IsSome}
use Rattle.std.proofs.lemmas.Result.{err_from_is_err_and}
use Rattle.hsp_pair_map.specs.Ordered.{at_name, at_second}
use Rattle.hsp_pair_map.proofs.Ordering.{numbers_kept, others_kept, pair_same, updates_at}
use Rattle.hsp_pair_map.proofs.ordered.insert_ordered.Goals as goal

pub returns-in_err-insert-clause-kept : goal.returns-in_err-insert-clause-kept
returns-in_err-insert-clause-kept c =
    let q =
    err_from_is_err_and c.from_residual-in_err-insert.result c.from_residual-in_err-insert.ensures.1 in
    let w = c.insert.new.self in
    let written = (c.get_mut.follows.holds w).3 (subst (λ o. IsSome o) c.in-Some.ensures.value refl) in
    rw q.1 (λ p.
    numbers_kept c.args.pairs.now.entries _ c.args.first.now written.3 w written.1 p (λ e.
    ap (λ es. at_name es p.second) c.in_err-insert.ensures.err
    ∙ ap (λ o. at_second o p.second) c.in-Some.ensures.value))

pub returns-in-Some-clause-own : goal.returns-in-Some-clause-own
returns-in-Some-clause-own c =
    let w = c.insert.new.self in
    let written = (c.get_mut.follows.holds w).3 (subst (λ o. IsSome o) c.in-Some.ensures.value refl) in
    let seconds =
    updates_at c.in-Some.seconds.now w _ _ c.args.second.now c.in_ok-name.ensures.items
    c.in_ok-insert.ensures.updates in
    ap (λ o. at_second o c.args.second.now) written.1 ∙ seconds.1

pub returns-in-Some-clause-others : goal.returns-in-Some-clause-others
returns-in-Some-clause-others c =
    let w = c.insert.new.self in
    let written = (c.get_mut.follows.holds w).3 (subst (λ o. IsSome o) c.in-Some.ensures.value refl) in
    let seconds =
    updates_at c.in-Some.seconds.now w _ _ c.args.second.now c.in_ok-name.ensures.items
    c.in_ok-insert.ensures.updates in
    λ p apart.
    numbers_kept c.args.pairs.now.entries _ c.args.first.now written.3 w written.1 p (λ e.
    others_kept c.in-Some.seconds.now.entries w.entries c.args.second.now seconds.3 p.second
    (λ s. apart (pair_same p c.args.first.now c.args.second.now e s))
    ∙ ap (λ o. at_second o p.second) c.in-Some.ensures.value)

pub returns-clause-own : goal.returns-clause-own
returns-clause-own c =
    let seconds =
    updates_at c.new-seconds.result c.insert-2.new.self _ _ c.args.second.now c.in_ok-name.ensures.items
    c.in_ok-insert-2.ensures.updates in
    let firsts =
    updates_at c.get_mut.follows.lender-at-none c.insert-3.new.self _ _ c.args.first.now
    c.in_ok-from_slice.ensures.items
    c.in_ok-insert-3.ensures.updates in
    ap (λ o. at_second o c.args.second.now) firsts.1 ∙ seconds.1

pub returns-clause-others : goal.returns-clause-others
returns-clause-others c =
    let w = c.insert-2.new.self in
    let seconds =
    updates_at c.new-seconds.result c.insert-2.new.self _ _ c.args.second.now c.in_ok-name.ensures.items
    c.in_ok-insert-2.ensures.updates in
    let firsts =
    updates_at c.get_mut.follows.lender-at-none c.insert-3.new.self _ _ c.args.first.now
    c.in_ok-from_slice.ensures.items
    c.in_ok-insert-3.ensures.updates in
    λ p apart.
    numbers_kept c.args.pairs.now.entries _ c.args.first.now (rw c.get_mut.follows.holds-at-none at firsts.3) w firsts.1
    p (λ e.
    others_kept c.new-seconds.result.entries w.entries c.args.second.now seconds.3 p.second
    (λ s. apart (pair_same p c.args.first.now c.args.second.now e s))
    ∙ ap (λ es. at_name es p.second) c.new-seconds.ensures.empty
    ∙ ap (λ o. at_second o p.second) c.in_default.ensures.value)
