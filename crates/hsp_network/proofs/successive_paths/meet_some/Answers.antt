use Rattle.std.proofs.Common.{◌≡◌, ℕ, ◌+◌, ◌-◌, ◌<◌, length, slice_index, ap, refl, sym, ◌∙◌, arith}
use Rattle.hsp_network.proofs.Arrival.{tree_by, raised_low}
use Rattle.hsp_network.proofs.Raising.{sound_same}
use Rattle.hsp_network.proofs.AddingUp.{only_there}
use Rattle.hsp_network.proofs.successive_paths.meet_some.Goals as goal

pub augment-requires-clause-tree : goal.augment-requires-clause-tree
augment-requires-clause-tree g c =
    tree_by _ _ _ _ c.requires.ready.sound (c.in_ok-search.ensures.found c.if-not-branch.false)

pub update_potentials-requires-clause-fits : goal.update_potentials-requires-clause-fits
update_potentials-requires-clause-fits g c = λ v l.
    let ready = c.requires.ready in
    let same : slice_index c.augment.new.flow.price.now v ≡ slice_index c.args.flow.now.price.now v =
    ap (λ xs. slice_index xs v) c.augment.ensures.price in
    let in' : v < length c.args.arcs.now.supplies.now =
    omega (arith, ready.price_many, ap (λ xs. length xs) c.augment.ensures.price) in
    let low =
    raised_low _ _ _ _ ready.sound (c.in_ok-search.ensures.found c.if-not-branch.false)
    (c.in_ok-search.ensures.spread c.if-not-branch.false) ready.low v in' in
    omega (arith, low, same, c.args.arcs.now.scale.small)

pub returns-clause-others : goal.returns-clause-others
returns-clause-others g c =
    λ v ne.
    omega (
      arith,
      c.augment.ensures.spent v,
      only_there c.args.root v (slice_index c.search.new.progress.tree.amount.now 0) (λ e. ne (sym e)),
    )

pub returns-clause-ready : goal.returns-clause-ready
returns-clause-ready g c =
    let ready = c.requires.ready in
    let found = c.in_ok-search.ensures.found c.if-not-branch.false in
    let many : length c.update_potentials.new.price ≡ length c.args.arcs.now.supplies.now =
    c.update_potentials.auto.price ∙ ap (λ xs. length xs) c.augment.ensures.price ∙ ready.price_many in
    let by : (v : ℕ) → v < length c.args.arcs.now.supplies.now →
    slice_index c.update_potentials.new.price v
    ≡ slice_index c.args.flow.now.price.now v
    + (slice_index c.search.new.progress.tree.distance.now 0 - slice_index c.search.new.progress.tree.distance.now
    v) = λ v l.
    let same : slice_index c.augment.new.flow.price.now v ≡ slice_index c.args.flow.now.price.now v =
    ap (λ xs. slice_index xs v) c.augment.ensures.price in
    omega (arith, c.update_potentials.ensures.by v (omega (arith, many))) in
    record {
      sound = sound_same _ _ _ _ _ found.sink_in c.augment.ensures.sound refl refl refl by;
      price_many = many;
      low =
          λ v l.
          omega (
            arith,
            by v l,
            raised_low _ _ _ _ ready.sound found (c.in_ok-search.ensures.spread c.if-not-branch.false) ready.low v l,
          );
    }
