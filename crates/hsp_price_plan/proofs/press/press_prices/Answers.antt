use Rattle.std.proofs.Common.{◌≡◌, ◌∙◌, All, List, ℕ, ap, arith, length, refl, slice_index, subst, sym}
use Rattle.std.specs.List.{Contains}
use Rattle.std.specs.Vec.{with_items}
use Rattle.std.proofs.lemmas.List.{with_items_is}
use Rattle.hsp_network.specs.Problem.{problem_of}
use Rattle.hsp_price_plan.specs.Pressing.{AreAllPressed, AreLowered}
use Rattle.hsp_price_plan.proofs.PressedPrices.{hosts_low, is_pressed, pressed_low, servers_low}
use Rattle.hsp_price_plan.proofs.press.press_prices.Goals as goal

pub sums_of_prices-requires-clause-low : goal.sums_of_prices-requires-clause-low
sums_of_prices-requires-clause-low c =
    rw c.deref.ensures.value
    (servers_low (problem_of c.args.network.now) c.requires.size c.args.flow c.requires.met)

pub sums_of_prices-requires-clause-low_hosts : goal.sums_of_prices-requires-clause-low_hosts
sums_of_prices-requires-clause-low_hosts c =
    rw c.deref-2.ensures.value
    (hosts_low (problem_of c.args.network.now) c.requires.size c.args.flow c.requires.met)

pub each-requires : goal.each-requires
each-requires c =
    subst (λ (xs : List ℕ). All (Contains c.in_ok-table.table.numbers.items) xs)
    (c.deref-3.ensures.value ∙ sym c.deref-5.ensures.value) c.in_ok-table.ensures.first

pub each-requires-2 : goal.each-requires-2
each-requires-2 c =
    subst (λ (xs : List ℕ). All (Contains c.in_ok-table.table.numbers.items) xs)
    (c.deref-4.ensures.value ∙ sym c.deref-6.ensures.value) c.in_ok-table.ensures.second

pub lower_sources-requires-clause-low : goal.lower_sources-requires-clause-low
lower_sources-requires-clause-low c j l =
    let table = c.in_ok-table.table in
    let sums = c.deref-6.result.now in
    let pressed = c.in_ok-pressed_sums.pressed_sums.items in
    let same : c.deref-9.result.now ≡ pressed = c.deref-9.ensures.value in
    omega (
      arith,
      pressed_low table.numbers.items sums pressed table.few c.in_ok-pressed_sums.ensures j
          (omega (arith, l, c.in_ok-pressed_sums.ensures.many, ap (λ (xs : List ℕ). length xs) same)),
      ap (λ (xs : List ℕ). slice_index xs j) same,
    )

pub returns : goal.returns
returns c =
    let net = problem_of c.args.network.now in
    let flow = c.args.flow in
    let table = c.in_ok-table.table in
    let sums = c.in_ok-sums.sums.items in
    let pressed = c.in_ok-pressed_sums.pressed_sums.items in
    let hosts = c.in_ok-host_prices.host_prices.items in
    let own = c.in_ok-server_prices.server_prices.items in
    let servers_is : c.deref.result.now ≡ flow.server_prices.items = c.deref.ensures.value in
    let sources : AreLowered net (length net.sources) pressed flow.source_prices.items c.lower_sources.new.prices =
    rw (← c.deref_mut.ensures.value, ← c.deref-9.ensures.value) c.lower_sources.ensures in
    let items : (with_items flow.source_prices c.lower_sources.new.prices).items ≡ c.lower_sources.new.prices =
    with_items_is flow.source_prices c.lower_sources.new.prices
    (c.lower_sources.auto.prices ∙ c.deref_mut.ensures.len) in
    is_pressed net c.args.network.now.ends c.requires.size flow c.requires.met table.numbers.items table.ascend
    table.few
    sums
    (c.in_ok-sums.ensures.many ∙ ap (λ (xs : List ℕ). length xs) servers_is)
    (λ j l.
    rw (← servers_is, ← c.deref-2.ensures.value)
    (c.in_ok-sums.ensures.each j (omega (arith, l, ap (λ (xs : List ℕ). length xs) servers_is))))
    (record {
      flows = flow.flows;
      source_prices = with_items flow.source_prices c.lower_sources.new.prices;
      server_prices = c.in_ok-server_prices.server_prices;
      host_prices = c.in_ok-host_prices.host_prices;
    }) refl
    (subst (λ (xs : List ℕ). AreAllPressed table.numbers.items xs hosts) c.deref-5.ensures.value
    c.in_ok-host_prices.ensures) pressed
    (subst (λ (xs : List ℕ). AreAllPressed table.numbers.items xs pressed) c.deref-6.ensures.value
    c.in_ok-pressed_sums.ensures)
    (c.in_ok-server_prices.ensures.many ∙ ap (λ (xs : List ℕ). length xs) c.deref-7.ensures.value)
    (λ j l.
    rw (← c.deref-7.ensures.value, ← c.deref-8.ensures.value)
    (c.in_ok-server_prices.ensures.each j (omega (arith, l, ap (λ (xs : List ℕ). length xs) c.deref-7.ensures.value))))
    (subst (λ (xs : List ℕ). AreLowered net (length net.sources) pressed flow.source_prices.items xs) (sym items)
    sources)
