use Rattle.std.proofs.Common.{◌≡◌, ◌∙◌, ◌<◌, ◌==◌, ℕ, ap, arith, length, slice_index}
use Rattle.std.specs.List.{flat_map}
use Rattle.hsp_check.specs.Lists.{AreHosted}
use Rattle.hsp_price_check.specs.Classes.{service_of}
use Rattle.hsp_price_check.specs.Passed.{capped}
use Rattle.hsp_price_dispatch.specs.Holding.{left_where}
use Rattle.hsp_price_dispatch.specs.Starting.{cells_of}
use Rattle.hsp_price_dispatch.proofs.FirstHeld.{first_begun, first_stands, held_low, held_small, host_held_low}
use Rattle.hsp_price_dispatch.proofs.FirstHeld.{hosts_many, hosts_within, servers_in, servers_many}
use Rattle.hsp_price_dispatch.proofs.starting.begin.Goals as goal

pub held_at_servers-requires : goal.held_at_servers-requires
held_at_servers-requires c =
    let at = service_of c.args.service.costs.now c.args.service.instance.now in
    let plan = c.args.plan.now in
    let fronts = c.args.front.fronts in
    let front = c.args.front.number in
    let own = c.args.accepted in
    let is = c.requires.accepted in
    let some = c.requires.some in
    let cells = c.in_ok-cells.cells.items in
    let cells_are : cells ≡ flat_map (cells_of fronts front) plan.classes =
    c.in_ok-cells.ensures ∙ ap (flat_map (cells_of fronts front)) c.classes.ensures in
    let many : c.len.result ≡ length at.servers =
    omega (arith, c.len.ensures, servers_many at plan fronts front own is some cells cells_are) in
    rw (c.deref.ensures.value, many) (servers_in at plan fronts front own is some cells cells_are)

pub add_hosts-requires-clause-small : goal.add_hosts-requires-clause-small
add_hosts-requires-clause-small c =
    let at = service_of c.args.service.costs.now c.args.service.instance.now in
    let plan = c.args.plan.now in
    let fronts = c.args.front.fronts in
    let front = c.args.front.number in
    let own = c.args.accepted in
    let is = c.requires.accepted in
    let some = c.requires.some in
    let cells = c.in_ok-cells.cells.items in
    let cells_are : cells ≡ flat_map (cells_of fronts front) plan.classes =
    c.in_ok-cells.ensures ∙ ap (flat_map (cells_of fronts front)) c.classes.ensures in
    let many : c.len.result ≡ length at.servers =
    omega (arith, c.len.ensures, servers_many at plan fronts front own is some cells cells_are) in
    let held = c.in_ok-held.held.items in
    let held_many : length held ≡ length at.servers = c.in_ok-held.ensures.many ∙ many in
    let each : (j : ℕ) → j < length at.servers → slice_index held j ≡ capped (left_where (λ k. k == j) cells) =
    λ j l.
    c.in_ok-held.ensures.each j (omega (arith, l, many))
    ∙ ap (λ list. capped (left_where (λ k. k == j) list)) c.deref.ensures.value in
    rw c.deref-3.ensures.value (held_small at plan fronts front own is some cells cells_are held held_many each)

pub rooms_of-requires-clause-low : goal.rooms_of-requires-clause-low
rooms_of-requires-clause-low c =
    let at = service_of c.args.service.costs.now c.args.service.instance.now in
    let plan = c.args.plan.now in
    let fronts = c.args.front.fronts in
    let front = c.args.front.number in
    let own = c.args.accepted in
    let is = c.requires.accepted in
    let some = c.requires.some in
    let cells = c.in_ok-cells.cells.items in
    let cells_are : cells ≡ flat_map (cells_of fronts front) plan.classes =
    c.in_ok-cells.ensures ∙ ap (flat_map (cells_of fronts front)) c.classes.ensures in
    let many : c.len.result ≡ length at.servers =
    omega (arith, c.len.ensures, servers_many at plan fronts front own is some cells cells_are) in
    let held = c.in_ok-held.held.items in
    let held_many : length held ≡ length at.servers = c.in_ok-held.ensures.many ∙ many in
    let each : (j : ℕ) → j < length at.servers → slice_index held j ≡ capped (left_where (λ k. k == j) cells) =
    λ j l.
    c.in_ok-held.ensures.each j (omega (arith, l, many))
    ∙ ap (λ list. capped (left_where (λ k. k == j) list)) c.deref.ensures.value in
    let long = servers_many at plan fronts front own is some cells cells_are in
    rw (c.deref-4.ensures.value, c.deref-5.ensures.value)
    (λ j l. held_low at plan fronts front own is some cells cells_are held held_many each j (omega (arith, l, long)))

pub rooms_of-requires-2-clause-within : goal.rooms_of-requires-2-clause-within
rooms_of-requires-2-clause-within c =
    let at = service_of c.args.service.costs.now c.args.service.instance.now in
    let plan = c.args.plan.now in
    let fronts = c.args.front.fronts in
    let front = c.args.front.number in
    let own = c.args.accepted in
    let is = c.requires.accepted in
    let some = c.requires.some in
    let cells = c.in_ok-cells.cells.items in
    let cells_are : cells ≡ flat_map (cells_of fronts front) plan.classes =
    c.in_ok-cells.ensures ∙ ap (flat_map (cells_of fronts front)) c.classes.ensures in
    let many : c.len.result ≡ length at.servers =
    omega (arith, c.len.ensures, servers_many at plan fronts front own is some cells cells_are) in
    rw (c.deref-6.ensures.value, c.deref-7.ensures.value)
    (hosts_within at plan fronts front own is some cells cells_are)

pub rooms_of-requires-2-clause-low : goal.rooms_of-requires-2-clause-low
rooms_of-requires-2-clause-low c =
    let at = service_of c.args.service.costs.now c.args.service.instance.now in
    let plan = c.args.plan.now in
    let fronts = c.args.front.fronts in
    let front = c.args.front.number in
    let own = c.args.accepted in
    let is = c.requires.accepted in
    let some = c.requires.some in
    let cells = c.in_ok-cells.cells.items in
    let cells_are : cells ≡ flat_map (cells_of fronts front) plan.classes =
    c.in_ok-cells.ensures ∙ ap (flat_map (cells_of fronts front)) c.classes.ensures in
    let many : c.len.result ≡ length at.servers =
    omega (arith, c.len.ensures, servers_many at plan fronts front own is some cells cells_are) in
    let held = c.in_ok-held.held.items in
    let held_many : length held ≡ length at.servers = c.in_ok-held.ensures.many ∙ many in
    let each : (j : ℕ) → j < length at.servers → slice_index held j ≡ capped (left_where (λ k. k == j) cells) =
    λ j l.
    c.in_ok-held.ensures.each j (omega (arith, l, many))
    ∙ ap (λ list. capped (left_where (λ k. k == j) list)) c.deref.ensures.value in
    let host_held = c.in_ok-host_held.host_held.items in
    let host_many : length host_held ≡ length own.numbers.limits.items =
    omega (arith, c.in_ok-host_held.ensures.len, c.len-2.ensures) in
    let hosted : AreHosted own.numbers.server_hosts.items held host_held =
    rw (← c.deref-2.ensures.value, ← c.deref-3.ensures.value) c.in_ok-host_held.ensures.sums in
    let long = hosts_many at plan fronts front own is some cells cells_are in
    rw (c.deref-6.ensures.value, c.deref-7.ensures.value)
    (λ h l.
    host_held_low at plan fronts front own is some cells cells_are held held_many each host_held host_many hosted h
    (omega (arith, l, long)))

pub invariant_of-result : goal.invariant_of-result
invariant_of-result c =
    let at = service_of c.args.service.costs.now c.args.service.instance.now in
    let plan = c.args.plan.now in
    let fronts = c.args.front.fronts in
    let front = c.args.front.number in
    let own = c.args.accepted in
    let is = c.requires.accepted in
    let some = c.requires.some in
    let cells = c.in_ok-cells.cells.items in
    let cells_are : cells ≡ flat_map (cells_of fronts front) plan.classes =
    c.in_ok-cells.ensures ∙ ap (flat_map (cells_of fronts front)) c.classes.ensures in
    let many : c.len.result ≡ length at.servers =
    omega (arith, c.len.ensures, servers_many at plan fronts front own is some cells cells_are) in
    let held = c.in_ok-held.held.items in
    let held_many : length held ≡ length at.servers = c.in_ok-held.ensures.many ∙ many in
    let each : (j : ℕ) → j < length at.servers → slice_index held j ≡ capped (left_where (λ k. k == j) cells) =
    λ j l.
    c.in_ok-held.ensures.each j (omega (arith, l, many))
    ∙ ap (λ list. capped (left_where (λ k. k == j) list)) c.deref.ensures.value in
    let host_held = c.in_ok-host_held.host_held.items in
    let host_many : length host_held ≡ length own.numbers.limits.items =
    omega (arith, c.in_ok-host_held.ensures.len, c.len-2.ensures) in
    let hosted : AreHosted own.numbers.server_hosts.items held host_held =
    rw (← c.deref-2.ensures.value, ← c.deref-3.ensures.value) c.in_ok-host_held.ensures.sums in
    let long = servers_many at plan fronts front own is some cells cells_are in
    let rooms_many : length c.in_ok-servers.servers.left.items ≡ length at.servers =
    omega (arith, c.in_ok-servers.ensures.many, ap (λ list. length list) c.deref-4.ensures.value, long) in
    let host_rooms_many : length c.in_ok-hosts.hosts.left.items ≡ length own.numbers.limits.items =
    omega (arith, c.in_ok-hosts.ensures.many, ap (λ list. length list) c.deref-6.ensures.value) in
    rw (c.in_ok-servers.ensures.held, c.in_ok-hosts.ensures.held)
    (first_stands at plan fronts front own is some cells cells_are held held_many each host_held host_many hosted
    c.in_ok-servers.servers.left.items c.in_ok-hosts.hosts.left.items rooms_many host_rooms_many)

pub returns : goal.returns
returns c =
    let at = service_of c.args.service.costs.now c.args.service.instance.now in
    let plan = c.args.plan.now in
    let fronts = c.args.front.fronts in
    let front = c.args.front.number in
    let own = c.args.accepted in
    let is = c.requires.accepted in
    let some = c.requires.some in
    let cells = c.in_ok-cells.cells.items in
    let cells_are : cells ≡ flat_map (cells_of fronts front) plan.classes =
    c.in_ok-cells.ensures ∙ ap (flat_map (cells_of fronts front)) c.classes.ensures in
    let many : c.len.result ≡ length at.servers =
    omega (arith, c.len.ensures, servers_many at plan fronts front own is some cells cells_are) in
    let held = c.in_ok-held.held.items in
    let held_many : length held ≡ length at.servers = c.in_ok-held.ensures.many ∙ many in
    let each : (j : ℕ) → j < length at.servers → slice_index held j ≡ capped (left_where (λ k. k == j) cells) =
    λ j l.
    c.in_ok-held.ensures.each j (omega (arith, l, many))
    ∙ ap (λ list. capped (left_where (λ k. k == j) list)) c.deref.ensures.value in
    let host_held = c.in_ok-host_held.host_held.items in
    let host_many : length host_held ≡ length own.numbers.limits.items =
    omega (arith, c.in_ok-host_held.ensures.len, c.len-2.ensures) in
    let hosted : AreHosted own.numbers.server_hosts.items held host_held =
    rw (← c.deref-2.ensures.value, ← c.deref-3.ensures.value) c.in_ok-host_held.ensures.sums in
    let long = servers_many at plan fronts front own is some cells cells_are in
    let host_long = hosts_many at plan fronts front own is some cells cells_are in
    let rooms_many : length c.in_ok-servers.servers.left.items ≡ length at.servers =
    omega (arith, c.in_ok-servers.ensures.many, ap (λ list. length list) c.deref-4.ensures.value, long) in
    let host_rooms_many : length c.in_ok-hosts.hosts.left.items ≡ length own.numbers.limits.items =
    omega (arith, c.in_ok-hosts.ensures.many, ap (λ list. length list) c.deref-6.ensures.value) in
    let rooms = rw (c.deref-4.ensures.value, c.deref-5.ensures.value) at c.in_ok-servers.ensures.left in
    let host_rooms = rw (c.deref-6.ensures.value, c.deref-7.ensures.value) at c.in_ok-hosts.ensures.left in
    first_begun at plan fronts front own is some cells cells_are held held_many each host_held host_many hosted
    c.in_ok-servers.servers.left.items c.in_ok-hosts.hosts.left.items rooms_many host_rooms_many
    (λ j l. rooms j (omega (arith, l, long))) (λ h l. host_rooms h (omega (arith, l, host_long)))
