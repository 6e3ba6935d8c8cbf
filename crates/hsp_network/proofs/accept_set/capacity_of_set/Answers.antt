use Rattle.std.proofs.Common.{◌∙◌, ◌+◌, ap, ap₂, refl, rules, arith}
use Rattle.std.specs.Prelude.{if◌then◌else◌, slice_index}
use Rattle.hsp_network.specs.Network.{numbered}
use Rattle.hsp_network.specs.Problem.{problem_of}
use Rattle.hsp_network.specs.Reached.{flag_at}
use Rattle.hsp_transport.proofs.Capacities.{capacity_is}
use Rattle.hsp_network.proofs.accept_set.capacity_of_set.Goals as goal

pub returns : goal.returns
returns c =
    let net = problem_of c.args.network.now in
    let rooms = rw c.deref.ensures.value at c.in_ok-rooms.ensures.rooms in
    let hosted = rw c.deref-2.ensures.value at c.in_ok-hosted.ensures.sums in
    ap₂ (λ a b. a + b) c.free_room.ensures.sum c.hosted_room.ensures.sum
    ∙ rw (c.deref-3.ensures.value, c.deref-4.ensures.value)
    (capacity_is (numbered net) net.hosts refl c.args.network.now.ends.hosts_many (flag_at c.args.set.now) _ _
    (search rules)
    (λ j l. rooms j l
    ∙ ap (λ b. if b then slice_index net.capacities j else 0)
    (c.in_ok-reached.ensures.reached j (omega (arith, l, c.in_ok-reached.ensures.len)))) hosted)
