use Rattle.std.proofs.Common.{◌∙◌, ◌+◌, ap₂, refl, sym, rules}
use Rattle.hsp_check.specs.ArcFlows.{flag_at}
use Rattle.hsp_check.specs.Network.{transport}
use Rattle.hsp_check.specs.Reach.{network_in}
use Rattle.hsp_check.proofs.Shortages.{rooms_are}
use Rattle.hsp_transport.proofs.Capacities.{capacity_is}
use Rattle.hsp_check.proofs.shortage.capacity_of_rows.Goals as goal

pub returns : goal.returns
returns c =
    let lists = c.args.lists in
    ap₂ (λ a b. a + b) c.free_room.ensures.sum c.hosted_room.ensures.sum
    ∙ capacity_is (transport (network_in lists)) lists.server_hosts.now refl (sym lists.servers_many)
    (flag_at c.args.rows.now) c.as_slice-2.result.now c.as_slice-3.result.now (search rules)
    (rooms_are lists (flag_at c.args.rows.now) c.as_slice-2.result.now
    (rw c.as_slice-2.ensures.value c.in_ok-rooms.ensures.rooms))
    (rw (c.as_slice-3.ensures.value, c.as_slice-2.ensures.value, ← c.as_slice.ensures.value)
    c.in_ok-hosted.ensures.sums)
