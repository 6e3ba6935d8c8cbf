use Rattle.std.proofs.Common.{◌≡◌, ◌≤◌, subst, arith}
use Rattle.std.proofs.Math.Facts.{Fits-below}
use Rattle.hsp_network.specs.Network.{Transport, numbered}
use Rattle.hsp_transport.specs.Cut.{capacity_of, demand_of}
use Rattle.hsp_transport.specs.Lists.{flag_at}
use Rattle.hsp_flow.specs.Planning.{transport_of}
use Rattle.hsp_flow.proofs.Claiming.{short_is, short_valid}
use Rattle.hsp_flow.proofs.Limits.{demand_low}
use Rattle.hsp_flow.proofs.shortfall.short_certificate.Goals as goal

pub overflow_cast-demand : goal.overflow_cast-demand
overflow_cast-demand c =
    let demand : c.sum_flagged-demand.result
    ≡ demand_of (numbered (transport_of c.args.instance.now)) (flag_at c.args.set.now) =
    subst (λ (n : Transport). c.sum_flagged-demand.result ≡ demand_of (numbered n) (flag_at c.args.set.now))
    c.requires.network c.sum_flagged-demand.ensures in
    Fits-below {n = 18446744073709551615} tt
    (omega (arith, demand, demand_low c.args.instance.now c.requires.within (flag_at c.args.set.now)))

pub overflow_cast-capacity : goal.overflow_cast-capacity
overflow_cast-capacity c =
    let capacity : c.in_ok-capacity.capacity
    ≡ capacity_of (numbered (transport_of c.args.instance.now)) (flag_at c.args.set.now) =
    subst (λ (n : Transport). c.in_ok-capacity.capacity ≡ capacity_of (numbered n) (flag_at c.args.set.now))
    c.requires.network c.in_ok-capacity.ensures in
    Fits-below {n = 18446744073709551615} tt
    (omega (
      arith,
      capacity,
      c.requires.short.short,
      demand_low c.args.instance.now c.requires.within (flag_at c.args.set.now),
    ))

pub certificate_of-requires : goal.certificate_of-requires
certificate_of-requires c =
    let demand : c.sum_flagged-demand.result
    ≡ demand_of (numbered (transport_of c.args.instance.now)) (flag_at c.args.set.now) =
    subst (λ (n : Transport). c.sum_flagged-demand.result ≡ demand_of (numbered n) (flag_at c.args.set.now))
    c.requires.network c.sum_flagged-demand.ensures in
    let capacity : c.in_ok-capacity.capacity
    ≡ capacity_of (numbered (transport_of c.args.instance.now)) (flag_at c.args.set.now) =
    subst (λ (n : Transport). c.in_ok-capacity.capacity ≡ capacity_of (numbered n) (flag_at c.args.set.now))
    c.requires.network c.in_ok-capacity.ensures in
    let low = demand_low c.args.instance.now c.requires.within (flag_at c.args.set.now) in
    let demand-low : c.sum_flagged-demand.result ≤ 10000000000000000 = omega arith in
    let capacity-low : c.in_ok-capacity.capacity ≤ 10000000000000000 = omega (arith, c.requires.short.short) in
    rw c.in_ok-rows.ensures
    (short_is c.args.instance.now c.requires.within c.args.set.now c.requires.short c.sum_flagged-demand.result
    c.in_ok-capacity.capacity demand-low capacity-low)

pub returns-clause-valid : goal.returns-clause-valid
returns-clause-valid c =
    rw (c.certificate_of.ensures, c.in_ok-rows.ensures)
    (short_valid c.args.instance.now c.args.set.now c.requires.short c.sum_flagged-demand.result
    c.in_ok-capacity.capacity
    (subst (λ (n : Transport). c.sum_flagged-demand.result ≡ demand_of (numbered n) (flag_at c.args.set.now))
    c.requires.network c.sum_flagged-demand.ensures)
    (subst (λ (n : Transport). c.in_ok-capacity.capacity ≡ capacity_of (numbered n) (flag_at c.args.set.now))
    c.requires.network c.in_ok-capacity.ensures))
