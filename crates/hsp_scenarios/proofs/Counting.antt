-- One network at several counts.
use Rattle.std.proofs.Common.{ℕ, ◌≡◌, ◌<◌, ◌≤◌, length, slice_index, ap}
use Rattle.std.proofs.Common.{arith}
use Rattle.hsp_transport.specs.Network.{IsNetwork}
use Rattle.hsp_transport.specs.Plans.{Serves}
use Rattle.hsp_transport.specs.Kinds.{HasOneArcASite}
use Rattle.hsp_transport.specs.Cut.{IsShort, demand_of}
use Rattle.hsp_transport.specs.Sums.{sum_below}
use Rattle.hsp_transport.proofs.Duality.{cut_shows_none}
use Rattle.hsp_transport.proofs.Lowering.{lowered, lowered_feasible}
use Rattle.hsp_transport.proofs.Rowwise.{when}
use Rattle.hsp_transport.proofs.Summing.{sum_below_le}
use Rattle.hsp_scenarios.specs.Counts.{LessFits, ShortFrom, asking}

-- a plan that sends too much is lowered to what is asked for
pub less_fits : (A : Type 0) → LessFits A
less_fits A site n demands one less x feasible =
    let own : HasOneArcASite site (asking n demands) = λ i s l. one i s (omega (arith, less.many)) in
    let serves : Serves site (asking n demands) x = record {
      allowed = feasible.allowed;
      met = λ i l.
          let inside : i < length n.demands = omega (arith, less.many) in
          omega (arith, feasible.flow.met i inside, less.each i inside);
      within = feasible.flow.within;
      hosted = feasible.flow.hosted;
    } in
    (lowered site _ own x serves, lowered_feasible site _ own x serves, λ i s. omega arith)

-- what a set can reach stays, and what it asks for grows
pub short_from : (A : Type 0) → ShortFrom A
short_from A site n demands set is less short =
    let asked = λ (i : ℕ). when (set i) (slice_index demands i) in
    let more : demand_of n set ≤ sum_below (length n.demands) asked =
    sum_below_le (length n.demands) _ _ (λ i l. grind (arith, less.each i (omega (arith, less.many)))) in
    let all : sum_below (length n.demands) asked ≡ demand_of (asking n demands) set =
    ap (λ rows. sum_below rows asked) less.many in
    let there : IsShort (asking n demands) set = omega arith in
    let network : IsNetwork (asking n demands) =
    record { sources = rw (← less.many) is.sources; servers = is.servers; hosts = is.hosts } in
    (there, λ x feasible. cut_shows_none (asking n demands) network set there _ feasible.flow)
