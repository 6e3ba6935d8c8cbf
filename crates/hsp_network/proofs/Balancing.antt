-- Sums and prices that were tested make a balanced plan.
use Rattle.std.proofs.Common.{◌≡◌, ℕ, ◌+◌, ◌<◌, ◌≤◌, ◌∙◌, List, length, slice_index, ap, sym, arith, if◌then◌else◌}
use Rattle.hsp_network.specs.Accepted.{AreKept, ArePlanPaid}
use Rattle.hsp_network.specs.Answer.{HasLengths, IsBalanced}
use Rattle.hsp_network.specs.Network.{Transport, IsNetwork, host_of, numbered}
use Rattle.hsp_transport.specs.Flow.{host_load, is_on, load}
use Rattle.hsp_transport.specs.Prices.{price_at}
use Rattle.hsp_network.specs.Sums.{AreCarried, AreHosted, carried, hosted}
use Rattle.hsp_network.specs.declared.network.PricedFlow.{PricedFlow}
use Rattle.hsp_network.proofs.Numbered.{load_numbers, sent_numbers}
use Rattle.hsp_transport.proofs.Places.{all_numbers}
use Rattle.hsp_transport.proofs.Summing.{sum_below_same}

-- the tests of an arc, over plain lists
pub record AreFair (net : Transport) (flows u paid : List ℕ) : Type 0 where
  pub below : (k : ℕ) → k < length net.sources
      → slice_index u (slice_index net.sources k)
      ≤ slice_index net.costs k + slice_index paid (slice_index net.servers k)
  pub used : (k : ℕ) → k < length net.sources → 0 < slice_index flows k
      → slice_index u (slice_index net.sources k)
      ≡ slice_index net.costs k + slice_index paid (slice_index net.servers k)

module _ (net : Transport) (is : IsNetwork net) (plan : PricedFlow) (given : HasLengths net plan)
    (paid sums loads hosts : List ℕ)
    (many : length loads ≡ length net.capacities) (hosts_many : length hosts ≡ length net.limits)
    (loaded : AreCarried net.servers plan.flows.items loads) (hosted_are : AreHosted net.hosts loads hosts) where
  -- the column of loads has each server's load
  pub load_is : (j : ℕ) → j < length net.capacities
      → slice_index loads j ≡ load (numbered net) (λ k. slice_index plan.flows.items k) j
  load_is j l =
      loaded j (omega arith)
      ∙ ap (λ n. carried net.servers plan.flows.items n j) is.servers_many
      ∙ sym (load_numbers net (λ k. slice_index plan.flows.items k) j)

  -- the column of host loads has each host's load
  pub host_load_is : (h : ℕ) → h < length net.limits
      → slice_index hosts h ≡ host_load (numbered net) (λ k. slice_index plan.flows.items k) h
  host_load_is h l =
      hosted_are h (omega arith)
      ∙ ap (λ n. hosted net.hosts loads n h) is.hosts_many
      ∙ sum_below_same (length net.capacities) _ _
      (λ j m. ap (λ n. if is_on (host_of net j) h then n else 0) (load_is j m))

  -- flows and prices that pass every test are balanced
  pub balanced : AreCarried net.sources plan.flows.items sums → AreKept net plan sums loads hosts
      → ArePlanPaid net plan paid →
      AreFair net plan.flows.items plan.source_prices.items paid → IsBalanced net plan
  balanced sent_is kept paid_is fair =
      let price : (k : ℕ) → k < length net.sources
      → slice_index paid (slice_index net.servers k)
      ≡ price_at (numbered net) plan.server_prices.items plan.host_prices.items (slice_index net.servers k)
      = λ k l. paid_is (slice_index net.servers k) (let there = is.servers_in k l in omega (arith, is.hosts_many)) in
      let whole : ℕ → ℕ =
      λ k.
      slice_index net.costs k + price_at (numbered net) plan.server_prices.items plan.host_prices.items
      (slice_index net.servers k) in
      record {
        feasible = record {
          met = λ i l.
              sent_numbers net (λ k. slice_index plan.flows.items k) i
              ∙ sym (sent_is i (rw kept.met l))
              ∙ ap (λ xs. slice_index xs i) kept.met;
          within = λ j l. let w = kept.within j l in let e = load_is j l in omega (arith, w, e);
          hosted = λ h l. let w = kept.hosts_within h l in let e = host_load_is h l in omega (arith, w, e);
        };
        prices = record {
          below =
              all_numbers (λ k. slice_index plan.source_prices.items (slice_index net.sources k) ≤ whole k)
              (length net.sources) (λ k l. let b = fair.below k l in let e = price k l in omega (arith, b, e));
          used =
              all_numbers
              (λ k. 0 < slice_index plan.flows.items k
              → slice_index plan.source_prices.items (slice_index net.sources k) ≡ whole k) (length net.sources)
              (λ k l f. fair.used k l f ∙ ap (λ n. slice_index net.costs k + n) (price k l));
          idle = λ j l m. let e = load_is j l in kept.idle j l (omega (arith, e, m));
          idle_host = λ h l m. let e = host_load_is h l in kept.hosts_idle h l (omega (arith, e, m));
        };
      }
