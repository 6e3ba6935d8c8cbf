-- Pressed prices show of a flow what its prices did.
use Rattle.std.proofs.Common.{◌≡◌, ◌≤◌, ◌<◌, ◌+◌, ◌-◌, ◌^◌, ◌∙◌, ℕ, List, length, Option, Some, None, ap, arith}
use Rattle.std.proofs.Common.{refl}
use Rattle.std.proofs.Common.{slice_index, subst, sym}
use Rattle.std.specs.List.Sorted.{IsNonDecreasing}
use Rattle.std.proofs.lemmas.List.{get_or_default}
use Rattle.hsp_transport.specs.Flow.{IsFeasible}
use Rattle.hsp_transport.specs.Lists.{host_in}
use Rattle.hsp_transport.specs.Prices.{HasPrices, at_host, price_at}
use Rattle.hsp_transport.proofs.Places.{all_numbers, each_number}
use Rattle.hsp_check.specs.Prices.{ArePrices}
use Rattle.hsp_network.specs.Answer.{HasBoundedPrices, IsMet}
use Rattle.hsp_network.specs.Network.{IsNetwork, Transport, host_of, numbered}
use Rattle.hsp_network.specs.declared.network.PricedFlow.{PricedFlow}
use Rattle.hsp_price_check.specs.Extras.{extra_at}
use Rattle.hsp_price_plan.specs.Pressing.{AreAllPressed, AreLowered, CanPress, IsPressed}
use Rattle.hsp_price_plan.specs.Pressing.{IsPressedFlow}
use Rattle.hsp_price_plan.proofs.Pressing.{below_steps, falls, order, step}

-- ---- what goes in

module _ (net : Transport) (size : CanPress net) (flow : PricedFlow) (met : IsMet net flow) where
  -- prices of servers leave room for a sum
  pub servers_low : (j : ℕ) → j < length flow.server_prices.items → slice_index flow.server_prices.items j < 2 ^ 63
  servers_low j l = omega (arith, (met.low 1000000 size.cheap).servers j l, size.sources, size.servers, size.hosts)

  -- and so do those of hosts
  pub hosts_low : (h : ℕ) → h < length flow.host_prices.items → slice_index flow.host_prices.items h < 2 ^ 63
  hosts_low h l = omega (arith, (met.low 1000000 size.cheap).hosts h l, size.sources, size.servers, size.hosts)

-- numbers that were pressed are within the limit of a text
pub pressed_low : (numbers xs ws : List ℕ) → length numbers ≤ 2 ^ 18 → AreAllPressed numbers xs ws
    → (j : ℕ) → j < length xs → slice_index ws j ≤ 1000000000000
pressed_low numbers xs ws few pressed j l =
    let is = pressed.each j l in
    omega (arith, below_steps 0 0 numbers is.0 is.1, is.1, is.3, few)

-- so each list of such numbers is one of prices
pub prices_low : (prices : List ℕ) → ((j : ℕ) → j < length prices → slice_index prices j ≤ 1000000000000)
    → ArePrices prices
prices_low prices low k d l = omega (arith, low k l, get_or_default prices k d 0 l)

-- ---- what comes out

module _ (net : Transport) (whole : IsNetwork net) (size : CanPress net) (flow : PricedFlow) (met : IsMet net flow)
    (numbers : List ℕ) (ascend : IsNonDecreasing numbers) (few : length numbers ≤ 2 ^ 18) (sums : List ℕ)
    (sums_many : length sums ≡ length flow.server_prices.items)
    (sums_are : (j : ℕ) → j < length flow.server_prices.items
    → slice_index sums j ≡ extra_at net.hosts flow.server_prices.items flow.host_prices.items j)
    (now : PricedFlow) (same : now.flows.items ≡ flow.flows.items)
    (hosts : AreAllPressed numbers flow.host_prices.items now.host_prices.items) (pressed : List ℕ)
    (servers : AreAllPressed numbers sums pressed)
    (own_many : length now.server_prices.items ≡ length pressed)
    (own : (j : ℕ) → j < length pressed → slice_index now.server_prices.items j
    ≡ slice_index pressed j - at_host (host_in net.hosts j) (λ h. slice_index now.host_prices.items h))
    (lowered :
    AreLowered net (length net.sources) pressed flow.source_prices.items now.source_prices.items) where
  -- the prices of sources, servers and hosts, before and now
  abbrev u : List ℕ
  u = flow.source_prices.items

  abbrev p : List ℕ
  p = flow.server_prices.items

  abbrev q : List ℕ
  q = flow.host_prices.items

  abbrev u' : List ℕ
  u' = now.source_prices.items

  abbrev p' : List ℕ
  p' = now.server_prices.items

  abbrev q' : List ℕ
  q' = now.host_prices.items

  -- what flows on an arc, its source and its server, and what a query pays over it by prices
  abbrev on : ℕ → ℕ
  on k = slice_index flow.flows.items k

  abbrev source : ℕ → ℕ
  source k = slice_index net.sources k

  abbrev server : ℕ → ℕ
  server k = slice_index net.servers k

  abbrev paid : List ℕ → List ℕ → ℕ → ℕ
  paid p q k = slice_index net.costs k + price_at (numbered net) p q (server k)

  -- the price of a server's host is no more than the sum, and falls by no more than the sum does
  record Parts (j : ℕ) (host : Option ℕ) : Type 0 where
    under : at_host host (λ h. slice_index q' h) ≤ slice_index pressed j
    fall : slice_index pressed j + at_host host (λ h. slice_index q h)
        ≤ at_host host (λ h. slice_index q' h) + slice_index sums j

  -- a pressed sum is the pressed price of the host and what is left of the server's
  parts : (j : ℕ) → j < length p → Parts j (host_of net j)
  parts j l = by (host_of net j) refl
    where
      there : j < length sums
      there = omega (arith, l, sums_many)

      by : (host : Option ℕ) → host_of net j ≡ host → Parts j host
      by None is = record {
        under = omega arith;
        fall = omega (arith, falls numbers ascend (slice_index sums j) (slice_index pressed j) (servers.each j there));
      }
      by (Some h) is =
          let inside : h < length q = omega (arith, whole.hosts_in j h is, met.many.hosts) in
          let s =
          step numbers ascend (slice_index q h) (slice_index q' h) (slice_index sums j) (slice_index pressed j)
          (hosts.each h inside) (servers.each j there) (omega (arith, rw is at (sums_are j l))) in
          record { under = s.up; fall = s.less }

  -- a query pays at a server the pressed sum
  pays_now : (j : ℕ) → j < length p → price_at (numbered net) p' q' j ≡ slice_index pressed j
  pays_now j l = omega (arith, own j (omega (arith, l, servers.many, sums_many)), (parts j l).under)

  -- no price of a server or a host rises
  servers_fall : (j : ℕ) → j < length p → slice_index p' j ≤ slice_index p j
  servers_fall j l =
      let part = parts j l in
      omega (arith, own j (omega (arith, l, servers.many, sums_many)), part.under, part.fall, sums_are j l)

  -- no host's price rises
  hosts_fall : (h : ℕ) → h < length q → slice_index q' h ≤ slice_index q h
  hosts_fall h l = falls numbers ascend (slice_index q h) (slice_index q' h) (hosts.each h l)

  -- the server of an arc has a price
  has_price : (k : ℕ) → k < length net.sources → server k < length p
  has_price k l = omega (arith, whole.servers_in k l, met.many.servers)

  -- a source pays no more than over an arc
  below_at : (k : ℕ) → k < length net.sources → slice_index u' (source k) ≤ paid p' q' k
  below_at k l = omega (arith, lowered.below k l, pays_now (server k) (has_price k l))

  -- so it was, and where something flowed it was exactly that
  below_before : (k : ℕ) → k < length net.sources
      → slice_index u (source k) ≤ slice_index net.costs k + slice_index sums (server k)
  below_before k l =
      let below =
      each_number (λ k. slice_index u (source k) ≤ paid p q k) (length net.sources) met.balanced.prices.below k l in
      omega (arith, below, sums_are (server k) (has_price k l))

  -- a source pays its price over an arc in use
  used_before : (k : ℕ) → k < length net.sources → 0 < on k
      → slice_index u (source k) ≡ slice_index net.costs k + slice_index sums (server k)
  used_before k l some =
      let used =
      each_number (λ k. 0 < on k → slice_index u (source k) ≡ paid p q k) (length net.sources)
      met.balanced.prices.used k l some in
      omega (arith, used, sums_are (server k) (has_price k l))

  -- and still is
  used_at : (k : ℕ) → k < length net.sources → 0 < on k → slice_index u' (source k) ≡ paid p' q' k
  used_at k l some =
      let there : (i : ℕ) → i < length net.sources → IsPressed numbers (slice_index sums (server i))
      (slice_index pressed (server i)) =
      λ i m. servers.each (server i) (omega (arith, has_price i m, sums_many)) in
      let n = slice_index net.costs k + slice_index pressed (server k) in
      let low = falls numbers ascend (slice_index sums (server k)) (slice_index pressed (server k)) (there k l) in
      let each : (i : ℕ) → i < length net.sources → source i ≡ source k
      → n ≤ slice_index net.costs i + slice_index pressed (server i) =
      λ i m of.
      let same_source = ap (λ s. slice_index u s) of in
      order numbers ascend (slice_index net.costs k) (slice_index net.costs i) (size.cheap k l) (size.cheap i m)
      (slice_index sums (server k)) (slice_index pressed (server k)) (slice_index sums (server i))
      (slice_index pressed (server i)) (there k l) (there i m)
      (omega (arith, used_before k l some, below_before i m, same_source)) in
      let most =
      lowered.most (source k) n (omega (arith, whole.sources_in k l, met.many.sources))
      (omega (arith, low, used_before k l some)) each in
      omega (arith, lowered.below k l, most, pays_now (server k) (has_price k l))

  -- the prices fit the flow
  fit : HasPrices (numbered net) on u' p' q'
  fit = record {
    below = all_numbers (λ k. slice_index u' (source k) ≤ paid p' q' k) (length net.sources) below_at;
    used =
        all_numbers (λ k. 0 < on k → slice_index u' (source k) ≡ paid p' q' k) (length net.sources) used_at;
    idle =
        λ j l less.
        omega (arith, servers_fall j (omega (arith, l, met.many.servers)), met.balanced.prices.idle j l less);
    idle_host =
        λ h l less.
        omega (arith, hosts_fall h (omega (arith, l, met.many.hosts)), met.balanced.prices.idle_host h l less);
  }

  -- and none rises
  no_higher : HasBoundedPrices net now
  no_higher most bounds =
      let old = met.low most bounds in
      record {
        sources = λ i l.
            let m : i < length u = omega (arith, l, lowered.many) in omega (arith, lowered.low i m, old.sources i m);
        servers = λ j l.
            let m : j < length p = omega (arith, l, own_many, servers.many, sums_many) in
            omega (arith, servers_fall j m, old.servers j m);
        hosts = λ h l.
            let m : h < length q = omega (arith, l, hosts.many) in omega (arith, hosts_fall h m, old.hosts h m);
      }

  -- the flow with its new prices meets the network, and they are within the limits of a text
  pub is_pressed : IsPressedFlow net flow now
  is_pressed = record {
    flows = same;
    met =
        record {
          many =
              record {
                flows = ap (λ (flows : List ℕ). length flows) same ∙ met.many.flows;
                sources = lowered.many ∙ met.many.sources;
                servers = own_many ∙ servers.many ∙ sums_many ∙ met.many.servers;
                hosts = hosts.many ∙ met.many.hosts;
              };
          balanced =
              let both =
              subst
              (λ (flows : List ℕ). IsFeasible (numbered net) (λ k. slice_index flows k)
              × HasPrices (numbered net) (λ k. slice_index flows k) u' p' q') (sym same)
              (met.balanced.feasible, fit) in
              record { feasible = both.0; prices = both.1 };
          low = no_higher;
        };
    low =
        record {
          servers =
              prices_low p' (λ j l.
              let m : j < length pressed = omega (arith, l, own_many) in
              omega (arith, own j m, pressed_low numbers sums pressed few servers j (omega (arith, m, servers.many))));
          hosts =
              prices_low q' (λ h l. pressed_low numbers q q' few hosts h (omega (arith, l, hosts.many)));
        };
  }
