use Rattle.std.proofs.Common.{◌≡◌, ◌∙◌, false, length, ap, refl, arith}
use Rattle.std.proofs.lemmas.List.{length-map, length-replicate}
use Rattle.hsp_instance.specs.Instance.{Server}
use Rattle.hsp_price_check.specs.Classes.{service_of}
use Rattle.hsp_price_check.proofs.Starting.{classes_few, host_prices_low, repeated, server_prices_low, start_sums}
use Rattle.hsp_price_check.proofs.checking.plan_pass.Goals as goal

pub prices_with_hosts-requires-clause-low : goal.prices_with_hosts-requires-clause-low
prices_with_hosts-requires-clause-low c =
    rw c.server_prices.ensures (server_prices_low c.args.plan.now c.cost-cost.ensures.within)

pub prices_with_hosts-requires-clause-low_hosts : goal.prices_with_hosts-requires-clause-low_hosts
prices_with_hosts-requires-clause-low_hosts c =
    rw c.host_prices.ensures (host_prices_low c.args.plan.now c.cost-cost.ensures.within)

pub class_numbers-requires : goal.class_numbers-requires
class_numbers-requires c = rw c.classes-classes.ensures (classes_few c.args.plan.now c.cost-cost.ensures.within)

pub returns : goal.returns
returns c =
    let is = c.servers-servers.ensures.within in
    let many : c.len.result ≡ length c.args.instance.now.servers =
    omega (
      arith,
      c.len.ensures,
      ap (λ list. length list) c.requires.numbers.capacities,
      length-map c.args.instance.now.servers (λ (s : Server). s.capacity),
    ) in
    let classes : c.classes-classes.result.now ≡ c.args.plan.now.classes = c.classes-classes.ensures in
    record {
      service = record { sites = is.sites; hosts = is.hosts; servers = is.servers };
      plan_is = refl;
      within = c.cost-cost.ensures.within;
      numbers = c.requires.numbers;
      shape = c.requires.shape;
      there = c.requires.there;
      extras =
          rw (← c.deref.ensures.value, ← c.server_prices.ensures, ← c.host_prices.ensures) c.in_ok-extras.ensures;
      classes = rw (← classes) c.in_ok-class_numbers.ensures;
      sums =
          start_sums (service_of c.args.costs.now c.args.instance.now) c.args.plan.now _
          (rw (← classes, ← many) c.in_ok-loads.ensures)
          (rw (← classes) c.class_costs.ensures)
          (ap (λ list. length list) (c.in_ok-vec.ensures.items_if_clones_equal (λ y same. same))
          ∙ length-replicate _ 0 ∙ ap (λ list. length list) classes)
          (repeated c.in_ok-vec.field-0.items _ 0 0 (c.in_ok-vec.ensures.items_if_clones_equal (λ y same. same)) refl)
          (ap (λ list. length list) (c.in_ok-vec-2.ensures.items_if_clones_equal (λ y same. same))
          ∙ length-replicate _ false ∙ ap (λ list. length list) classes)
          (repeated c.in_ok-vec-2.field-0.items _ false false
          (c.in_ok-vec-2.ensures.items_if_clones_equal (λ y same. same)) refl)
          refl;
    }
