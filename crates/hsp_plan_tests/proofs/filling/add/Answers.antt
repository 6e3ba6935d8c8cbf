use Rattle.std.proofs.Common.{◌≤◌, ◌<◌, ◌==◌, ◌+◌, ◌∙◌, ap, arith, length, subst, sym}
use Rattle.std.specs.Prelude.{if◌then◌else◌}
use Rattle.hsp_names.specs.Lent.{octets_of}
use Rattle.hsp_price_plan.specs.Held.{HeldRows}
use Rattle.hsp_plan_tests.specs.Filling.{HasRows}
use Rattle.hsp_plan_tests.proofs.Fillings.{can_push, one_more, regions_with, service_arcs}
use Rattle.hsp_plan_tests.proofs.filling.add.Goals as goal

pub push-requires : goal.push-requires
push-requires c =
    let at = c.requires.0 in
    let filled = c.requires.1 in
    let filling = c.args.filling.now in
    let found =
    service_arcs at filling.arcs filled.costs_are filled.sites_are c.args.row.region.now (octets_of c.in-Ok.handle)
    c.find.new.self.arcs c.arcs-arcs.result.now c.in_ok-number.ensures.arcs c.arcs-arcs.ensures in
    can_push at filling.rows filled.has c.args.row.region.now (octets_of c.in-Ok.handle) c.arcs-arcs.result.now found
    c.in_ok-number.number (c.is_number.ensures.next c.if-not-is_number.false)
    (c.is_number.ensures.named c.if-not-is_number.false) (c.is_number.ensures.low c.if-not-is_number.false)
    (omega arith) (c.are_servers.ensures c.if-not-are_servers.false)

pub returns : goal.returns
returns c = λ at filled.
    let filling = c.args.filling.now in
    let number = c.in_ok-number.number in
    let region = c.args.row.region.now in
    let arcs = c.arcs-arcs.result.now in
    let count = c.args.row.count in
    let found =
    service_arcs at filling.arcs filled.costs_are filled.sites_are region (octets_of c.in-Ok.handle)
    c.find.new.self.arcs arcs c.in_ok-number.ensures.arcs c.arcs-arcs.ensures in
    let low : count ≤ 1000000 = omega arith in
    let few : length filling.rows.rows < 10000 = omega (arith, c.len.ensures.count) in
    record {
      costs_are = c.in_ok-number.ensures.costs ∙ filled.costs_are;
      sites_are = c.in_ok-number.ensures.sites ∙ filled.sites_are;
      many =
          c.with_number-filling.ensures ∙ ap (λ n. if number == n then n + 1 else n) filled.many
          ∙ sym (regions_with filling.rows.regions number region arcs)
          ∙ sym (ap (λ (held : HeldRows). length held.regions) c.in_ok-push.ensures.added);
      has =
          subst (HasRows at) (sym c.in_ok-push.ensures.added)
          (one_more at filling.rows filled.has region (octets_of c.in-Ok.handle) arcs found number
          (c.is_number.ensures.next c.if-not-is_number.false) (c.is_number.ensures.named c.if-not-is_number.false)
          count low few);
    }
