use Rattle.std.proofs.Common.{◌≡◌, ◌∙◌, length, arith, inr}
use Rattle.hsp_flow.specs.Planning.{flagged_from}
use Rattle.hsp_price_text.specs.Claim.{if_short}
use Rattle.hsp_price_check.specs.SetPass.{capacity_by}
use Rattle.hsp_price_plan.specs.Shortage.{IsShortageFor, IsShortagePast}
use Rattle.hsp_price_plan.proofs.ShortageParts.{flags_are, is_shortage, none_short, past_sums, servers_ordered}
use Rattle.hsp_price_plan.proofs.ShortageParts.{short_by}
use Rattle.hsp_price_plan.proofs.ShortageParts.{some_short}
use Rattle.hsp_price_plan.proofs.shortage.short_certificate.Goals as goal

pub returns-in_default-clause-none : goal.returns-in_default-clause-none
returns-in_default-clause-none c =
    let numbers = c.args.numbers.now in
    let groups = c.args.groups.now in
    let reached = c.args.reached.now in
    let capacity =
    c.in_ok-capacity_of_set.ensures (flagged_from 0 reached) (flags_are reached (length numbers.capacities.items)) in
    record {
      short = short_by numbers groups reached;
      is = is_shortage numbers groups reached c.requires.reached;
      servers = servers_ordered reached c.requires.few;
      past = inr (omega (arith, capacity, c.in_default.ensures));
    }

pub returns-clause-short : goal.returns-clause-short
returns-clause-short c =
    let numbers = c.args.numbers.now in
    let groups = c.args.groups.now in
    let reached = c.args.reached.now in
    let capacity : c.in-Ok.capacity ≡ capacity_by numbers (flagged_from 0 reached) =
    c.in-Ok.ensures.1
    ∙ c.in_ok-capacity_of_set.ensures (flagged_from 0 reached) (flags_are reached (length numbers.capacities.items)) in
    let made : c.new.result ≡ if_short (short_by numbers groups reached) =
    rw (c.in_ok-servers.ensures, c.caught_demand-demand.ensures, capacity) at c.new.ensures in
    some_short (IsShortageFor numbers groups reached) (short_by numbers groups reached) c.new.result made
    (is_shortage numbers groups reached c.requires.reached)

pub returns-clause-none : goal.returns-clause-none
returns-clause-none c =
    let numbers = c.args.numbers.now in
    let groups = c.args.groups.now in
    let reached = c.args.reached.now in
    let capacity : c.in-Ok.capacity ≡ capacity_by numbers (flagged_from 0 reached) =
    c.in-Ok.ensures.1
    ∙ c.in_ok-capacity_of_set.ensures (flagged_from 0 reached) (flags_are reached (length numbers.capacities.items)) in
    let made : c.new.result ≡ if_short (short_by numbers groups reached) =
    rw (c.in_ok-servers.ensures, c.caught_demand-demand.ensures, capacity) at c.new.ensures in
    none_short (IsShortagePast numbers groups reached) (short_by numbers groups reached) c.new.result made (λ past.
    record {
      short = short_by numbers groups reached;
      is = is_shortage numbers groups reached c.requires.reached;
      servers = servers_ordered reached c.requires.few;
      past = past_sums (short_by numbers groups reached) (servers_ordered reached c.requires.few) past;
    })
