-- A flow that meets the groups' network shows a valid certificate, where rows keep all arcs over which they pay least.
use Rattle.std.proofs.Common.{◌≡◌, ◌∙◌, ℕ, true, false, inl, All, List, ap, length, map, refl, slice_index_or, subst}
use Rattle.std.proofs.Common.{sym}
use Rattle.std.proofs.Common.{zip}
use Rattle.std.proofs.lemmas.List.{get_or-map, get_or_default, length-map}
use Rattle.hsp_cert.specs.Certificate.{ascends}
use Rattle.hsp_check.specs.Prices.{ArePrices}
use Rattle.hsp_instance.specs.declared.arc.Arc.{Arc}
use Rattle.hsp_prices.specs.Rows.{Service}
use Rattle.hsp_network.specs.Answer.{IsMet}
use Rattle.hsp_network.specs.Network.{Transport}
use Rattle.hsp_network.specs.declared.network.PricedFlow.{PricedFlow}
use Rattle.hsp_price_text.specs.Claim.{Best, Class, is_before, is_best}
use Rattle.hsp_price_text.specs.declared.certificate.PriceCertificate.TheVariants as certificate
use Rattle.hsp_prices.specs.Least.{pay_over}
use Rattle.hsp_prices.specs.Groups.{AreGroupsOf, Group, network_of_groups}
use Rattle.hsp_prices.specs.KeptRows.{KeptRow, with_least}
use Rattle.hsp_prices.specs.Solved.{flows_by, sent_to}
use Rattle.hsp_prices.proofs.GroupsBest.{groups_show_best}
use Rattle.hsp_price_check.specs.Extras.{AreExtras, pay_by}
use Rattle.hsp_price_check.specs.PlanPass.{AreNumbersOf}
use Rattle.hsp_price_check.specs.declared.numbers.ServiceNumbers.{ServiceNumbers}
use Rattle.hsp_price_plan.specs.PlanOfGroups.{IsPlanFor}
use Rattle.hsp_price_plan.specs.Pressing.{HasTextPrices}
use Rattle.hsp_price_plan.specs.Solving.{group_network}
use Rattle.hsp_price_check.proofs.PricePays.{same_pay}
use Rattle.hsp_price_plan.specs.Planning.{IsFaultOf, IsValidFor}
use Rattle.hsp_price_plan.specs.declared.fault.PlanFault.TheVariants.{TooLarge}
use Rattle.hsp_price_plan.proofs.PastLimits.{plan_past}

-- the network of the groups by the numbers of a service is that by its numbers
pub same_network : (numbers : ServiceNumbers) (at : Service) (groups : List Group) → AreNumbersOf at numbers
    → group_network numbers groups ≡ network_of_groups at groups
same_network numbers at groups are = rw (are.capacities, are.limits, are.server_hosts) refl

-- rows that are what a pass makes of them keep what it keeps
pub all_settled : (f : KeptRow → KeptRow) (kept : List KeptRow) → map f kept ≡ kept → All (λ row. f row ≡ row) kept
all_settled f kept is k d l =
    sym (get_or-map f kept k d (f d) l) ∙ ap (λ (rows : List KeptRow). slice_index_or rows k (f d)) is
    ∙ get_or_default kept k (f d) d l

module _ (numbers : ServiceNumbers) (kept : List KeptRow) (groups : List Group) (flow : PricedFlow) (extras : List ℕ)
    (plan : Best) where
  -- where rows keep all arcs over which they pay least, the plan of the flow is valid
  pub plan_valid : AreGroupsOf kept groups → IsMet (group_network numbers groups) flow
      → AreExtras numbers.server_hosts.items flow.server_prices.items flow.host_prices.items extras
      → map (with_least (pay_by extras)) kept ≡ kept → IsPlanFor numbers groups flow plan
      → IsValidFor numbers kept (certificate.Plan plan)
  plan_valid of_rows met extras_are settled is at rows held =
      let own = is at held.numbers_are in
      let extras_of : AreExtras numbers.server_hosts.items plan.server_prices plan.host_prices extras =
      rw (own.server_prices, own.host_prices) extras_are in
      let many : length plan.server_prices ≡ length numbers.server_hosts.items =
      ap (λ (list : List ℕ). length list) own.server_prices ∙ met.many.servers ∙ numbers.servers_many in
      let pay : pay_by extras ≡ pay_over at plan = same_pay at numbers held.numbers_are plan extras extras_of many in
      groups_show_best at rows kept groups flow plan held.service held.rows_are
      (record {
        of_rows = of_rows;
        met = subst (λ (net : Transport). IsMet net flow) (same_network numbers at groups held.numbers_are) met;
        least =
            subst (λ (p : Arc → ℕ). All (λ row. with_least p row ≡ row) kept) pay
            (all_settled (with_least (pay_by extras)) kept settled);
        server_prices = own.server_prices;
        host_prices = own.host_prices;
        classes = own.classes;
        cost = own.cost;
      })

  -- and where it is past the limits of a text, the rows are too large
  pub plan_too_large : AreGroupsOf kept groups → IsMet (group_network numbers groups) flow
      → AreExtras numbers.server_hosts.items flow.server_prices.items flow.host_prices.items extras
      → map (with_least (pay_by extras)) kept ≡ kept → HasTextPrices flow → IsPlanFor numbers groups flow plan
      → ascends is_before plan.classes ≡ true → is_best plan ≡ false → IsFaultOf numbers kept TooLarge
  plan_too_large of_rows met extras_are settled low is order past at rows held =
      let own = is at held.numbers_are in
      let valid = plan_valid of_rows met extras_are settled is at rows held in
      let many : All (λ (class : Class). length class.amounts ≡ length class.servers) plan.classes =
      λ k d l.
      let class = slice_index_or plan.classes k d in
      ap (λ (amounts : List ℕ). length amounts) (own.classes.amounts k d l)
      ∙ length-map class.servers
      (sent_to (pay_over at plan) (zip groups (flows_by groups flow.flows.items)) class) in
      inl (
        certificate.Plan plan,
        valid,
        plan_past at rows plan held.service held.costs valid own.classes.several many order
            (subst (λ (prices : List ℕ). ArePrices prices) (sym own.server_prices) low.servers)
            (subst (λ (prices : List ℕ). ArePrices prices) (sym own.host_prices) low.hosts) past,
      )
