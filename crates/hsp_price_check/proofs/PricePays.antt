-- By the numbers for servers, which are their prices and those of their hosts, a query pays what it pays by the prices.
use Rattle.std.proofs.Common.{◌≡◌, ◌≤◌, ◌+◌, ◌∙◌, ℕ, List, length, map, slice_index, None, Option}
use Rattle.std.proofs.Common.{inl, inr, ap, sym, subst, arith}
use Rattle.std.proofs.Math.Path.{fun_ext}
use Rattle.std.proofs.lemmas.Bool.{cases_lt}
use Rattle.std.proofs.lemmas.List.{get_or_past, length-map}
use Rattle.hsp_check.specs.Prices.{at_host}
use Rattle.hsp_instance.specs.Instance.{Server}
use Rattle.hsp_instance.specs.declared.arc.Arc.{Arc}
use Rattle.hsp_prices.specs.Rows.{Service}
use Rattle.hsp_price_text.specs.Claim.{Best}
use Rattle.hsp_prices.specs.Least.{host_at, price_at, pay_over}
use Rattle.hsp_price_check.specs.Extras.{pay_by, AreExtras}
use Rattle.hsp_price_check.specs.PlanPass.{AreNumbersOf}
use Rattle.hsp_price_check.specs.declared.numbers.ServiceNumbers.{ServiceNumbers}

module _ (at : Service) (plan : Best) (extras : List ℕ)
    (of : AreExtras (map (λ server. server.host) at.servers) plan.server_prices plan.host_prices extras)
    (many : length plan.server_prices ≡ length at.servers) where
  -- past the servers there is no price
  none_past : (j : ℕ) → length plan.server_prices ≤ j → price_at at plan j ≡ 0
  none_past j l =
      let long = length-map at.servers (λ (server : Server). server.host) in
      let no_host : host_at at j ≡ None =
      get_or_past (map (λ server. server.host) at.servers) j None (omega (arith, long, many)) in
      omega (
        arith,
        get_or_past plan.server_prices j 0 l,
        ap (λ host. at_host host (λ h. slice_index plan.host_prices h)) no_host,
      )

  -- the number for each server is its price and its host's
  extra_is : (j : ℕ) → slice_index extras j ≡ price_at at plan j
  extra_is j = elim (cases_lt j (length plan.server_prices)) [
    | inl there ↦ of.each j there
    | inr past ↦ get_or_past extras j 0 (omega (arith, of.many)) ∙ sym (none_past j past)
  ]

  -- so by these numbers a query pays what it pays by the prices
  pub pay_is : pay_by extras ≡ pay_over at plan
  pay_is = fun_ext (λ (arc : Arc). ap (λ v. arc.cost + v) (extra_is arc.server))

-- the same where hosts are those of a service's numbers
pub same_pay : (at : Service) (numbers : ServiceNumbers) → AreNumbersOf at numbers → (plan : Best) (extras : List ℕ)
    → AreExtras numbers.server_hosts.items plan.server_prices plan.host_prices extras
    → length plan.server_prices ≡ length numbers.server_hosts.items → pay_by extras ≡ pay_over at plan
same_pay at numbers are plan extras of many =
    let long = length-map at.servers (λ (server : Server). server.host) in
    let hosts_many = ap (λ (hosts : List (Option ℕ)). length hosts) are.server_hosts in
    let over = λ (hosts : List (Option ℕ)). AreExtras hosts plan.server_prices plan.host_prices extras in
    pay_is at plan extras (subst over are.server_hosts of) (omega (arith, many, long, hosts_many))
