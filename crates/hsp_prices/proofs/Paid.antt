-- What the rows pay together is what the plan costs and what full servers and hosts take.
use Rattle.std.proofs.Common.{◌≡◌, ℕ, ◌+◌, ◌*◌, ◌∙◌, true, List, length, map, ap, ap₂, slice_index, sym, arith}
use Rattle.std.proofs.Math.Nat.{add-mul}
use Rattle.std.proofs.lemmas.List.{length-map, get_or-map}
use Rattle.hsp_transport.specs.Sums.{sum_below, times}
use Rattle.hsp_transport.proofs.Summing.{by_place, sum_below_same}
use Rattle.hsp_instance.specs.Instance.{Host, Row}
use Rattle.hsp_check.proofs.Duality.{prices_show_best}
use Rattle.hsp_prices.specs.Rows.{Service, with_count_of}
use Rattle.hsp_prices.proofs.ByTables.{no_row, row_at}
use Rattle.hsp_price_text.specs.Claim.{Best, is_best}
use Rattle.hsp_prices.specs.Least.{pay_over}
use Rattle.hsp_prices.specs.Shown.{IsService}
use Rattle.hsp_prices.specs.Sums.{first_pay, least_pay, paid_in_all}
use Rattle.hsp_prices.specs.Verdict.{PlanMeets}
use Rattle.hsp_prices.specs.declared.verdict.PriceReason.{PriceReason}
use Rattle.hsp_prices.specs.declared.verdict.PriceReason.TheVariants.{Cost}
use Rattle.hsp_prices.proofs.ClassKinds.{by_class, is_same_class, least_kept, same_least}
use Rattle.hsp_prices.proofs.ClassPlan.{class_plan, class_plan_feasible, class_prices, classes_network, of_classes}
use Rattle.hsp_prices.proofs.ClassPlan.{total_is}
use Rattle.hsp_prices.proofs.Flows.{class_table}
use Rattle.hsp_prices.proofs.TableSums.{table_sum}

module _ (at : Service) (plan : Best) where
  -- what the queries of a row pay together
  abbrev row_pay : Row → ℕ
  row_pay row = row.count * least_pay at plan row

  -- the products of rows' counts and of what a query of each pays, added up, are what the rows pay together
  times_pay : (list : List Row)
      → times (map (λ (r : Row). r.count) list) (map (least_pay at plan) list) ≡ paid_in_all at plan list
  times_pay list =
      ap
      (λ n. sum_below n (λ k.
      slice_index (map (λ (r : Row). r.count) list) k * slice_index (map (least_pay at plan) list) k))
      (length-map list (λ (r : Row). r.count))
      ∙ sum_below_same (length list) _ (λ k. row_pay (row_at list k)) (λ k l.
      ap₂ (λ m n. m * n) (get_or-map (λ (r : Row). r.count) list k no_row 0 l)
      (get_or-map (least_pay at plan) list k no_row 0 l))
      ∙ sym (by_place row_pay no_row list)

  module _ (is : IsService at) where
    -- two rows of one class joined pay what they pay apart
    joined_pay : (a b : Row) → is_same_class at plan a b ≡ true
        → row_pay (with_count_of a b) ≡ row_pay a + row_pay b
    joined_pay a b e =
        let own = least_pay at plan a in
        ap (λ arcs. (a.count + b.count) * first_pay (pay_over at plan) arcs) (least_kept at plan a b)
        ∙ add-mul a.count b.count own
        ∙ ap (λ arcs. a.count * own + b.count * first_pay (pay_over at plan) arcs) (same_least at plan is a b e)

    module _ (rows : List Row) (fits : is_best plan ≡ true) (meets : (r : PriceReason) → PlanMeets at rows plan r) where
      -- the rows pay what the rows of the table pay, which is what the plan costs and what full servers and hosts take
      pub paid_is :
          paid_in_all at plan rows
          ≡ plan.cost
          + (times (map (λ server. server.capacity) at.servers) plan.server_prices
          + times (map (λ (host : Host). host.limit) at.hosts) plan.host_prices)
      paid_is =
          let table = class_table at plan rows in
          let shown =
          (prices_show_best (of_classes at plan rows) (class_plan at plan rows) (map (least_pay at plan) table)
          plan.server_prices plan.host_prices (classes_network at plan rows is)
          (class_plan_feasible at plan rows is fits meets) (class_prices at plan rows is fits meets)).1 in
          omega (
            arith,
            table_sum (by_class at plan) row_pay joined_pay rows,
            times_pay table,
            shown,
            total_is at plan rows is fits meets,
            meets Cost,
          )
