-- A row by its region and its arcs: what it pays, where it goes, and that this is among what is counted.
use Rattle.std.proofs.Common.{◌≡◌, ◌≤◌, ◌∙◌, ℕ, List, [], ◌∷◌, length, position, Option}
use Rattle.std.proofs.Common.{ap, ap₂, sym, subst, arith}
use Rattle.std.specs.List.{AllByRecursion}
use Rattle.std.proofs.lemmas.List.{length-map}
use Rattle.std.proofs.lemmas.List.Quantifiers.{position-Some}
use Rattle.hsp_instance.specs.Instance.{Row, Server}
use Rattle.hsp_instance.specs.RowArcs.{IsWithin}
use Rattle.hsp_instance.specs.declared.arc.Arc.{Arc}
use Rattle.hsp_prices.specs.Rows.{Service}
use Rattle.hsp_price_text.specs.Claim.{Best}
use Rattle.hsp_prices.specs.Least.{arcs_of, is_least, least_arcs, least_of, servers_of}
use Rattle.hsp_prices.proofs.Lists.{all_kept}
use Rattle.hsp_price_check.specs.FirstRows.{FirstRow}
use Rattle.hsp_price_check.specs.ClassNumbers.{HasClasses, is_named}
use Rattle.hsp_price_check.specs.Extras.{pay_by}
use Rattle.hsp_price_check.specs.Passed.{IsInside, IsPlaceOf, no_class}
use Rattle.hsp_price_check.specs.PlanPass.{IsPlaceBy, IsPlanPass}
use Rattle.hsp_price_check.specs.declared.plan_pass.PlanPass.{PlanPass}
use Rattle.hsp_price_check.specs.declared.sums.RowPlace.{RowPlace}
use Rattle.hsp_price_check.specs.declared.sums.RowPlace.TheVariants.{Nowhere, Over, OfClass, Unlisted}
use Rattle.hsp_price_check.proofs.PricePays.{same_pay}

-- where a row goes by its region and its least arcs is where it goes by the plan
pub place_is : (at : Service) (plan : Best) (row : Row) (numbers : List FirstRow) (region : List ℕ) (least : List Arc)
    (place : RowPlace) → HasClasses plan.classes numbers → row.region ≡ region → least ≡ least_of at plan row
    → IsPlaceBy numbers region least place → IsPlaceOf at plan row place
place_is at plan row numbers region least Nowhere has own same is = sym same ∙ is
place_is at plan row numbers region least (Over arc) has own same is = sym same ∙ is
place_is at plan row numbers region least (OfClass class) has own same is = (
  subst (λ (arcs : List Arc). 2 ≤ length arcs) same is.0,
  ap₂ (λ r arcs. position (is_named r (servers_of arcs)) plan.classes) own (sym same) ∙ is.1 plan.classes has,
)
place_is at plan row numbers region least Unlisted has own same is = (
  subst (λ (arcs : List Arc). 2 ≤ length arcs) same is.0,
  ap₂ (λ r arcs. position (is_named r (servers_of arcs)) plan.classes) own (sym same) ∙ is.1 plan.classes has,
)

module _ (at : Service) (plan : Best) (rows : List Row) (pass : PlanPass) (is : IsPlanPass at plan rows pass) where
  -- there are as many prices as numbers of hosts
  many_prices : length plan.server_prices ≡ length pass.numbers.server_hosts.items
  many_prices =
      omega (
        arith,
        is.shape.0,
        length-map at.servers (λ (server : Server). server.host),
        ap (λ (hosts : List (Option ℕ)). length hosts) is.numbers.server_hosts,
      )

  -- so arcs are least by these numbers where they are least by the prices
  pub least_is : (row : Row) (arcs : List Arc) → arcs_of at row ≡ arcs
      → least_arcs (pay_by pass.extras.items) arcs ≡ least_of at plan row
  least_is row arcs own =
      ap₂ least_arcs (same_pay at pass.numbers is.numbers plan pass.extras.items is.extras many_prices) (sym own)

  -- a place by least arcs that are within the servers is among what is counted
  pub inside : (region : List ℕ) (arcs least : List Arc) (place : RowPlace)
      → AllByRecursion (IsWithin (length pass.extras.items)) arcs → least ≡ least_arcs (pay_by pass.extras.items) arcs
      → IsPlaceBy pass.classes.entries region least place → IsInside pass.sums place
  inside region arcs least Nowhere within same by = tt
  inside region arcs least (Over arc) within same by =
      let one : AllByRecursion (IsWithin (length pass.extras.items)) (arc ∷ []) =
      subst (AllByRecursion (IsWithin (length pass.extras.items))) (sym same ∙ by)
      (all_kept (IsWithin (length pass.extras.items)) (is_least (pay_by pass.extras.items) arcs) arcs within) in
      let servers = one.0.server in
      (omega (arith, is.sums.loads_many, is.shape.0, is.extras.many, servers), one.0.cost)
  inside region arcs least (OfClass class) within same by =
      let there =
      position-Some (is_named region (servers_of least)) plan.classes class no_class (by.1 plan.classes is.classes) in
      (omega (arith, is.sums.asked_many, there.0), omega (arith, is.sums.seen_many, there.0))
  inside region arcs least Unlisted within same by = tt
