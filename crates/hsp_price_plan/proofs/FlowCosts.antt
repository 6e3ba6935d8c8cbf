-- What a flow over groups costs, group by group.
use Rattle.std.proofs.Common.{◌≡◌, ℕ, ◌+◌, ◌*◌, ◌∙◌, List, [], ◌∷◌, ◌++◌, length, take}
use Rattle.std.proofs.Common.{drop, sum_by, refl, ap, sym, arith}
use Rattle.std.specs.List.{flat_map, zip}
use Rattle.std.proofs.lemmas.List.Sums.{sum_by-append, sum_by-cons}
use Rattle.hsp_instance.specs.declared.arc.Arc.{Arc}
use Rattle.hsp_prices.specs.Groups.{Group}
use Rattle.hsp_prices.specs.Solved.{cost_of}
use Rattle.hsp_price_check.specs.Passed.{capped}
use Rattle.hsp_price_plan.specs.ClassSums.{sent_of}
use Rattle.hsp_price_plan.specs.PlanOfGroups.{arcs_cost}
use Rattle.hsp_price_plan.proofs.SentFlows.{sum_one}

-- what groups with their flows cost
abbrev pub sent_cost : List (Group × List ℕ) → ℕ
sent_cost sent = sum_by (λ (own : Group × List ℕ). arcs_cost own.0.arcs own.1) sent

-- numbers for two lists, one behind the other
zip_append : {A : Type 0} (xs ys : List A) (ns : List ℕ)
    → zip (xs ++ ys) ns ≡ zip xs (take (length xs) ns) ++ zip ys (drop (length xs) ns)
zip_append [] ys ns = refl
zip_append (x ∷ xs) [] [] = refl
zip_append (x ∷ xs) (y ∷ ys) [] = refl
zip_append (x ∷ xs) ys (n ∷ ns) = ap (λ ps. (x, n) ∷ ps) (zip_append xs ys ns)

-- the flow costs what its groups do
pub cost_by_groups : (groups : List Group) (flows : List ℕ) → cost_of groups flows ≡ sent_cost (sent_of groups flows)
cost_by_groups [] flows = refl
cost_by_groups (group ∷ groups) flows =
    ap (sum_by (λ (own : Arc × ℕ). own.0.cost * own.1))
    (zip_append group.arcs (flat_map (λ (g : Group). g.arcs) groups) flows)
    ∙ sum_by-append (λ (own : Arc × ℕ). own.0.cost * own.1) (zip group.arcs (take (length group.arcs) flows))
    (zip (flat_map (λ (g : Group). g.arcs) groups) (drop (length group.arcs) flows))
    ∙ ap (λ n. arcs_cost group.arcs (take (length group.arcs) flows) + n)
    (cost_by_groups groups (drop (length group.arcs) flows))
    ∙ sym
    (sum_by-cons (λ (own : Group × List ℕ). arcs_cost own.0.arcs own.1)
    (group, take (length group.arcs) flows) (sent_of groups (drop (length group.arcs) flows)))

-- with one group more
pub cost_more : (sent : List (Group × List ℕ)) (own : Group × List ℕ)
    → capped (capped (sent_cost sent) + capped (arcs_cost own.0.arcs own.1)) ≡ capped (sent_cost (sent ++ own ∷ []))
cost_more sent own =
    let more : sent_cost (sent ++ own ∷ []) ≡ sent_cost sent + arcs_cost own.0.arcs own.1 =
    sum_by-append (λ (own : Group × List ℕ). arcs_cost own.0.arcs own.1) sent (own ∷ [])
    ∙ ap (λ n. sent_cost sent + n) (sum_one (λ (own : Group × List ℕ). arcs_cost own.0.arcs own.1) own) in
    omega (arith, more)
