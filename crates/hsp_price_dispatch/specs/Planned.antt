-- Queries that ask for no more than the plan has, at one front.
use Rattle.std.specs.Prelude.{◌≡◌, ◌≤◌, ◌<◌, ◌+◌, ◌==◌, Bool, true, false, ℕ, List, [], ◌∷◌, All, Option, None, Some}
use Rattle.std.specs.Prelude.{count_by, is_some, length, map, sum, sum_by, if◌then◌else◌}
use Rattle.hsp_instance.specs.declared.arc.Arc.{Arc}
use Rattle.hsp_check.specs.Plan.{Feasible, Plan, is_on, total}
use Rattle.hsp_prices.specs.Rows.{Service, network_for}
use Rattle.hsp_price_text.specs.Certificate.{IsCertificate}
use Rattle.hsp_price_text.specs.Claim.{Best}
use Rattle.hsp_price_text.specs.declared.certificate.PriceCertificate.TheVariants as certificate
use Rattle.hsp_prices.specs.Least.{host_at, least_of, only_arc}
use Rattle.hsp_prices.specs.Shown.{IsService}
use Rattle.hsp_prices.specs.Sums.{host_load_at, load_at}
use Rattle.hsp_prices.specs.Verdict.{IsVerdict}
use Rattle.hsp_prices.specs.declared.verdict.PriceVerdict.TheVariants.{Yes}
use Rattle.hsp_log.specs.Entries.{Entry}
use Rattle.hsp_price_check.specs.Passed.{class_at}
use Rattle.hsp_price_dispatch.specs.Choosing.{class_number, row_of}
use Rattle.hsp_price_dispatch.specs.Holding.{Held}
use Rattle.hsp_price_dispatch.specs.Laws.{answers_to, count_at}
use Rattle.hsp_price_dispatch.specs.Starting.{Fits, IsBegun, capacity_at, limit_at}
use Rattle.hsp_price_dispatch.specs.declared.answer.PriceAnswer.{PriceAnswer}
use Rattle.hsp_price_dispatch.specs.declared.answer.PriceAnswer.TheVariants.{Assigned, Diverted, Full, Unknown}

-- whether a query with these least arcs has a place: it has one least arc, or several and a class
abbrev pub has_place : List Arc → Option ℕ → Bool
has_place [] class = false
has_place (arc ∷ []) class = true
has_place (arc ∷ other ∷ more) class = is_some class

abbrev pub is_placed : Service → Best → Entry → Bool
is_placed at plan entry =
    let least = least_of at plan (row_of entry) in has_place least (class_number plan entry.region least)

-- how many queries have only one least arc, and by it a server that passes a test
abbrev pub has_only : (ℕ → Bool) → Option Arc → ℕ
has_only test None = 0
has_only test (Some arc) = if test arc.server then 1 else 0

abbrev pub only_least_where : Service → Best → (ℕ → Bool) → List Entry → ℕ
only_least_where at plan test entries =
    sum_by (λ entry. has_only test (only_arc (least_of at plan (row_of entry)))) entries

-- how many are of a class
abbrev pub is_number : ℕ → Option ℕ → Bool
is_number k None = false
is_number k (Some own) = own == k

abbrev pub asked_at : Service → Best → ℕ → List Entry → ℕ
asked_at at plan k entries =
    count_by (λ entry. is_number k (class_number plan entry.region (least_of at plan (row_of entry)))) entries

-- Each query has a place. No class is asked for more than its amounts, and no server and no host by queries with one
-- least server for more than it has beside all amounts.
pub record AreWithinPlan (at : Service) (plan : Best) (entries : List Entry) : Type 0 where
  pub placed : All (λ entry. is_placed at plan entry ≡ true) entries
  pub classes : (k : ℕ) → k < length plan.classes → asked_at at plan k entries ≤ sum (class_at plan k).amounts
  pub servers : (j : ℕ) → only_least_where at plan (λ i. i == j) entries + load_at at plan [] j ≤ capacity_at at j
  pub hosts : (h : ℕ) → only_least_where at plan (λ i. is_on (host_at at i) h) entries + host_load_at at plan [] h
      ≤ limit_at at h

abbrev pub is_assigned : PriceAnswer → Bool
is_assigned (Assigned arc) = true
is_assigned (Diverted arc) = false
is_assigned Full = false
is_assigned Unknown = false

-- Then one front assigns each of them, and brings to each server no more than the plan does: its classes' amounts, and
-- the queries that have it as only least server. Where each class is asked for exactly its amounts, it brings just
-- that.
abbrev pub IsServedByPlan : Type 0
IsServedByPlan =
    (at : Service) (plan : Best) (own : Held) (entries : List Entry) → IsCertificate (certificate.Plan plan)
    → Fits at plan → IsBegun at plan 1 0 own → AreWithinPlan at plan entries
    → All (λ answer. is_assigned answer ≡ true) (answers_to own entries)
    × ((j : ℕ) → count_at j (answers_to own entries)
    ≤ only_least_where at plan (λ i. i == j) entries + load_at at plan [] j)
    × (((k : ℕ) → k < length plan.classes → asked_at at plan k entries ≡ sum (class_at plan k).amounts)
    → (j : ℕ) → count_at j (answers_to own entries)
    ≡ only_least_where at plan (λ i. i == j) entries + load_at at plan [] j)

-- what a query costs: the cost of the arc that it goes over
abbrev pub cost_of_answer : PriceAnswer → ℕ
cost_of_answer (Assigned arc) = arc.cost
cost_of_answer (Diverted arc) = arc.cost
cost_of_answer Full = 0
cost_of_answer Unknown = 0

-- Where the certificate is valid for queries, each of them a row, they ask for just what the plan has.
abbrev pub ValidIsWithinPlan : Type 0
ValidIsWithinPlan =
    (at : Service) (plan : Best) (entries : List Entry) → IsService at → IsCertificate (certificate.Plan plan)
    → IsVerdict at (map row_of entries) (certificate.Plan plan) Yes
    → AreWithinPlan at plan entries
    × ((k : ℕ) → k < length plan.classes → asked_at at plan k entries ≡ sum (class_at plan k).amounts)

-- So one front assigns each of them. Their answers cost together what the certificate states, and no plan of the rows
-- costs less.
abbrev pub CostsWhatThePlanDoes : Type 0
CostsWhatThePlanDoes =
    (at : Service) (plan : Best) (own : Held) (entries : List Entry) → IsService at
    → IsCertificate (certificate.Plan plan) → IsVerdict at (map row_of entries) (certificate.Plan plan) Yes
    → IsBegun at plan 1 0 own
    → All (λ answer. is_assigned answer ≡ true) (answers_to own entries)
    × (sum_by cost_of_answer (answers_to own entries) ≡ plan.cost)
    × ((x : Plan) → Feasible (network_for at (map row_of entries)) x
    → sum_by cost_of_answer (answers_to own entries) ≤ total (network_for at (map row_of entries)) x)
