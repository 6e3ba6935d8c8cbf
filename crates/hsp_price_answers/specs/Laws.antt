-- What holds of the answers of all fronts together, and of a single front.
use Rattle.std.specs.Prelude.{◌≡◌, ◌<◌, ◌≤◌, ◌+◌, ◌==◌, true, ℕ, List, [], All, length, sum}
use Rattle.hsp_transport.specs.Sums.{sum_below}
use Rattle.hsp_prices.specs.Rows.{Service}
use Rattle.hsp_price_text.specs.Certificate.{IsCertificate}
use Rattle.hsp_price_text.specs.Claim.{Best}
use Rattle.hsp_price_text.specs.declared.certificate.PriceCertificate.TheVariants as certificate
use Rattle.hsp_prices.specs.Sums.{load_at}
use Rattle.hsp_price_check.specs.Passed.{class_at}
use Rattle.hsp_price_dispatch.specs.Holding.{Held}
use Rattle.hsp_price_dispatch.specs.Laws.{AreBegun, answers_to, count_at, count_on}
use Rattle.hsp_price_dispatch.specs.Planned.{AreWithinPlan, asked_at, is_assigned, only_least_where}
use Rattle.hsp_price_dispatch.specs.Starting.{Fits, IsBegun, capacity_at, limit_at}
use Rattle.hsp_price_answers.specs.Asking.{Asked, queries_in}

-- Machines answer logs, each by its front of one plan that fits, whatever the rows of each ask. All together they send
-- no server and no host more than it takes.
abbrev pub MachinesKeepWithin : Type 0
MachinesKeepWithin =
    (at : Service) (plan : Best) (fronts : ℕ) (begun : ℕ → Held) (asked : ℕ → List Asked) → 0 < fronts
    → Fits at plan → AreBegun at plan fronts begun
    → ((j : ℕ) → j < length at.servers
    → sum_below fronts (λ front. count_at j (answers_to (begun front) (queries_in (asked front)))) ≤ capacity_at at j)
    × ((h : ℕ) → h < length at.hosts
    → sum_below fronts (λ front. count_on at h (answers_to (begun front) (queries_in (asked front)))) ≤ limit_at at h)

-- A log asks a single front for no more than the plan has. Then each query is assigned, no server gets more than by the
-- plan, and each gets just that where each class is asked for exactly its amounts.
abbrev pub IsServedInLog : Type 0
IsServedInLog =
    (at : Service) (plan : Best) (own : Held) (asked : List Asked) → IsCertificate (certificate.Plan plan)
    → Fits at plan → IsBegun at plan 1 0 own → AreWithinPlan at plan (queries_in asked)
    → All (λ answer. is_assigned answer ≡ true) (answers_to own (queries_in asked))
    × ((j : ℕ) → count_at j (answers_to own (queries_in asked))
    ≤ only_least_where at plan (λ i. i == j) (queries_in asked) + load_at at plan [] j)
    × (((k : ℕ) → k < length plan.classes → asked_at at plan k (queries_in asked) ≡ sum (class_at plan k).amounts)
    → (j : ℕ) → count_at j (answers_to own (queries_in asked))
    ≡ only_least_where at plan (λ i. i == j) (queries_in asked) + load_at at plan [] j)
