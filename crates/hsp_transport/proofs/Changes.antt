-- What prices weigh where one number changes.
use Rattle.std.proofs.Common.{◌≡◌, ℕ, ◌+◌, ◌*◌, ◌==◌, List, length, slice_index, if◌then◌else◌, refl, ap, ◌∙◌, add-mul}
use Rattle.std.proofs.Common.{zero-mul, eq-eqb, ne_eqb}
use Rattle.hsp_transport.specs.Changes.{IsMoreAt}
use Rattle.hsp_transport.specs.Sums.{sum_below, times}
use Rattle.hsp_transport.proofs.Summing.{sum_below_same, sum_below_add, sum_below_one}

-- k more at one place weigh k times the price there
pub weighs_more : (j k : ℕ) (numbers more prices : List ℕ) → IsMoreAt j k numbers more
    → times more prices ≡ times numbers prices + k * slice_index prices j
weighs_more j k numbers more prices is =
    let at : ℕ → ℕ = λ i. (if i == j then k else 0) * slice_index prices i in
    let here : at j ≡ k * slice_index prices j = rw (eq-eqb j j refl) refl in
    let one : sum_below (length numbers) at ≡ at j =
    sum_below_one (length numbers) at j is.there (λ i l ne. rw (ne_eqb i j ne) (zero-mul (slice_index prices i))) in
    rw is.many
    (sum_below_same (length numbers) _ _
    (λ i l. ap (λ v. v * slice_index prices i) (is.more i l)
    ∙ add-mul (slice_index numbers i) (if i == j then k else 0) (slice_index prices i))
    ∙ sum_below_add (length numbers) (λ i. slice_index numbers i * slice_index prices i) at
    ∙ ap (λ v. times numbers prices + v) (one ∙ here))
