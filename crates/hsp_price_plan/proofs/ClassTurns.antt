-- Flows to a server, arc by arc, and amounts with flows, place by place.
use Rattle.std.proofs.Common.{◌≡◌, ℕ, zero, suc, ◌+◌, ◌<◌, ◌≤◌, ◌==◌, ◌∙◌, ◌⊎◌, List, [], ◌∷◌}
use Rattle.std.proofs.Common.{length, map, sum_by, slice_index, refl, ap, sym, arith, eq-eqb}
use Rattle.std.specs.Prelude.{if◌then◌else◌}
use Rattle.std.specs.List.{zip}
use Rattle.std.proofs.lemmas.List.{ext_get_or, length-map}
use Rattle.std.proofs.lemmas.List.Sums.{sum_by-cons}
use Rattle.hsp_instance.specs.declared.arc.Arc.{Arc}
use Rattle.hsp_price_check.proofs.ClassSums.{none_left}
use Rattle.hsp_price_plan.specs.ClassSums.{added}

-- what an arc with its flow brings to a server
abbrev pub to : ℕ → Arc × ℕ → ℕ
to j own = if own.0.server == j then own.1 else 0

-- where no arc or no flow is left the sum is the whole
pub all_summed : (j sum_so_far all : ℕ) (arcs : List Arc) (flows : List ℕ)
    → (length arcs ≡ 0) ⊎ (length flows ≡ 0) → sum_so_far + sum_by (to j) (zip arcs flows) ≡ all
    → sum_so_far ≡ all
all_summed j sum_so_far all arcs flows none is =
    let rest : sum_by (to j) (zip arcs flows) ≡ 0 = ap (sum_by (to j)) (none_left arcs flows none) in
    omega (arith, is, rest)

-- numbers added up have the length of the first ones
length-added : (xs ys : List ℕ) → length (added xs ys) ≡ length xs
length-added [] ys = refl
length-added (x ∷ xs) [] = refl
length-added (x ∷ xs) (y ∷ ys) = ap suc (length-added xs ys)

-- each of them, by its place
added_at : (xs ys : List ℕ) (k : ℕ) → length xs ≡ length ys → k < length xs
    → slice_index (added xs ys) k ≡ slice_index xs k + slice_index ys k
added_at [] ys k many l = absurd (omega arith)
added_at (x ∷ xs) [] k many l = absurd (omega arith)
added_at (x ∷ xs) (y ∷ ys) zero many l = refl
added_at (x ∷ xs) (y ∷ ys) (suc k) many l = added_at xs ys k (omega arith) (omega arith)

-- a function of the list's elements, by their places
map_at : (f : ℕ → ℕ) (xs : List ℕ) (k : ℕ) → k < length xs → slice_index (map f xs) k ≡ f (slice_index xs k)
map_at f [] k l = absurd (omega arith)
map_at f (x ∷ xs) zero l = refl
map_at f (x ∷ xs) (suc k) l = map_at f xs k (omega arith)

-- numbers that have grown at each place by a function of a list's element are added up with it
pub all_added : (f : ℕ → ℕ) (old new xs : List ℕ) → length new ≡ length old → length old ≡ length xs
    → ((k : ℕ) → k < length xs → slice_index new k ≡ slice_index old k + f (slice_index xs k))
    → new ≡ added old (map f xs)
all_added f old new xs same many each =
    ext_get_or 0 new (added old (map f xs)) (same ∙ sym (length-added old (map f xs))) (λ k l.
    let inside : k < length xs = omega arith in
    each k inside ∙ ap (λ n. slice_index old k + n) (sym (map_at f xs k inside))
    ∙ sym (added_at old (map f xs) k (many ∙ sym (length-map xs f)) (omega arith)))

-- an arc to the server adds no more than what there is
pub fits_next : (j so_far all : ℕ) (arc : Arc) (flow : ℕ) (arcs whole_arcs : List Arc) (flows whole_flows : List ℕ)
    → whole_arcs ≡ arc ∷ arcs → whole_flows ≡ flow ∷ flows
    → so_far + sum_by (to j) (zip whole_arcs whole_flows) ≡ all → arc.server ≡ j → so_far + flow ≤ all
fits_next j so_far all arc flow arcs whole_arcs flows whole_flows arcs_are flows_are is leads =
    let now = rw (arcs_are, flows_are) at is in
    let here : to j (arc, flow) ≡ flow = ap (λ b. if b then flow else 0) (eq-eqb arc.server j leads) in
    omega (arith, now, here, sum_by-cons (to j) (arc, flow) (zip arcs flows))
