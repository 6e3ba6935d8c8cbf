-- Sums and conditions over arcs with the flows of a plan, and over only the arcs.
use Rattle.std.proofs.Common.{◌≡◌, ℕ, ◌+◌, ◌∙◌, ◌↔◌, List, [], ◌∷◌, sum_by, map, All, slice_index_or, refl, ap, subst}
use Rattle.std.proofs.Common.{sym}
use Rattle.std.proofs.Math.ListN.{get_or-map}
use Rattle.std.proofs.lemmas.List.{length-map}
use Rattle.std.proofs.lemmas.List.Sums.{sum_by-cons}
use Rattle.std.proofs.lemmas.List.Elements.{All-map}
use Rattle.hsp_check.specs.declared.arc.NetworkArc.{NetworkArc}
use Rattle.hsp_check.specs.declared.sums.ArcFlow.{ArcFlow}
use Rattle.hsp_check.specs.Plan.{Plan, planned}
use Rattle.hsp_transport.proofs.Summing.{sum_by_same_all}

-- a sum over what a function gives is the sum of that
sum_of_map : {A B : Type 0} (f : A → B) (g : B → ℕ) (xs : List A) → sum_by g (map f xs) ≡ sum_by (λ x. g (f x)) xs
sum_of_map f g [] = refl
sum_of_map f g (x ∷ xs) =
    sum_by-cons g (f x) (map f xs) ∙ ap (λ s. g (f x) + s) (sum_of_map f g xs) ∙ sym (sum_by-cons (λ y. g (f y)) x xs)

-- a sum over arcs with flows is one over the plan
pub flow_sum : (g : NetworkArc → ℕ → ℕ) (x : Plan) (arc_flows : List ArcFlow)
    → All (λ l. l.flow ≡ planned x l.arc) arc_flows →
    sum_by (λ l. g l.arc l.flow) arc_flows ≡ sum_by (λ a. g a (planned x a)) (map (λ l. l.arc) arc_flows)
flow_sum g x arc_flows flows =
    sum_by_same_all (λ l. g l.arc l.flow) (λ l. g l.arc (planned x l.arc)) arc_flows
    (λ k d l. ap (λ m. g (slice_index_or arc_flows k d).arc m) (flows k d l))
    ∙ sym (sum_of_map (λ (l : ArcFlow). l.arc) (λ a. g a (planned x a)) arc_flows)

-- what holds of all that a function gives
pub all_of_map : {A B : Type 0} (f : A → B) (P : B → Type 0) (xs : List A) → All P (map f xs) → All (λ x. P (f x)) xs
all_of_map f P xs all k d l = subst P (get_or-map f xs k d) (all k (f d) (rw (length-map xs f) l))

-- a condition on the arcs only
pub on_arcs : (P : NetworkArc → Type 0) (arc_flows : List ArcFlow)
    → All (λ l. P l.arc) arc_flows ↔ All P (map (λ l. l.arc) arc_flows)
on_arcs P arc_flows =
    (λ h. All-map P (λ (l : ArcFlow). l.arc) arc_flows h, λ h. all_of_map (λ (l : ArcFlow). l.arc) P arc_flows h)
