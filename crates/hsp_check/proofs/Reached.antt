-- The servers that a set of rows may use, one after another.
use Rattle.std.proofs.Common.{◌≡◌, ℕ, zero, suc, ◌+◌, ◌<◌, ◌==◌, ◌∙◌, Bool, cond, List, [], ◌∷◌, ◌++◌, length, map}
use Rattle.std.proofs.Common.{slice_index_or, Option, Some, None, refl, ap, ap₂, sym, arith, add-one}
use Rattle.std.specs.Prelude.{◌&&◌, filter, IsSome, IfNone}
use Rattle.std.specs.List.{list_any, range_with_len}
use Rattle.std.proofs.lemmas.List.FromFn.{filter_of_map_range_with_len_more}
use Rattle.hsp_check.specs.declared.lists.FlowLists.{FlowLists}
use Rattle.hsp_check.specs.ArcFlows.{flag_at}
use Rattle.hsp_check.specs.Reach.{network_in}
use Rattle.hsp_check.specs.Short.{reaches, reached}
use Rattle.hsp_check.proofs.FlowSums.{on_arcs}
use Rattle.hsp_check.proofs.Shortages.{any_of_arcs, any_same}
use Rattle.std.proofs.lemmas.List.{map-id}

-- of one number more, it is kept where it passes
pub kept_more : (p : ℕ → Bool) (n : ℕ)
    → filter p (range_with_len 0 (n + 1)) ≡ filter p (range_with_len 0 n) ++ cond (p n) (n ∷ []) []
kept_more p n =
    rw (map-id (range_with_len 0 (n + 1)), map-id (range_with_len 0 n)) at
    (filter_of_map_range_with_len_more p (λ k. k) 0 n n (omega arith))

-- tests that agree below a number keep the same numbers below it
pub kept_same : (p q : ℕ → Bool) (n : ℕ) → ((k : ℕ) → k < n → p k ≡ q k)
    → filter p (range_with_len 0 n) ≡ filter q (range_with_len 0 n)
kept_same p q zero same = refl
kept_same p q (suc n) same =
    let more : (t : ℕ → Bool)
    → filter t (range_with_len 0 (suc n)) ≡ filter t (range_with_len 0 n) ++ cond (t n) (n ∷ []) [] =
    λ t. rw add-one at (kept_more t n) in
    more p
    ∙ ap₂ (λ xs b. xs ++ cond b (n ∷ []) []) (kept_same p q n (λ k l. same k (omega arith))) (same n (omega arith))
    ∙ sym (more q)

-- the servers that the flagged rows may use are those that the chosen ones may
pub flagged_reach : (lists : FlowLists) (rows servers : List Bool) (chosen : ℕ → Bool)
    → ((i : ℕ) → i < length lists.demands.now → flag_at rows i ≡ chosen i) →
    length servers ≡ length lists.capacities.now →
    ((j : ℕ) → j < length lists.capacities.now
    → flag_at servers j ≡ list_any (λ l. flag_at rows l.arc.row && l.arc.server == j) lists.arc_flows.now) →
    filter (flag_at servers) (range_with_len 0 (length servers)) ≡ reached (network_in lists) chosen
flagged_reach lists rows servers chosen same many given =
    rw many (kept_same (flag_at servers) (reaches (network_in lists) chosen) (length lists.capacities.now) (λ j l.
    given j l
    ∙ sym (any_of_arcs (λ a. flag_at rows a.row && a.server == j) lists.arc_flows.now)
    ∙ any_same (λ a. flag_at rows a.row && a.server == j) (λ a. chosen a.row && a.server == j) (network_in lists).arcs
    ((on_arcs (λ a. (flag_at rows a.row && a.server == j) ≡ (chosen a.row && a.server == j)) lists.arc_flows.now).0
    (λ k d m.
    ap (λ b. b && (slice_index_or lists.arc_flows.now k d).arc.server == j)
    (same (slice_index_or lists.arc_flows.now k d).arc.row (lists.rows_in k d m))))))

-- a call that finds nothing only where a fact fails has found something
pub found_where : {A P : Type 0} (o : Option A) → P → IfNone o (P → ⊥) → IsSome o
found_where None holds lost = absurd (lost holds)
found_where (Some x) holds lost = refl
