-- The arcs of a node that a walk back along their chain has seen.
use Rattle.std.proofs.Common.{◌≡◌, ℕ, ◌-◌, ◌<◌, ◌≤◌, ◌⊎◌, inl, inr, Bool, true, false, List, length, slice_index, refl}
use Rattle.std.proofs.Common.{sym, ◌∙◌, arith}
use Rattle.std.proofs.lemmas.Bool.{cases_eq, cases_lt}
use Rattle.hsp_network.specs.Index.{IsLast}
use Rattle.hsp_network.specs.Residual.{Arcs, ends, from}
use Rattle.hsp_network.specs.Search.{Earlier, Looked}

-- between an arc and the one before it in its chain there is no other
pub next_in_chain : (ends : List ℕ) (v arc earlier k : ℕ) → slice_index ends arc ≡ v
    → IsLast ends (slice_index ends arc) arc earlier →
    earlier ≤ k → slice_index ends k ≡ v → arc ≤ k
next_in_chain ends v arc earlier k at is past here = elim (cases_lt k arc) [
  | inl less ↦ absurd (is.none_after k past less (here ∙ sym at))
  | inr more ↦ more
]

-- the arcs of one direction from `last` on, behind those of an earlier one
abbrev pub Seen : Bool → ℕ → ℕ → Bool → Type 0
Seen along last k d = Earlier along k d ⊎ ((d ≡ along) × (last ≤ k))

-- an arc more
pub seen_next : (n : Arcs) (v last earlier : ℕ) (along : Bool) → 0 < last → slice_index (ends n along) (last - 1) ≡ v →
    IsLast (ends n along) (slice_index (ends n along) (last - 1)) (last - 1) earlier → (k : ℕ) (d : Bool)
    → from n k d ≡ v → Seen along earlier k d →
    ((k ≡ last - 1) × (d ≡ along)) ⊎ Seen along last k d
seen_next n v last earlier along some at is k d here (inl old) = inr (inl old)
seen_next n v last earlier along some at is k d here (inr new) =
    let past = next_in_chain (ends n along) v (last - 1) earlier k at is new.1 (rw new.0 at here) in
    elim (cases_eq k (last - 1)) [
      | inl e ↦ inl (e, new.0)
      | inr ne ↦ inr (inr (new.0, omega arith))
    ]

-- before the first, and behind the last
pub seen_none : (n : Arcs) (v last : ℕ) (along : Bool) → IsLast (ends n along) v (length (ends n along)) last
    → (k : ℕ) (d : Bool) → k < length (ends n along) →
    from n k d ≡ v → Seen along last k d → Earlier along k d
seen_none n v last along is k d l here (inl old) = old
seen_none n v last along is k d l here (inr new) = absurd (is.none_after k new.1 l (rw new.0 at here))

-- a chain that was walked to its end has shown each arc
pub seen_all : (along d : Bool) (k last : ℕ) → last ≤ 0 → Looked along k d → Seen along last k d
seen_all true d k last none look = inr (look refl, omega arith)
seen_all false true k last none look = inl (refl, refl)
seen_all false false k last none look = inr (refl, omega arith)

-- both directions have an end for each arc
pub ends_many : (n : Arcs) (d : Bool) → length (ends n d) ≡ length n.tails.now
ends_many n true = refl
ends_many n false = n.graph.heads_many
