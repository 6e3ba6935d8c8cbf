-- Sums that grow by one element a turn.
use Rattle.std.proofs.Common.{◌≡◌, ◌≢◌, ℕ, ◌+◌, ◌<◌, ◌≤◌, ◌==◌, ◌∙◌, List, length, take, sum_by, slice_index}
use Rattle.std.proofs.Common.{slice_index_or, slice_set, if◌then◌else◌, inl, inr, ap, sym, arith, eq-eqb, ne_eqb}
use Rattle.std.proofs.Common.{get_or-set_same, get_or-set_other}
use Rattle.std.proofs.lemmas.List.Sums.{sum_by_more}
use Rattle.std.proofs.lemmas.Bool.{cases_eq}
use Rattle.hsp_check.specs.declared.sums.ArcFlow.{ArcFlow}
use Rattle.hsp_check.specs.declared.sums.End.{End}
use Rattle.hsp_check.specs.ArcFlows.{end_of}

-- a number was added at one place
pub added : (sums : List ℕ) (at v n s : ℕ) → at < length sums → slice_index sums v ≡ s →
    slice_index (slice_set sums at (slice_index sums at + n)) v ≡ s + (if at == v then n else 0)
added sums at v n s l e = elim (cases_eq at v) [
  | inl same ↦
      rw (eq-eqb at v same, ← same)
      (get_or-set_same sums at (slice_index sums at + n) 0 l ∙ ap (λ m. m + n) (rw (← same) at e))
  | inr other ↦ let apart : v ≢ at =
      λ q. other (sym q) in
      rw (ne_eqb at v other) (get_or-set_other sums at v (slice_index sums at + n) 0 apart ∙ omega (arith, e))
]

-- the sums of the rows or servers with one arc more
pub end_more : (end : End) (arc_flows : List ArcFlow) (sums : List ℕ) (i at n v : ℕ) (d : ArcFlow)
    → i < length arc_flows → at < length sums →
    at ≡ end_of end (slice_index_or arc_flows i d).arc → n ≡ (slice_index_or arc_flows i d).flow →
    slice_index sums v ≡ sum_by (λ a. if end_of end a.arc == v then a.flow else 0) (take i arc_flows) →
    slice_index (slice_set sums at (slice_index sums at + n)) v
    ≡ sum_by (λ a. if end_of end a.arc == v then a.flow else 0) (take (i + 1) arc_flows)
end_more end arc_flows sums i at n v d l b e f s =
    added sums at v n _ b s
    ∙ rw (e, f) (sym (sum_by_more (λ a. if end_of end a.arc == v then a.flow else 0) arc_flows i d l))

-- no sum grows by more than the number
pub bound_more : (sums : List ℕ) (at v n s most : ℕ) → at < length sums → n ≤ most → slice_index sums v ≤ s
    → slice_index (slice_set sums at (slice_index sums at + n)) v ≤ s + most
bound_more sums at v n s most l low e = elim (cases_eq at v) [
  | inl same ↦
      rw (← same, get_or-set_same sums at (slice_index sums at + n) 0 l) (let here : slice_index sums at ≤ s =
      rw same e in omega arith)
  | inr other ↦ let apart : v ≢ at =
      λ q. other (sym q) in rw (get_or-set_other sums at v (slice_index sums at + n) 0 apart) (omega arith)
]
