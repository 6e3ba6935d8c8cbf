-- Spreads, and what is left of them when their first elements are taken.
use Rattle.std.proofs.Common.{◌≡◌, ◌≢◌, ◌<◌, ◌≤◌, ◌+◌, ◌-◌, ◌∙◌, ◌++◌, ◌==◌, ℕ, zero, suc, List, [], ◌∷◌, count_by}
use Rattle.std.proofs.Common.{length, take, drop, replicate, cond, Some, arith, refl, sym, ap, eq-eqb}
use Rattle.std.proofs.Common.{inl, inr}
use Rattle.std.proofs.lemmas.Bool.{ne_eqb, cases_lt}
use Rattle.std.proofs.lemmas.List.{drop-append-le, drop-drop, drop_at, drop-replicate, length-replicate, take-append-le}
use Rattle.std.proofs.lemmas.List.{take-replicate}
use Rattle.std.proofs.lemmas.List.Folds.{sum_by-replicate}
use Rattle.std.proofs.lemmas.List.Sums.{sum_by-append, sum_by-cons}
use Rattle.std.proofs.Math.Seq.{drop-nil, take-append-add}
use Rattle.std.specs.List.{slice_get}
use Rattle.hsp_dispatch.specs.Dispatch.{spread_from}

-- how often a site is among sites
abbrev pub times : ℕ → List ℕ → ℕ
times site sites = count_by (λ (own : ℕ). own == site) sites

-- 1 at the site, 0 at others
abbrev pub is_site : ℕ → ℕ → ℕ
is_site site own = cond (own == site) 1 0

-- a site stands in two lists as often as in both together
pub times_append : (site : ℕ) (xs ys : List ℕ) → times site (xs ++ ys) ≡ times site xs + times site ys
times_append site xs ys = sum_by-append (is_site site) xs ys

-- a site by itself, so often
times_same : (k s : ℕ) → times s (replicate k s) ≡ k
times_same k s = sum_by-replicate (λ (own : ℕ). cond (own == s) 1 0) k s ∙ rw (eq-eqb s s refl) (omega arith)

-- a site does not stand among others
times_other : (k s t : ℕ) → s ≢ t → times t (replicate k s) ≡ 0
times_other k s t other = sum_by-replicate (λ (own : ℕ). cond (own == t) 1 0) k s ∙ rw (ne_eqb s t other) (omega arith)

-- a spread looks only at the numbers of its own sites
pub same_spread : (n s : ℕ) (x y : ℕ → ℕ) → ((t : ℕ) → s ≤ t → x t ≡ y t) → spread_from n s x ≡ spread_from n s y
same_spread zero s x y same = refl
same_spread (suc n) s x y same =
    rw (same s (omega arith))
    (ap (λ (rest : List ℕ). replicate (y s) s ++ rest) (same_spread n (s + 1) x y (λ t h. same t (omega arith))))

-- before its first site nothing is in a spread
none_before : (n s t : ℕ) (x : ℕ → ℕ) → t < s → times t (spread_from n s x) ≡ 0
none_before zero s t x h = refl
none_before (suc n) s t x h =
    times_append t (replicate (x s) s) (spread_from n (s + 1) x)
    ∙ rw (times_other (x s) s t (λ same. omega (arith, same)), none_before n (s + 1) t x (omega arith)) refl

-- in a spread each of its sites is as often as its number says, and no other one at all
pub times_in : (n s t : ℕ) (x : ℕ → ℕ) → s ≤ t → t < s + n → times t (spread_from n s x) ≡ x t
times_in zero s t x low high = absurd (omega arith)
times_in (suc n) s t x low high =
    let both = times_append t (replicate (x s) s) (spread_from n (s + 1) x) in
    let none = none_before n (s + 1) s x in
    grind (arith, both, times_same (x s) s, times_other (x s) s t, none, times_in n (s + 1) t x)

-- a site stands in a spread no more often than the plan says
pub times_within : (n s t : ℕ) (x : ℕ → ℕ) → times t (spread_from n s x) ≤ x t
times_within zero s t x = omega arith
times_within (suc n) s t x =
    let both = times_append t (replicate (x s) s) (spread_from n (s + 1) x) in
    let none = none_before n (s + 1) s x in
    grind (arith, both, times_same (x s) s, times_other (x s) s t, none, times_within n (s + 1) t x)

-- an element of a spread is a site that something is sent to
occurs : (xs : List ℕ) (k site : ℕ) → slice_get xs k ≡ Some site → 0 < times site xs
occurs [] k site e = absurd (cc)
occurs (own ∷ xs) zero site e = grind (arith, sum_by-cons (is_site site) own xs)
occurs (own ∷ xs) (suc k) site e = omega (arith, sum_by-cons (is_site site) own xs, occurs xs k site e)

-- a site of a spread is one that the plan sends to
pub is_sent : (n s k site : ℕ) (x : ℕ → ℕ) → slice_get (spread_from n s x) k ≡ Some site → 0 < x site
is_sent n s k site x e = omega (arith, occurs (spread_from n s x) k site e, times_within n s site x)

-- what is left when no more is taken than the first site has
left_here : (n s k : ℕ) (x : ℕ → ℕ) → k ≤ x s
    → spread_from (suc n) s (λ t. x t - times t (take k (spread_from (suc n) s x))) ≡ drop k (spread_from (suc n) s x)
left_here n s k x few =
    let later = spread_from n (s + 1) x in
    let inside : k ≤ length (replicate (x s) s) = rw (length-replicate (x s) s) few in
    let taken : take k (replicate (x s) s ++ later) ≡ replicate k s =
    take-append-le k (replicate (x s) s) later inside ∙ take-replicate k (x s) s few in
    let dropped : drop k (replicate (x s) s ++ later) ≡ replicate (x s - k) s ++ later =
    drop-append-le k (replicate (x s) s) later inside
    ∙ ap (λ (front : List ℕ). front ++ later) (drop-replicate k (x s) s) in
    let rest : spread_from n (s + 1) (λ t. x t - times t (replicate k s)) ≡ later =
    same_spread n (s + 1) (λ t. x t - times t (replicate k s)) x
    (λ t h. rw (times_other k s t (λ e. omega (arith, e))) (omega arith)) in
    rw (taken, dropped, times_same k s, rest) refl

-- what is left when the first site is used up
left_later : (n s j : ℕ) (x : ℕ → ℕ)
    → spread_from n (s + 1) (λ t. x t - times t (take j (spread_from n (s + 1) x))) ≡ drop j (spread_from n (s + 1) x)
    → spread_from (suc n) s (λ t. x t - times t (take (x s + j) (spread_from (suc n) s x)))
    ≡ drop (x s + j) (spread_from (suc n) s x)
left_later n s j x others =
    let first = replicate (x s) s in
    let later = spread_from n (s + 1) x in
    let long : length first ≡ x s = length-replicate (x s) s in
    let taken : take (x s + j) (first ++ later) ≡ first ++ take j later =
    ap (λ (k : ℕ). take (k + j) (first ++ later)) (sym long) ∙ take-append-add first later j in
    let dropped : drop (x s + j) (first ++ later) ≡ drop j later =
    sym (drop-drop j (x s) (first ++ later)) ∙ ap (λ (rest : List ℕ). drop j rest) (drop_at first later (x s) long) in
    let none : x s - times s (first ++ take j later) ≡ 0 =
    omega (arith, times_append s first (take j later), times_same (x s) s) in
    let rest : spread_from n (s + 1) (λ t. x t - times t (first ++ take j later))
    ≡ spread_from n (s + 1) (λ t. x t - times t (take j later)) =
    same_spread n (s + 1) (λ t. x t - times t (first ++ take j later)) (λ t. x t - times t (take j later))
    (λ t h. rw (times_append t first (take j later), times_other (x s) s t (λ e. omega (arith, e))) (omega arith)) in
    rw (taken, dropped, none, rest, others) refl

-- what is left of a spread when its first elements are taken: the elements behind them
pub spread_left : (n s k : ℕ) (x : ℕ → ℕ)
    → spread_from n s (λ t. x t - times t (take k (spread_from n s x))) ≡ drop k (spread_from n s x)
spread_left zero s k x = sym (drop-nil k)
spread_left (suc n) s k x = elim (cases_lt (x s) k) [
  | inl many ↦
      let all : k ≡ x s + (k - x s) = omega arith in
      rw all (left_later n s (k - x s) x (spread_left n (s + 1) (k - x s) x))
  | inr few ↦ left_here n s k x few
]
