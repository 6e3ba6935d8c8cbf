-- Groups with their flows, one group more at a time, and what they send to servers.
use Rattle.std.proofs.Common.{◌≡◌, ℕ, zero, suc, ◌+◌, ◌<◌, ◌≤◌, ◌∙◌, ◌==◌, inl, inr, Bool, false, List, [], ◌∷◌}
use Rattle.std.proofs.Common.{zero-add, ◌-◌, ◌++◌, length, take, drop, sum}
use Rattle.std.proofs.Common.{sum_by, slice_index_or, refl, ap, ap₂, sym, arith}
use Rattle.std.specs.Prelude.{◌||◌, if◌then◌else◌}
use Rattle.std.specs.List.{list_any, zip}
use Rattle.std.proofs.lemmas.Bool.{cases_Bool, or_parts}
use Rattle.std.proofs.lemmas.List.{drop-drop, take_more}
use Rattle.std.proofs.lemmas.List.Sums.{sum_by-append, sum_by-cons}
use Rattle.hsp_instance.specs.declared.arc.Arc.{Arc}
use Rattle.hsp_prices.specs.Groups.{Group}
use Rattle.hsp_prices.specs.Solved.{flow_to}
use Rattle.hsp_price_plan.specs.ClassSums.{sent_of, sent_where, total_of}
use Rattle.hsp_price_plan.specs.Solving.{arcs_in}

-- one group more, behind the others
sent_snoc : (groups : List Group) (group : Group) (flows : List ℕ)
    → sent_of (groups ++ group ∷ []) flows
    ≡ sent_of groups flows ++ (group, take (length group.arcs) (drop (arcs_in groups) flows)) ∷ []
sent_snoc [] group flows = refl
sent_snoc (first ∷ groups) group flows =
    ap (λ xs. (first, take (length first.arcs) flows) ∷ xs)
    (sent_snoc groups group (drop (length first.arcs) flows)
    ∙ ap (λ xs. sent_of groups (drop (length first.arcs) flows) ++ (group, take (length group.arcs) xs) ∷ [])
    (drop-drop (arcs_in groups) (length first.arcs) flows
    ∙ ap (λ n. drop n flows) (sym (sum_by-cons (λ (group : Group). length group.arcs) first groups))))

-- the groups so far, and one more
pub sent_more : (groups : List Group) (k : ℕ) (d : Group) (flows : List ℕ) → k < length groups
    → sent_of (take (k + 1) groups) flows
    ≡ sent_of (take k groups) flows
    ++ (
      slice_index_or groups k d,
      take (length (slice_index_or groups k d).arcs) (drop (arcs_in (take k groups)) flows),
    )
    ∷ []
sent_more groups k d flows l =
    ap (λ gs. sent_of gs flows) (take_more groups k d l)
    ∙ sent_snoc (take k groups) (slice_index_or groups k d) flows

-- a test of the groups is one of them with their flows
pub any_sent : (test : Group → Bool) (groups : List Group) (flows : List ℕ)
    → list_any (λ (own : Group × List ℕ). test own.0) (sent_of groups flows) ≡ list_any test groups
any_sent test [] flows = refl
any_sent test (group ∷ groups) flows =
    ap (λ b. test group || b) (any_sent test groups (drop (length group.arcs) flows))

-- ---- how much flows

-- a number in front of others is added to their sum
sum_cons : (x : ℕ) (xs : List ℕ) → sum (x ∷ xs) ≡ x + sum xs
sum_cons x xs = sum_by-cons (λ y. y) x xs

-- a list's first numbers and the others add up to all
sum_split : (n : ℕ) (xs : List ℕ) → sum (take n xs) + sum (drop n xs) ≡ sum xs
sum_split zero xs = zero-add (sum xs)
sum_split (suc n) [] = refl
sum_split (suc n) (x ∷ xs) = omega (arith, sum_split n xs, sum_cons x (take n xs), sum_cons x xs)

-- groups send no more than all flows
pub total_within : (groups : List Group) (flows : List ℕ) → total_of (sent_of groups flows) ≤ sum flows
total_within [] flows = omega arith
total_within (group ∷ groups) flows =
    omega (
      arith,
      sum_by-cons (λ (own : Group × List ℕ). sum own.1) (group, take (length group.arcs) flows)
          (sent_of groups (drop (length group.arcs) flows)),
      total_within groups (drop (length group.arcs) flows),
      sum_split (length group.arcs) flows,
    )

-- what flows over some arcs to a server is no more than what flows over all
pub to_within : (j : ℕ) (arcs : List Arc) (flows : List ℕ)
    → sum_by (λ (own : Arc × ℕ). if own.0.server == j then own.1 else 0) (zip arcs flows) ≤ sum flows
to_within j [] flows = omega arith
to_within j (arc ∷ arcs) [] = omega arith
to_within j (arc ∷ arcs) (flow ∷ flows) =
    let more : sum_by (λ (own : Arc × ℕ). if own.0.server == j then own.1 else 0) ((arc, flow) ∷ zip arcs flows)
    ≡ (if arc.server == j then flow else 0)
    + sum_by (λ (own : Arc × ℕ). if own.0.server == j then own.1 else 0) (zip arcs flows) =
    sum_by-cons (λ (own : Arc × ℕ). if own.0.server == j then own.1 else 0) (arc, flow) (zip arcs flows) in
    let rest = to_within j arcs flows in
    elim (cases_Bool (arc.server == j)) [
      | inl t ↦ omega (arith, more, ap (λ b. if b then flow else 0) t, rest, sum_cons flow flows)
      | inr f ↦ omega (arith, more, ap (λ b. if b then flow else 0) f, rest, sum_cons flow flows)
    ]

-- what groups send to a server is no more than what flows from them together
pub where_within : (test : Group → Bool) (sent : List (Group × List ℕ)) (j : ℕ)
    → sent_where test sent j ≤ total_of sent
where_within test [] j = omega arith
where_within test (own ∷ sent) j =
    let more : sent_where test (own ∷ sent) j ≡ (if test own.0 then flow_to j own else 0) + sent_where test sent j =
    sum_by-cons (λ (own : Group × List ℕ). if test own.0 then flow_to j own else 0) own sent in
    let term : total_of (own ∷ sent) ≡ sum own.1 + total_of sent =
    sum_by-cons (λ (own : Group × List ℕ). sum own.1) own sent in
    let rest = where_within test sent j in
    elim (cases_Bool (test own.0)) [
      | inl t ↦ omega (
        arith,
        more,
        ap (λ b. if b then flow_to j own else 0) t,
        term,
        rest,
        to_within j own.0.arcs own.1,
      )
      | inr f ↦ omega (arith, more, ap (λ b. if b then flow_to j own else 0) f, term, rest)
    ]

-- a sum over one element
pub sum_one : {A : Type 0} (f : A → ℕ) (x : A) → sum_by f (x ∷ []) ≡ f x
sum_one f x = omega (arith, sum_by-cons f x [])

-- where no group passes the test nothing is sent
pub where_none : (test : Group → Bool) (sent : List (Group × List ℕ)) (j : ℕ)
    → list_any (λ (own : Group × List ℕ). test own.0) sent ≡ false → sent_where test sent j ≡ 0
where_none test [] j none = refl
where_none test (own ∷ sent) j none =
    let parts = or_parts (test own.0) (list_any (λ (own : Group × List ℕ). test own.0) sent) none in
    sum_by-cons (λ (own : Group × List ℕ). if test own.0 then flow_to j own else 0) own sent
    ∙ ap₂ (λ x y. x + y) (ap (λ b. if b then flow_to j own else 0) parts.0) (where_none test sent j parts.1)

-- with one group more
pub where_more : (test : Group → Bool) (sent : List (Group × List ℕ)) (own : Group × List ℕ) (j : ℕ)
    → sent_where test (sent ++ own ∷ []) j ≡ sent_where test sent j + (if test own.0 then flow_to j own else 0)
where_more test sent own j =
    sum_by-append (λ (own : Group × List ℕ). if test own.0 then flow_to j own else 0) sent (own ∷ [])
    ∙ ap (λ n. sent_where test sent j + n)
    (sum_one (λ (own : Group × List ℕ). if test own.0 then flow_to j own else 0) own)

-- what flows from them together
pub total_more : (sent : List (Group × List ℕ)) (own : Group × List ℕ)
    → total_of (sent ++ own ∷ []) ≡ total_of sent + sum own.1
total_more sent own =
    sum_by-append (λ (own : Group × List ℕ). sum own.1) sent (own ∷ [])
    ∙ ap (λ n. total_of sent + n) (sum_one (λ (own : Group × List ℕ). sum own.1) own)

-- ---- a turn of a pass over groups

module _ (groups : List Group) (k : ℕ) (group : Group) (flows : List ℕ) (begin many : ℕ) (l : k < length groups)
    (is : group ≡ slice_index_or groups k group) (begin_is : begin ≡ arcs_in (take k groups))
    (many_is : many ≡ length group.arcs) where
  -- the group with its flows
  abbrev pub own : Group × List ℕ
  own = (group, take ((begin + many) - begin) (drop begin flows))

  -- comes next
  pub next_sent : sent_of (take (k + 1) groups) flows ≡ sent_of (take k groups) flows ++ own ∷ []
  next_sent =
      let length_is : length (slice_index_or groups k group).arcs ≡ (begin + many) - begin =
      ap (λ (g : Group). length g.arcs) (sym is) ∙ sym many_is ∙ omega arith in
      sent_more groups k group flows l
      ∙ ap (λ (next : Group × List ℕ). sent_of (take k groups) flows ++ next ∷ [])
      (ap₂ (λ (g : Group) (xs : List ℕ). (g, xs)) (sym is)
      (ap₂ (λ (n : ℕ) (xs : List ℕ). take n xs) length_is (ap (λ n. drop n flows) (sym begin_is))))

  -- the flows of the one after it begin behind its own
  pub next_begin : begin + many ≡ arcs_in (take (k + 1) groups)
  next_begin =
      let more : arcs_in (take (k + 1) groups)
      ≡ arcs_in (take k groups) + length (slice_index_or groups k group).arcs =
      ap arcs_in (take_more groups k group l)
      ∙ sum_by-append (λ (g : Group). length g.arcs) (take k groups) (slice_index_or groups k group ∷ [])
      ∙ ap (λ n. arcs_in (take k groups) + n)
      (sum_one (λ (g : Group). length g.arcs) (slice_index_or groups k group)) in
      omega (arith, more, ap (λ (g : Group). length g.arcs) is)

  -- what flows so far and from the group is no more than all
  pub next_room : total_of (sent_of (take k groups) flows) + sum own.1 ≤ sum flows
  next_room =
      omega (
        arith,
        total_more (sent_of (take k groups) flows) own,
        ap total_of next_sent,
        total_within (take (k + 1) groups) flows,
      )
