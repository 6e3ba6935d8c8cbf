-- Arcs in ascending order of their sites, each to a site of its own.
use Rattle.std.proofs.Common.{◌≡◌, ℕ, ◌<◌, ◌≤◌, ◌==◌, ◌&&◌, inl, inr, Bool, true, false, List, [], ◌∷◌}
use Rattle.std.proofs.Common.{filter, map, sum_by, refl, ap, subst, arith, eq-eqb, ne_eqb}
use Rattle.std.specs.List.{AllByRecursion, list_any}
use Rattle.std.proofs.lemmas.Bool.{and_left, cases_eq, or_from}
use Rattle.std.proofs.lemmas.List.Sums.{sum_by-cons}
use Rattle.hsp_transport.specs.Kinds.{Link, links_to}
use Rattle.hsp_transport.proofs.Rowwise.{when, when_here, when_there}
use Rattle.hsp_transport.proofs.Summing.{sum_by_map}
use Rattle.hsp_instance.specs.Instance.{IsAscending}
use Rattle.hsp_instance.specs.declared.arc.Arc.{Arc}
use Rattle.hsp_check.proofs.RowLinks.{link}
use Rattle.hsp_prices.proofs.Lists.{all_both, all_kept}

abbrev IsAfter : ℕ → Arc → Type 0
IsAfter s later = s < later.site

-- some of ascending arcs ascend
pub ascending_kept : (test : Arc → Bool) (arcs : List Arc) → IsAscending arcs → IsAscending (filter test arcs)
ascending_kept test [] up = tt
ascending_kept test (x ∷ xs) up = one (test x) refl (ascending_kept test xs up.1)
  where
    one : (t : Bool) → test x ≡ t → IsAscending (filter test xs) → IsAscending (filter test (x ∷ xs))
    one true e more = rw e (all_kept (IsAfter x.site) test xs up.0, more)
    one false e more = rw e more

-- arcs to later sites add nothing to a site
none_at : (f : Arc → ℕ) (s : ℕ) (arcs : List Arc) → AllByRecursion (IsAfter s) arcs
    → sum_by (λ b. when (b.site == s) (f b)) arcs ≡ 0
none_at f s [] after = refl
none_at f s (x ∷ xs) after =
    omega (
      arith,
      sum_by-cons (λ b. when (b.site == s) (f b)) x xs,
      when_there x.site s (f x) (λ e. omega (arith, after.0)),
      none_at f s xs after.1,
    )

-- at an arc's site stands what that arc has
pub at_own_site : (f : Arc → ℕ) (arcs : List Arc) → IsAscending arcs
    → AllByRecursion (λ a. sum_by (λ b. when (b.site == a.site) (f b)) arcs ≡ f a) arcs
at_own_site f [] up = tt
at_own_site f (x ∷ xs) up = (
  omega (
    arith,
    sum_by-cons (λ b. when (b.site == x.site) (f b)) x xs,
    when_here x.site (f x),
    none_at f x.site xs up.0,
  ),
  all_both (IsAfter x.site) (λ a. sum_by (λ b. when (b.site == a.site) (f b)) xs ≡ f a)
      (λ a. sum_by (λ b. when (b.site == a.site) (f b)) (x ∷ xs) ≡ f a) xs
      (λ a after own. omega (
        arith,
        sum_by-cons (λ b. when (b.site == a.site) (f b)) x xs,
        when_there x.site a.site (f x) (λ e. omega (arith, after)),
        own,
      )) up.0 (at_own_site f xs up.1),
)

-- at most one arc leads to a site
pub one_to_site : (arcs : List Arc) → IsAscending arcs → (s : ℕ) → links_to (map link arcs) s ≤ 1
one_to_site [] up s = omega arith
one_to_site (x ∷ xs) up s = elim (cases_eq x.site s) [
  | inl e ↦
      omega (
        arith,
        sum_by-cons (λ (b : Link). when (b.site == s) 1) (link x) (map link xs),
        sum_by_map (λ (b : Link). when (b.site == s) 1) link xs,
        none_at (λ b. 1) s xs (subst (λ v. AllByRecursion (IsAfter v) xs) e up.0),
        ap (λ t. when (t == s) 1) e,
        when_here s 1,
      )
  | inr other ↦
      omega (
        arith,
        sum_by-cons (λ (b : Link). when (b.site == s) 1) (link x) (map link xs),
        when_there x.site s 1 other,
        one_to_site xs up.1 s,
      )
]

-- no arc to a later site is found at a site
not_found : (test : Arc → Bool) (s : ℕ) (arcs : List Arc) → AllByRecursion (IsAfter s) arcs
    → list_any (λ (b : Arc). b.site == s && test b) arcs ≡ false
not_found test s [] after = refl
not_found test s (x ∷ xs) after =
    or_from (x.site == s && test x) (list_any (λ (b : Arc). b.site == s && test b) xs)
    (and_left (x.site == s) (test x) (ne_eqb x.site s (λ e. omega (arith, after.0))))
    (not_found test s xs after.1)

-- an arc passes a test where an arc to its site passes it
pub found_by_site : (test : Arc → Bool) (arcs : List Arc) → IsAscending arcs
    → AllByRecursion (λ a. list_any (λ (b : Arc). b.site == a.site && test b) arcs ≡ test a) arcs
found_by_site test [] up = tt
found_by_site test (x ∷ xs) up = (
  own (test x) refl,
  all_both (IsAfter x.site) (λ a. list_any (λ (b : Arc). b.site == a.site && test b) xs ≡ test a)
      (λ a. list_any (λ (b : Arc). b.site == a.site && test b) (x ∷ xs) ≡ test a) xs
      (λ a after more. rw (ne_eqb x.site a.site (λ e. omega (arith, after))) more) up.0 (found_by_site test xs up.1),
)
  where
    own : (t : Bool) → test x ≡ t → list_any (λ (b : Arc). b.site == x.site && test b) (x ∷ xs) ≡ test x
    own true e = rw (eq-eqb x.site x.site refl, e) refl
    own false e = rw (eq-eqb x.site x.site refl, e) (not_found test x.site xs up.0)
