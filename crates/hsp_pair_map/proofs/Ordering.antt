-- Numbers by the order of their pairs' octets, where one of them is set.
use Rattle.std.proofs.Common.{◌≡◌, ◌≢◌, ◌∙◌, ℕ, List, true, ap, sym, subst, refl, inl, inr, ◌⊎◌}
use Rattle.std.specs.Prelude.{Some, Vec, Option}
use Rattle.std.specs.declared.alloc.Global.{Global}
use Rattle.std.specs.BTreeMap.{BTreeMap, UpdatesBy, is_at}
use Rattle.std.specs.Cmp.Lexicographic.{slice_cmp}
use Rattle.std.specs.Map.{AreApart, IsKeyTest, KeepsOthers}
use Rattle.std.specs.Ordering.{eq_by_cmp, is_eq, nat_cmp}
use Rattle.std.specs.declared.cmp.Ordering.{Ordering}
use Rattle.std.specs.declared.cmp.Ordering.TheVariants.{Less, Equal, Greater}
use Rattle.std.proofs.lemmas.Bool.{cases_Bool, false_from_ne_true}
use Rattle.std.proofs.lemmas.Cmp.{nat_list_cmp_total, tied_itself}
use Rattle.std.proofs.lemmas.Map.Lookups.{exact_bytes}
use Rattle.hsp_pair_map.specs.Ordered.{Named, at_name, at_second, number_in}
use Rattle.hsp_pair_map.specs.Pairs.{Pair}

-- how names compare, and octets with a name
abbrev pub name_cmp : Vec ℕ Global → Vec ℕ Global → Ordering
name_cmp x y = slice_cmp nat_cmp x.items y.items

abbrev pub octets_cmp : List ℕ → Vec ℕ Global → Ordering
octets_cmp octets k = slice_cmp nat_cmp octets k.items

-- an order that finds no difference
is_tied : (o : Ordering) → is_eq o ≡ true → o ≡ Equal
is_tied Less e = cc
is_tied Equal e = refl
is_tied Greater e = cc

-- names that compare alike are the same
alike : (a b : List ℕ) → is_eq (slice_cmp nat_cmp a b) ≡ true → a ≡ b
alike a b e = exact_bytes a b (is_tied (slice_cmp nat_cmp a b) e)

-- a name is found by its octets only
found_alike : (name : List ℕ)
    → IsKeyTest (eq_by_cmp name_cmp)
    (is_at (octets_cmp name))
found_alike name x y e = ap (λ octets. is_eq (slice_cmp nat_cmp octets y.items)) (alike name x.items e)

-- different names are found apart
found_apart : (a b : List ℕ) → a ≢ b
    → AreApart (is_at (octets_cmp a))
    (is_at (octets_cmp b))
found_apart a b apart k e =
    false_from_ne_true _ (λ f. apart (alike a k.items e ∙ sym (alike b k.items f)))

-- what other names have stays
pub others_kept : {X : Type 0} (old new : Named X) (own : List ℕ)
    → KeepsOthers (eq_by_cmp name_cmp)
    (is_at (octets_cmp own)) old new
    → (name : List ℕ) → own ≢ name → at_name new name ≡ at_name old name
unfolding KeepsOthers
others_kept old new own keeps name apart = keeps _ (found_alike name) (found_apart own name apart)

-- a pair of these names
pub pair_same : (p : Pair) (first second : List ℕ) → first ≡ p.first → second ≡ p.second
    → p ≡ record { first = first; second = second }
pair_same p first second e s = rw (e, s) refl

-- names are the same or not
name_cases : (a b : List ℕ) → (a ≡ b) ⊎ (a ≢ b)
name_cases a b = elim (cases_Bool (is_eq (slice_cmp nat_cmp a b))) [
  | inl tied ↦ inl (alike a b tied)
  | inr apart ↦
      inr (λ e.
      let tied : is_eq (slice_cmp nat_cmp a b) ≡ true =
      ap is_eq (ap (slice_cmp nat_cmp a) (sym e) ∙ tied_itself nat_list_cmp_total a) in
      cc)
]

-- so are pairs
pub pair_cases : (p q : Pair) → (p ≡ q) ⊎ (p ≢ q)
pair_cases p q = elim (name_cases p.first q.first) [
  | inl first ↦ elim (name_cases p.second q.second) [
    | inl second ↦ inl (pair_same p q.first q.second (sym first) (sym second))
    | inr other ↦ inr (λ e. other (ap (λ (r : Pair). r.second) e))
  ]
  | inr other ↦ inr (λ e. other (ap (λ (r : Pair). r.first) e))
]

-- a pair's number stays where that of its second name stays, or its first name is another one
pub numbers_kept : (old new : Named (BTreeMap (Vec ℕ Global) ℕ)) (own : List ℕ)
    → KeepsOthers (eq_by_cmp name_cmp)
    (is_at (octets_cmp own)) old new
    → (seconds : BTreeMap (Vec ℕ Global) ℕ) → at_name new own ≡ Some seconds
    → (p : Pair)
    → (own ≡ p.first → at_name seconds.entries p.second ≡ at_second (at_name old own) p.second)
    → number_in new p ≡ number_in old p
numbers_kept old new own keeps seconds there p same = elim (name_cases own p.first) [
  | inl e ↦ rw (← e) (ap (λ o. at_second o p.second) there ∙ same e)
  | inr apart ↦ ap (λ o. at_second o p.second) (others_kept old new own keeps p.first apart)
]

-- an update at a name, by the name's octets
pub updates_at : {X : Type 0} (m n : BTreeMap (Vec ℕ Global) X) (w : Option X) (octets name : List ℕ) → octets ≡ name
    → UpdatesBy name_cmp (octets_cmp octets) m n w → UpdatesBy name_cmp (octets_cmp name) m n w
updates_at m n w octets name e updates = subst (λ xs. UpdatesBy name_cmp (octets_cmp xs) m n w) e updates
