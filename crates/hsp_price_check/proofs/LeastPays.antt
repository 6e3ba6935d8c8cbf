-- The least pay over arcs, and the arcs over which it is paid.
use Rattle.std.proofs.Common.{◌≡◌, ◌≤◌, ◌<◌, ◌+◌, ◌⊎◌, ◌∙◌, ◌∷◌, [], ℕ, true, false, List, length, min, take}
use Rattle.std.proofs.Common.{get_or, filter, inl, inr, refl, sym, arith}
use Rattle.std.specs.Prelude.{◌==◌, ◌||◌, ◌^◌, ◌-◌, nat_le}
use Rattle.std.specs.List.{AllByRecursion, list_all, list_any}
use Rattle.std.proofs.lemmas.Bool.{and_left, and_right, cases_eq, cases_lt, eq-eqb, le-leb, lt-leb, ne_eqb, or_left}
use Rattle.std.proofs.lemmas.Bool.{or_right}
use Rattle.std.proofs.lemmas.List.{take_more}
use Rattle.std.proofs.lemmas.List.Folds.{list_any_more}
use Rattle.hsp_text.proofs.Lists.{all_push}
use Rattle.hsp_instance.proofs.Lists.{all_so}
use Rattle.hsp_instance.specs.declared.arc.Arc.{Arc}
use Rattle.hsp_prices.specs.Least.{is_least, least_arcs}
use Rattle.hsp_prices.proofs.Lists.{same_kept}

-- what stands past the end of arcs
abbrev pub no_arc : Arc
no_arc = record { site = 0; server = 0; cost = 0 }

module _ {A : Type 0} (pay : A → ℕ) where
  -- with one element more, none pays less than the smaller of the least so far and its own pay
  pub none_less_more : (xs : List A) (i least new : ℕ) (d : A) → i < length xs → new ≡ min least (pay (get_or xs i d))
      → AllByRecursion (λ x. least ≤ pay x) (take i xs) → AllByRecursion (λ x. new ≤ pay x) (take (i + 1) xs)
  none_less_more xs i least new d inside is all =
      rw (take_more xs i d inside)
      (all_push (λ x. new ≤ pay x) (take i xs) (get_or xs i d)
      (all_so (λ x. least ≤ pay x) (λ x. new ≤ pay x) (take i xs) (λ x low. omega (arith, low, is)) all)
      (omega (arith, is)))

  -- and one pays as much
  pub attained_more : (xs : List A) (i least new : ℕ) (d : A) → i < length xs → new ≡ min least (pay (get_or xs i d))
      → pay (get_or xs i d) < 2 ^ 64
      → ((i ≡ 0) × (least ≡ 2 ^ 64 - 1)) ⊎ (list_any (λ x. pay x == least) (take i xs) ≡ true)
      → list_any (λ x. pay x == new) (take (i + 1) xs) ≡ true
  attained_more xs i least new d inside is small so = rw (list_any_more (λ x. pay x == new) xs i d inside) (one so)
    where
      own : pay (get_or xs i d) ≤ least
          → (list_any (λ x. pay x == new) (take i xs) || (pay (get_or xs i d) == new)) ≡ true
      own low =
          let same : pay (get_or xs i d) ≡ new = omega (arith, low, is) in
          or_right _ (pay (get_or xs i d) == new) (eq-eqb (pay (get_or xs i d)) new same)

      one : ((i ≡ 0) × (least ≡ 2 ^ 64 - 1)) ⊎ (list_any (λ x. pay x == least) (take i xs) ≡ true)
          → (list_any (λ x. pay x == new) (take i xs) || (pay (get_or xs i d) == new)) ≡ true
      one (inl first) = own (omega (arith, first.1, small))
      one (inr some) = elim (cases_lt least (pay (get_or xs i d))) [
        | inl high ↦ let same : least ≡ new = omega (arith, high, is) in or_left _ _ (rw same at some)
        | inr low ↦ own low
      ]

  -- a number that no pay is below is at most each of them
  all_above : (n : ℕ) (xs : List A) → AllByRecursion (λ x. n ≤ pay x) xs → list_all (λ x. nat_le n (pay x)) xs ≡ true
  all_above n [] all = refl
  all_above n (x ∷ xs) all = rw (le-leb n (pay x) all.0, all_above n xs all.1) refl

  -- one above a pay is not
  some_below : (n least : ℕ) (xs : List A) → least < n → list_any (λ x. pay x == least) xs ≡ true
      → list_all (λ x. nat_le n (pay x)) xs ≡ false
  some_below n least [] low some = cc
  some_below n least (x ∷ xs) low some = elim (cases_eq (pay x) least) [
    | inl same ↦ and_left _ _ (lt-leb n (pay x) (omega (arith, same, low)))
    | inr other ↦ and_right _ _ (some_below n least xs low (rw (ne_eqb (pay x) least other) at some))
  ]

-- an arc pays the least exactly where no arc pays less
same_test : (pay : Arc → ℕ) (arcs : List Arc) (least : ℕ) → AllByRecursion (λ arc. least ≤ pay arc) arcs
    → list_any (λ arc. pay arc == least) arcs ≡ true
    → (arc : Arc) → least ≤ pay arc → (pay arc == least) ≡ is_least pay arcs arc
same_test pay arcs least none some arc low = elim (cases_eq (pay arc) least) [
  | inl same ↦ eq-eqb (pay arc) least same ∙ sym (all_above pay (pay arc) arcs (rw (← same) at none))
  | inr other ↦
      ne_eqb (pay arc) least other
      ∙ sym (some_below pay (pay arc) least arcs (omega (arith, low, other)) some)
]

-- the arcs that pay the least are the least arcs
pub least_kept : (pay : Arc → ℕ) (arcs : List Arc) (least : ℕ) → AllByRecursion (λ arc. least ≤ pay arc) arcs
    → (arcs ≡ []) ⊎ (list_any (λ arc. pay arc == least) arcs ≡ true)
    → filter (λ arc. pay arc == least) arcs ≡ least_arcs pay arcs
least_kept pay arcs least none (inl empty) = rw empty refl
least_kept pay arcs least none (inr some) =
    same_kept (λ arc. pay arc == least) (is_least pay arcs) arcs
    (all_so (λ arc. least ≤ pay arc) (λ arc. (pay arc == least) ≡ is_least pay arcs arc) arcs
    (same_test pay arcs least none some) none)
