-- The map that holds rows that were seen, and what holds of each of them.
use Rattle.std.proofs.Common.{◌≡◌, ◌≢◌, ◌∙◌, ◌⊎◌, ◌&&◌, ◌++◌, ◌<◌, inl, inr, ℕ, zero, suc, true, List, [], ◌∷◌, Option}
use Rattle.std.proofs.Common.{Some, None, length, option_map, refl, sym, ap, arith}
use Rattle.std.specs.Prelude.{slice_get}
use Rattle.std.proofs.lemmas.Bool.{cases_Bool}
use Rattle.std.proofs.lemmas.Option.{slice_get-get_or, slice_get_within}
use Rattle.std.specs.List.{AllByRecursion, find}
use Rattle.std.specs.Str.{bytes_eq}
use Rattle.std.specs.Cmp.Lexicographic.{bytes_decides}
use Rattle.std.proofs.lemmas.Bool.{and_parts}
use Rattle.hsp_pair_map.specs.Pairs.{Pair}
use Rattle.hsp_price_check.specs.Seen.{Seen, number_of, of_row}
use Rattle.hsp_price_check.specs.SeenPairs.{AreApart, seen_in}
use Rattle.hsp_tables.proofs.Lookups.{is_named}

-- there are as many rows as numbers
pub seen_length : (pairs : List Pair) (numbers : List ℕ) → length pairs ≡ length numbers
    → length (seen_in pairs numbers) ≡ length numbers
seen_length [] numbers many = many
seen_length (pair ∷ pairs) [] many = refl
seen_length (pair ∷ pairs) (number ∷ numbers) many = ap suc (seen_length pairs numbers (omega (arith, many)))

-- ---- rows by their names

-- names that pass the test are the same
same_names : (region handle a b : List ℕ) → bytes_eq region a && bytes_eq handle b ≡ true → (region ≡ a) × (handle ≡ b)
same_names region handle a b is =
    let parts = and_parts (bytes_eq region a) (bytes_eq handle b) is in
    ((bytes_decides region a).0 parts.0, (bytes_decides handle b).0 parts.1)

module _ (region handle : List ℕ) where
  abbrev names : Pair
  names = record { first = region; second = handle }

  -- a pair that passes the test is that of the names
  is_pair : (pair : Pair) → bytes_eq region pair.first && bytes_eq handle pair.second ≡ true → pair ≡ names
  is_pair pair is = let same = same_names region handle pair.first pair.second is in rw (same.0, same.1) refl

  -- the number of a row is found by its names
  pub seen_at : (pairs : List Pair) (numbers : List ℕ) → length pairs ≡ length numbers → AreApart pairs → (n : ℕ)
      → slice_get pairs n ≡ Some names
      → option_map number_of (find (of_row region handle) (seen_in pairs numbers)) ≡ slice_get numbers n
  seen_at [] numbers many apart n e = absurd cc
  seen_at (pair ∷ pairs) [] many apart n e = absurd (omega (arith, many))
  seen_at (pair ∷ pairs) (number ∷ numbers) many apart zero e =
      let is : pair ≡ names = cc in
      rw (is, is_named region handle) refl
  seen_at (pair ∷ pairs) (number ∷ numbers) many apart (suc n) e =
      elim (cases_Bool (bytes_eq region pair.first && bytes_eq handle pair.second)) [
        | inl is ↦ absurd (apart.0 n (e ∙ ap Some (sym (is_pair pair is))))
        | inr other ↦ rw other (seen_at pairs numbers (omega (arith, many)) apart.1 n e)
      ]

  -- a row whose names aren't there is not found
  pub seen_nowhere : (pairs : List Pair) (numbers : List ℕ) → ((n : ℕ) → slice_get pairs n ≢ Some names)
      → option_map number_of (find (of_row region handle) (seen_in pairs numbers)) ≡ None
  seen_nowhere [] numbers none = refl
  seen_nowhere (pair ∷ pairs) [] none = refl
  seen_nowhere (pair ∷ pairs) (number ∷ numbers) none =
      elim (cases_Bool (bytes_eq region pair.first && bytes_eq handle pair.second)) [
        | inl is ↦ absurd (none 0 (ap Some (is_pair pair is)))
        | inr other ↦ rw other (seen_nowhere pairs numbers (λ n. none (suc n)))
      ]

  -- the names of a row that is not found aren't there
  pub unseen : (pairs : List Pair) (numbers : List ℕ) → length pairs ≡ length numbers → AreApart pairs
      → find (of_row region handle) (seen_in pairs numbers) ≡ None
      → (n : ℕ) → slice_get pairs n ≢ Some names
  unseen pairs numbers many apart none n e =
      let within : n < length numbers = omega (arith, slice_get_within pairs n names e, many) in
      let found =
      sym (slice_get-get_or numbers n 0 within) ∙ sym (seen_at pairs numbers many apart n e)
      ∙ ap (option_map number_of) none in
      absurd cc

-- ---- one row more

-- a row that is put last is seen with its number
pub seen_more : (pairs : List Pair) (numbers : List ℕ) (pair : Pair) (number : ℕ) → length pairs ≡ length numbers
    → seen_in (pairs ++ pair ∷ []) (numbers ++ number ∷ []) ≡ seen_in pairs numbers
    ++ record { region = pair.first; handle = pair.second; number = number } ∷ []
seen_more [] [] pair number many = refl
seen_more [] (m ∷ numbers) pair number many = absurd (omega (arith, many))
seen_more (p ∷ pairs) [] pair number many = absurd (omega (arith, many))
seen_more (p ∷ pairs) (m ∷ numbers) pair number many =
    rw (seen_more pairs numbers pair number (omega (arith, many))) refl

-- a pair of the longer list is an old one or the new one
at_more : (pairs : List Pair) (pair other : Pair) (k : ℕ) → slice_get (pairs ++ pair ∷ []) k ≡ Some other
    → (slice_get pairs k ≡ Some other) ⊎ (pair ≡ other)
at_more [] pair other zero e = inr cc
at_more [] pair other (suc k) e = absurd cc
at_more (p ∷ pairs) pair other zero e = inl e
at_more (p ∷ pairs) pair other (suc k) e = at_more pairs pair other k e

-- a pair that was not there keeps all pairs apart
pub apart_more : (pairs : List Pair) (pair : Pair) → AreApart pairs → ((n : ℕ) → slice_get pairs n ≢ Some pair)
    → AreApart (pairs ++ pair ∷ [])
apart_more [] pair apart new = (λ k e. let none : ◌≡◌ {A = Option Pair} None (Some pair) = e in absurd cc, tt)
apart_more (p ∷ pairs) pair apart new = (
  λ k e. elim (at_more pairs pair p k e) [
    | inl old ↦ apart.0 k old
    | inr same ↦ new 0 (ap Some (sym same))
  ],
  apart_more pairs pair apart.1 (λ n. new (suc n)),
)

-- ---- what holds of each

-- a row that is found by a region and a handle is of these, and so is what holds of it
pub found_has : (P : Seen → Type 0) (region handle : List ℕ) (rows : List Seen) (number : ℕ) → AllByRecursion P rows
    → option_map number_of (find (of_row region handle) rows) ≡ Some number
    → P (record { region = region; handle = handle; number = number })
found_has P region handle [] number all at = let none : ◌≡◌ {A = Option ℕ} None (Some number) = at in cc
found_has P region handle (first ∷ rest) number all at = elim (cases_Bool (of_row region handle first)) [
  | inl is ↦
      let same = same_names region handle first.region first.handle is in
      let own : first.number ≡ number = cc (rw is at at) in
      rw (same.0, same.1, ← own) all.0
  | inr other ↦ found_has P region handle rest number all.1 (rw other at at)
]
