-- Where a row stands in a table of kinds, and what the table counts.
use Rattle.std.proofs.Common.{◌≡◌, ℕ, zero, suc, ◌+◌, ◌<◌, ◌≤◌, ◌==◌, ◌⊎◌, inl, inr, true, List, [], ◌∷◌, length, map}
use Rattle.std.proofs.Common.{sum_by, slice_index, slice_index_or, if◌then◌else◌, refl, ◌∙◌, arith}
use Rattle.std.proofs.lemmas.List.Sums.{sum_by-cons}
use Rattle.std.proofs.lemmas.Bool.{cases_lt, false≢true}
use Rattle.hsp_transport.proofs.Rowwise.{when}
use Rattle.hsp_prices.proofs.Counting.{IsKinding, Kinding, counted, counted_all, has, has_counted, has_more, joined_is}

module _ {A : Type 0} (by : Kinding A) (is : IsKinding by) (count : A → ℕ)
    (adds : (a b : A) → count (by.with_count_of a b) ≡ count a + count b) where
  -- the place of a row's kind in a table
  abbrev pub place_in : List A → A → ℕ
  place_in [] row = 0
  place_in (f ∷ rest) row = if by.same f row then 0 else place_in rest row + 1

  -- a kind that is there has a place in the table
  pub place_within : (t : List A) (y : A) → has by is t y ≡ true → place_in t y < length t
  place_within [] y h = absurd (false≢true h)
  place_within (f ∷ rest) y h = grind (arith, place_within rest y)

  -- the row there is of the kind
  pub placed_same : (t : List A) (y d : A) → has by is t y ≡ true → by.same (slice_index_or t (place_in t y) d) y ≡ true
  placed_same [] y d h = absurd (false≢true h)
  placed_same (f ∷ rest) y d h = grind (arith, placed_same rest y d)

  -- it stays as more rows come
  kept_place : (t : List A) (x y : A) → has by is t y ≡ true → place_in (counted by t x) y ≡ place_in t y
  kept_place [] x y h = absurd (false≢true h)
  kept_place (f ∷ rest) x y h = grind (arith, joined_is by is f x y, kept_place rest x y)

  -- a kind stays while others are counted
  pub has_all : (rows t : List A) (y : A) → has by is t y ≡ true → has by is (counted_all by t rows) y ≡ true
  has_all [] t y h = h
  has_all (x ∷ rows) t y h = has_all rows (counted by t x) y (has_more by is t x y h)

  -- a kind keeps its place while others are counted
  pub kept_places : (rows t : List A) (y : A) → has by is t y ≡ true → place_in (counted_all by t rows) y ≡ place_in t y
  kept_places [] t y h = refl
  kept_places (x ∷ rows) t y h = kept_places rows (counted by t x) y (has_more by is t x y h) ∙ kept_place t x y h

  -- a row that was counted has its kind in the table
  own_has : (t : List A) (x : A) → has by is (counted by t x) x ≡ true
  own_has t x = has_counted by is t x x (is.reflexive x)

  -- a row adds its count at its place, and a place where it is new
  pub one_more : (t : List A) (x : A) (k : ℕ)
      → slice_index (map count (counted by t x)) k
      ≡ slice_index (map count t) k + when (place_in (counted by t x) x == k) (count x)
  one_more [] x zero = grind (arith, is.reflexive x)
  one_more [] x (suc k) = grind (arith, is.reflexive x)
  one_more (f ∷ rest) x zero = grind (arith, joined_is by is f x x, adds f x)
  one_more (f ∷ rest) x (suc k) = grind (arith, joined_is by is f x x, one_more rest x k)

  -- what the table counts at a place is what the rows of that kind ask for
  pub all_more : (rows t : List A) (k : ℕ) →
      slice_index (map count (counted_all by t rows)) k
      ≡ slice_index (map count t) k + sum_by (λ x. when (place_in (counted_all by t rows) x == k) (count x)) rows
  all_more [] t k = omega arith
  all_more (x ∷ rows) t k =
      let next = counted by t x in
      let sum = sum_by-cons (λ y. when (place_in (counted_all by next rows) y == k) (count y)) x rows in
      grind (arith, all_more rows next k, one_more t x k, kept_places rows next x (own_has t x), sum)

  -- each row's kind is there
  pub all_there : (rows t : List A) (i : ℕ) (d : A) → i < length rows
      → has by is (counted_all by t rows) (slice_index_or rows i d) ≡ true
  all_there [] t i d l = absurd (omega arith)
  all_there (x ∷ rows) t zero d l = has_all rows (counted by t x) x (own_has t x)
  all_there (x ∷ rows) t (suc i) d l = all_there rows (counted by t x) i d (omega arith)

  -- a place that is new is the row's
  new_place : (t : List A) (x : A) (k : ℕ) → k < length (counted by t x) → length t ≤ k
      → place_in (counted by t x) x ≡ k
  new_place [] x k l m = grind (arith, is.reflexive x)
  new_place (f ∷ rest) x zero l m = grind arith
  new_place (f ∷ rest) x (suc k) l m = grind (arith, new_place rest x k)

  -- each place has a row
  pub all_seen : (rows t : List A) (d : A) (k : ℕ) → k < length (counted_all by t rows) →
      (k < length t) ⊎ ((i : ℕ) × (i < length rows) × (place_in (counted_all by t rows) (slice_index_or rows i d) ≡ k))
  all_seen [] t d k l = inl l
  all_seen (x ∷ rows) t d k l = elim (all_seen rows (counted by t x) d k l) [
    | inl early ↦ elim (cases_lt k (length t)) [
      | inl before ↦ inl before
      | inr new ↦ inr (0, omega arith, kept_places rows (counted by t x) x (own_has t x) ∙ new_place t x k early new)
    ]
    | inr there ↦ inr (suc there.0, omega (arith, there.1), there.2)
  ]
