-- First places in lists, and first numbers in maps, as more come in.
use Rattle.std.proofs.Common.{◌≡◌, ◌&&◌, ◌+◌, ℕ, Bool, false, cond, List, [], ◌∷◌, ◌++◌, Some, None, is_some, length}
use Rattle.std.proofs.Common.{add-zero, zero-add, refl, ap, arith}
use Rattle.std.proofs.lemmas.Iterator.Adapters.{position_from-zero}
use Rattle.std.specs.List.{position, position_from}
use Rattle.std.specs.Map.{lookup}
use Rattle.std.specs.Str.{bytes_eq}
use Rattle.indexmap.specs.IndexMap.{insert_entry}
use Rattle.hsp_instance.specs.Building.{or_else}
use Rattle.hsp_price_check.specs.FirstRows.{FirstRow, HasAdded, is_key_of}
use Rattle.hsp_price_check.specs.Keys.{KeyEntry}
use Rattle.hsp_price_check.specs.KindKeys.{key_in}
use Rattle.hsp_price_check.specs.declared.keys.KindKey.{KindKey}

-- ---- positions

module _ {A : Type 0} where
  -- the first place in a longer list is the old one, or that of the new element
  from_next : (p : A → Bool) (n : ℕ) (xs : List A) (x : A)
      → position_from p n (xs ++ x ∷ []) ≡ or_else (position_from p n xs) (cond (p x) (Some (n + length xs)) None)
  from_next p n [] x = rw add-zero refl
  from_next p n (y ∷ xs) x = grind (arith, from_next p (n + 1) xs x)

  -- the place in a list and one more
  pub place_next : (p : A → Bool) (xs : List A) (x : A)
      → position p (xs ++ x ∷ []) ≡ or_else (position p xs) (cond (p x) (Some (length xs)) None)
  place_next p xs x =
      let all = position_from-zero p (xs ++ x ∷ []) in
      let first = position_from-zero p xs in
      rw (all, first, from_next p 0 xs x, zero-add (length xs)) refl

-- ---- the map

-- a new key stands last
pub is_added : (es : List FirstRow) (key : KindKey) (number : ℕ)
    → is_some (lookup (is_key_of key.region.items key.places.items) es) ≡ false
    → HasAdded es
    (insert_entry
    (λ (a b : KindKey). bytes_eq a.region.items b.region.items && bytes_eq a.places.items b.places.items) es key
    number) key.region.items key.places.items number
is_added [] key number none region places = refl
is_added (e ∷ es) key number none region places =
    let there = is_some (lookup (is_key_of key.region.items key.places.items) es) in
    let later = λ (n : there ≡ false). is_added es key number n region places in
    grind (arith, later)

-- the same of a key of a region and of places
pub is_added_as : (es new : List FirstRow) (key : KindKey) (number : ℕ) (region places : List ℕ)
    → key_in key ≡ record { region = region; places = places }
    → new
    ≡ insert_entry
    (λ (a b : KindKey). bytes_eq a.region.items b.region.items && bytes_eq a.places.items b.places.items) es key
    number
    → is_some (lookup (is_key_of region places) es) ≡ false → HasAdded es new region places number
is_added_as es new key number region places is e none =
    let same_region : key.region.items ≡ region = ap (λ (k : KeyEntry). k.region) is in
    let same_places : key.places.items ≡ places = ap (λ (k : KeyEntry). k.places) is in
    let none' : is_some (lookup (is_key_of key.region.items key.places.items) es) ≡ false =
    rw (same_region, same_places) none in
    rw (e, ← same_region, ← same_places) (is_added es key number none')
