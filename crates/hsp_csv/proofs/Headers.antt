-- Records that have the same fields.
use Rattle.std.proofs.Common.{◌≡◌, ◌≢◌, ◌<◌, ◌≤◌, ◌+◌, ◌&&◌, ◌∙◌, ℕ, zero, suc, Bool, true, false, List, [], ◌∷◌}
use Rattle.std.proofs.Common.{length, drop, map, arith, refl, add-one, ap, sym, get_or}
use Rattle.std.proofs.Math.Seq.{drop-cons}
use Rattle.std.proofs.lemmas.List.{drop-map, drop_all, length-map}
use Rattle.std.specs.Borrow.{Bor}
use Rattle.std.specs.Str.{bytes_eq}
use Rattle.csv.specs.Records.{field_at}
use Rattle.hsp_csv.specs.Header.{is_field, names_in, same_fields}
use Rattle.hsp_csv.specs.Records.{Fields}

-- they are as many
other_many : (fields header : Fields) → length fields ≢ length header → same_fields fields header ≡ false
other_many [] [] n = absurd (n refl)
other_many [] (name ∷ header) n = refl
other_many (field ∷ fields) [] n = refl
other_many (field ∷ fields) (name ∷ header) n =
    by_first (bytes_eq field name) (other_many fields header (λ same. n (omega (arith, same))))
  where
    by_first : (first : Bool) → same_fields fields header ≡ false → (first && same_fields fields header) ≡ false
    by_first true e = e
    by_first false e = refl

-- a place where they are the same leaves the question to what follows
same_at : (fields header : Fields) (place : ℕ) (name : List ℕ) (names : Fields) → drop place header ≡ name ∷ names
    → is_field fields place name ≡ true
    → same_fields (drop place fields) (drop place header) ≡ same_fields (drop (suc place) fields) names
unfolding field_at
same_at [] header zero name names split same = cc same
same_at [] header (suc place) name names split same = cc same
same_at (field ∷ fields) header zero name names split same = rw (split, same) refl
same_at (field ∷ fields) [] (suc place) name names split same = cc split
same_at (field ∷ fields) (first ∷ header) (suc place) name names split same =
    same_at fields header place name names split same

-- a place where they differ answers it
other_at : (fields header : Fields) (place : ℕ) (name : List ℕ) (names : Fields) → drop place header ≡ name ∷ names
    → is_field fields place name ≡ false
    → same_fields (drop place fields) (drop place header) ≡ false
unfolding field_at
other_at [] header zero name names split same = rw split refl
other_at [] header (suc place) name names split same = rw split refl
other_at (field ∷ fields) header zero name names split same = rw (split, same) refl
other_at (field ∷ fields) [] (suc place) name names split same = cc split
other_at (field ∷ fields) (first ∷ header) (suc place) name names split same =
    other_at fields header place name names split same

-- the names from a place on are that of the place and those behind it
split_at : (header : List (Bor (List ℕ))) (place : ℕ) (d : Bor (List ℕ)) → place < length header
    → drop place (names_in header) ≡ (get_or header place d).now ∷ drop (suc place) (names_in header)
split_at header place d h =
    let now : Bor (List ℕ) → List ℕ = λ name. name.now in
    drop-map now place header ∙ ap (λ (names : List (Bor (List ℕ))). map now names) (drop-cons header place d h)
    ∙ ap (λ (names : Fields). (get_or header place d).now ∷ names) (sym (drop-map now (suc place) header))

-- a field that is the name leaves the rest to compare
pub goes_on : (fields : Fields) (header : List (Bor (List ℕ))) (place : ℕ) (d : Bor (List ℕ)) → place < length header
    → is_field fields place (get_or header place d).now ≡ true
    → same_fields (drop (place + 1) fields) (drop (place + 1) (names_in header))
    ≡ same_fields (drop place fields) (drop place (names_in header))
goes_on fields header place d h same =
    rw add-one (sym (same_at fields (names_in header) place _ _ (split_at header place d h) same))

-- a field that is not the name shows that the record is no header
pub ends : (fields : Fields) (header : List (Bor (List ℕ))) (place : ℕ) (d : Bor (List ℕ)) → place < length header
    → is_field fields place (get_or header place d).now ≡ false
    → same_fields (drop place fields) (drop place (names_in header)) ≡ false
ends fields header place d h same = other_at fields (names_in header) place _ _ (split_at header place d h) same

-- behind the last place nothing is left
pub all_same : (fields : Fields) (header : List (Bor (List ℕ))) (place : ℕ) → length fields ≡ length header
    → length header ≤ place
    → same_fields (drop place fields) (drop place (names_in header)) ≡ true
all_same fields header place many past =
    let names : length (names_in header) ≡ length header = length-map header (λ (name : Bor (List ℕ)). name.now) in
    rw (drop_all place fields (omega arith), drop_all place (names_in header) (omega arith)) refl

-- a record of another number of fields is no header
pub other_length : (fields : Fields) (header : List (Bor (List ℕ))) → length fields ≢ length header
    → same_fields fields (names_in header) ≡ false
other_length fields header other =
    let names : length (names_in header) ≡ length header = length-map header (λ (name : Bor (List ℕ)). name.now) in
    other_many fields (names_in header) (λ same. other (omega (arith, same)))
