-- The fields of a record, by their places.
use Rattle.std.proofs.Common.{◌≡◌, ℕ, List, [], ◌∷◌, Some, None, refl}
use Rattle.csv.specs.Records.{field_at}
use Rattle.hsp_csv.specs.Records.{Fields}
use Rattle.hsp_csv.specs.Row.{shape_of_fields}
use Rattle.hsp_csv.specs.Row.Shape.{one, other, two}

-- a record without fields is another row
pub no_fields : (fields : Fields) → None ≡ field_at fields 0 → other ≡ shape_of_fields fields
unfolding field_at
no_fields [] e = refl
no_fields (first ∷ more) e = cc e

-- a record with a first field and no second one is of one field
pub one_field : (fields : Fields) (x : List ℕ) → Some x ≡ field_at fields 0 → None ≡ field_at fields 1
    → one x ≡ shape_of_fields fields
unfolding field_at
one_field [] x e end = cc e
one_field (first ∷ []) x e end = let same : x ≡ first = cc e in rw same refl
one_field (first ∷ second ∷ more) x e end = cc end

-- a record with a second field and no third one is of two fields
pub two_fields : (fields : Fields) (x y : List ℕ) → Some x ≡ field_at fields 0 → Some y ≡ field_at fields 1
    → None ≡ field_at fields 2 → two x y ≡ shape_of_fields fields
unfolding field_at
two_fields [] x y e f end = cc e
two_fields (first ∷ []) x y e f end = cc f
two_fields (first ∷ second ∷ []) x y e f end =
    let same : x ≡ first = cc e in
    let same_too : y ≡ second = cc f in
    rw (same, same_too) refl
two_fields (first ∷ second ∷ third ∷ more) x y e f end = cc end

-- a record with a third field is another row
pub more_fields : (fields : Fields) (z : List ℕ) → Some z ≡ field_at fields 2 → other ≡ shape_of_fields fields
unfolding field_at
more_fields [] z e = cc e
more_fields (first ∷ []) z e = cc e
more_fields (first ∷ second ∷ []) z e = cc e
more_fields (first ∷ second ∷ third ∷ more) z e = refl
