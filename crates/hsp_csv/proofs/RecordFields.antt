-- Records of two and of three fields.
use Rattle.std.proofs.Common.{◌≡◌, ◌≤◌, ℕ, List, [], ◌∷◌, length, zero, suc, Option, None, Some, arith}
use Rattle.csv.specs.Records.{field_at}
use Rattle.hsp_csv.specs.Records.{Fields}

-- two fields, each known, are the record
pub two_fields_are : (fields : Fields) (a b : List ℕ) → length fields ≡ 2 → Some a ≡ field_at fields 0
    → Some b ≡ field_at fields 1 → fields ≡ a ∷ b ∷ []
unfolding field_at
two_fields_are [] a b n p q = absurd (omega arith)
two_fields_are (x ∷ []) a b n p q = absurd (omega arith)
two_fields_are (x ∷ y ∷ []) a b n p q = cc
two_fields_are (x ∷ y ∷ z ∷ fields) a b n p q = absurd (omega arith)

-- three fields, each known, are the record
pub three_fields_are : (fields : Fields) (a b c : List ℕ) → length fields ≡ 3 → Some a ≡ field_at fields 0
    → Some b ≡ field_at fields 1 → Some c ≡ field_at fields 2 → fields ≡ a ∷ b ∷ c ∷ []
unfolding field_at
three_fields_are [] a b c n p q r = absurd (omega arith)
three_fields_are (x ∷ []) a b c n p q r = absurd (omega arith)
three_fields_are (x ∷ y ∷ []) a b c n p q r = absurd (omega arith)
three_fields_are (x ∷ y ∷ z ∷ []) a b c n p q r = cc
three_fields_are (x ∷ y ∷ z ∷ w ∷ fields) a b c n p q r = absurd (omega arith)

-- where there is no field at a place, the record has no more fields than that
pub field_is_missing : (fields : Fields) (place : ℕ) → ◌≡◌ {A = Option (List ℕ)} None (field_at fields place)
    → length fields ≤ place
unfolding field_at
field_is_missing [] place e = omega arith
field_is_missing (field ∷ fields) zero e = cc
field_is_missing (field ∷ fields) (suc place) e = omega (arith, field_is_missing fields place e)
