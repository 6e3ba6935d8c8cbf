-- Records of one field.
use Rattle.std.proofs.Common.{◌≡◌, ◌≢◌, ℕ, List, [], ◌∷◌, length, Option, None, Some, refl, arith}
use Rattle.csv.specs.Records.{field_at}
use Rattle.hsp_csv.specs.Records.{Fields}
use Rattle.hsp_log.specs.RowFaults.{handle_fault}
use Rattle.hsp_log.specs.declared.fault.RowFault.TheVariants as fault

-- one field that is known is the record
pub one_field_is : (fields : Fields) (a : List ℕ) → length fields ≡ 1 → Some a ≡ field_at fields 0 → fields ≡ a ∷ []
unfolding field_at
one_field_is [] a n e = absurd (omega arith)
one_field_is (x ∷ []) a n e = cc
one_field_is (x ∷ y ∷ fields) a n e = absurd (omega arith)

-- a record without a first field has none
pub no_first_field : (fields : Fields) → ◌≡◌ {A = Option (List ℕ)} None (field_at fields 0) → length fields ≢ 1
unfolding field_at
no_first_field [] e n = absurd (omega arith)
no_first_field (x ∷ fields) e n = cc

-- a record of more fields or of none is a fault
pub other_fields : (row : ℕ) (fields : Fields) → length fields ≢ 1 → handle_fault row fields ≡ Some (fault.Fields row)
other_fields row [] other = refl
other_fields row (x ∷ []) other = absurd (other refl)
other_fields row (x ∷ y ∷ more) other = refl
