-- Records of the same fields are one.
use Rattle.std.proofs.Common.{◌≡◌, ◌≢◌, true, false, [], ◌∷◌, refl}
use Rattle.std.proofs.lemmas.Bool.{and_parts}
use Rattle.std.specs.Cmp.Lexicographic.{bytes_decides}
use Rattle.std.specs.Str.{bytes_eq}
use Rattle.hsp_csv.specs.Header.{same_fields}
use Rattle.hsp_csv.specs.Records.{Fields}

-- records whose fields are the same are one record
pub same_fields_are : (one other : Fields) → same_fields one other ≡ true → one ≡ other
same_fields_are [] [] same = refl
same_fields_are [] (b ∷ bs) same = cc same
same_fields_are (a ∷ as') [] same = cc same
same_fields_are (a ∷ as') (b ∷ bs) same =
    let is = and_parts (bytes_eq a b) (same_fields as' bs) same in
    let first = (bytes_decides a b).0 is.0 in
    let more = same_fields_are as' bs is.1 in
    cc (first, more)

-- a record has its own fields
pub are_same_fields : (fields : Fields) → same_fields fields fields ≡ true
are_same_fields [] = refl
are_same_fields (a ∷ as') = rw ((bytes_decides a a).1 refl, are_same_fields as') refl

-- a record that is not the header
pub is_other : (fields header : Fields) → same_fields fields header ≡ false → fields ≢ header
is_other fields header other same = let is = are_same_fields header in let bad = rw same at other in cc (is, bad)
