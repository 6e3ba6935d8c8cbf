-- A list of handle values, by the fields of RFC 3651 section 3.1, in the order and widths of this project's profile.
use Rattle.std.specs.Prelude.{◌≡◌, ℕ, ◌<◌, ◌^◌, List, [], ◌∷◌, ◌++◌, length, map, nat_eq}
use Rattle.std.specs.List.{AllByRecursion, Contains, IsDistinct}
use Rattle.std.specs.Int.{w8, w32, w64, to_be_bytes}
use Rattle.hsp_record.specs.Fields.{joined, run_fields, IsRun, all_fields, list_fields, IsCounted, Format}

-- a reference to the value of an index of another handle
pub record ValueReference : Type 0 where
  pub handle : List ℕ
  pub index : ℕ

-- a handle value; `octets` are its data
pub record HandleValue : Type 0 where
  pub index : ℕ
  pub type_octets : List ℕ
  pub octets : List ℕ
  pub permission : ℕ
  pub ttl_kind : ℕ
  pub ttl : ℕ
  pub timestamp : ℕ
  pub references : List ValueReference

abbrev pub reference_fields : ValueReference → List (List ℕ)
reference_fields r = run_fields r.handle ++ (to_be_bytes w32 r.index ∷ [])

-- the fields behind the index
abbrev pub body_fields : HandleValue → List (List ℕ)
body_fields v =
    run_fields v.type_octets
    ++ (run_fields v.octets
    ++ (to_be_bytes w8 v.permission ∷ to_be_bytes w8 v.ttl_kind ∷ to_be_bytes w32 v.ttl
    ∷ to_be_bytes w64 v.timestamp ∷ list_fields reference_fields v.references))

abbrev pub value_fields : HandleValue → List (List ℕ)
value_fields v = to_be_bytes w32 v.index ∷ body_fields v

abbrev pub values_fields : List HandleValue → List (List ℕ)
values_fields = list_fields value_fields

pub record IsReference (r : ValueReference) : Type 0 where
  pub handle : IsRun r.handle
  pub index : r.index < 2 ^ 32

pub record IsValue (v : HandleValue) : Type 0 where
  pub index : v.index < 2 ^ 32
  pub type_octets : IsRun v.type_octets
  pub octets : IsRun v.octets
  pub permission : v.permission < 2 ^ 8
  pub ttl_kind : v.ttl_kind < 2 ^ 8
  pub ttl : v.ttl < 2 ^ 32
  pub timestamp : v.timestamp < 2 ^ 64
  pub references : IsCounted IsReference v.references

-- the values' indices, in their order
abbrev pub indices : List HandleValue → List ℕ
indices = map (λ v. v.index)

-- no two values have one index
abbrev pub HaveOwnIndices : List HandleValue → Type 0
HaveOwnIndices vs = IsDistinct nat_eq (indices vs)

-- a list of any indices
abbrev pub IsWideList : List HandleValue → Type 0
IsWideList = IsCounted IsValue

-- a list of values of distinct indices
abbrev pub IsValueList : List HandleValue → Type 0
IsValueList vs = IsWideList vs × HaveOwnIndices vs

-- What stands before an index begins the spelling of a list of `count` values, and the index's four octets are there
-- and an earlier value's.
pub record HasIndexTwice (octets : List ℕ) (index : ℕ) : Type 0 where
  pub count : ℕ
  pub counted : count < 2 ^ 32
  pub earlier : List HandleValue
  pub fit : AllByRecursion IsValue earlier
  pub distinct : HaveOwnIndices earlier
  pub fewer : length earlier < count
  pub again : Contains (indices earlier) index
  pub four : index < 2 ^ 32
  pub rest : List ℕ
  pub begins : octets ≡ to_be_bytes w32 count
      ++ (joined (all_fields value_fields earlier) ++ (to_be_bytes w32 index ++ rest))

abbrev pub values_format : Format (List HandleValue)
values_format = record {
  Fits = IsValueList;
  Wide = IsWideList;
  fields = values_fields;
  HasTooManyServers = λ _. ⊥;
  HasIndexTwice = HasIndexTwice;
}
