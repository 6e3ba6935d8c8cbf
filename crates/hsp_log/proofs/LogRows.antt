-- The rows of a log: their header, their fields, and what they spell.
use Rattle.std.proofs.Common.{◌≡◌, ◌≢◌, ℕ, List, [], ◌∷◌, Option, Some, None, Result, Ok, length, refl, ap, arith}
use Rattle.hsp_csv.specs.Records.{Fields}
use Rattle.hsp_names.specs.Handle as names
use Rattle.hsp_names.specs.declared.fault.HandleFault.{HandleFault}
use Rattle.hsp_instance.specs.Instance.{Row}
use Rattle.hsp_text.specs.Answers.{fault_as}
use Rattle.hsp_log.specs.LogRows.{Parts, count_in, handle_or, name_in, parts_in, row_of}
use Rattle.hsp_log.specs.declared.form.CountForm.TheVariants.{Counts, Ones}
use Rattle.hsp_text.proofs.Steps.{first_step}

-- ---- the header

-- ---- fields

-- a record of two fields is one query of a region and a handle
pub ones_are : (fields : Fields) (a b : List ℕ) → fields ≡ a ∷ b ∷ []
    → Some (record { region = a; handle = b; count = None }) ≡ parts_in Ones fields
ones_are fields a b e = rw e refl

-- a record of three fields is that many queries
pub counts_are : (fields : Fields) (a b c : List ℕ) → fields ≡ a ∷ b ∷ c ∷ []
    → Some (record { region = a; handle = b; count = Some c }) ≡ parts_in Counts fields
counts_are fields a b c e = rw e refl

-- a record of another number of fields is no such row
pub no_ones : (fields : Fields) → length fields ≢ 2 → ◌≡◌ {A = Option Parts} None (parts_in Ones fields)
no_ones [] n = refl
no_ones (x ∷ []) n = refl
no_ones (x ∷ y ∷ []) n = absurd (n refl)
no_ones (x ∷ y ∷ z ∷ fields) n = refl

-- a record of another number of fields has no such count
pub no_counts : (fields : Fields) → length fields ≢ 3 → ◌≡◌ {A = Option Parts} None (parts_in Counts fields)
no_counts [] n = refl
no_counts (x ∷ []) n = refl
no_counts (x ∷ y ∷ []) n = refl
no_counts (x ∷ y ∷ z ∷ []) n = absurd (n refl)
no_counts (x ∷ y ∷ z ∷ v ∷ fields) n = refl

-- what the fields of a record need to be a row's
pub ruleset ones = (ones_are, no_ones)

pub ruleset counts = (counts_are, no_counts)

-- ---- what they spell

-- a part's value is that of the whole
pub told : {A E F : Type 0} (part : E → F) (r : Result A E) (x : A) → fault_as part r ≡ Ok x → r ≡ Ok x
told part r x e = grind arith

-- what is read as a handle is the octets that were read
pub handle_own : (octets found : List ℕ) → names.handle_in octets ≡ Ok found → octets ≡ found
handle_own octets found e = grind arith

-- a name is read the same at any row
name_any : (n m : ℕ) (octets name : List ℕ) → name_in n octets ≡ Ok name → name_in m octets ≡ Ok name
name_any n m octets name e = grind arith

-- a handle is read the same at any row
handle_any : (n m : ℕ) (r : Result (List ℕ) HandleFault) (handle : List ℕ) → handle_or n r ≡ Ok handle
    → handle_or m r ≡ Ok handle
handle_any n m r handle e = grind arith

-- a count is read the same at any row
count_any : (n m : ℕ) (o : Option (List ℕ)) (count : ℕ) → count_in n o ≡ Ok count → count_in m o ≡ Ok count
count_any n m o count e = grind arith

-- a row is read the same at any number
pub row_any : (n m : ℕ) (parts : Parts) (row : Row) → row_of n parts ≡ Ok row → row_of m parts ≡ Ok row
row_any n m parts row e =
    let name = first_step (name_in n parts.region) _ row e in
    let handle = first_step (handle_or n (names.handle_in parts.handle)) _ row name.2 in
    let count = first_step (count_in n parts.count) _ row handle.2 in
    let one = name_any n m parts.region name.0 name.1 in
    let two = handle_any n m (names.handle_in parts.handle) handle.0 handle.1 in
    let three = count_any n m parts.count count.0 count.1 in
    let is : record { region = name.0; handle = handle.0; count = count.0 } ≡ row = cc (count.2) in
    rw (one, two, three) (ap Ok is)
