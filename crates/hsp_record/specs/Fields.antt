-- What the formats have in common: a spelling as its fields from left to right, and what other octets can be.
use Rattle.std.specs.Prelude.{◌≡◌, ◌≢◌, ℕ, ◌+◌, ◌<◌, ◌≤◌, ◌^◌, List, [], ◌∷◌, ◌++◌, length, Result, Ok, Err}
use Rattle.std.specs.List.{AllByRecursion, slice_index}
use Rattle.std.specs.Int.{w32, to_be_bytes}
use Rattle.hsp_record.specs.declared.fault.RecordFault.{RecordFault}
use Rattle.hsp_record.specs.declared.fault.RecordFault.TheVariants.{Truncated, Trailing, TooManyServers, IndexTwice}
use Rattle.hsp_record.specs.declared.fault.RecordFault.TheVariants.{OutOfMemory}

-- each is an octet
abbrev pub IsOctets : List ℕ → Type 0
IsOctets octets = (i : ℕ) → slice_index octets i < 256

-- the octets of fields, one field after the other
abbrev pub joined : List (List ℕ) → List ℕ
joined [] = []
joined (field ∷ fields) = field ++ joined fields

-- a run of octets, a UTF8-string or a public key: its length in 4 octets, and the octets
abbrev pub run_fields : List ℕ → List (List ℕ)
run_fields octets = to_be_bytes w32 (length octets) ∷ octets ∷ []

-- octets whose length 4 octets can state
abbrev pub IsRun : List ℕ → Type 0
IsRun octets = (length octets < 2 ^ 32) × IsOctets octets

-- the fields of each, one after the other
abbrev pub all_fields : {A : Type 0} → (A → List (List ℕ)) → List A → List (List ℕ)
all_fields fields [] = []
all_fields fields (x ∷ xs) = fields x ++ all_fields fields xs

-- a list: their number in 4 octets, and the fields of each
abbrev pub list_fields : {A : Type 0} → (A → List (List ℕ)) → List A → List (List ℕ)
list_fields fields xs = to_be_bytes w32 (length xs) ∷ all_fields fields xs

-- a list whose number of elements 4 octets can state, each of which fits
abbrev pub IsCounted : {A : Type 0} → (A → Type 0) → List A → Type 0
IsCounted Fits xs = (length xs < 2 ^ 32) × AllByRecursion Fits xs

-- The octets end inside the fields, and `at` is where the first field that ends past them begins.
pub record EndsIn (fields : List (List ℕ)) (octets : List ℕ) (at : ℕ) : Type 0 where
  pub before : List (List ℕ)
  pub field : List ℕ
  pub after : List (List ℕ)
  pub parts : fields ≡ before ++ (field ∷ after)
  pub begins : at ≡ length (joined before)
  pub there : at ≤ length octets
  pub past : length octets < at + length field
  pub more : List ℕ
  pub prefix : joined fields ≡ octets ++ more

-- A format: its values, their fields, and the octets that it refuses inside a spelling.
pub record Format (A : Type 0) : Type 1 where
  -- the values that have a spelling
  pub Fits : A → Type 0
  -- the same but for the limit that the format sets, on a number of servers or on equal indices
  pub Wide : A → Type 0
  pub fields : A → List (List ℕ)
  pub HasTooManyServers : List ℕ → Type 0
  pub HasIndexTwice : List ℕ → ℕ → Type 0

-- the one spelling of a value
abbrev pub spelling : {A : Type 0} → Format A → A → List ℕ
spelling format x = joined (format.fields x)

-- The octets are the first ones of a spelling, no limit being passed in them, and end inside the field that begins at
-- `at`.
abbrev pub IsTruncated : {A : Type 0} → Format A → List ℕ → ℕ → Type 0
IsTruncated {A} format octets at =
    (format.HasTooManyServers octets → ⊥) × ((index : ℕ) → format.HasIndexTwice octets index → ⊥)
    × ((x : A) × format.Wide x × EndsIn (format.fields x) octets at)

-- The first `at` octets are a spelling, and more follow.
abbrev pub IsTrailing : {A : Type 0} → Format A → List ℕ → ℕ → Type 0
IsTrailing {A} format octets at =
    (x : A) × format.Fits x × (rest : List ℕ) × (0 < length rest) × (octets ≡ spelling format x ++ rest)
    × (at ≡ length (spelling format x))

-- What an answer says of the octets.
abbrev pub Means : {A : Type 0} → Format A → List ℕ → Result A RecordFault → Type 0
Means format octets (Ok x) = format.Fits x × (octets ≡ spelling format x)
Means format octets (Err (Truncated at)) = IsTruncated format octets at
Means format octets (Err (Trailing at)) = IsTrailing format octets at
Means format octets (Err TooManyServers) = format.HasTooManyServers octets
Means format octets (Err (IndexTwice index)) = format.HasIndexTwice octets index
Means format octets (Err OutOfMemory) = Unit {0}

-- The answers are one, unless memory ran out at either.
abbrev pub Agrees : {A : Type 0} → Result A RecordFault → Result A RecordFault → Type 0
Agrees (Err OutOfMemory) other = Unit {0}
Agrees result (Err OutOfMemory) = Unit {0}
Agrees result other = result ≡ other

-- No two values are spelled alike.
abbrev pub HasOneSpelling : {A : Type 0} → Format A → Type 0
HasOneSpelling {A} format = (x y : A) → format.Fits x → format.Fits y → spelling format x ≡ spelling format y → x ≡ y

-- What follows a spelling changes nothing of what is read, so no spelling is a proper prefix of another.
abbrev pub HasNothingAfter : {A : Type 0} → Format A → Type 0
HasNothingAfter {A} format =
    (x y : A) (after other : List ℕ) → format.Fits x → format.Fits y
    → spelling format x ++ after ≡ spelling format y ++ other → (x ≡ y) × (after ≡ other)

-- No two answers are true of the same octets, where memory ran out at neither: they spell at most one value, or have
-- one fault.
abbrev pub HasOneAnswer : {A : Type 0} → Format A → Type 0
HasOneAnswer {A} format =
    (octets : List ℕ) (a b : Result A RecordFault) → a ≢ Err OutOfMemory → b ≢ Err OutOfMemory
    → Means format octets a → Means format octets b → a ≡ b
