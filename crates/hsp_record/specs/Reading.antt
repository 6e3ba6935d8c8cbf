-- Reading from left to right: what a reader takes from the front of the octets, and where it stops. The formats
-- themselves are in Site.antt and Values.antt.
use Rattle.std.specs.Prelude.{◌≡◌, ℕ, zero, suc, ◌-◌, ◌≤◌, List, [], ◌∷◌, ◌++◌, length, take, drop, Result, Ok, Err}
use Rattle.std.specs.Prelude.{nat_lt, nat_eq, Bool, if◌then◌else◌}
use Rattle.std.specs.List.{list_any, slice_index}
use Rattle.std.specs.Int.{Width, w8, w16, w32, w64, byte_len, from_be_bytes}
use Rattle.hsp_text.specs.Answers.{◌>>=◌}
use Rattle.hsp_text.specs.declared.limits.TheConstants.{MOST_SERVERS}
use Rattle.hsp_record.specs.declared.fault.Stop.{Stop}
use Rattle.hsp_record.specs.declared.fault.Stop.TheVariants.{Short, TooMany, Twice}
use Rattle.hsp_record.specs.declared.fault.ReadError.{ReadError}
use Rattle.hsp_record.specs.declared.fault.ReadError.TheVariants.{Memory, Stopped}
use Rattle.hsp_record.specs.declared.fault.RecordFault.{RecordFault}
use Rattle.hsp_record.specs.declared.fault.RecordFault.TheVariants.{Truncated, Trailing, TooManyServers, IndexTwice}
use Rattle.hsp_record.specs.declared.fault.RecordFault.TheVariants.{OutOfMemory}
use Rattle.hsp_record.specs.Fields.{joined, all_fields}
use Rattle.hsp_record.specs.Site.{AttributePair, Interface, Server, Site}
use Rattle.hsp_record.specs.Values.{ValueReference, HandleValue, reference_fields}
use Rattle.hsp_record.specs.Request.{RequestBody}

-- What a reader gives: a value and the octets after it, or where it stopped.
abbrev pub Read : Type 0 → Type 0
Read A = Result (A × List ℕ) Stop

abbrev pub Reader : Type 0 → Type 0
Reader A = List ℕ → Read A

-- What a function returned stands for something that reading gives, as `Stands` says.
abbrev pub Finds : {X Y : Type 0} → (X → Y → Type 0) → Result X Stop → Result Y Stop → Type 0
Finds {X} {Y} Stands (Ok x) read = (y : Y) × Stands x y × (read ≡ Ok y)
Finds Stands (Err stop) read = read ≡ Err stop

-- What a function that may run out of memory returned, seen by `view`, is what reading gives.
abbrev pub FailsAs : {Y : Type 0} → ReadError → Result Y Stop → Type 0
FailsAs Memory read = Unit {0}
FailsAs (Stopped stop) read = read ≡ Err stop

abbrev pub Reads : {X Y : Type 0} → (X → Y) → Result X ReadError → Result Y Stop → Type 0
Reads view (Ok x) read = read ≡ Ok (view x)
Reads view (Err e) read = FailsAs e read

-- ---- fields

-- n octets: a field
abbrev pub octets_at : ℕ → Reader (List ℕ)
octets_at n bytes = if nat_lt (length bytes) n then Err (Short (length bytes)) else Ok (take n bytes, drop n bytes)

-- an integer: a field
abbrev pub number_at : Width → Reader ℕ
number_at w bytes =
    if nat_lt (length bytes) (byte_len w) then Err (Short (length bytes))
    else Ok (from_be_bytes w (take (byte_len w) bytes), drop (byte_len w) bytes)

-- ---- readers made of readers

-- one after the other, where what comes first decides how the second is read
abbrev pub then_at : {A B : Type 0} → Reader A → (A → Reader B) → Reader (A × B)
then_at a b bytes = a bytes >>= λ x. b x.0 x.1 >>= λ y. Ok ((x.0, y.0), y.1)

-- one after the other
abbrev pub both_at : {A B : Type 0} → Reader A → Reader B → Reader (A × B)
both_at a b = then_at a (λ _. b)

-- what was read, seen as another type
abbrev pub seen : {A B : Type 0} → (A → B) → Reader A → Reader B
seen f read bytes = read bytes >>= λ x. Ok (f x.0, x.1)

unfoldable pub times_at : {A : Type 0} → Reader A → ℕ → Reader (List A)
times_at read zero bytes = Ok ([], bytes)
times_at read (suc n) bytes = do
  first ← read bytes
  others ← times_at read n first.1
  Ok (first.0 ∷ others.0, others.1)

-- a length and that many octets
unfoldable pub run_at : Reader (List ℕ)
run_at bytes = number_at w32 bytes >>= λ n. octets_at n.0 n.1

-- a count and that many of one kind
unfoldable pub list_at : {A : Type 0} → Reader A → Reader (List A)
list_at read bytes = number_at w32 bytes >>= λ n. times_at read n.0 n.1

-- ---- HS_SITE data

abbrev pub pair_of : List ℕ → ℕ × ℕ
pair_of octets = (slice_index octets 0, slice_index octets 1)

unfoldable pub pair_at : Reader (ℕ × ℕ)
pair_at = seen pair_of (octets_at 2)

unfoldable pub attribute_at : Reader AttributePair
attribute_at = seen (λ p. record { name = p.0; value = p.1 }) (both_at run_at run_at)

unfoldable pub interface_at : Reader Interface
interface_at =
    seen (λ p. record { service_type = p.0; protocol = p.1.0; port = p.1.1 })
    (both_at (number_at w8) (both_at (number_at w8) (number_at w32)))

unfoldable pub server_at : Reader Server
server_at =
    seen (λ p. record { id = p.0; address = p.1.0; key = p.1.1.0; interfaces = p.1.1.1 })
    (both_at (number_at w32) (both_at (octets_at 16) (both_at run_at (list_at interface_at))))

-- a record without its servers, of its fields
abbrev pub head_of : ℕ × ((ℕ × ℕ) × (ℕ × (ℕ × (ℕ × (List ℕ × List AttributePair))))) → Site
head_of p =
    record {
      version = p.0;
      major = p.1.0.0;
      minor = p.1.0.1;
      serial = p.1.1.0;
      mask = p.1.1.1.0;
      option = p.1.1.1.1.0;
      filter = p.1.1.1.1.1.0;
      attributes = p.1.1.1.1.1.1;
      servers = [];
    }

unfoldable pub head_at : Reader Site
head_at =
    seen head_of
    (both_at (number_at w16)
    (both_at pair_at
    (both_at (number_at w16)
    (both_at (number_at w8) (both_at (number_at w8) (both_at run_at (list_at attribute_at)))))))

-- a number of servers within the limit
unfoldable pub server_count_at : Reader ℕ
server_count_at bytes = number_at w32 bytes >>= λ count. if nat_lt MOST_SERVERS count.0 then Err TooMany else Ok count

abbrev pub with_servers : Site → List Server → Site
with_servers s servers = record s { servers = servers }

-- servers, no more than the limit allows
unfoldable pub servers_at : Reader (List Server)
servers_at bytes = server_count_at bytes >>= λ count. times_at server_at count.0 count.1

unfoldable pub site_at : Reader Site
site_at = seen (λ p. with_servers p.0 p.1) (both_at head_at servers_at)

-- ---- value lists

unfoldable pub reference_at : Reader ValueReference
reference_at = seen (λ p. record { handle = p.0; index = p.1 }) (both_at run_at (number_at w32))

-- the references that so many octets in front spell
abbrev pub read_references : Read (List ValueReference) → List ValueReference
read_references (Ok x) = x.0
read_references (Err stop) = []

abbrev pub references_in : ℕ → List ℕ → List ValueReference
references_in count octets = read_references (times_at reference_at count octets)

-- All of the octets spell that many references.
abbrev pub AreReferences : ℕ → List ℕ → Type 0
AreReferences count octets =
    (length (references_in count octets) ≡ count)
    × (joined (all_fields reference_fields (references_in count octets)) ≡ octets)

-- a value of an index that is known, of the fields behind it
abbrev pub body_of : ℕ → List ℕ × (List ℕ × (ℕ × (ℕ × (ℕ × (ℕ × List ValueReference))))) → HandleValue
body_of index p =
    record {
      index = index;
      type_octets = p.0;
      octets = p.1.0;
      permission = p.1.1.0;
      ttl_kind = p.1.1.1.0;
      ttl = p.1.1.1.1.0;
      timestamp = p.1.1.1.1.1.0;
      references = p.1.1.1.1.1.1;
    }

unfoldable pub body_at : ℕ → Reader HandleValue
body_at index =
    seen (body_of index)
    (both_at run_at
    (both_at run_at
    (both_at (number_at w8)
    (both_at (number_at w8) (both_at (number_at w32) (both_at (number_at w64) (list_at reference_at)))))))

-- whether the index is one of those
abbrev pub is_one_of : List ℕ → ℕ → Bool
is_one_of met index = list_any (nat_eq index) met

-- an index that was not met before
unfoldable pub index_at : List ℕ → Reader ℕ
index_at met bytes = number_at w32 bytes >>= λ index. if is_one_of met index.0 then Err (Twice index.0) else Ok index

-- so many values of distinct indices, none of which was met before
unfoldable pub values_at : List ℕ → ℕ → Reader (List HandleValue)
values_at met zero bytes = Ok ([], bytes)
values_at met (suc n) bytes = do
  index ← index_at met bytes
  first ← body_at index.0 index.1
  others ← values_at (met ++ index.0 ∷ []) n first.1
  Ok (first.0 ∷ others.0, others.1)

unfoldable pub value_list_at : Reader (List HandleValue)
value_list_at bytes = number_at w32 bytes >>= λ count. values_at [] count.0 count.1

-- ---- request bodies

unfoldable pub request_at : Reader RequestBody
request_at =
    seen (λ p. record { handle = p.0; indices = p.1.0; types = p.1.1 })
    (both_at run_at (both_at (list_at (number_at w32)) (list_at run_at)))

-- ---- answers

-- No more octets are left at a stop than there were.
abbrev pub LeavesWithin : ℕ → ReadError → Type 0
LeavesWithin len (Stopped (Short left)) = left ≤ len
LeavesWithin len (Stopped TooMany) = Unit {0}
LeavesWithin len (Stopped (Twice index)) = Unit {0}
LeavesWithin len Memory = Unit {0}

-- the fault of octets of that length
abbrev pub fault_of : ℕ → ReadError → RecordFault
fault_of len Memory = OutOfMemory
fault_of len (Stopped (Short left)) = Truncated (len - left)
fault_of len (Stopped TooMany) = TooManyServers
fault_of len (Stopped (Twice index)) = IndexTwice index

-- what all of the octets are, by what was read of them
abbrev pub answer_of : {A : Type 0} → List ℕ → Read A → Result A RecordFault
answer_of octets (Ok (x, [])) = Ok x
answer_of octets (Ok (x, y ∷ rest)) = Err (Trailing (length octets - length (y ∷ rest)))
answer_of octets (Err stop) = Err (fault_of (length octets) (Stopped stop))
