-- The text of a site record, and what printing one answers.
use Rattle.std.specs.Prelude.{◌≡◌, ◌++◌, ◌∷◌, [], ◌+◌, ◌==◌, ⊤, ℕ, Bool, true, false, List, length, codes, decimal}
use Rattle.std.specs.Prelude.{find, Option, Some, None, Result, Ok, Err, Vec}
use Rattle.std.specs.declared.alloc.Global.{Global}
use Rattle.std.specs.Str.{bytes_eq}
use Rattle.hex.specs.Hex.{encode_lower}
use Rattle.hsp_text.specs.Whole.{whole_within}
use Rattle.hsp_text.specs.declared.whole.WholeFault.{WholeFault}
use Rattle.hsp_record.specs.Fields.{Means}
use Rattle.hsp_record.specs.Site.{Server, Site, site_format}
use Rattle.hsp_record.specs.Values.{HandleValue, values_format}
use Rattle.hsp_record.specs.declared.fault.RecordFault.{RecordFault}
use Rattle.hsp_record.specs.declared.fault.RecordFault.TheVariants as record_fault
use Rattle.hsp_inputs.specs.declared.fault.Fault.{Fault}
use Rattle.hsp_inputs.specs.declared.fault.Fault.TheVariants as fault
use Rattle.hsp_text.specs.Writing.{numbered, spaced}

abbrev pub numbers_text : Site → List ℕ
numbers_text s =
    numbered (codes "version") (s.version ∷ [])
    ++ (numbered (codes "protocol") (s.major ∷ s.minor ∷ []) ++ (numbered (codes "serial") (s.serial ∷ [])
    ++ (numbered (codes "mask") (s.mask ∷ []) ++ numbered (codes "option") (s.option ∷ []))))

abbrev pub counts_text : Site → List ℕ
counts_text s =
    numbered (codes "filter") (length s.filter ∷ [])
    ++ (numbered (codes "attributes") (length s.attributes ∷ []) ++ numbered (codes "servers") (length s.servers ∷ []))

-- place, identifier, address in hexadecimal digits, number of key octets, number of interfaces
abbrev pub server_line : ℕ → Server → List ℕ
server_line place s =
    codes "server "
    ++ (decimal place
    ++ (codes " "
    ++ (decimal s.id ++ (codes " " ++ (encode_lower s.address ++ spaced (length s.key ∷ length s.interfaces ∷ []))))))

abbrev pub server_lines : ℕ → List Server → List ℕ
server_lines place [] = []
server_lines place (s ∷ ss) = server_line place s ++ server_lines (place + 1) ss

abbrev pub site_text : Site → List ℕ
site_text s = numbers_text s ++ (counts_text s ++ server_lines 0 s.servers)

-- a fault of the octets, and not that memory ran out
abbrev pub IsRefused : {A : Type 0} → (Result A RecordFault → Type 0) → RecordFault → Type 0
IsRefused means record_fault.OutOfMemory = ⊥
IsRefused means e = means (Err e)

-- printing the record that octets spell
abbrev pub IsRecordRun : List ℕ → Result (Vec ℕ Global) Fault → Type 0
IsRecordRun octets (Ok text) = (s : Site) × Means site_format octets (Ok s) × (text.items ≡ site_text s)
IsRecordRun octets (Err fault.OutOfMemory) = ⊤
IsRecordRun octets (Err (fault.Site e)) = IsRefused (Means site_format octets) e
IsRecordRun octets (Err e) = ⊥

-- the value with the index, in the list that octets spell, or none
abbrev pub IsFound : List ℕ → ℕ → Option HandleValue → Type 0
IsFound octets index found =
    (vs : List HandleValue) × Means values_format octets (Ok vs) × (find (λ v. v.index == index) vs ≡ found)

abbrev pub is_site_value : HandleValue → Bool
is_site_value v = bytes_eq v.type_octets (codes "HS_SITE")

-- printing the record in a value
abbrev pub IsValueRun : List ℕ → ℕ → Result (Vec ℕ Global) Fault → Type 0
IsValueRun octets index (Err fault.OutOfMemory) = ⊤
IsValueRun octets index (Err (fault.Values e)) = IsRefused (Means values_format octets) e
IsValueRun octets index (Err fault.NoValue) = IsFound octets index None
IsValueRun octets index (Err fault.NotSiteValue) =
    (v : HandleValue) × IsFound octets index (Some v) × (is_site_value v ≡ false)
IsValueRun octets index answer =
    (v : HandleValue) × IsFound octets index (Some v) × (is_site_value v ≡ true) × IsRecordRun v.octets answer

-- by the digits of an index, where they are given
abbrev pub IsIndexRun : List ℕ → Result ℕ WholeFault → Result (Vec ℕ Global) Fault → Type 0
IsIndexRun octets (Err e) answer = answer ≡ Err fault.BadIndex
IsIndexRun octets (Ok index) answer = IsValueRun octets index answer

abbrev pub IsSiteRun : List ℕ → Option (List ℕ) → Result (Vec ℕ Global) Fault → Type 0
IsSiteRun octets None answer = IsRecordRun octets answer
IsSiteRun octets (Some digits) answer = IsIndexRun octets (whole_within 4294967295 digits) answer
