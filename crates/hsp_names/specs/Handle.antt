-- Handles (RFC 3651, section 2): a naming authority, one "/" (the octet 47), and a local name.
use Rattle.std.specs.Prelude.{◌≡◌, ◌≤◌, ◌<◌, ◌==◌, ◌&&◌, ◌↔◌, not, Bool, true, false, ℕ, List, ◌∷◌, ◌++◌, length}
use Rattle.std.specs.Prelude.{nat_le, nat_lt, IsUtf8, Result, Ok, Err, if◌then◌else◌}
use Rattle.std.specs.List.{AllByRecursion, list_all, list_any, slice_split, before_first, after_first, join_with_byte}
use Rattle.std.specs.Str.{is_utf8}
use Rattle.hsp_text.specs.declared.limits.TheConstants.{LONGEST_HANDLE}
use Rattle.hsp_names.specs.declared.fault.HandleFault.{HandleFault}
use Rattle.hsp_names.specs.declared.fault.HandleFault.TheVariants.{TooLong, NotUtf8, NoSlash, EmptySegment}

abbrev pub is_slash : ℕ → Bool
is_slash o = o == 47

abbrev pub is_dot : ℕ → Bool
is_dot o = o == 46

abbrev pub has_slash : List ℕ → Bool
has_slash os = list_any is_slash os

abbrev pub has_dot : List ℕ → Bool
has_dot os = list_any is_dot os

-- A segment is one or more octets, none of them "." or "/".
abbrev pub IsSegment : List ℕ → Type 0
IsSegment s = (0 < length s) × (has_dot s ≡ false) × (has_slash s ≡ false)

-- A naming authority is one or more segments joined by ".".
abbrev pub IsNamingAuthority : List ℕ → Type 0
IsNamingAuthority n = (ss : List (List ℕ)) × (0 < length ss) × AllByRecursion IsSegment ss × (n ≡ join_with_byte 46 ss)

-- The octets h are the handle of the naming authority n and the local name l.
pub record IsHandle (h n l : List ℕ) : Type 0 where
  pub short : length h ≤ LONGEST_HANDLE
  pub text : IsUtf8 h
  pub parts : h ≡ n ++ 47 ∷ l
  pub authority : IsNamingAuthority n

-- The reason for which octets are no handle: of several the first.
abbrev pub IsFault : List ℕ → HandleFault → Type 0
IsFault h TooLong = LONGEST_HANDLE < length h
IsFault h NotUtf8 = (length h ≤ LONGEST_HANDLE) × (IsUtf8 h → ⊥)
IsFault h NoSlash = (length h ≤ LONGEST_HANDLE) × IsUtf8 h × (has_slash h ≡ false)
IsFault h EmptySegment =
    (length h ≤ LONGEST_HANDLE) × IsUtf8 h × (has_slash h ≡ true) × ((n l : List ℕ) → IsHandle h n l → ⊥)

-- The parts of a handle: what stands before its first "/" and after it, and between the dots of the former.
abbrev pub naming_authority : List ℕ → List ℕ
naming_authority h = before_first is_slash h

abbrev pub local_name : List ℕ → List ℕ
local_name h = after_first is_slash h

abbrev pub segments : List ℕ → List (List ℕ)
segments h = slice_split is_dot (naming_authority h)

abbrev pub has_segments : List ℕ → Bool
has_segments n = list_all (λ s. not (length s == 0)) (slice_split is_dot n)

-- The handle that octets spell, or the first fault.
abbrev pub handle_in : List ℕ → Result (List ℕ) HandleFault
handle_in h =
    if nat_lt LONGEST_HANDLE (length h) then Err TooLong
    else if not (is_utf8 h) then Err NotUtf8
    else if not (has_slash h) then Err NoSlash
    else if not (has_segments (naming_authority h)) then Err EmptySegment
    else Ok h

abbrev pub is_handle : List ℕ → Bool
is_handle h = nat_le (length h) LONGEST_HANDLE && is_utf8 h && has_slash h && has_segments (naming_authority h)

-- a handle has one pair of parts
abbrev pub PartsAreUnique : Type 0
PartsAreUnique = (h n l n' l' : List ℕ) → IsHandle h n l → IsHandle h n' l' → (n ≡ n') × (l ≡ l')

-- what is read is a handle of the parts above, and every handle is read
abbrev pub ReadingsAreHandles : Type 0
ReadingsAreHandles =
    (h n l : List ℕ) → IsHandle h n l ↔ ((handle_in h ≡ Ok h) × (n ≡ naming_authority h) × (l ≡ local_name h))
