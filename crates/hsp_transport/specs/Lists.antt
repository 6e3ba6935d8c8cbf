-- What lists of numbers, of flags and of servers' hosts hold.
use Rattle.std.specs.Prelude.{◌≡◌, ℕ, ◌<◌, ◌≤◌, ◌==◌, Bool, false, List, length, slice_index, slice_index_or, Option}
use Rattle.std.specs.Prelude.{Some, None, is_none, min, if◌then◌else◌}
use Rattle.hsp_transport.specs.Sums.{sum_below}

-- whether a source, a server or a host is among those that the flags name
abbrev pub flag_at : List Bool → ℕ → Bool
flag_at flags k = slice_index_or flags k false

-- the host that a server stands on, in a list of the servers' hosts
abbrev pub host_in : List (Option ℕ) → ℕ → Option ℕ
host_in hosts j = slice_index_or hosts j None

-- whether that is the host h
abbrev pub is_on : Option ℕ → ℕ → Bool
is_on None h = false
is_on (Some g) h = g == h

-- each host that a server stands on is below the bound
abbrev pub HostsAreBelow : ℕ → List (Option ℕ) → Type 0
HostsAreBelow bound hosts = (j h : ℕ) → host_in hosts j ≡ Some h → h < bound

-- each load is within its bound
abbrev pub AreWithin : List ℕ → List ℕ → Type 0
AreWithin bounds loads = (j : ℕ) → j < length bounds → slice_index loads j ≤ slice_index bounds j

-- the price is 0 of each load that is below its bound
abbrev pub AreIdle : List ℕ → List ℕ → List ℕ → Type 0
AreIdle bounds loads prices =
    (j : ℕ) → j < length bounds → slice_index loads j < slice_index bounds j → slice_index prices j ≡ 0

-- each number is 0
abbrev pub AreZero : List ℕ → Type 0
AreZero sums = (v : ℕ) → v < length sums → slice_index sums v ≡ 0

-- the numbers of those of the first n servers that stand on the host h, added up
abbrev pub hosted : List (Option ℕ) → List ℕ → ℕ → ℕ → ℕ
hosted hosts numbers n h = sum_below n (λ j. if is_on (host_in hosts j) h then slice_index numbers j else 0)

-- each sum is that of the numbers of the host's servers
abbrev pub AreHosted : List (Option ℕ) → List ℕ → List ℕ → Type 0
AreHosted hosts numbers sums = (h : ℕ) → h < length sums → slice_index sums h ≡ hosted hosts numbers (length hosts) h

-- the capacity of each reached server, 0 for the others
abbrev pub AreRooms : List ℕ → (ℕ → Bool) → List ℕ → Type 0
AreRooms capacities reached rooms = (j : ℕ) → j < length capacities →
    slice_index rooms j ≡ (if reached j then slice_index capacities j else 0)

-- those of the first n numbers whose flags are set, added up
abbrev pub flagged_sum : List ℕ → List Bool → ℕ → ℕ
flagged_sum numbers flags n = sum_below n (λ i. if flag_at flags i then slice_index numbers i else 0)

-- the rooms of those of the first n servers that are on no host, added up
abbrev pub free_sum : List (Option ℕ) → List ℕ → ℕ → ℕ
free_sum hosts rooms n = sum_below n (λ j. if is_none (host_in hosts j) then slice_index rooms j else 0)

-- for each of the first n hosts the smaller of its limit and its room, added up
abbrev pub hosted_sum : List ℕ → List ℕ → ℕ → ℕ
hosted_sum limits rooms n = sum_below n (λ h. min (slice_index limits h) (slice_index rooms h))
