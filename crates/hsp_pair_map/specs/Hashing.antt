-- The hash of a pair of names: a polynomial of its words of eight octets, modulo 2^64 - 1.
use Rattle.std.specs.Prelude.{ℕ, zero, suc, ◌+◌, ◌-◌, ◌*◌, ◌/◌, ◌%◌, ◌^◌, nat_lt, List, length, drop, fold}
use Rattle.std.specs.Prelude.{if◌then◌else◌}
use Rattle.byteorder.specs.Endian.{little_number}
use Rattle.hsp_pair_map.specs.Pairs.{Pair}
use Rattle.hsp_pair_map.specs.declared.hashing.TheConstants.{MULTIPLIER}

-- a product of 128 bits as 64 bits: its halves, added
abbrev pub folded : ℕ → ℕ
folded p = (p % 2 ^ 64 + p / 2 ^ 64) % 2 ^ 64

-- a hash with a further word
abbrev pub mixed : ℕ → ℕ → ℕ
mixed hash word = folded (((hash + word) % 2 ^ 64) * MULTIPLIER)

-- the word of eight octets at a place
abbrev pub word_at : List ℕ → ℕ → ℕ
word_at octets place = little_number 8 (drop place octets)

-- a hash with the first words
unfoldable pub words_mixed : ℕ → List ℕ → ℕ → ℕ
words_mixed hash octets zero = hash
words_mixed hash octets (suc n) = mixed (words_mixed hash octets n) (word_at octets (8 * n))

-- a hash with a name: its words and its last eight octets, or each octet of a short name
abbrev pub name_mixed : ℕ → List ℕ → ℕ
name_mixed hash octets =
    if nat_lt (length octets) 8
    then fold mixed hash octets
    else mixed (words_mixed hash octets (length octets / 8)) (word_at octets (length octets - 8))

-- the hash of a pair, in which the length of the first name shows where it ends
unfoldable pub hash_of : Pair → ℕ
hash_of pair = name_mixed (name_mixed (length pair.first) pair.first) pair.second

-- which of so many buckets a pair belongs to, and the mark that most other pairs of the bucket don't have
unfoldable pub bucket_of : ℕ → ℕ → ℕ
bucket_of buckets hash = ((hash / 2 ^ 32) * buckets) / 2 ^ 32

unfoldable pub mark_of : ℕ → ℕ
mark_of hash = hash % 2 ^ 16
