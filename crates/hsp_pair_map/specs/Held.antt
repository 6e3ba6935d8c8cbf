-- How a map holds its pairs: their octets in one run, a chain of entries for each bucket, and the rest in order.
use Rattle.std.specs.Prelude.{◌≡◌, ◌≤◌, ◌<◌, ℕ, ◌-◌, ◌^◌, List, length, take, drop, slice_index, slice_index_or}
use Rattle.std.specs.Prelude.{None, Some, Vec}
use Rattle.std.specs.declared.alloc.Global.{Global}
use Rattle.std.specs.BTreeMap.{BTreeMap}
use Rattle.hsp_pair_map.specs.Chains.{count_of, last_of}
use Rattle.hsp_pair_map.specs.Hashing.{bucket_of, hash_of, mark_of}
use Rattle.hsp_pair_map.specs.Ordered.{Named, number_in}
use Rattle.hsp_pair_map.specs.Pairs.{Pair}
use Rattle.hsp_pair_map.specs.declared.pair_map.Entry.{Entry}
use Rattle.hsp_pair_map.specs.declared.pair_map.TheConstants.{LONGEST_CHAIN}

-- the pair of an entry
abbrev pub pair_in : List ℕ → Entry → Pair
pair_in octets e = record {
  first = take (e.cut - e.start) (drop e.start octets);
  second = take (e.end - e.cut) (drop e.cut octets);
}

abbrev pub no_entry : Entry
no_entry = record { mark = 0; depth = 0; before = 0; start = 0; cut = 0; end = 0 }

abbrev pub entry_at : List Entry → ℕ → Entry
entry_at entries k = slice_index_or entries k no_entry

-- the octets of an entry lie within the run
pub record IsSpan (octets : List ℕ) (e : Entry) : Type 0 where
  pub first : e.start ≤ e.cut
  pub second : e.cut ≤ e.end
  pub within : e.end ≤ length octets

-- an entry of a bucket has the number behind the entry before it there, and how many there are before it; a pair whose
-- entry is of no bucket is found in order
pub record IsHeld (octets : List ℕ) (entries : List Entry) (rest : Named (BTreeMap (Vec ℕ Global) ℕ)) (bucket : ℕ → ℕ)
    (buckets k : ℕ) : Type 0 where
  pub span : IsSpan octets (entry_at entries k)
  pub mark : (entry_at entries k).mark ≡ mark_of (hash_of (pair_in octets (entry_at entries k)))
  pub own : number_in rest (pair_in octets (entry_at entries k)) ≡ None
      → bucket k ≡ bucket_of buckets (hash_of (pair_in octets (entry_at entries k)))
  pub before : bucket k < buckets → (entry_at entries k).before ≡ last_of bucket (bucket k) k
  pub depth : bucket k < buckets → (entry_at entries k).depth ≡ count_of bucket (bucket k) k
  pub short : (entry_at entries k).depth < LONGEST_CHAIN

-- entries in their buckets, of each of which the last one is known, and pairs in order with their numbers
pub record AreHeld (octets : List ℕ) (entries : List Entry) (lasts : List ℕ)
    (rest : Named (BTreeMap (Vec ℕ Global) ℕ)) : Type 0 where
  pub bucket : ℕ → ℕ
  pub some : 0 < length lasts
  pub buckets : length lasts ≤ 2 ^ 32
  pub few : length entries < 2 ^ 32
  pub each : (k : ℕ) → k < length entries → IsHeld octets entries rest bucket (length lasts) k
  pub last : (b : ℕ) → b < length lasts → slice_index lasts b ≡ last_of bucket b (length entries)
  pub numbers : (p : Pair) (n : ℕ) → number_in rest p ≡ Some n
      → (n < length entries) × (pair_in octets (entry_at entries n) ≡ p)
