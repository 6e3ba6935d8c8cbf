-- The absolute value of a word in two's complement.
use Rattle.std.proofs.Common.{◌≡◌, ◌<◌, ◌^◌, ◌+◌, ◌∙◌, ℕ, inl, inr, ap, refl, arith, to_z, of_z, w32, List, length}
use Rattle.std.proofs.Common.{take, drop, length-drop, slice_index, ◌%◌, ℤ}
use Rattle.std.specs.Prelude.{unsigned_abs}
use Rattle.std.proofs.lemmas.Bool.{cases_lt, lt-ltb, le-ltb}
use Rattle.std.proofs.lemmas.Int.{of_z-to_z}
use Rattle.byteorder.specs.Endian.{big_number}
use Rattle.byteorder.specs.Numbers.{big_from-lt}
use Rattle.std.proofs.lemmas.List.{take_all}
use Rattle.std.proofs.lemmas.List.{get_or-drop}
use Rattle.hsp_hash.specs.Place.{absolute_value, place_of_digest}

-- the absolute value of a word, read with its sign
pub absolute : (v : ℕ) → v < 2 ^ 32 → unsigned_abs (to_z w32 v) ≡ absolute_value v
absolute v h = elim (cases_lt v (2 ^ 31)) [
  | inl below ↦ rw (lt-ltb v (2 ^ 31) below) refl
  | inr above ↦ rw (le-ltb v (2 ^ 31) above) (omega arith)
]

-- a word that is read with its sign and written again has the same absolute value
absolute_again : (v : ℕ) → v < 2 ^ 32 → unsigned_abs (to_z w32 (of_z w32 (to_z w32 v))) ≡ absolute_value v
absolute_again v h = rw (of_z-to_z w32 v h) (absolute v h)

-- the place, by what reading the word and its absolute value give
pub place_is : (octets : List ℕ) (number : ℤ) (size servers : ℕ) → length octets ≡ 16
    → ((k : ℕ) → slice_index octets k < 256) →
    number ≡ to_z w32 (big_number 4 (take 4 (drop 12 octets))) → size ≡ unsigned_abs (to_z w32 (of_z w32 number))
    → size % servers ≡ place_of_digest octets servers
place_is octets number size servers long fits read is =
    let last : take 4 (drop 12 octets) ≡ drop 12 octets =
    take_all 4 (drop 12 octets) (omega (arith, length-drop 12 octets, long)) in
    let small : big_number 4 (drop 12 octets) < 256 ^ 4 =
    big_from-lt 0 4 (drop 12 octets) (λ k. rw (get_or-drop 12 octets k 0) (fits (12 + k))) in
    let word = rw last at read in
    let value : size ≡ absolute_value (big_number 4 (drop 12 octets)) =
    rw word at is ∙ absolute_again (big_number 4 (drop 12 octets)) small in
    ap (λ v. v % servers) value
