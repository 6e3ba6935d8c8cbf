-- Numbers as digits: what a decimal spells is read back, and its octets are digits.
use Rattle.std.proofs.Common.{◌≡◌, ◌<◌, ◌≤◌, ◌^◌, ◌%◌, ◌+◌, ℕ, Bool, true, false, List, [], ◌∷◌, ◌++◌, Some, decimal}
use Rattle.std.proofs.Common.{refl, arith, Ok, Err}
use Rattle.std.specs.Prelude.{if◌then◌else◌, nat_le}
use Rattle.std.specs.Str.Parse.{digits_value}
use Rattle.std.specs.List.{AllByRecursion}
use Rattle.std.proofs.lemmas.Fmt.{decimal_by_steps}
use Rattle.std.proofs.lemmas.Bool.Decides.{nat_tests}
use Rattle.hsp_text.specs.declared.whole.WholeFault.TheVariants.{NotWhole, TooLarge}
use Rattle.hsp_text.specs.Whole.{is_whole}
use Rattle.hsp_text.proofs.Numerals.{digits_spell_their_number}
use Rattle.hsp_cert.specs.Lexing.{number_read, number_in}
use Rattle.hsp_cert.proofs.LineCuts.{Unbroken}
use Rattle.hsp_cert.proofs.SpacedText.{NoSpace}

-- ---- the number that is read

-- a number that was read is whole and within its limit
read_parts : (w l : Bool) (v n : ℕ)
    → number_read (if w then (if l then Ok v else Err TooLarge) else Err NotWhole) ≡ Some n
    → (w ≡ true) × (l ≡ true) × (v ≡ n)
read_parts true true v n h = (refl, refl, cc)
read_parts true false v n h = absurd cc
read_parts false l v n h = absurd cc

-- a number that passes the test fits in 64 bits
below : (n : ℕ) → nat_le n 18446744073709551615 ≡ true → n < 2 ^ 64
below n h = let le : n ≤ 18446744073709551615 = grind (arith, nat_tests) in omega arith

-- a number that fits in 64 bits passes the test
fits_64 : (n : ℕ) → n < 2 ^ 64 → nat_le n 18446744073709551615 ≡ true
fits_64 n h = let le : n ≤ 18446744073709551615 = omega arith in grind (arith, nat_tests)

-- a number that was read is spelled so
pub number_named : (o : List ℕ) (n : ℕ) → number_in o ≡ Some n → o ≡ decimal n
number_named o n h =
    let p = read_parts (is_whole o) (nat_le (digits_value 10 o) 18446744073709551615) (digits_value 10 o) n h in
    let small : n < 2 ^ 64 = omega (arith, below (digits_value 10 o) p.1, p.2) in
    (digits_spell_their_number n o small).0 (p.0, p.2)

-- each number is read back from its decimal
pub number_back : (n : ℕ) → n < 2 ^ 64 → number_in (decimal n) ≡ Some n
number_back n h = let s = (digits_spell_their_number n (decimal n) h).1 refl in rw (s.0, s.1, fits_64 n h) refl

-- ---- the octets of a decimal

-- each octet is at least that of the digit 0, as those of letters and digits are
abbrev pub Printed : List ℕ → Type 0
Printed xs = AllByRecursion (λ x. 48 ≤ x) xs

-- printed octets stay so by one more
printed_push : (xs : List ℕ) (x : ℕ) → Printed xs → 48 ≤ x → Printed (xs ++ x ∷ [])
printed_push [] x h le = (le, tt)
printed_push (y ∷ xs) x h le = (h.0, printed_push xs x h.1 le)

-- a decimal is printed
pub decimal_printed : (n : ℕ) → n < 2 ^ 64 → Printed (decimal n)
decimal_printed n h =
    decimal_by_steps (λ _ ds. Printed ds) (λ k lt. (omega arith, tt))
    (λ k ds le g. printed_push ds (48 + k % 10) g (omega arith)) n h

-- no octet is one below them, as a space or an LF
pub printed_apart : (c : ℕ) → c < 48 → (xs : List ℕ) → Printed xs → AllByRecursion (λ x. x ≡ c → ⊥) xs
printed_apart c lt [] h = tt
printed_apart c lt (x ∷ xs) h = let le = h.0 in ((λ e. omega arith), printed_apart c lt xs h.1)

-- a decimal has no space
pub decimal_spaceless : (n : ℕ) → n < 2 ^ 64 → NoSpace (decimal n)
decimal_spaceless n h = printed_apart 32 (omega arith) (decimal n) (decimal_printed n h)

-- nor a line feed
pub decimal_unbroken : (n : ℕ) → n < 2 ^ 64 → Unbroken (decimal n)
decimal_unbroken n h = printed_apart 10 (omega arith) (decimal n) (decimal_printed n h)
