-- Numerals: digits and the number that they spell.
use Rattle.std.proofs.Common.{◌≡◌, ◌<◌, ◌≤◌, ◌*◌, ◌+◌, ◌-◌, ◌/◌, ◌%◌, ◌^◌, ◌∙◌, ◌++◌, ◌==◌, ℕ, Bool, true, not, List}
use Rattle.std.proofs.Common.{[], ◌∷◌, length, length-append, decimal, get_or, ap, sym, refl, arith, drop, suc, inl}
use Rattle.std.proofs.Common.{inr, Err}
use Rattle.std.specs.Prelude.{◌||◌}
use Rattle.std.specs.Str.{all_ascii_digits}
use Rattle.std.specs.Str.Parse.{digits_value, digits_value_after}
use Rattle.std.proofs.lemmas.Fmt.{decimal_is_IsNumeral, decimal-digits_value, decimal_digit, decimal_step}
use Rattle.std.proofs.lemmas.Fmt.{first_decimal, length-decimal-le, decimal_step_wide, length-decimal-le_wide}
use Rattle.std.proofs.lemmas.Str.Parse.{IsNumeralModel, numerals_by_value, tells_all_ascii_digits}
use Rattle.std.proofs.lemmas.Str.{digit_value_digit}
use Rattle.std.proofs.Math.Seq.{drop-cons}
use Rattle.std.proofs.lemmas.Bool.{eq-eqb, ne_eqb, eqb-true, lt-leb, and_parts, and_from, or_cases, or_left, or_right}
use Rattle.std.proofs.lemmas.Bool.{both_ways, not_from_true, not_from_false, cases_eq, cases_lt}
use Rattle.std.specs.Char.{digit_value}
use Rattle.hsp_text.specs.declared.whole.WholeFault.TheVariants.{TooLarge}
use Rattle.hsp_text.specs.Whole.{is_whole, whole_within, DigitsSpellTheirNumber}

-- texts of ASCII digits and what they spell make a model of numerals
ascii : IsNumeralModel (λ ds. all_ascii_digits ds ≡ true) (digits_value 10)
ascii = numerals_by_value (λ ds. all_ascii_digits ds ≡ true) tells_all_ascii_digits

-- more digits make no smaller number
number_grows : (n : ℕ) (ds : List ℕ) → n ≤ digits_value_after 10 n ds
number_grows n [] = omega arith
number_grows n (d ∷ ds) = omega (arith, number_grows (n * 10 + digit_value d) ds)

-- a number of 64 bits has at most twenty digits
pub at_most_twenty : (n : ℕ) → n < 2 ^ 64 → length (decimal n) ≤ 20
at_most_twenty n h = length-decimal-le 20 n (omega arith) (omega arith) h

-- the last digit stands behind those of the tenth
pub last_digit : (n : ℕ) → 10 ≤ n → n < 2 ^ 64
    → (decimal n ≡ decimal (n / 10) ++ (48 + n % 10) ∷ []) × (length (decimal n) ≡ length (decimal (n / 10)) + 1)
last_digit n low high =
    let e = decimal_step n low high in (e, ap length e ∙ length-append (decimal (n / 10)) ((48 + n % 10) ∷ []))

-- a number of 128 bits has at most 39 digits, and its last digit stands behind those of the tenth
pub at_most_39 : (n : ℕ) → n < 2 ^ 128 → length (decimal n) ≤ 39
at_most_39 n h = length-decimal-le_wide 39 n (omega arith) (omega arith) (omega arith)

-- a number of up to 128 bits is written as its tenth part and its last digit
pub last_digit_wide : (n : ℕ) → 10 ≤ n → n < 2 ^ 128
    → (decimal n ≡ decimal (n / 10) ++ (48 + n % 10) ∷ []) × (length (decimal n) ≡ length (decimal (n / 10)) + 1)
last_digit_wide n low high =
    let e =
    decimal_step_wide n low (omega arith) in
    (e, ap length e ∙ length-append (decimal (n / 10)) ((48 + n % 10) ∷ []))

-- a number above the limit is too large
above_limit : (max : ℕ) (text : List ℕ) → is_whole text ≡ true → max < digits_value 10 text
    → whole_within max text ≡ Err TooLarge
above_limit max text w h = rw (w, lt-leb (digits_value 10 text) max h) refl

-- digits that have passed the limit are those of a number above it
passes_limit : (max n : ℕ) (text rest : List ℕ) → is_whole text ≡ true
    → digits_value_after 10 n rest ≡ digits_value 10 text → max < n → whole_within max text ≡ Err TooLarge
passes_limit max n text rest w e h = above_limit max text w (let g = number_grows n rest in omega (arith, e, g))

-- the loop stops too large where one digit more passes the limit
pub passes_limit_at : (max n i : ℕ) (whole : Bool) (text : List ℕ) → whole ≡ is_whole text → whole ≡ true
    → i < length text → all_ascii_digits (drop i text) ≡ true →
    digits_value_after 10 n (drop i text) ≡ digits_value 10 text → max < n * 10 + (get_or text i 0 - 48)
    → whole_within max text ≡ Err TooLarge
passes_limit_at max n i whole text same w l a e h =
    let split = drop-cons text i 0 l in
    let digit = rw split at a in
    let range = (tells_all_ascii_digits.parts (get_or text i 0) (drop (suc i) text) digit).0 in
    let value = digit_value_digit (get_or text i 0) range in
    passes_limit max (n * 10 + digit_value (get_or text i 0)) text (drop (suc i) text) (sym same ∙ w) (rw split at e)
    (omega arith)

-- what a text of a whole number has
parts : (text : List ℕ) → is_whole text ≡ true
    → (0 < length text) × (all_ascii_digits text ≡ true) × (get_or text 0 0 ≡ 48 → length text ≡ 1)
parts [] w = absurd cc
parts (d ∷ ds) w =
    let both = and_parts (all_ascii_digits (d ∷ ds)) (not (d == 48) || length ds == 0) w in (
      omega arith,
      both.0,
      λ zero. elim (or_cases (not (d == 48)) (length ds == 0) both.1) [
        | inl other ↦ absurd (both_ways (not (d == 48)) (not_from_true (d == 48) (eq-eqb d 48 zero)) other)
        | inr none ↦ omega (arith, eqb-true (length ds) 0 none)
      ],
    )

-- a whole text is the decimal of the number that it spells
whole_is_decimal : (text : List ℕ) → is_whole text ≡ true → digits_value 10 text < 2 ^ 64
    → text ≡ decimal (digits_value 10 text)
whole_is_decimal text w h = let p = parts text w in sym (decimal-digits_value ascii text p.1 p.0 p.2 h)

-- digits that do not begin with a zero, or one digit, are a whole text
whole_from_parts : (text : List ℕ) → 0 < length text → all_ascii_digits text ≡ true
    → (get_or text 0 0 ≡ 48 → length text ≡ 1) → is_whole text ≡ true
whole_from_parts [] h w z = absurd (omega arith)
whole_from_parts (d ∷ ds) h w z =
    and_from (all_ascii_digits (d ∷ ds)) (not (d == 48) || length ds == 0) w (elim (cases_eq d 48) [
      | inl zero ↦ or_right (not (d == 48)) (length ds == 0) (eq-eqb (length ds) 0 (omega (arith, z zero)))
      | inr other ↦ or_left (not (d == 48)) (length ds == 0) (not_from_false (d == 48) (ne_eqb d 48 other))
    ])

-- the decimal of a number is a whole text
decimal_is_whole : (n : ℕ) → n < 2 ^ 64 → is_whole (decimal n) ≡ true
decimal_is_whole n h =
    let numeral = decimal_is_IsNumeral n h in
    whole_from_parts (decimal n) numeral.0.0 (ascii.from (decimal n) numeral.0.1) (λ zero. elim (cases_lt 0 n) [
      | inl above ↦ absurd (omega (arith, first_decimal n above h, zero))
      | inr below ↦ let none : n ≡ 0 = omega arith in rw (none, decimal_digit 0 (omega arith)) refl
    ])

-- a decimal is read back as its number
pub digits_spell_their_number : DigitsSpellTheirNumber
digits_spell_their_number n text h = (
  λ (whole, value). whole_is_decimal text whole (rw value h) ∙ ap decimal value,
  λ spelled. rw spelled (decimal_is_whole n h, (decimal_is_IsNumeral n h).1),
)
