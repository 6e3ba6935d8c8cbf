-- Whole numbers in texts: decimal digits, the most significant first, without sign and without a leading zero except
-- `0` itself. The digits of a number n are std's `decimal n`.
use Rattle.std.specs.Prelude.{◌≡◌, ◌<◌, ◌^◌, ◌↔◌, ◌==◌, ◌&&◌, ◌||◌, not, Bool, true, false, ℕ, List, [], ◌∷◌, length}
use Rattle.std.specs.Prelude.{nat_le, Result, Ok, Err, decimal, if◌then◌else◌}
use Rattle.std.specs.Str.{all_ascii_digits}
use Rattle.std.specs.Str.Parse.{digits_value}
use Rattle.hsp_text.specs.declared.whole.WholeFault.{WholeFault}
use Rattle.hsp_text.specs.declared.whole.WholeFault.TheVariants.{NotWhole, TooLarge}

-- whether a text is a whole number's
abbrev pub is_whole : List ℕ → Bool
is_whole [] = false
is_whole (d ∷ ds) = all_ascii_digits (d ∷ ds) && (not (d == 48) || length ds == 0)

-- the number where it is at most max
abbrev pub up_to : ℕ → ℕ → Result ℕ WholeFault
up_to max n = if nat_le n max then Ok n else Err TooLarge

-- the number that a text spells where it is at most max
abbrev pub whole_within : ℕ → List ℕ → Result ℕ WholeFault
whole_within max text = if is_whole text then up_to max (digits_value 10 text) else Err NotWhole

-- only the digits of a number spell it
abbrev pub DigitsSpellTheirNumber : Type 0
DigitsSpellTheirNumber =
    (n : ℕ) (text : List ℕ) → n < 2 ^ 64 → ((is_whole text ≡ true) × (digits_value 10 text ≡ n)) ↔ (text ≡ decimal n)
