-- What a line says, read from its front.
use Rattle.std.specs.Prelude.{◌==◌, ℕ, List, [], ◌∷◌, Option, Some, None, Result, Ok, Err, if◌then◌else◌}
use Rattle.std.specs.Str.{bytes_eq}
use Rattle.hsp_text.specs.declared.whole.WholeFault.{WholeFault}
use Rattle.hsp_text.specs.Whole.{whole_within}
use Rattle.hsp_cert.specs.declared.item.Word.{Word}
use Rattle.hsp_cert.specs.declared.item.Word.TheVariants as word
use Rattle.hsp_cert.specs.declared.item.Item.{Item}
use Rattle.hsp_cert.specs.declared.item.Item.TheVariants as item
use Rattle.hsp_cert.specs.Words.{spelled}

-- what stands before the first space, and what stands after it, if there is one
abbrev pub cut : List ℕ → List ℕ × Option (List ℕ)
cut [] = ([], None)
cut (x ∷ xs) = if x == 32 then ([], Some xs) else (x ∷ (cut xs).0, (cut xs).1)

abbrev pub words : List Word
words = word.Version ∷ word.Plan ∷ word.Shortage ∷ word.Cost ∷ word.Use ∷ word.Row ∷ word.Server ∷ word.Host
    ∷ word.Demand ∷ word.Capacity ∷ word.End ∷ []

-- the word among these that the octets spell
abbrev pub word_among : List Word → List ℕ → Option Word
word_among [] octets = None
word_among (w ∷ ws) octets = if bytes_eq octets (spelled w) then Some w else word_among ws octets

abbrev pub word_in : List ℕ → Option Word
word_in octets = word_among words octets

abbrev pub number_read : Result ℕ WholeFault → Option ℕ
number_read (Ok n) = Some n
number_read (Err e) = None

-- a number of 64 bits
abbrev pub number_in : List ℕ → Option ℕ
number_in octets = number_read (whole_within 18446744073709551615 octets)

abbrev pub after_third : Word → ℕ → ℕ → Option ℕ → Option Item
after_third w a b None = None
after_third w a b (Some c) = Some (item.Three w a b c)

abbrev pub after_second : Word → ℕ → Option ℕ → Option (List ℕ) → Option Item
after_second w a None rest = None
after_second w a (Some b) None = Some (item.Two w a b)
after_second w a (Some b) (Some rest) = after_third w a b (number_in rest)

abbrev pub after_first : Word → Option ℕ → Option (List ℕ) → Option Item
after_first w None rest = None
after_first w (Some a) None = Some (item.One w a)
after_first w (Some a) (Some rest) = after_second w a (number_in (cut rest).0) (cut rest).1

abbrev pub after_word : Option Word → Option (List ℕ) → Option Item
after_word None rest = None
after_word (Some w) None = Some (item.Alone w)
after_word (Some w) (Some rest) = after_first w (number_in (cut rest).0) (cut rest).1

abbrev pub item_in : List ℕ → Option Item
item_in line = after_word (word_in (cut line).0) (cut line).1
