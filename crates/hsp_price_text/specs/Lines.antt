-- What a line says, read from its front.
use Rattle.std.specs.Prelude.{◌==◌, ℕ, List, [], ◌∷◌, codes, Option, Some, None, option_map, if◌then◌else◌}
use Rattle.std.specs.Str.{bytes_eq}
use Rattle.hsp_cert.specs.Lexing.{cut, number_in}
use Rattle.hsp_price_text.specs.Claim.{Class, is_server}

-- the parts of a text between its spaces
abbrev pub with_octet : ℕ → List (List ℕ) → List (List ℕ)
with_octet x [] = (x ∷ []) ∷ []
with_octet x (part ∷ more) = (x ∷ part) ∷ more

abbrev pub parts : List ℕ → List (List ℕ)
parts [] = [] ∷ []
parts (x ∷ xs) = if x == 32 then [] ∷ parts xs else with_octet x (parts xs)

-- the numbers that parts spell, where each spells one
abbrev pub with_number : Option ℕ → Option (List ℕ) → Option (List ℕ)
with_number None numbers = None
with_number (Some n) None = None
with_number (Some n) (Some ns) = Some (n ∷ ns)

abbrev pub numbers_of : List (List ℕ) → Option (List ℕ)
numbers_of [] = Some []
numbers_of (part ∷ more) = with_number (number_in part) (numbers_of more)

abbrev pub numbers_in : List ℕ → Option (List ℕ)
numbers_in text = numbers_of (parts text)

-- the numbers of a text that may not be there
abbrev pub numbers_left : Option (List ℕ) → Option (List ℕ)
numbers_left None = None
numbers_left (Some rest) = numbers_in rest

-- the numbers behind a word
abbrev pub numbers_behind : List ℕ → List ℕ → Option (List ℕ)
numbers_behind word line = if bytes_eq (cut line).0 word then numbers_left (cut line).1 else None

-- one number behind a word, or two
abbrev pub only_one : Option (List ℕ) → Option ℕ
only_one (Some (a ∷ [])) = Some a
only_one numbers = None

abbrev pub only_two : Option (List ℕ) → Option (ℕ × ℕ)
only_two (Some (a ∷ b ∷ [])) = Some (a, b)
only_two numbers = None

-- servers and amounts by turns, as two lists, where each server is within its range
abbrev pub with_turn : ℕ → ℕ → Option (List ℕ × List ℕ) → Option (List ℕ × List ℕ)
with_turn a b None = None
with_turn a b (Some turns) = Some (a ∷ turns.0, b ∷ turns.1)

abbrev pub turns_of : List ℕ → Option (List ℕ × List ℕ)
turns_of [] = Some ([], [])
turns_of (a ∷ []) = None
turns_of (a ∷ b ∷ more) = if is_server a then with_turn a b (turns_of more) else None

abbrev pub turns_in : Option (List ℕ) → Option (List ℕ × List ℕ)
turns_in None = None
turns_in (Some numbers) = turns_of numbers

abbrev pub class_from : List ℕ → Option (List ℕ × List ℕ) → Option Class
class_from region turns =
    option_map (λ (t : List ℕ × List ℕ). record { region = region; servers = t.0; amounts = t.1 }) turns

-- the class of what stands behind its word
abbrev pub class_left : Option (List ℕ) → Option Class
class_left None = None
class_left (Some rest) = class_from (cut rest).0 (turns_in (numbers_left (cut rest).1))

abbrev pub class_in : List ℕ → Option Class
class_in line = if bytes_eq (cut line).0 (codes "class") then class_left (cut line).1 else None
