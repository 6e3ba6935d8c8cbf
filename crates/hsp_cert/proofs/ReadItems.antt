-- Lines and the items that they say.
use Rattle.std.proofs.Common.{◌≡◌, ◌<◌, ◌≤◌, ◌^◌, ℕ, Bool, true, false, List, [], ◌∷◌, ◌++◌, Option, Some}
use Rattle.std.proofs.Common.{None, decimal, refl, sym, ap, ◌∙◌, arith, inl, inr, ◌⊎◌}
use Rattle.std.specs.Prelude.{if◌then◌else◌, nat_le}
use Rattle.std.specs.Str.{bytes_eq}
use Rattle.std.specs.List.{list_all}
use Rattle.std.specs.Cmp.Lexicographic.{same_text}
use Rattle.std.proofs.lemmas.Bool.{and_parts}
use Rattle.std.proofs.lemmas.Bool.Decides.{nat_tests}
use Rattle.hsp_cert.specs.declared.item.Word.{Word}
use Rattle.hsp_cert.specs.declared.item.Word.TheVariants as word
use Rattle.hsp_cert.specs.declared.item.Item.{Item}
use Rattle.hsp_cert.specs.declared.item.Item.TheVariants as item
use Rattle.hsp_cert.specs.Words.{spelled}
use Rattle.hsp_cert.specs.Text.{line_of}
use Rattle.hsp_cert.specs.Lexing.{cut, words, word_among, word_in, number_in, after_word, after_first}
use Rattle.hsp_cert.specs.Lexing.{after_second, after_third, item_in}
use Rattle.hsp_cert.proofs.SpelledNumbers.{Printed, printed_apart, number_named, number_back, decimal_spaceless}
use Rattle.hsp_cert.proofs.SpacedText.{NoSpace, cut_spaced, cut_whole, rejoined, cut_rejoined}

-- ---- what a line that is read spells

-- a word that was chosen is this one or one of the others
chosen : (b : Bool) (v w : Word) (r : Option Word) → (if b then Some v else r) ≡ Some w
    → ((b ≡ true) × (v ≡ w)) ⊎ (r ≡ Some w)
chosen true v w r h = inl (refl, cc)
chosen false v w r h = inr h

-- a word that was found is spelled so
word_named : (ws : List Word) (o : List ℕ) (w : Word) → word_among ws o ≡ Some w → o ≡ spelled w
word_named [] o w h = absurd cc
word_named (v ∷ ws) o w h = elim (chosen (bytes_eq o (spelled v)) v w (word_among ws o) h) [
  | inl (told, same) ↦ same_text o (spelled v) (sym told) ∙ ap spelled same
  | inr later ↦ word_named ws o w later
]

-- three numbers behind a word say an item whose line they are
third_says : (w : Word) (a b : ℕ) (x : List ℕ) (o : Option ℕ) (i : Item) → ((n : ℕ) → o ≡ Some n → x ≡ decimal n)
    → after_third w a b o ≡ Some i →
    spelled w ++ 32 ∷ (decimal a ++ 32 ∷ (decimal b ++ 32 ∷ x)) ≡ line_of i
third_says w a b x None i named h = absurd cc
third_says w a b x (Some c) i named h =
    let same : item.Three w a b c ≡ i = cc in
    ap (λ (t : List ℕ). spelled w ++ 32 ∷ (decimal a ++ 32 ∷ (decimal b ++ 32 ∷ t))) (named c refl) ∙ ap line_of same

-- two numbers behind a word, and what follows them, say an item whose line they are
second_says : (w : Word) (a : ℕ) (x : List ℕ) (o : Option ℕ) (r : Option (List ℕ)) (i : Item)
    → ((n : ℕ) → o ≡ Some n → x ≡ decimal n) → after_second w a o r ≡ Some i →
    spelled w ++ 32 ∷ (decimal a ++ 32 ∷ rejoined x r) ≡ line_of i
second_says w a x None r i named h = absurd cc
second_says w a x (Some b) None i named h =
    let same : item.Two w a b ≡ i = cc in
    ap (λ (t : List ℕ). spelled w ++ 32 ∷ (decimal a ++ 32 ∷ t)) (named b refl) ∙ ap line_of same
second_says w a x (Some b) (Some rest) i named h =
    ap (λ (t : List ℕ). spelled w ++ 32 ∷ (decimal a ++ 32 ∷ (t ++ 32 ∷ rest))) (named b refl)
    ∙ third_says w a b rest (number_in rest) i (number_named rest) h

-- a number behind a word, and what follows it, say an item whose line they are
first_says : (w : Word) (x : List ℕ) (o : Option ℕ) (r : Option (List ℕ)) (i : Item)
    → ((n : ℕ) → o ≡ Some n → x ≡ decimal n) → after_first w o r ≡ Some i →
    spelled w ++ 32 ∷ rejoined x r ≡ line_of i
first_says w x None r i named h = absurd cc
first_says w x (Some a) None i named h =
    let same : item.One w a ≡ i = cc in
    ap (λ (t : List ℕ). spelled w ++ 32 ∷ t) (named a refl) ∙ ap line_of same
first_says w x (Some a) (Some rest) i named h =
    ap (λ (t : List ℕ). spelled w ++ 32 ∷ (t ++ 32 ∷ rest)) (named a refl)
    ∙ ap (λ (t : List ℕ). spelled w ++ 32 ∷ (decimal a ++ 32 ∷ t)) (cut_rejoined rest)
    ∙ second_says w a (cut rest).0 (number_in (cut rest).0) (cut rest).1 i (number_named (cut rest).0) h

-- a word and what follows it say an item whose line they are
word_says : (x : List ℕ) (o : Option Word) (r : Option (List ℕ)) (i : Item) → ((w : Word) → o ≡ Some w → x ≡ spelled w)
    → after_word o r ≡ Some i → rejoined x r ≡ line_of i
word_says x None r i named h = absurd cc
word_says x (Some w) None i named h = let same : item.Alone w ≡ i = cc in named w refl ∙ ap line_of same
word_says x (Some w) (Some rest) i named h =
    ap (λ (t : List ℕ). t ++ 32 ∷ rest) (named w refl) ∙ ap (λ (t : List ℕ). spelled w ++ 32 ∷ t) (cut_rejoined rest)
    ∙ first_says w (cut rest).0 (number_in (cut rest).0) (cut rest).1 i (number_named (cut rest).0) h

-- the item that is read of a line is spelled by it
pub item_spelled : (line : List ℕ) (i : Item) → item_in line ≡ Some i → line ≡ line_of i
item_spelled line i h =
    cut_rejoined line ∙ word_says (cut line).0 (word_in (cut line).0) (cut line).1 i (word_named words (cut line).0) h

-- ---- what is read of a line that is spelled

-- octets from 48 on are printed ones
printed : (xs : List ℕ) → list_all (nat_le 48) xs ≡ true → Printed xs
printed [] h = tt
printed (x ∷ xs) h =
    let p = and_parts (nat_le 48 x) (list_all (nat_le 48) xs) h in
    let le : 48 ≤ x = let t = p.0 in grind (arith, nat_tests) in
    (le, printed xs p.1)

-- a word is printed
pub word_printed : (w : Word) → Printed (spelled w)
word_printed word.Version = printed (spelled word.Version) refl
word_printed w = printed (spelled w) refl

-- a word has no space
word_spaceless : (w : Word) → NoSpace (spelled w)
word_spaceless w = printed_apart 32 (omega arith) (spelled w) (word_printed w)

-- each word is found by its spelling
word_back : (w : Word) → word_in (spelled w) ≡ Some w
word_back word.Version = refl
word_back w = refl

-- every number is one of 64 bits
abbrev pub Fits : Item → Type 0
Fits (item.Alone w) = Unit {0}
Fits (item.One w a) = a < 2 ^ 64
Fits (item.Two w a b) = (a < 2 ^ 64) × (b < 2 ^ 64)
Fits (item.Three w a b c) = (a < 2 ^ 64) × (b < 2 ^ 64) × (c < 2 ^ 64)

-- the line of an item says that item
pub reads_back : (i : Item) → Fits i → item_in (line_of i) ≡ Some i
reads_back (item.Alone w) h = rw (cut_whole (spelled w) (word_spaceless w), word_back w) refl
reads_back (item.One w a) h =
    rw (
      cut_spaced (spelled w) (decimal a) (word_spaceless w),
      word_back w,
      cut_whole (decimal a) (decimal_spaceless a h),
      number_back a h,
    ) refl
reads_back (item.Two w a b) h =
    rw (
      cut_spaced (spelled w) (decimal a ++ 32 ∷ decimal b) (word_spaceless w),
      word_back w,
      cut_spaced (decimal a) (decimal b) (decimal_spaceless a h.0),
      number_back a h.0,
      cut_whole (decimal b) (decimal_spaceless b h.1),
      number_back b h.1,
    ) refl
reads_back (item.Three w a b c) h =
    rw (
      cut_spaced (spelled w) (decimal a ++ 32 ∷ (decimal b ++ 32 ∷ decimal c)) (word_spaceless w),
      word_back w,
      cut_spaced (decimal a) (decimal b ++ 32 ∷ decimal c) (decimal_spaceless a h.0),
      number_back a h.0,
      cut_spaced (decimal b) (decimal c) (decimal_spaceless b h.1),
      number_back b h.1,
      number_back c h.2,
    ) refl
