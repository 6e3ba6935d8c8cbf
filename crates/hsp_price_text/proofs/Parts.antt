-- The parts of a text between its spaces, and the numbers that they spell.
use Rattle.std.proofs.Common.{◌≡◌, ◌<◌, ◌^◌, ℕ, Bool, true, false, List, [], ◌∷◌, ◌++◌, length, Option, Some}
use Rattle.std.proofs.Common.{None, decimal, refl, sym, ap, ◌∙◌, arith, eq-eqb, inl, inr, append_assoc}
use Rattle.std.proofs.Common.{append-nil, length-append}
use Rattle.std.specs.Prelude.{if◌then◌else◌}
use Rattle.std.specs.List.{AllByRecursion, list_all}
use Rattle.std.specs.Str.{bytes_eq}
use Rattle.std.proofs.lemmas.Bool.{and_parts, ne_eqb, cases_eq}
use Rattle.std.proofs.lemmas.Slice.Eq.{bytes_eq-Decides}
use Rattle.hsp_cert.specs.Lexing.{cut, number_in}
use Rattle.hsp_cert.proofs.SpelledNumbers.{decimal_spaceless, number_back, number_named}
use Rattle.hsp_cert.proofs.SpacedText.{NoSpace, cut_rejoined, cut_spaced, cut_whole, rejoined}
use Rattle.hsp_price_text.specs.Claim.{is_server}
use Rattle.hsp_price_text.specs.Lines.{numbers_behind, numbers_in, numbers_left, numbers_of, parts, turns_of}
use Rattle.hsp_price_text.specs.Lines.{with_number, with_octet, with_turn}
use Rattle.hsp_price_text.specs.Text.{in_turn, numbered, spaced}

-- ---- parts and cuts

-- the parts of a text that may not be there
abbrev parts_left : Option (List ℕ) → List (List ℕ)
parts_left None = []
parts_left (Some rest) = parts rest

-- the first part ends at the first space
parts_cut : (t : List ℕ) → parts t ≡ (cut t).0 ∷ parts_left (cut t).1
parts_cut [] = refl
parts_cut (x ∷ t) = elim (cases_eq x 32) [
  | inl space ↦ rw (eq-eqb x 32 space) refl
  | inr other ↦ rw (ne_eqb x 32 other) (ap (with_octet x) (parts_cut t))
]

-- the numbers behind a first one, where there are more
abbrev pub numbers_after : Option (List ℕ) → Option (List ℕ)
numbers_after None = Some []
numbers_after (Some rest) = numbers_in rest

-- numbers before others
abbrev pub numbers_before : List ℕ → Option (List ℕ) → Option (List ℕ)
numbers_before ns None = None
numbers_before ns (Some ms) = Some (ns ++ ms)

-- the numbers of parts are those of the first part and of what is left
numbers_parts : (part : List ℕ) (left : Option (List ℕ))
    → numbers_of (part ∷ parts_left left) ≡ with_number (number_in part) (numbers_after left)
numbers_parts part None = refl
numbers_parts part (Some rest) = refl

-- so are those of a text
pub numbers_cut : (t : List ℕ) → numbers_in t ≡ with_number (number_in (cut t).0) (numbers_after (cut t).1)
numbers_cut t = ap numbers_of (parts_cut t) ∙ numbers_parts (cut t).0 (cut t).1

-- what stands behind a part is shorter
pub cut_shorter : (t a rest : List ℕ) → cut t ≡ (a, Some rest) → length rest < length t
cut_shorter t a rest h =
    let whole : t ≡ a ++ 32 ∷ rest =
    cut_rejoined t ∙ ap (λ (c : List ℕ × Option (List ℕ)). rejoined c.0 c.1) h in
    omega (arith, ap length whole, length-append a (32 ∷ rest))

-- ---- numbers, part by part: these were read before what is left of the text

module _ (text ns t a : List ℕ) (left : Option (List ℕ)) (so_far : numbers_in text ≡ numbers_before ns (numbers_in t))
    (at : cut t ≡ (a, left)) where
  -- the text's numbers are these, that of the next part, and those behind it
  here : numbers_in text ≡ numbers_before ns (with_number (number_in a) (numbers_after left))
  here =
      so_far
      ∙ ap (numbers_before ns) (numbers_cut t
      ∙ ap (λ (c : List ℕ × Option (List ℕ)). with_number (number_in c.0) (numbers_after c.1)) at)

  -- a part that is no number
  pub none_here : None ≡ number_in a → None ≡ numbers_in text
  none_here none = sym (here ∙ ap (λ n. numbers_before ns (with_number n (numbers_after left))) (sym none))

  -- one number more before what is left
  pub one_more : (n : ℕ) → Some n ≡ number_in a
      → numbers_in text ≡ numbers_before (ns ++ n ∷ []) (numbers_after left)
  one_more n one =
      here ∙ ap (λ o. numbers_before ns (with_number o (numbers_after left))) (sym one) ∙ at-end (numbers_after left)
    where
      at-end : (o : Option (List ℕ)) → numbers_before ns (with_number (Some n) o) ≡ numbers_before (ns ++ n ∷ []) o
      at-end None = refl
      at-end (Some ms) = ap (λ (l : List ℕ). Some l) (sym (append_assoc ns (n ∷ []) ms))

-- ---- servers and amounts by turns

-- turns before others
abbrev pub turns_before : List ℕ → List ℕ → Option (List ℕ × List ℕ) → Option (List ℕ × List ℕ)
turns_before servers amounts None = None
turns_before servers amounts (Some turns) = Some (servers ++ turns.0, amounts ++ turns.1)

-- ---- what is read of numbers that are spelled, and what spells numbers that are read

-- a number is one of 64 bits
abbrev pub Fits : ℕ → Type 0
Fits n = n < 2 ^ 64

-- numbers that are spelled are read back
pub numbers_back : (n : ℕ) (ns : List ℕ) → Fits n → AllByRecursion Fits ns
    → numbers_in (decimal n ++ spaced ns) ≡ Some (n ∷ ns)
numbers_back n [] h hs =
    numbers_cut (decimal n ++ [])
    ∙ rw (append-nil (decimal n), cut_whole (decimal n) (decimal_spaceless n h), number_back n h) refl
numbers_back n (m ∷ ms) h hs =
    numbers_cut (decimal n ++ spaced (m ∷ ms))
    ∙ rw (
      cut_spaced (decimal n) (decimal m ++ spaced ms) (decimal_spaceless n h),
      number_back n h,
      numbers_back m ms hs.0 hs.1,
    ) refl

-- so are those behind a word
pub behind_back : (word : List ℕ) (n : ℕ) (ns : List ℕ) → NoSpace word → Fits n → AllByRecursion Fits ns
    → numbers_behind word (numbered word (n ∷ ns)) ≡ Some (n ∷ ns)
behind_back word n ns apart h hs =
    rw (cut_spaced word (decimal n ++ spaced ns) apart, (bytes_eq-Decides word word).1 refl) (numbers_back n ns h hs)

-- parts, each behind a space
abbrev joined : List (List ℕ) → List ℕ
joined [] = []
joined (part ∷ more) = 32 ∷ (part ++ joined more)

-- a text is its parts
joined_parts : (t : List ℕ) → 32 ∷ t ≡ joined (parts t)
joined_parts [] = refl
joined_parts (x ∷ t) = elim (cases_eq x 32) [
  | inl space ↦ rw (eq-eqb x 32 space) (ap (λ (y : ℕ). 32 ∷ y ∷ t) space ∙ ap (λ (l : List ℕ). 32 ∷ l) (joined_parts t))
  | inr other ↦ rw (ne_eqb x 32 other) (longer (parts t) (joined_parts t))
]
  where
    longer : (ps : List (List ℕ)) → 32 ∷ t ≡ joined ps → 32 ∷ x ∷ t ≡ joined (with_octet x ps)
    longer [] h = absurd cc
    longer (p ∷ ps) h = let tails : t ≡ p ++ joined ps = cc in ap (λ (l : List ℕ). 32 ∷ x ∷ l) tails

-- numbers that were read are spelled so
numbers_named : (ps : List (List ℕ)) (ns : List ℕ) → numbers_of ps ≡ Some ns → joined ps ≡ spaced ns
numbers_named [] ns h = let none : [] ≡ ns = cc in ap spaced none
numbers_named (p ∷ ps) ns h = by (number_in p) refl (numbers_of ps) (λ ms e. numbers_named ps ms e) h
  where
    by : (o : Option ℕ) → number_in p ≡ o → (more : Option (List ℕ))
        → ((ms : List ℕ) → more ≡ Some ms → joined ps ≡ spaced ms)
        → with_number o more ≡ Some ns → 32 ∷ (p ++ joined ps) ≡ spaced ns
    by None e more f g = absurd cc
    by (Some n) e None f g = absurd cc
    by (Some n) e (Some ms) f g =
        let all : n ∷ ms ≡ ns = cc in
        ap (λ (l : List ℕ). 32 ∷ (l ++ joined ps)) (number_named p n e)
        ∙ ap (λ (l : List ℕ). 32 ∷ (decimal n ++ l)) (f ms refl)
        ∙ ap spaced all

-- so are those of a text, behind a space
pub text_named : (t : List ℕ) (ns : List ℕ) → numbers_in t ≡ Some ns → 32 ∷ t ≡ spaced ns
text_named t ns h = joined_parts t ∙ numbers_named (parts t) ns h

-- and those behind a word
pub behind_named : (word line ns : List ℕ) → numbers_behind word line ≡ Some ns → line ≡ numbered word ns
behind_named word line ns h = by (bytes_eq (cut line).0 word) refl (cut line).1 refl h
  where
    by : (t : Bool) → bytes_eq (cut line).0 word ≡ t → (left : Option (List ℕ)) → (cut line).1 ≡ left
        → (if t then numbers_left left else None) ≡ Some ns → line ≡ numbered word ns
    by false e left f g = absurd cc
    by true e None f g = absurd cc
    by true e (Some rest) f g =
        cut_rejoined line ∙ ap (rejoined (cut line).0) f
        ∙ ap (λ (w : List ℕ). w ++ 32 ∷ rest) ((bytes_eq-Decides (cut line).0 word).0 e)
        ∙ ap (λ (l : List ℕ). word ++ l) (text_named rest ns g)

-- ---- turns

-- servers and amounts by turns are read back
pub turns_back : (servers amounts : List ℕ) → length amounts ≡ length servers → list_all is_server servers ≡ true
    → turns_of (in_turn servers amounts) ≡ Some (servers, amounts)
turns_back [] [] l h = refl
turns_back [] (b ∷ amounts) l h = absurd (omega (arith, l))
turns_back (a ∷ servers) [] l h = absurd (omega (arith, l))
turns_back (a ∷ servers) (b ∷ amounts) l h =
    let p = and_parts (is_server a) (list_all is_server servers) h in
    rw (p.0, turns_back servers amounts (omega (arith, l)) p.1) refl

-- and what was read is spelled so
pub turns_named : (ns : List ℕ) (t : List ℕ × List ℕ) → turns_of ns ≡ Some t → ns ≡ in_turn t.0 t.1
turns_named [] t h = let none : ([], []) ≡ t = cc in ap (λ (u : List ℕ × List ℕ). in_turn u.0 u.1) none
turns_named (a ∷ []) t h = absurd cc
turns_named (a ∷ b ∷ ns) t h = by (is_server a) (turns_of ns) (λ u e. turns_named ns u e) h
  where
    by : (s : Bool) (more : Option (List ℕ × List ℕ))
        → ((u : List ℕ × List ℕ) → more ≡ Some u → ns ≡ in_turn u.0 u.1)
        → (if s then with_turn a b more else None) ≡ Some t → a ∷ b ∷ ns ≡ in_turn t.0 t.1
    by false more e h = absurd cc
    by true None e h = absurd cc
    by true (Some u) e h =
        let all : (a ∷ u.0, b ∷ u.1) ≡ t = cc in
        ap (λ (l : List ℕ). a ∷ b ∷ l) (e u refl) ∙ ap (λ (u : List ℕ × List ℕ). in_turn u.0 u.1) all
