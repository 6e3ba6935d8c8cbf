-- The text of lines, and that a text is cut into lines in one way.
use Rattle.std.proofs.Common.{◌≡◌, ℕ, suc, List, [], ◌∷◌, ◌++◌, refl, sym, ap, ◌∙◌, arith, inl, inr, ◌⊎◌, append_assoc}
use Rattle.std.specs.List.{AllByRecursion}
use Rattle.hsp_text.specs.Lines.{IsUnbroken}
use Rattle.hsp_cert.specs.Text.{unlines}

-- no octet is an LF
abbrev pub Unbroken : List ℕ → Type 0
Unbroken xs = AllByRecursion (λ x. x ≡ 10 → ⊥) xs

-- a line without a line feed is one by recursion
pub by_recursion : (xs : List ℕ) → IsUnbroken xs → Unbroken xs
by_recursion [] h = tt
by_recursion (x ∷ xs) h = (h 0 (omega arith), by_recursion xs (λ k lt. h (suc k) (omega arith)))

-- two lines that begin one text
pub same_line : (a b x y : List ℕ) → Unbroken a → Unbroken b → a ++ 10 ∷ x ≡ b ++ 10 ∷ y → (a ≡ b) × (x ≡ y)
same_line [] [] x y ha hb e = (refl, cc)
same_line [] (b ∷ q) x y ha hb e = let at : b ≡ 10 = cc in absurd (hb.0 at)
same_line (a ∷ p) [] x y ha hb e = let at : a ≡ 10 = cc in absurd (ha.0 at)
same_line (a ∷ p) (b ∷ q) x y ha hb e =
    let heads : a ≡ b = cc in
    let tails : p ++ 10 ∷ x ≡ q ++ 10 ∷ y = cc in
    let r = same_line p q x y ha.1 hb.1 tails in
    (ap (λ (k : ℕ). k ∷ p) heads ∙ ap (λ (l : List ℕ). b ∷ l) r.0, r.1)

-- a line begins no text without LF
pub no_line : (l rest t : List ℕ) → Unbroken t → l ++ 10 ∷ rest ≡ t → ⊥
no_line [] rest [] h e = cc
no_line (x ∷ l) rest [] h e = cc
no_line [] rest (y ∷ t) h e = let at : y ≡ 10 = cc in h.0 at
no_line (x ∷ l) rest (y ∷ t) h e = let tails : l ++ 10 ∷ rest ≡ t = cc in no_line l rest t h.1 tails

-- the first of some lines, and what follows it
pub first_line : (l : List ℕ) (ls : List (List ℕ)) (x : List ℕ) → unlines (l ∷ ls) ++ x ≡ l ++ 10 ∷ (unlines ls ++ x)
first_line l ls x = append_assoc l (10 ∷ unlines ls) x

-- the texts of two lists of lines stand one after the other
pub unlines-append : (xs ys : List (List ℕ)) → unlines (xs ++ ys) ≡ unlines xs ++ unlines ys
unlines-append [] ys = refl
unlines-append (x ∷ xs) ys =
    ap (λ (t : List ℕ). x ++ 10 ∷ t) (unlines-append xs ys) ∙ sym (append_assoc x (10 ∷ unlines xs) (unlines ys))

-- some lines go on to others in a text
abbrev pub GoesOn : List (List ℕ) → List (List ℕ) → List ℕ → List ℕ → Type 0
GoesOn ls ms x y = (more : List (List ℕ)) × (ms ≡ ls ++ more) × (x ≡ unlines more ++ y)

-- of two ways to cut a text into lines, one goes on from the other
pub fronts : (ls ms : List (List ℕ)) (x y : List ℕ) → AllByRecursion Unbroken ls → AllByRecursion Unbroken ms
    → unlines ls ++ x ≡ unlines ms ++ y → GoesOn ls ms x y ⊎ GoesOn ms ls y x
fronts [] ms x y hl hm e = inl (ms, refl, e)
fronts (l ∷ ls) [] x y hl hm e = inr (l ∷ ls, refl, sym e)
fronts (l ∷ ls) (m ∷ ms) x y hl hm e =
    let r =
    same_line l m (unlines ls ++ x) (unlines ms ++ y) hl.0 hm.0 (sym (first_line l ls x) ∙ e ∙ first_line m ms y) in
    elim (fronts ls ms x y hl.1 hm.1 r.1) [
      | inl (more, on, rest) ↦
          inl (more, ap (λ (k : List ℕ). k ∷ ms) (sym r.0) ∙ ap (λ (k : List (List ℕ)). l ∷ k) on, rest)
      | inr (more, on, rest) ↦ inr (more, ap (λ (k : List ℕ). k ∷ ls) r.0 ∙ ap (λ (k : List (List ℕ)). m ∷ k) on, rest)
    ]
