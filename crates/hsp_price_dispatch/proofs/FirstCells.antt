-- The numbers of the first cells of classes.
use Rattle.std.proofs.Common.{◌≡◌, ◌<◌, ◌+◌, ◌∙◌, ◌++◌, ℕ, List, [], ◌∷◌, length, min, take, get_or, ap}
use Rattle.std.proofs.Common.{arith, sym, slice_index, inl, inr}
use Rattle.std.specs.List.{flat_map, zip}
use Rattle.std.proofs.lemmas.Bool.{cases_lt}
use Rattle.std.proofs.lemmas.List.{append-nil, get_or_append_left, get_or_push, length-append, take_more}
use Rattle.std.proofs.lemmas.List.Concat.{flat_map-append}
use Rattle.hsp_price_text.specs.Claim.{Class}
use Rattle.hsp_prices.specs.Sums.{sends}
use Rattle.hsp_price_dispatch.specs.Choosing.{first_cell}

-- as many pairs as both lists have
zip_many : {A B : Type 0} (xs : List A) (ys : List B) → length (zip xs ys) ≡ min (length xs) (length ys)
zip_many [] ys = omega arith
zip_many (x ∷ xs) [] = omega arith
zip_many (x ∷ xs) (y ∷ ys) = let more = zip_many xs ys in omega (arith, more)

-- as many as the class has servers and amounts
pub sends_many : (class : Class) → length (sends class) ≡ min (length class.servers) (length class.amounts)
sends_many class = zip_many class.servers class.amounts

-- the cells of one class more
pub next_cell : (classes : List Class) (i : ℕ) (d : Class) (next many : ℕ) → i < length classes
    → next ≡ first_cell classes i
    → many ≡ min (length (get_or classes i d).servers) (length (get_or classes i d).amounts)
    → next + many ≡ first_cell classes (i + 1)
next_cell classes i d next many inside is m =
    let class = get_or classes i d in
    let list : flat_map sends (take (i + 1) classes) ≡ flat_map sends (take i classes) ++ flat_map sends (class ∷ []) =
    ap (flat_map sends) (take_more classes i d inside) ∙ flat_map-append sends (take i classes) (class ∷ []) in
    let one : length (flat_map sends (class ∷ [])) ≡ many =
    ap (λ (list : List (ℕ × ℕ)). length list) (append-nil (sends class)) ∙ sends_many class ∙ sym m in
    let all = length-append (flat_map sends (take i classes)) (flat_map sends (class ∷ [])) in
    let long = ap (λ (list : List (ℕ × ℕ)). length list) list in
    omega (arith, long, all, one, is)

-- one number more
pub cell_pushed : (firsts : List ℕ) (classes : List Class) (i next k : ℕ) → length firsts ≡ i
    → next ≡ first_cell classes i → ((k : ℕ) → k < i → slice_index firsts k ≡ first_cell classes k) → k < i + 1
    → slice_index (firsts ++ next ∷ []) k ≡ first_cell classes k
cell_pushed firsts classes i next k many is each l = elim (cases_lt k i) [
  | inl before ↦
      get_or_append_left firsts (next ∷ []) 0 k (omega (arith, before, many)) ∙ each k before
  | inr here ↦
      let same : k ≡ i = omega arith in
      get_or_push firsts next 0 k (omega (arith, many, same)) ∙ is ∙ ap (first_cell classes) (sym same)
]
