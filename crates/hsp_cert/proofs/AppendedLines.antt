-- Lines appended one after the other.
use Rattle.std.proofs.Common.{◌≡◌, ℕ, List, [], ◌∷◌, ◌++◌, map, ap, ◌∙◌, append_assoc}
use Rattle.std.proofs.lemmas.List.{map-append}
use Rattle.hsp_cert.specs.declared.item.Item.{Item}
use Rattle.hsp_cert.specs.declared.item.Item.TheVariants as item
use Rattle.hsp_cert.specs.declared.item.Word.TheVariants as word
use Rattle.hsp_cert.specs.Certificate.{Best, Short}
use Rattle.hsp_cert.specs.Certificate.Claim.{best, short}
use Rattle.hsp_cert.specs.Text.{line_of, unlines, use_items, price_items, row_items, body_items, version_of, text_of}
use Rattle.hsp_cert.proofs.LineCuts.{unlines-append}

-- the text of the lines that say the items
abbrev pub spelling : List Item → List ℕ
spelling xs = unlines (map line_of xs)

-- the lines of two lists stand one after the other
pub spelling-append : (xs ys : List Item) → spelling (xs ++ ys) ≡ spelling xs ++ spelling ys
spelling-append xs ys =
    ap unlines (map-append line_of xs ys) ∙ unlines-append (map line_of xs) (map line_of ys)

-- the four lists of a plan, one after the other
pub body_appended : (b : Best) (o p q r s : List ℕ) → p ≡ o ++ spelling (use_items b.uses)
    → q ≡ p ++ spelling (price_items word.Row 0 b.row_prices) →
    r ≡ q ++ spelling (price_items word.Server 0 b.server_prices)
    → s ≡ r ++ spelling (price_items word.Host 0 b.host_prices) → s ≡ o ++ spelling (body_items b)
body_appended b o p q r s hp hq hr hs = rw (hs, hr, hq, hp) (simp (spelling-append, append_assoc))

-- five parts are appended in turn
appended : (o : List ℕ) (a b c d e : List Item)
    → ((((o ++ spelling a) ++ spelling b) ++ spelling c) ++ spelling d) ++ spelling e ≡ o
    ++ spelling (a ++ (b ++ (c ++ (d ++ e))))
appended o a b c d e = simp (spelling-append, append_assoc)

-- six parts are appended in turn
appended_behind : (o : List ℕ) (a b c d e f : List Item)
    → (((((o ++ spelling a) ++ spelling b) ++ spelling c) ++ spelling d) ++ spelling e) ++ spelling f ≡ o
    ++ spelling (a ++ (b ++ (c ++ (d ++ (e ++ f)))))
appended_behind o a b c d e f = simp (spelling-append, append_assoc)

-- the lines of a plan
pub plan_appended : (b : Best) (o p q r s t : List ℕ)
    → p ≡ o ++ spelling (item.One word.Version (version_of b.host_prices) ∷ [])
    → q ≡ p ++ spelling (item.Alone word.Plan ∷ []) →
    r ≡ q ++ spelling (item.One word.Cost b.cost ∷ []) → s ≡ r ++ spelling (body_items b)
    → t ≡ s ++ spelling (item.Alone word.End ∷ []) → t ≡ o ++ text_of (best b)
plan_appended b o p q r s t hp hq hr hs ht =
    rw (ht, hs, hr, hq, hp)
    (appended o (item.One word.Version (version_of b.host_prices) ∷ []) (item.Alone word.Plan ∷ [])
    (item.One word.Cost b.cost ∷ []) (body_items b) (item.Alone word.End ∷ []))

-- the lines of a shortage
pub shortage_appended : (s : Short) (o p q r t u v : List ℕ) → p ≡ o ++ spelling (item.One word.Version 1 ∷ [])
    → q ≡ p ++ spelling (item.Alone word.Shortage ∷ []) →
    r ≡ q ++ spelling (item.One word.Demand s.demand ∷ []) → t ≡ r ++ spelling (item.One word.Capacity s.capacity ∷ [])
    → u ≡ t ++ spelling (row_items s.rows) →
    v ≡ u ++ spelling (item.Alone word.End ∷ []) → v ≡ o ++ text_of (short s)
shortage_appended s o p q r t u v hp hq hr ht hu hv =
    rw (hv, hu, ht, hr, hq, hp)
    (appended_behind o (item.One word.Version 1 ∷ []) (item.Alone word.Shortage ∷ [])
    (item.One word.Demand s.demand ∷ []) (item.One word.Capacity s.capacity ∷ []) (row_items s.rows)
    (item.Alone word.End ∷ []))
