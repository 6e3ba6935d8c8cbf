-- The text of a certificate: lines, each a word and its numbers with one space before each number.
use Rattle.std.specs.Prelude.{ℕ, ◌+◌, List, [], ◌∷◌, ◌++◌, map, decimal}
use Rattle.hsp_cert.specs.declared.use_line.UseLine.{UseLine}
use Rattle.hsp_cert.specs.declared.item.Word.{Word}
use Rattle.hsp_cert.specs.declared.item.Word.TheVariants as word
use Rattle.hsp_cert.specs.declared.item.Item.{Item}
use Rattle.hsp_cert.specs.declared.item.Item.TheVariants as item
use Rattle.hsp_cert.specs.Words.{spelled}
use Rattle.hsp_cert.specs.Certificate.{Best, Claim}
use Rattle.hsp_cert.specs.Certificate.Claim.{best, short}

abbrev pub line_of : Item → List ℕ
line_of (item.Alone w) = spelled w
line_of (item.One w a) = spelled w ++ 32 ∷ decimal a
line_of (item.Two w a b) = spelled w ++ 32 ∷ (decimal a ++ 32 ∷ decimal b)
line_of (item.Three w a b c) = spelled w ++ 32 ∷ (decimal a ++ 32 ∷ (decimal b ++ 32 ∷ decimal c))

-- a text with host prices is of version 2
abbrev pub version_of : List ℕ → ℕ
version_of [] = 1
version_of (p ∷ ps) = 2

abbrev pub use_items : List UseLine → List Item
use_items [] = []
use_items (u ∷ us) = item.Three word.Use u.row u.site u.count ∷ use_items us

-- prices, numbered from n
abbrev pub price_items : Word → ℕ → List ℕ → List Item
price_items w n [] = []
price_items w n (p ∷ ps) = item.Two w n p ∷ price_items w (n + 1) ps

abbrev pub row_items : List ℕ → List Item
row_items [] = []
row_items (r ∷ rs) = item.One word.Row r ∷ row_items rs

-- the lines between the cost and the end
abbrev pub body_items : Best → List Item
body_items b =
    use_items b.uses
    ++ (price_items word.Row 0 b.row_prices
    ++ (price_items word.Server 0 b.server_prices ++ price_items word.Host 0 b.host_prices))

abbrev pub items_of : Claim → List Item
items_of (best b) =
    item.One word.Version (version_of b.host_prices) ∷ item.Alone word.Plan ∷ item.One word.Cost b.cost
    ∷ (body_items b ++ item.Alone word.End ∷ [])
items_of (short s) =
    item.One word.Version 1 ∷ item.Alone word.Shortage ∷ item.One word.Demand s.demand
    ∷ item.One word.Capacity s.capacity ∷ (row_items s.rows ++ item.Alone word.End ∷ [])

abbrev pub lines_of : Claim → List (List ℕ)
lines_of claim = map line_of (items_of claim)

-- each line and its LF
abbrev pub unlines : List (List ℕ) → List ℕ
unlines [] = []
unlines (l ∷ ls) = l ++ 10 ∷ unlines ls

abbrev pub text_of : Claim → List ℕ
text_of claim = unlines (lines_of claim)
