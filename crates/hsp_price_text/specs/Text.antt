-- The text of a certificate by prices: lines of words and numbers, with one space before each but the first.
use Rattle.std.specs.Prelude.{ℕ, ◌+◌, List, [], ◌∷◌, ◌++◌, codes, decimal, map}
use Rattle.hsp_price_text.specs.Claim.{Best, Class}
use Rattle.hsp_price_text.specs.declared.certificate.PriceCertificate.{PriceCertificate}
use Rattle.hsp_price_text.specs.declared.certificate.PriceCertificate.TheVariants.{Plan, Shortage}
use Rattle.hsp_price_text.specs.Certificate.{IsCertificate}
use Rattle.hsp_cert.specs.Language.{Language, text_in}

-- a space and a number, for each number
abbrev pub spaced : List ℕ → List ℕ
spaced [] = []
spaced (n ∷ ns) = 32 ∷ (decimal n ++ spaced ns)

-- a word and numbers behind it
abbrev pub numbered : List ℕ → List ℕ → List ℕ
numbered word numbers = word ++ spaced numbers

-- servers and amounts by turns
abbrev pub in_turn : List ℕ → List ℕ → List ℕ
in_turn [] amounts = []
in_turn (server ∷ servers) [] = []
in_turn (server ∷ servers) (amount ∷ amounts) = server ∷ amount ∷ in_turn servers amounts

-- a class: its region, its servers and what each gets
abbrev pub class_line : Class → List ℕ
class_line c = codes "class" ++ 32 ∷ numbered c.region (in_turn c.servers c.amounts)

-- prices, numbered from n
abbrev pub price_lines : List ℕ → ℕ → List ℕ → List (List ℕ)
price_lines word n [] = []
price_lines word n (price ∷ prices) = numbered word (n ∷ price ∷ []) ∷ price_lines word (n + 1) prices

abbrev pub server_line : ℕ → List ℕ
server_line server = numbered (codes "server") (server ∷ [])

-- the lines between the cost and the end
abbrev pub body_lines : Best → List (List ℕ)
body_lines b =
    price_lines (codes "server") 0 b.server_prices
    ++ (price_lines (codes "host") 0 b.host_prices ++ map class_line b.classes)

abbrev pub version : List ℕ
version = codes "HSPLAN PRICES 1"

abbrev pub lines_of : PriceCertificate → List (List ℕ)
lines_of (Plan b) =
    version ∷ codes "PLAN" ∷ numbered (codes "cost") (b.cost ∷ []) ∷ (body_lines b ++ codes "END" ∷ [])
lines_of (Shortage s) =
    version ∷ codes "SHORT"
    ∷ (map server_line s.servers
    ++ numbered (codes "demand") (s.demand ∷ []) ∷ numbered (codes "capacity") (s.capacity ∷ []) ∷ codes "END" ∷ [])

-- the certificates by prices
abbrev pub prices : Language PriceCertificate
prices = record { Is = IsCertificate; lines_of = lines_of }

abbrev pub text_of : PriceCertificate → List ℕ
text_of claim = text_in prices claim
