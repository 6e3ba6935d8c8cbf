-- The lines of answers by prices.
use Rattle.std.specs.Prelude.{◌≤◌, ◌++◌, ◌∷◌, [], ℕ, List, All, Option, None, Some, codes, decimal, drop, length}
use Rattle.std.specs.Prelude.{option_map}
use Rattle.std.specs.List.{slice_get}
use Rattle.hsp_text.specs.Writing.{numbered}
use Rattle.hsp_instance.specs.Instance.{Instance, Server}
use Rattle.hsp_log.specs.Lines.{name_at, or_none}
use Rattle.hsp_price_dispatch.specs.declared.answer.PriceAnswer.{PriceAnswer}
use Rattle.hsp_price_dispatch.specs.declared.answer.PriceAnswer.TheVariants.{Assigned, Diverted, Full, Unknown}
use Rattle.hsp_price_answers.specs.declared.sums.PriceSums.{PriceSums}

-- a word with the site's name, the place and the identifier of a server, each after a space
abbrev pub at_server : List ℕ → Instance → Option Server → List ℕ
at_server word it None = []
at_server word it (Some server) = word ++ numbered (name_at it server.site) (server.place ∷ server.id ∷ [])

-- the line of an answer
abbrev pub price_line : Instance → PriceAnswer → List ℕ
price_line it (Assigned arc) = at_server (codes "assigned ") it (slice_get it.servers arc.server)
price_line it (Diverted arc) = at_server (codes "diverted ") it (slice_get it.servers arc.server)
price_line it Full = codes "full" ++ 10 ∷ []
price_line it Unknown = codes "unknown" ++ 10 ∷ []

-- how many rows were answered by each kind of answer
abbrev pub price_sums_text : PriceSums → List ℕ
price_sums_text sums =
    codes "assigned "
    ++ (decimal sums.assigned ++ (codes " diverted " ++ (decimal sums.diverted ++ (codes " full " ++ (decimal sums.full
    ++ (codes " unknown " ++ (decimal sums.unknown ++ (codes " refused " ++ (decimal sums.refused ++ 10 ∷ [])))))))))

-- ---- by the lines of servers

-- the line of a server, with another word of the same length
abbrev pub diverted_line : List ℕ → List ℕ
diverted_line line = codes "diverted" ++ drop 8 line

abbrev pub line_by : List (List ℕ) → PriceAnswer → List ℕ
line_by lines (Assigned arc) = or_none (slice_get lines arc.server)
line_by lines (Diverted arc) = or_none (option_map diverted_line (slice_get lines arc.server))
line_by lines Full = codes "full" ++ 10 ∷ []
line_by lines Unknown = codes "unknown" ++ 10 ∷ []

-- each line has the word and more
abbrev pub AreLong : List (List ℕ) → Type 0
AreLong lines = All (λ line. 8 ≤ length line) lines
