-- The lines of answers, by those of servers.
use Rattle.std.proofs.Common.{◌≡◌, ◌≤◌, ◌∙◌, ℕ, List, Option, None, Some, ap, arith, length, codes, option_map, refl}
use Rattle.std.proofs.Common.{slice_index_or}
use Rattle.std.specs.List.{slice_get}
use Rattle.std.proofs.lemmas.List.Elements.{All-map}
use Rattle.std.proofs.lemmas.Option.{slice_get-map}
use Rattle.hsp_instance.specs.Instance.{Instance, Server}
use Rattle.hsp_log.specs.Lines.{lines_of, or_none, server_line}
use Rattle.hsp_price_dispatch.specs.declared.answer.PriceAnswer.{PriceAnswer}
use Rattle.hsp_price_dispatch.specs.declared.answer.PriceAnswer.TheVariants.{Assigned, Diverted, Full, Unknown}
use Rattle.hsp_price_answers.specs.Lines.{AreLong, at_server, diverted_line, line_by, price_line}

-- the line of a server that is there is that of the server
assigned_by : (it : Instance) (server : Option Server)
    → or_none (option_map (server_line it) server) ≡ at_server (codes "assigned ") it server
assigned_by it None = refl
assigned_by it (Some server) = refl

-- so it is with the other word
diverted_by : (it : Instance) (server : Option Server)
    → or_none (option_map diverted_line (option_map (server_line it) server)) ≡ at_server (codes "diverted ") it server
diverted_by it None = refl
diverted_by it (Some server) = refl

-- the line of an answer by the lines of all servers
pub line_is : (it : Instance) (answer : PriceAnswer) → line_by (lines_of it) answer ≡ price_line it answer
line_is it (Assigned arc) =
    ap or_none (slice_get-map (server_line it) it.servers arc.server) ∙ assigned_by it (slice_get it.servers arc.server)
line_is it (Diverted arc) =
    ap (λ (line : Option (List ℕ)). or_none (option_map diverted_line line))
    (slice_get-map (server_line it) it.servers arc.server)
    ∙ diverted_by it (slice_get it.servers arc.server)
line_is it Full = refl
line_is it Unknown = refl

-- the line of a server has the word
long_line : (it : Instance) (server : Server) → 8 ≤ length (server_line it server)
long_line it server = omega arith

-- so has each
pub all_long : (it : Instance) → AreLong (lines_of it)
all_long it =
    All-map (λ (line : List ℕ). 8 ≤ length line) (server_line it) it.servers
    (λ k d l. long_line it (slice_index_or it.servers k d))
