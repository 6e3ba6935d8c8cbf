-- The lines of queries that are assigned.
use Rattle.std.specs.Prelude.{◌≡◌, ℕ, List, [], ◌∷◌, ◌++◌, codes, map, Option, None, Some, option_map}
use Rattle.std.specs.List.{slice_get}
use Rattle.hsp_text.specs.Writing.{numbered}
use Rattle.hsp_instance.specs.Instance.{Instance, Server, Site}

abbrev pub name_in : Option Site → List ℕ
name_in None = []
name_in (Some site) = site.name

-- the name of a site
abbrev pub name_at : Instance → ℕ → List ℕ
name_at it site = name_in (slice_get it.sites site)

-- `assigned` with the site's name, the place and the identifier, each after a space
abbrev pub assigned_line : List ℕ → ℕ → ℕ → List ℕ
assigned_line name place id = codes "assigned " ++ numbered name (place ∷ id ∷ [])

-- the line of a query that is assigned to a server
abbrev pub server_line : Instance → Server → List ℕ
server_line it server = assigned_line (name_at it server.site) server.place server.id

-- the line of the server of a number
abbrev pub IsLineOf : Instance → ℕ → List ℕ → Type 0
IsLineOf it number line = option_map (server_line it) (slice_get it.servers number) ≡ Some line

-- those of all servers
abbrev pub lines_of : Instance → List (List ℕ)
lines_of it = map (server_line it) it.servers

abbrev pub or_none : Option (List ℕ) → List ℕ
or_none None = []
or_none (Some line) = line
