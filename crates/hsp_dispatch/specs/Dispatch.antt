-- How queries are dispatched by a plan: the spread of a row, the answers to the entries of a log, and what they leave
-- of the plan.
use Rattle.std.specs.Prelude.{◌≡◌, ◌+◌, ◌-◌, ◌==◌, ◌&&◌, Bool, true, false, ℕ, zero, suc, List, [], ◌∷◌, ◌++◌, count_by}
use Rattle.std.specs.Prelude.{length, position, replicate, Option, None, Some, if◌then◌else◌}
use Rattle.std.specs.List.{find, slice_get}
use Rattle.hsp_instance.specs.Instance.{Instance, Server, has_keys}
use Rattle.hsp_instance.specs.declared.arc.Arc.{Arc}
use Rattle.hsp_check.specs.Plan.{Plan}
use Rattle.hsp_dispatch.specs.declared.answer.Answer.{Answer}
use Rattle.hsp_dispatch.specs.declared.answer.Answer.TheVariants.{Assigned, Spent, Unknown}
use Rattle.hsp_dispatch.specs.declared.answer.FrontSums.{FrontSums}
use Rattle.hsp_dispatch.specs.declared.answer.LogSums.{LogSums}
use Rattle.hsp_log.specs.Entries.{Entry, each_after}

-- ---- spreads

-- the sites from site s on, n of them, in ascending order, each as often as its number says
abbrev pub spread_from : ℕ → ℕ → (ℕ → ℕ) → List ℕ
spread_from zero s x = []
spread_from (suc n) s x = replicate (x s) s ++ spread_from n (s + 1) x

-- the spread of a row: the sites in ascending order, each as often as the plan sends the row's queries there
abbrev pub spread : Instance → Plan → ℕ → List ℕ
spread it x row = spread_from (length it.sites) 0 (x row)

-- ---- answers

-- the row of an entry
abbrev pub row_of : Instance → Entry → Option ℕ
row_of it entry = position (has_keys entry.region entry.handle) it.rows

abbrev pub is_row : ℕ → Option ℕ → Bool
is_row row None = false
is_row row (Some own) = own == row

abbrev pub is_for : Instance → ℕ → Entry → Bool
is_for it row entry = is_row row (row_of it entry)

-- how many of the entries are for the row
abbrev pub count_for : Instance → ℕ → List Entry → ℕ
count_for it row entries = count_by (is_for it row) entries

-- the arc to a site, and the server that it leads to
abbrev pub arc_to : ℕ → Option (List Arc) → Option Arc
arc_to site None = None
arc_to site (Some arcs) = find (λ (arc : Arc). arc.site == site) arcs

abbrev pub end_of : Instance → Option Arc → Option Server
end_of it None = None
end_of it (Some arc) = slice_get it.servers arc.server

-- the server that is responsible for a row's handle at a site, where the row may use the site
abbrev pub server_to : Instance → ℕ → ℕ → Option Server
server_to it row site = end_of it (arc_to site (slice_get it.arcs row))

-- a query is assigned to the server; to place 0 and identifier 0 where there is none, as no feasible plan has it
abbrev pub assigned_to : ℕ → Option Server → Answer
assigned_to site None = Assigned site 0 0
assigned_to site (Some server) = Assigned site server.place server.id

-- the answer by the element of a row's spread, Spent past the end
abbrev pub answer_at : Instance → ℕ → Option ℕ → Answer
answer_at it row None = Spent
answer_at it row (Some site) = assigned_to site (server_to it row site)

-- An entry is answered by the element of its row's spread whose number is the number of earlier entries for the row. It
-- is unknown where no row has its region and its handle.
abbrev pub answer_in : Instance → Plan → List Entry → Option ℕ → Answer
answer_in it x earlier None = Unknown
answer_in it x earlier (Some row) = answer_at it row (slice_get (spread it x row) (count_for it row earlier))

abbrev pub answer_to : Instance → Plan → List Entry → Entry → Answer
answer_to it x earlier entry = answer_in it x earlier (row_of it entry)

-- the answers to entries, after earlier ones
unfoldable pub answers_after : Instance → Plan → List Entry → List Entry → List Answer
answers_after it x earlier entries = each_after (answer_to it x) earlier entries

-- the answers to the entries of a log
abbrev pub answers : Instance → Plan → List Entry → List Answer
answers it x entries = answers_after it x [] entries

-- ---- what is left

abbrev pub is_at : ℕ → Answer → Bool
is_at site (Assigned own place id) = own == site
is_at site Spent = false
is_at site Unknown = false

-- the entry is for the row, and it is assigned to the site
abbrev pub is_in : Instance → ℕ → ℕ → Entry → Answer → Bool
is_in it row site entry answer = is_for it row entry && is_at site answer

-- how many entries of a row are assigned to a site, by their answers
abbrev pub count_in : Instance → ℕ → ℕ → List Entry → List Answer → ℕ
count_in it row site [] given = 0
count_in it row site (entry ∷ more) [] = 0
count_in it row site (entry ∷ more) (answer ∷ given) =
    (if is_in it row site entry answer then 1 else 0) + count_in it row site more given

abbrev pub assigned_in : Instance → Plan → List Entry → Plan
assigned_in it x entries row site = count_in it row site entries (answers it x entries)

-- what the entries of a log leave of a plan
abbrev pub rest : Instance → Plan → List Entry → Plan
rest it x entries row site = x row site - assigned_in it x entries row site

-- two plans send as many queries of each row to each site
abbrev pub IsSame : Plan → Plan → Type 0
IsSame x y = (row site : ℕ) → x row site ≡ y row site

-- ---- sums

abbrev pub is_assigned : Answer → Bool
is_assigned (Assigned site place id) = true
is_assigned Spent = false
is_assigned Unknown = false

abbrev pub is_spent : Answer → Bool
is_spent (Assigned site place id) = false
is_spent Spent = true
is_spent Unknown = false

abbrev pub is_unknown : Answer → Bool
is_unknown (Assigned site place id) = false
is_unknown Spent = false
is_unknown Unknown = true

-- how many answers there are of each kind
abbrev pub sums_of : List Answer → LogSums
sums_of given =
    record {
      assigned = count_by is_assigned given;
      spent = count_by is_spent given;
      unknown = count_by is_unknown given;
    }

-- the same, where there are no fronts
abbrev pub all_of : LogSums → FrontSums
all_of sums = record { assigned = sums.assigned; spent = sums.spent; unknown = sums.unknown; no_front = 0 }
