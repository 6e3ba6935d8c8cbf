-- What holds of every plan and every log.
use Rattle.std.specs.Prelude.{◌≡◌, ◌≤◌, ◌<◌, ⊤, false, ℕ, List, ◌++◌, length, Some, Ok, option_map}
use Rattle.std.specs.List.{slice_get}
use Rattle.hsp_hash.specs.Place.{server_place}
use Rattle.hsp_instance.specs.Building.{Inputs, IsBuilt}
use Rattle.hsp_instance.specs.Instance.{Instance, IsInstance, Row, Site}
use Rattle.hsp_check.specs.Instance.{network_of}
use Rattle.hsp_check.specs.Network.{is_allowed}
use Rattle.hsp_check.specs.Plan.{Feasible, Plan}
use Rattle.hsp_transport.specs.Sums.{sum_below}
use Rattle.hsp_log.specs.Entries.{Entry}
use Rattle.hsp_dispatch.specs.Dispatch.{IsSame, answer_to, answers, assigned_in, rest, row_of}
use Rattle.hsp_dispatch.specs.declared.answer.Answer.{Answer}
use Rattle.hsp_dispatch.specs.declared.answer.Answer.TheVariants.{Assigned, Spent, Unknown}

-- no log has more of a row's entries assigned to a site than the plan sends there
abbrev pub NeverExceeds : Type 0
NeverExceeds =
    (it : Instance) (x : Plan) (entries : List Entry) (row site : ℕ) → assigned_in it x entries row site ≤ x row site

-- where an entry of a row is answered by Spent, all that the plan sends of the row was assigned before
abbrev pub IsSpentAfterAll : Type 0
IsSpentAfterAll =
    (it : Instance) (x : Plan) (earlier : List Entry) (entry : Entry) (row site : ℕ) → row_of it entry ≡ Some row
    → answer_to it x earlier entry ≡ Spent
    → site < length it.sites → assigned_in it x earlier row site ≡ x row site

-- and where the plan is feasible, that is the whole number of the row
abbrev pub IsServedWhole : Type 0
IsServedWhole =
    (it : Instance) (x : Plan) (earlier : List Entry) (entry : Entry) (row : ℕ) (own : Row) → IsInstance it
    → Feasible (network_of it) x
    → slice_get it.rows row ≡ Some own → row_of it entry ≡ Some row → answer_to it x earlier entry ≡ Spent
    → sum_below (length it.sites) (λ site. assigned_in it x earlier row site) ≡ own.count

-- the answers to two logs one after the other: the second is answered by what the first leaves of the plan
abbrev pub GoesOnWithTheRest : Type 0
GoesOnWithTheRest =
    (it : Instance) (x : Plan) (a b : List Entry) → answers it x (a ++ b) ≡ answers it x a ++ answers it (rest it x a) b

-- A dispatcher holds what entries leave of a plan. Then it answers more entries as those stand in one log, and holds
-- what that log leaves.
abbrev pub DispatcherGoesOn : Type 0
DispatcherGoesOn =
    (it : Instance) (x old new : Plan) (entries more : List Entry) → IsSame old (rest it x entries)
    → IsSame new (rest it old more)
    → (answers it x (entries ++ more) ≡ answers it x entries ++ answers it old more)
    × IsSame new (rest it x (entries ++ more))

-- a query is assigned to the server of the site that is responsible for its handle, by the handle's hash
abbrev pub IsByHash : Instance → Entry → Answer → Type 0
IsByHash it entry (Assigned site place id) =
    (own : Site) × (slice_get it.sites site ≡ Some own)
    × (place ≡ server_place own.option entry.handle (length own.servers))
    × (option_map (λ server. server.id) (slice_get own.servers place) ≡ Some id)
IsByHash it entry Spent = ⊤
IsByHash it entry Unknown = ⊤

-- the plan sends nothing where it may not, as no feasible plan and no front's share of one does
abbrev pub KeepsToArcs : Instance → Plan → Type 0
KeepsToArcs it x = (row site : ℕ) → is_allowed (network_of it) row site ≡ false → x row site ≡ 0

abbrev pub GoesByHash : Type 0
GoesByHash =
    (inputs : Inputs) (it : Instance) (x : Plan) (earlier : List Entry) (entry : Entry) → IsBuilt inputs (Ok it)
    → KeepsToArcs it x
    → IsByHash it entry (answer_to it x earlier entry)
