-- The lines of answers.
use Rattle.std.specs.Prelude.{⊤, ℕ, ◌+◌, ◌<◌, List, [], ◌∷◌, ◌++◌, codes, Option, None, Some}
use Rattle.std.specs.List.{slice_get}
use Rattle.hsp_instance.specs.Instance.{Instance, Server}
use Rattle.hsp_dispatch.specs.declared.answer.Answer.{Answer}
use Rattle.hsp_dispatch.specs.declared.answer.Answer.TheVariants.{Assigned, Spent, Unknown}
use Rattle.hsp_dispatch.specs.declared.answer.FrontAnswer.{FrontAnswer}
use Rattle.hsp_dispatch.specs.declared.answer.FrontAnswer.TheVariants.{Answered, NoFront}
use Rattle.hsp_dispatch.specs.declared.answer.FrontSums.{FrontSums}
use Rattle.hsp_dispatch.specs.declared.answer.Given.{Given}
use Rattle.hsp_dispatch.specs.declared.answer.Given.TheVariants.{NoFront as IsNoFront, Server as ByServer}
use Rattle.hsp_dispatch.specs.declared.answer.Given.TheVariants.{Spent as IsSpent, Unknown as IsUnknown}
use Rattle.hsp_log.specs.Lines.{name_at, assigned_line, or_none}

-- the line of an answer
abbrev pub line_of : Instance → Answer → List ℕ
line_of it (Assigned site place id) = assigned_line (name_at it site) place id
line_of it Spent = codes "spent" ++ 10 ∷ []
line_of it Unknown = codes "unknown" ++ 10 ∷ []

-- the line of an answer at a front
abbrev pub front_line : Instance → FrontAnswer → List ℕ
front_line it (Answered answer) = line_of it answer
front_line it NoFront = codes "nofront" ++ 10 ∷ []

-- lines, one after another
abbrev pub text_of : List (List ℕ) → List ℕ
text_of [] = []
text_of (line ∷ more) = line ++ text_of more

-- how an entry is answered: by the server of a number, or without one
abbrev pub served_by : Option Server → Answer
served_by None = Spent
served_by (Some server) = Assigned server.site server.place server.id

-- how a query is answered that goes to the server of a number, or to none
abbrev pub given_of : Option ℕ → Given
given_of None = IsSpent
given_of (Some number) = ByServer number

abbrev pub answer_of : Instance → Given → FrontAnswer
answer_of it (ByServer number) = Answered (served_by (slice_get it.servers number))
answer_of it IsSpent = Answered Spent
answer_of it IsUnknown = Answered Unknown
answer_of it IsNoFront = NoFront

-- the server of the number is one of `servers`
abbrev pub IsAmong : ℕ → Given → Type 0
IsAmong servers (ByServer number) = number < servers
IsAmong servers IsSpent = ⊤
IsAmong servers IsUnknown = ⊤
IsAmong servers IsNoFront = ⊤

-- the line of an answer, by those of the servers
abbrev pub line_by : List (List ℕ) → Given → List ℕ
line_by lines (ByServer number) = or_none (slice_get lines number)
line_by lines IsSpent = codes "spent" ++ 10 ∷ []
line_by lines IsUnknown = codes "unknown" ++ 10 ∷ []
line_by lines IsNoFront = codes "nofront" ++ 10 ∷ []

-- sums with one answer more
abbrev pub counted : FrontSums → Given → FrontSums
counted sums (ByServer number) = record sums { assigned = sums.assigned + 1 }
counted sums IsSpent = record sums { spent = sums.spent + 1 }
counted sums IsUnknown = record sums { unknown = sums.unknown + 1 }
counted sums IsNoFront = record sums { no_front = sums.no_front + 1 }

-- how many answers were counted
abbrev pub count_all : FrontSums → ℕ
count_all sums = sums.assigned + sums.spent + sums.unknown + sums.no_front
