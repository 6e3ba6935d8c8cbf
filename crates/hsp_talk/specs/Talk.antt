-- A talk: rows come in, one a line, and every answer goes out before the next read.
use Rattle.std.specs.Prelude.{◌≡◌, ℕ, ◌+◌, ◌==◌, Bool, true, false, List, [], ◌∷◌, ◌++◌, if◌then◌else◌, length, take}
use Rattle.std.specs.List.{concat}
use Rattle.hsp_talk.specs.declared.limits.TheConstants.{LONGEST_ROW}
use Rattle.hsp_talk.specs.declared.stop.Stop.{Stop}
use Rattle.hsp_talk.specs.declared.stop.Stop.TheVariants as stop

-- ---- lines

-- the end of a line
abbrev pub line_feed : ℕ
line_feed = 10

-- the lines that octets end, each without its end; the first goes on with a line that has begun
abbrev pub whole_lines : List ℕ → List ℕ → List (List ℕ)
whole_lines begun [] = []
whole_lines begun (octet ∷ octets) =
    if octet == line_feed then begun ∷ whole_lines [] octets else whole_lines (begun ++ octet ∷ []) octets

-- the line that octets begin and do not end
abbrev pub last_line : List ℕ → List ℕ → List ℕ
last_line begun [] = begun
last_line begun (octet ∷ octets) =
    if octet == line_feed then last_line [] octets else last_line (begun ++ octet ∷ []) octets

abbrev pub is_line_feed : ℕ → Bool
is_line_feed octet = octet == line_feed

-- what of a line is a row: of a line that is too long the greatest length of a row, and one octet more
unfoldable pub cut : List ℕ → List ℕ
cut line = take (LONGEST_ROW + 1) line

-- a row is a line that is not empty, cut
abbrev pub rows_of : List (List ℕ) → List (List ℕ)
rows_of [] = []
rows_of ([] ∷ lines) = rows_of lines
rows_of ((octet ∷ octets) ∷ lines) = cut (octet ∷ octets) ∷ rows_of lines

-- ---- events

-- octets were received, or none because no more come; or octets were sent
pub data Event : Type 0 where
  received : List ℕ → Event
  sent : List ℕ → Event

-- all octets that were received, and all that were sent
abbrev pub received_in : List Event → List ℕ
received_in [] = []
received_in (received octets ∷ events) = octets ++ received_in events
received_in (sent octets ∷ events) = received_in events

abbrev pub sent_in : List Event → List ℕ
sent_in [] = []
sent_in (received octets ∷ events) = sent_in events
sent_in (sent octets ∷ events) = octets ++ sent_in events

-- what each read gave
abbrev pub reads_in : List Event → List (List ℕ)
reads_in [] = []
reads_in (received octets ∷ events) = octets ∷ reads_in events
reads_in (sent octets ∷ events) = reads_in events

-- a read found that no more octets come
abbrev pub has_ended : List Event → Bool
has_ended [] = false
has_ended (received [] ∷ events) = true
has_ended (received (octet ∷ octets) ∷ events) = has_ended events
has_ended (sent octets ∷ events) = has_ended events

-- the rows that came in: of the whole lines, and at the end of the last line too
abbrev pub rows_in : List Event → List (List ℕ)
rows_in events =
    rows_of (whole_lines [] (received_in events)
    ++ (if has_ended events then last_line [] (received_in events) ∷ [] else []))

-- ---- answers

-- `Takes responder row next answer`: a responder takes a row with this answer, and is the next responder then
abbrev pub TakesRow : Type 0 → Type 1
TakesRow D = D → List ℕ → D → List ℕ → Type 0

-- rows are taken in turn, from the first responder to the last, each with its answer
abbrev pub AreTaken : {D : Type 0} → TakesRow D → D → List (List ℕ) → D → List (List ℕ) → Type 0
AreTaken Takes first [] last [] = last ≡ first
AreTaken {D} Takes first (row ∷ rows) last (answer ∷ answers) =
    (next : D) × Takes first row next answer × AreTaken Takes next rows last answers
AreTaken Takes first [] last (answer ∷ answers) = ⊥
AreTaken Takes first (row ∷ rows) last [] = ⊥

-- At each read no answer is owed: the answers to all rows that came in before it were sent, and nothing else.
-- There is no read after the end.
abbrev pub IsPrompt : List (List ℕ) → List Event → Type 0
IsPrompt answers events =
    (before after : List Event) (octets : List ℕ) → events ≡ before ++ received octets ∷ after →
    (sent_in before ≡ concat (take (length (rows_in before)) answers)) × (has_ended before ≡ false)

-- the first rows that came in were taken, the later ones were not, and no answer was owed at a read
pub record Took {D : Type 0} (Takes : TakesRow D) (first last : D) (events : List Event) : Type 0 where
  pub rows : List (List ℕ)
  pub answers : List (List ℕ)
  pub later : List (List ℕ)
  pub came : rows_in events ≡ rows ++ later
  pub taken : AreTaken Takes first rows last answers
  pub prompt : IsPrompt answers events

-- all rows until the end were taken and all their answers were sent
abbrev pub HeldToTheEnd : {D : Type 0} → TakesRow D → D → D → List Event → Type 0
HeldToTheEnd Takes first last events =
    (took : Took Takes first last events) × (took.later ≡ []) × (sent_in events ≡ concat took.answers)
    × (has_ended events ≡ true)

-- `Refuses responder row next fault`: a responder refuses a row by this fault, and is the next responder then
abbrev pub RefusesRow : Type 0 → Type 0 → Type 1
RefusesRow D F = D → List ℕ → D → F → Type 0

-- Why a talk stopped early.
-- At a failed read, all rows that came in were taken, and their answers sent.
-- At a fault, the rows before the one that is refused were taken, and their answers sent.
-- Where memory ran out, the first rows were taken, and their answers sent.
-- At a failed write, the first rows were taken, and some of their answers sent, the first octets first.
abbrev pub StoppedBy : {D F : Type 0} → TakesRow D → RefusesRow D F → D → D → List Event → Stop F → Type 0
StoppedBy Takes Refuses first last events stop.ReadFailed =
    (took : Took Takes first last events) × (took.later ≡ []) × (sent_in events ≡ concat took.answers)
StoppedBy {D} Takes Refuses first last events stop.WriteFailed =
    (at : D) × (took : Took Takes first at events) × (unsent : List ℕ)
    × (concat took.answers ≡ sent_in events ++ unsent)
StoppedBy {D} Takes Refuses first last events stop.OutOfMemory =
    (at : D) × (took : Took Takes first at events) × (sent_in events ≡ concat took.answers)
StoppedBy {D} Takes Refuses first last events (stop.Fault fault) =
    (at : D) × (took : Took Takes first at events) × (row : List ℕ) × (rest : List (List ℕ))
    × (took.later ≡ row ∷ rest) × Refuses at row last fault × (sent_in events ≡ concat took.answers)
