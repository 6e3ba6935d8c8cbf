-- The turns of a talk: a piece of octets is received, the rows that it ends are taken, and their answers are sent.
use Rattle.std.specs.Prelude.{◌≡◌, ⊤, ℕ, false, List, [], ◌∷◌, ◌++◌}
use Rattle.std.specs.List.{concat}
use Rattle.hsp_talk.specs.Talk.{AreTaken, Event, IsPrompt, RefusesRow, TakesRow, cut, has_ended, last_line, received_in}
use Rattle.hsp_talk.specs.Talk.{rows_in, rows_of, sent_in, whole_lines}
use Rattle.hsp_talk.specs.Known.{Known, Went}
use Rattle.hsp_talk.specs.declared.stop.Refusal.{Refusal}
use Rattle.hsp_talk.specs.declared.stop.Refusal.TheVariants as refusal

-- the rows that a piece ends, after the octets of a line that has begun: no octets are the end of the last line
abbrev pub rows_ended_by : List ℕ → List ℕ → List (List ℕ)
rows_ended_by begun [] = rows_of (begun ∷ [])
rows_ended_by begun (octet ∷ octets) = rows_of (whole_lines begun (octet ∷ octets))

-- rows were taken, and their answers are owed too
abbrev pub AreOwed : {D : Type 0} → TakesRow D → D → D → List (List ℕ) → List ℕ → List ℕ → Type 0
AreOwed Takes first last rows owed now =
    (answers : List (List ℕ)) × AreTaken Takes first rows last answers × (now ≡ owed ++ concat answers)

-- the first of the rows that were not taken is refused, or memory ran out
abbrev pub IsRefused : {D F : Type 0} → RefusesRow D F → D → List (List ℕ) → D → Refusal F → Type 0
IsRefused Refuses at rows last (refusal.Fault fault) =
    (row : List ℕ) × (rest : List (List ℕ)) × (rows ≡ row ∷ rest) × Refuses at row last fault
IsRefused Refuses at rows last refusal.OutOfMemory = ⊤

-- only the first of the rows were taken, and their answers are owed too
pub record AreCut {D F : Type 0} (Takes : TakesRow D) (Refuses : RefusesRow D F) (first last : D)
    (all : List (List ℕ)) (owed now : List ℕ) (by : Refusal F) : Type 0 where
  pub at : D
  pub rows : List (List ℕ)
  pub later : List (List ℕ)
  pub parted : all ≡ rows ++ later
  pub taken : AreOwed Takes first at rows owed now
  pub refused : IsRefused Refuses at later last by

-- before a read: all rows that came in were taken, their answers were sent, and what a row keeps of a line has begun
pub record StandsSo {D : Type 0} (Takes : TakesRow D) (first last : D) (line : List ℕ) (events : List Event) :
    Type 0 where
  pub answers : List (List ℕ)
  pub taken : AreTaken Takes first (rows_in events) last answers
  pub all_sent : sent_in events ≡ concat answers
  pub prompt : (more : List (List ℕ)) → IsPrompt (answers ++ more) events
  pub not_ended : has_ended events ≡ false
  pub begun : line ≡ cut (last_line [] (received_in events))

-- the same, by the events since the talk began
abbrev pub IsAt : {D : Type 0} → TakesRow D → D → D → List ℕ → Known → Known → Type 0
IsAt Takes first last line old new = Went old new (StandsSo Takes first last line)
