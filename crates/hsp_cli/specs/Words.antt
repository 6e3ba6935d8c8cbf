-- The words of the command.
use Rattle.std.specs.Prelude.{◌≡◌, ◌∷◌, [], ⊤, ℕ, List, Option, Some, None, Result, Ok, Err, IsUtf8}
use Rattle.hsp_cli_orders.specs.Words.{words_of}
use Rattle.hsp_cli_orders.specs.declared.fault.CommandFault.{CommandFault}
use Rattle.hsp_cli_orders.specs.declared.fault.CommandFault.TheVariants.{Usage, OutOfMemory}

-- an answer with a view of what it gives
abbrev pub seen : {X Y : Type 0} → (X → Y) → Result X CommandFault → Result Y CommandFault
seen view (Ok x) = Ok (view x)
seen view (Err fault) = Err fault

-- the words of a line, which is text; none where there is no line or no text
abbrev pub AreOfLine : Option (List ℕ) → Result (List (List ℕ)) CommandFault → Type 0
AreOfLine (Some line) (Ok words) = IsUtf8 line × (words ≡ words_of line)
AreOfLine (Some line) (Err Usage) = IsUtf8 line → ⊥
AreOfLine None (Err Usage) = ⊤
AreOfLine line (Err OutOfMemory) = ⊤
AreOfLine line answer = ⊥

-- the arguments or, without any, the words of the line
abbrev pub AreWords : List (List ℕ) → Option (List ℕ) → Result (List (List ℕ)) CommandFault → Type 0
AreWords [] line answer = AreOfLine line answer
AreWords (argument ∷ arguments) line answer = answer ≡ Ok (argument ∷ arguments)
