-- The machine's states and actions, by the names that the reader of places has for them.
use Rattle.csv.specs.declared.parser.Action.{Action}
use Rattle.csv.specs.declared.parser.Action.TheVariants as action
use Rattle.csv.specs.declared.parser.State.{State}
use Rattle.csv.specs.declared.parser.State.TheVariants as state
use Rattle.hsp_csv.specs.declared.scan.Move.{Move}
use Rattle.hsp_csv.specs.declared.scan.Move.TheVariants as move
use Rattle.hsp_csv.specs.declared.scan.Stand.{Stand}
use Rattle.hsp_csv.specs.declared.scan.Stand.TheVariants as stand

abbrev pub state_of : Stand → State
state_of stand.StartRecord = state.StartRecord
state_of stand.StartField = state.StartField
state_of stand.InField = state.InField
state_of stand.InQuoted = state.InQuoted
state_of stand.AfterQuote = state.AfterQuote
state_of stand.AfterReturn = state.AfterCr

abbrev pub action_of : Move → Action
action_of move.Skip = action.Skip
action_of move.Copy = action.Copy
action_of move.EndField = action.EndField
action_of move.EndRecord = action.EndRecord

-- a state and an action
abbrev pub is_move : Stand × Move → State × Action
is_move moved = (state_of moved.0, action_of moved.1)
