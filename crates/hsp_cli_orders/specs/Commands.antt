-- The commands of the programs with their options, as clap's builder describes them.
use Rattle.std.specs.Prelude.{◌++◌, ◌∷◌, [], List, codes, fold, Some, true}
use Rattle.clap.specs.Words.{App, Rule, Text, new_app, new_rule, with_rule, with_subcommand}

-- an option by its long name, one that has to be given, and a word by its place, which has to be given
abbrev pub option : Text → Rule
option name = record (new_rule name) { long = Some name }

abbrev pub needed : Text → Rule
needed name = record (option name) { required = true }

abbrev pub word : Text → Rule
word name = record (new_rule name) { required = true }

-- the files of the inputs
abbrev pub inputs : List Rule
inputs = needed (codes "settings") ∷ option (codes "values") ∷ needed (codes "demand") ∷ needed (codes "costs")
    ∷ needed (codes "capacity") ∷ []

-- the files of the inputs of a certificate by prices, for which a log stands in place of the demand
abbrev pub price_inputs : List Rule
price_inputs = needed (codes "settings") ∷ option (codes "values") ∷ needed (codes "costs")
    ∷ needed (codes "capacity") ∷ []

-- the name and the arguments of each command of hsplan
abbrev pub commands : List (Text × List Rule)
commands = (
  codes "locate",
  option (codes "option") ∷ option (codes "servers") ∷ option (codes "settings")
      ∷ option (codes "values") ∷ word (codes "handle") ∷ [],
)
    ∷ (codes "site", option (codes "index") ∷ word (codes "file") ∷ [])
    ∷ (codes "plan", inputs)
    ∷ (codes "check", inputs ++ needed (codes "plan") ∷ [])
    ∷ (codes "dispatch", inputs ++ needed (codes "plan") ∷ needed (codes "log") ∷ option (codes "fronts") ∷ [])
    ∷ (codes "report", inputs ++ needed (codes "plan") ∷ needed (codes "kind") ∷ [])
    ∷ []

-- the same of hsplan-stream
abbrev pub stream_commands : List (Text × List Rule)
stream_commands = (codes "places", needed (codes "settings") ∷ option (codes "values") ∷ needed (codes "log") ∷ [])
    ∷ (codes "plan", price_inputs ++ needed (codes "log") ∷ [])
    ∷ (
      codes "answer",
      price_inputs ++ needed (codes "log") ∷ needed (codes "prices") ∷ option (codes "fronts")
          ∷ option (codes "front") ∷ [],
    )
    ∷ (codes "check", price_inputs ++ needed (codes "log") ∷ needed (codes "prices") ∷ [])
    ∷ (
      codes "report",
      price_inputs ++ needed (codes "log") ∷ needed (codes "prices") ∷ needed (codes "kind") ∷ [],
    )
    ∷ (codes "interfaces", needed (codes "settings") ∷ option (codes "values") ∷ [])
    ∷ (
      codes "faults",
      option (codes "demand") ∷ option (codes "costs") ∷ option (codes "capacity") ∷ option (codes "log") ∷ [],
    )
    ∷ []

-- a command with these arguments, in this order
abbrev pub with_rules : App → List Rule → App
with_rules app rules = fold with_rule app rules

abbrev pub with_commands : App → List (Text × List Rule) → App
with_commands app commands =
    fold (λ app command. with_subcommand app (with_rules (new_app command.0) command.1).top) app commands

-- a program without its commands: the words don't begin with its name
abbrev pub bare_app : Text → App
bare_app name = let app = new_app name in record app { top = record app.top { no_binary_name = true } }

abbrev pub hsplan_app : App
hsplan_app = with_commands (bare_app (codes "hsplan")) commands

abbrev pub stream_app : App
stream_app = with_commands (bare_app (codes "hsplan-stream")) stream_commands
