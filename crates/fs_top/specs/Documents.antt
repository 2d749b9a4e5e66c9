-- What the program does with the configuration of a document.
use Rattle.std.specs.Prelude.{ℕ, pos, ◌-◌, ◌^◌, min, List, [], ◌∷◌, ◌++◌, length, map, Result, Ok, Err, codes}
use Rattle.std.specs.List.{concat}
use Rattle.std.specs.Fmt.{decimal}
use Rattle.fs_text.specs.Escape.{escape}
use Rattle.fs_vars.specs.Variables.{Variables}
use Rattle.fs_vars.specs.declared.bounds.Bounds.TheVariants.{Channel}
use Rattle.fs_vars.specs.declared.profile.Profile.{Profile}
use Rattle.fs_chan.specs.declared.action.Action.{Action}
use Rattle.fs_doc.specs.Dialplans.{Context}
use Rattle.fs_plan.specs.Building.{extensions_in}
use Rattle.fs_plan.specs.Hunting.{hunted}
use Rattle.fs_plan.specs.declared.hunt.Hunt.{Hunt}

-- how many extensions stand in the contexts, as far as 64 bits go
abbrev pub extensions_counted : List Context → ℕ
extensions_counted contexts = min (length (extensions_in contexts)) (2 ^ 64 - 1)

-- what `check` prints: the numbers of contexts and of extensions
unfoldable pub check_text : List Context → List ℕ
check_text contexts = codes "OK " ++ (decimal (length contexts) ++ (codes " " ++ (decimal (extensions_counted contexts) ++ codes "\n")))

-- no variables of a channel
abbrev pub no_variables : Variables
no_variables = record { bounds = Channel; pairs = [] }

-- the profile of a call to this number in this context
unfoldable pub hunt_profile : List ℕ → List ℕ → Profile
hunt_profile context dest = record {
  destination_number = dest;
  caller_id_name = [];
  caller_id_number = [];
  ani = [];
  rdnis = [];
  context = context;
  dialplan = codes "XML";
  source = codes "fsw";
  uuid = [];
  chan_name = [];
  network_addr = [];
  username = [];
}

-- an action in a line: its application, and its data, escaped
abbrev pub action_line : Action → List ℕ
action_line action = action.application ++ (codes " " ++ (escape action.argument ++ codes "\n"))

-- the actions in order, a line each, or words where there are none
unfoldable pub actions_text : List Action → List ℕ
actions_text [] = codes "NO_ROUTE_DESTINATION\n"
actions_text (action ∷ actions) = concat (map action_line (action ∷ actions))

-- the length of the expansion that is too long
unfoldable pub too_long_hunt : ℕ → List ℕ
too_long_hunt len = codes "-ERR too long " ++ (decimal len ++ codes "\n")

-- what comes of a hunt
abbrev pub hunt_outcome : Result Hunt ℕ → List ℕ
hunt_outcome (Ok hunt) = actions_text hunt.actions
hunt_outcome (Err len) = too_long_hunt len

-- what `hunt` prints, at the minute of moment 0
abbrev pub hunt_text : List Context → Variables → List ℕ → List ℕ → List ℕ
hunt_text contexts globals context dest = hunt_outcome (hunted contexts context (hunt_profile context dest) no_variables globals (pos 0))
