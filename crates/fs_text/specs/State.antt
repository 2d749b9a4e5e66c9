-- The states of a channel.
use Rattle.std.specs.Prelude.{ℕ, List, [], ◌∷◌, Option, find, codes, map}
use Rattle.std.specs.Str.{bytes_eq}
use Rattle.fs_text.specs.declared.states.State.{State}
use Rattle.fs_text.specs.declared.states.State.TheVariants.{CsNew, CsInit, CsRouting, CsSoftExecute, CsExecute, CsExchangeMedia, CsPark}
use Rattle.fs_text.specs.declared.states.State.TheVariants.{CsConsumeMedia, CsHibernate, CsReset, CsHangup, CsReporting, CsDestroy}

-- the number and the name of a state
unfoldable pub state_row : State → ℕ × List ℕ
state_row CsNew = (0, codes "CS_NEW")
state_row CsInit = (1, codes "CS_INIT")
state_row CsRouting = (2, codes "CS_ROUTING")
state_row CsSoftExecute = (3, codes "CS_SOFT_EXECUTE")
state_row CsExecute = (4, codes "CS_EXECUTE")
state_row CsExchangeMedia = (5, codes "CS_EXCHANGE_MEDIA")
state_row CsPark = (6, codes "CS_PARK")
state_row CsConsumeMedia = (7, codes "CS_CONSUME_MEDIA")
state_row CsHibernate = (8, codes "CS_HIBERNATE")
state_row CsReset = (9, codes "CS_RESET")
state_row CsHangup = (10, codes "CS_HANGUP")
state_row CsReporting = (11, codes "CS_REPORTING")
state_row CsDestroy = (12, codes "CS_DESTROY")

-- all states, in the order of their numbers
abbrev pub all_states : List State
all_states =
    CsNew ∷ CsInit ∷ CsRouting ∷ CsSoftExecute
    ∷ CsExecute ∷ CsExchangeMedia ∷ CsPark ∷ CsConsumeMedia
    ∷ CsHibernate ∷ CsReset ∷ CsHangup ∷ CsReporting
    ∷ CsDestroy ∷ []

-- the table of states: number and name
abbrev pub states : List (ℕ × List ℕ)
states = map state_row all_states

-- the number of a state
abbrev pub state_number : State → ℕ
state_number s = (state_row s).0

-- the text of a state's name
abbrev pub state_name : State → List ℕ
state_name s = (state_row s).1

-- the state that has this name
unfoldable pub state_of_name : List ℕ → Option State
state_of_name text = find (λ s. bytes_eq (state_name s) text) all_states
