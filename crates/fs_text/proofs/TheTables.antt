-- The three tables are tables: the checker finds each value by its number and by its name.
use Rattle.std.proofs.Common.{◌≡◌, ◌==◌, Some, refl}
use Rattle.std.specs.List.{find}
use Rattle.fs_text.specs.declared.states.State.{State}
use Rattle.fs_text.specs.declared.states.State.TheVariants.{CsNew}
use Rattle.fs_text.specs.declared.causes.Cause.{Cause}
use Rattle.fs_text.specs.declared.causes.Cause.TheVariants.{UnallocatedNumber}
use Rattle.fs_text.specs.declared.event_names.EventName.{EventName}
use Rattle.fs_text.specs.declared.event_names.EventName.TheVariants.{Custom}
use Rattle.fs_text.specs.Tables.{IsTable}
use Rattle.fs_text.specs.State.{all_states, states, state_row, state_number, state_name, state_of_name}
use Rattle.fs_text.specs.Cause.{all_causes, causes, cause_row, cause_number, cause_name, cause_of_name}
use Rattle.fs_text.specs.EventName.{all_events, events, event_row, event_number, event_name, event_of_name}
use Rattle.fs_text.proofs.TableLemmas.{is_table}

state_by_number : (s : State) → find (λ t. state_number t == state_number s) all_states ≡ Some s
unfolding state_row
state_by_number CsNew = refl
state_by_number _ = refl

state_by_name : (s : State) → state_of_name (state_name s) ≡ Some s
unfolding state_row state_of_name
state_by_name CsNew = refl
state_by_name _ = refl

pub state_table : IsTable states state_row state_of_name
unfolding state_of_name
state_table = is_table state_row all_states state_by_number state_by_name

cause_by_number : (c : Cause) → find (λ d. cause_number d == cause_number c) all_causes ≡ Some c
unfolding cause_row
cause_by_number UnallocatedNumber = refl
cause_by_number _ = refl

cause_by_name : (c : Cause) → cause_of_name (cause_name c) ≡ Some c
unfolding cause_row cause_of_name
cause_by_name UnallocatedNumber = refl
cause_by_name _ = refl

pub cause_table : IsTable causes cause_row cause_of_name
unfolding cause_of_name
cause_table = is_table cause_row all_causes cause_by_number cause_by_name

event_by_number : (e : EventName) → find (λ f. event_number f == event_number e) all_events ≡ Some e
unfolding event_row
event_by_number Custom = refl
event_by_number _ = refl

event_by_name : (e : EventName) → event_of_name (event_name e) ≡ Some e
unfolding event_row event_of_name
event_by_name Custom = refl
event_by_name _ = refl

pub event_table : IsTable events event_row event_of_name
unfolding event_of_name
event_table = is_table event_row all_events event_by_number event_by_name
