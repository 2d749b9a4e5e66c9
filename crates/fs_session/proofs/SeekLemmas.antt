-- A channel that waits for a controller waits for one that a text names.
use Rattle.std.proofs.Common.{◌≡◌, ℕ, Bool, true, false, List, Option, None, Some, refl, ap}
use Rattle.std.proofs.lemmas.Option.{none-some, same_Some}
use Rattle.std.specs.Prelude.{if◌then◌else◌}
use Rattle.std.specs.Option.{option_and_then}
use Rattle.fs_doc.specs.Reading.{Configuration}
use Rattle.fs_text.specs.Texts.{Text}
use Rattle.fs_text.specs.declared.states.State.{State}
use Rattle.fs_text.specs.declared.states.State.TheVariants.{CsExecute, CsPark}
use Rattle.fs_chan.specs.declared.chan.Chan.{Chan}
use Rattle.fs_chan.specs.declared.wait.Wait.{Wait}
use Rattle.fs_chan.specs.declared.wait.Wait.TheVariants.{Dial}
use Rattle.fs_chan.specs.Controlling.{dial_in, dial_of}
use Rattle.fs_state.specs.Switch.{Switch, chan_at}
use Rattle.fs_machine.specs.declared.entry.Entry.{Entry}
use Rattle.fs_machine.specs.declared.refusal.Refusal.{Refusal}
use Rattle.fs_machine.specs.Controlling.{dial_at, names_target}
use Rattle.fs_machine.specs.Laws.{state_after}
use Rattle.fs_machine.specs.Sound.{IsSound}
use Rattle.fs_machine.specs.Step.{refused_as_full}
use Rattle.fs_machine.specs.Turned.{IsJournal}
use Rattle.fs_machine.proofs.SoundLaws.{sound_run}
use Rattle.fs_session.specs.declared.actor.Actor.{Actor}
use Rattle.fs_session.specs.declared.actor.Actor.TheVariants.{Slot, Jobs}
use Rattle.fs_session.specs.declared.standing.Standing.TheVariants.{Over, Seeks}
use Rattle.fs_session.specs.Working.{is_over, sought_by, due_of, seeking, standing, standing_unless}

-- its wait has that text
dial_waits : (state : State) (wait : Wait) (text : Text) → dial_in state wait ≡ Some text → wait ≡ Dial text
dial_waits CsExecute (Dial one) text waits = ap Dial (same_Some one text waits)
dial_waits CsPark (Dial one) text waits = ap Dial (same_Some one text waits)
dial_waits _ _ text waits = absurd (none-some text waits)

dial_names : (s : Switch) (slot : ℕ) (text : Text) → IsSound s → dial_at s slot ≡ Some text → names_target text ≡ true
dial_names s slot text sound waits = by (chan_at s slot) refl waits
  where
    by : (found : Option Chan) → chan_at s slot ≡ found → option_and_then dial_of found ≡ Some text → names_target text ≡ true
    by None there is = absurd (none-some text is)
    by (Some c) there is = sound.controllers.dials slot c text there (dial_waits c.state c.wait text is)

-- an actor that stands so has such a channel
sought_stands : (who : Actor) (now : ℕ) (s : Switch) (text : Text) → standing who now s ≡ Seeks text → sought_by who s ≡ Some text
sought_stands who now s text is = by (refused_as_full s) (is_over who s) (sought_by who s) is
  where
    by : (full : Option Refusal) (over : Bool) (found : Option Text) →
        standing_unless full (if over then Over else seeking found (due_of who now s)) ≡ Seeks text → found ≡ Some text
    by None false None is = absurd (cc is)
    by None false (Some found) is = ap Some (cc is)
    by None true found is = absurd (cc is)
    by (Some why) over found is = absurd (cc is)

pub seeks_names : (config : Configuration) (log : List Entry) (who : Actor) (now : ℕ) (text : Text) → IsJournal config log →
    standing who now (state_after config log) ≡ Seeks text → names_target text ≡ true
seeks_names config log (Slot slot) now text run is =
    dial_names (state_after config log) slot text (sound_run config log run.within run.run)
    (sought_stands (Slot slot) now (state_after config log) text is)
seeks_names config log Jobs now text run is = absurd (none-some text (sought_stands Jobs now (state_after config log) text is))
