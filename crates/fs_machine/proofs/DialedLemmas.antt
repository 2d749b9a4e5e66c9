-- What comes of a controller that was dialed: its connection takes hold of the channel, or the channel goes on.
use Rattle.std.proofs.Common.{◌≡◌, ℕ, Bool, Option, None, Some, refl, ◌∙◌}
use Rattle.fs_text.specs.Texts.{Text}
use Rattle.fs_chan.specs.declared.chan.Chan.{Chan}
use Rattle.fs_chan.specs.Changes.{at_rest}
use Rattle.fs_state.specs.Moves.{after_completion}
use Rattle.fs_state.specs.Switch.{Switch, chan_at}
use Rattle.fs_machine.specs.Controlling.{dial_at, taken_hold_of, taken_hold, has_hold, after_dial_of, after_dial, after_letting_go}
use Rattle.fs_machine.proofs.Kept.{Fact, KeptByCalls}
use Rattle.fs_machine.proofs.Walk.{let_go_kept}
use Rattle.fs_machine.proofs.RestLemmas.{rest_of, whichever, moved_rest, calls_by_rest}

-- what holds of a switch, of what it is where a controller takes hold, and of what it is where the channel goes on
pub dialed_by : (P : Switch → Type 0) (linked : Bool) (slot : ℕ) (s : Switch) → P s →
    ((c : Chan) (text : Text) → P (taken_hold_of slot c text s)) → P (after_completion slot s) → P (after_dial linked slot s)
dialed_by P linked slot s stays holds goes = by (dial_at s slot)
  where
    taken : (text : Text) (found : Option Chan) → P (taken_hold found text slot s)
    taken text None = stays
    taken text (Some c) = holds c text

    by : (text : Option Text) → P (after_dial_of text linked slot s)
    by None = stays
    by (Some text) =
        whichever P (has_hold linked s) (taken_hold (chan_at s slot) text slot s) (after_completion slot s)
        (taken text (chan_at s slot)) goes

-- a channel that goes on leaves the rest as it is
pub completed_rest : (slot : ℕ) (s : Switch) → rest_of (after_completion slot s) ≡ rest_of s
completed_rest slot s = moved_rest at_rest slot s

abbrev FromRest : Switch → Fact
FromRest s b t = rest_of t ≡ rest_of s

-- so does one that its connection lets go
pub freed_rest : (conn : ℕ) (s : Switch) → rest_of (after_letting_go conn s) ≡ rest_of s
freed_rest conn s =
    let calls : KeptByCalls (FromRest s) = calls_by_rest (FromRest s) (λ b t u h e. e ∙ h) (λ t h. h) in
    let_go_kept (FromRest s) calls.touches conn {b = None} {s = s} refl
