-- What is used up and what begins in one change of a channel, and in two.
use Rattle.std.proofs.Common.{◌≡◌, ℕ, ◌==◌, Bool, true, List, [], ◌∷◌, Option, None, Some, cond, refl, sym, ap, ◌∙◌, arith}
use Rattle.std.proofs.lemmas.Bool.Decides.{nat_tests}
use Rattle.std.proofs.lemmas.List.{set-set}
use Rattle.fs_text.specs.declared.states.State.{State}
use Rattle.fs_text.specs.State.{state_number}
use Rattle.fs_text.specs.declared.event_names.EventName.TheVariants.{ChannelState}
use Rattle.fs_chan.specs.declared.action.Action.{Action}
use Rattle.fs_chan.specs.declared.chan.Chan.{Chan}
use Rattle.fs_chan.specs.Work.{pending_of, without_first, after_taking, after_next}
use Rattle.fs_seats.proofs.HeldLemmas.{held_here, held_within}
use Rattle.fs_state.specs.Switch.{Switch, chan_at, with_chan, with_event}
use Rattle.fs_state.specs.Moves.{plain_event, with_coming_event, with_leaving_event, with_state_events, after_move_from, after_move}
use Rattle.fs_state.specs.Moves.{with_running}

-- a number is itself
same : (n : ℕ) → (n == n) ≡ true
same n = grind (arith, nat_tests)

-- where the state stays nothing is told
quiet : (state : State) (slot : ℕ) (s : Switch) → with_state_events state state slot s ≡ s
quiet state slot s =
    let told = with_event (plain_event ChannelState slot) (with_coming_event state slot (with_leaving_event state slot s)) in
    ap (λ (b : Bool). cond b s told) (same (state_number state))

-- what is used up leaves the state
same_without : (messages : List Action) (c : Chan) → (without_first messages c).state ≡ c.state
same_without [] c = refl
same_without (message ∷ messages) c = refl

same_after : (pending : List Action) (c : Chan) → (after_taking pending c).state ≡ c.state
same_after [] c = refl
same_after (next ∷ later) c = same_without c.messages c

same_next : (c : Chan) → (after_next c).state ≡ c.state
same_next c = same_after (pending_of c) c

-- the channel that was put into a slot stands there
there : (c d : Chan) (slot : ℕ) (s : Switch) → chan_at s slot ≡ Some c → chan_at (with_chan slot (Some d) s) slot ≡ Some d
there c d slot s at = held_here s.channels slot (Some d) (held_within s.channels slot c at)

-- the second of two that were put there stands there alone
twice : (c d : Option Chan) (slot : ℕ) (s : Switch) → with_chan slot d (with_chan slot c s) ≡ with_chan slot d s
twice c d slot s = ap (λ (channels : List (Option Chan)). record s { channels = channels }) (set-set s.channels slot c d)

-- where there is no channel nothing changes
nobody : (change : Chan → Chan) (slot : ℕ) (s : Switch) → chan_at s slot ≡ None → after_move change slot s ≡ s
nobody change slot s at = ap (λ (held : Option Chan). after_move_from change slot held s) at

-- a change that leaves the state only puts the channel there
puts : (change : Chan → Chan) (c : Chan) (slot : ℕ) (s : Switch) → chan_at s slot ≡ Some c → (change c).state ≡ c.state →
    after_move change slot s ≡ with_chan slot (Some (change c)) s
puts change c slot s at stays =
    ap (λ (held : Option Chan). after_move_from change slot held s) at
    ∙ ap (λ (new : State). with_state_events c.state new slot (with_chan slot (Some (change c)) s)) stays
    ∙ quiet c.state slot (with_chan slot (Some (change c)) s)

-- a channel uses up what is next and begins an application: at once, or one after the other
pub begun_next : (action : Action) (slot : ℕ) (s : Switch) →
    after_move (λ c. with_running action (after_next c)) slot s ≡ after_move (with_running action) slot (after_move after_next slot s)
begun_next action slot s = by (chan_at s slot) refl
  where
    by : (held : Option Chan) → chan_at s slot ≡ held →
        after_move (λ c. with_running action (after_next c)) slot s ≡ after_move (with_running action) slot (after_move after_next slot s)
    by None at =
        nobody (λ c. with_running action (after_next c)) slot s at
        ∙ sym (ap (after_move (with_running action) slot) (nobody after_next slot s at) ∙ nobody (with_running action) slot s at)
    by (Some c) at =
        let d : Chan = after_next c in
        let once = puts after_next c slot s at (same_next c) in
        puts (λ c. with_running action (after_next c)) c slot s at (same_next c)
        ∙ sym (ap (after_move (with_running action) slot) once
        ∙ puts (with_running action) d slot (with_chan slot (Some d) s) (there c d slot s at) refl
        ∙ twice (Some d) (Some (with_running action d)) slot s)
