-- What is left of channels where some were hung up: none comes to name an origination, or to wait for one, or for the end of a bridge.
use Rattle.std.proofs.Common.{◌≡◌, ℕ, Bool, List, Option, None, Some, inl, inr, option_and_then, sym, ap, ◌∙◌}
use Rattle.std.proofs.lemmas.Option.{none-some, same_Some}
use Rattle.fs_text.specs.declared.states.State.{State}
use Rattle.fs_text.specs.declared.states.State.TheVariants.{CsPark}
use Rattle.fs_text.specs.declared.causes.Cause.{Cause}
use Rattle.fs_bridge.specs.Closure.{Members}
use Rattle.fs_chan.specs.declared.chan.Chan.{Chan}
use Rattle.fs_chan.specs.Bridging.{awaited_by, at_leisure, unbridged}
use Rattle.fs_chan.specs.Changes.{wait_at_rest, at_rest, parked, hung_up}
use Rattle.fs_chan.specs.declared.wait.Wait.TheVariants.{Ready, Bridged}
use Rattle.fs_orig.specs.declared.orig.Orig.{Orig}
use Rattle.fs_seats.specs.Seats.{held_in}
use Rattle.fs_seats.proofs.TableLemmas.{IsWrittenOrKept, written_or_kept}
use Rattle.fs_state.specs.Switch.{Switch, chan_at, with_chan}
use Rattle.fs_state.specs.Moves.{orig_changed, orig_given_up}
use Rattle.fs_state.specs.Hangups.{after_hangups}
use Rattle.fs_state.specs.Leaving.{after_bridges_left}
use Rattle.fs_machine.specs.Joining.{after_leaving}
use Rattle.fs_machine.proofs.Kept.{hold_in}
use Rattle.fs_machine.proofs.StayLemmas.{rest_free, changed_there, orig_changed_channels}
use Rattle.fs_machine.proofs.ClosureLemmas.{hangs_up}
use Rattle.fs_machine.proofs.HangLemmas.{dies, Falls, Cut, Unbridged, Rests, Parks, hangups_kept, given_up_kept, bridges_left_kept}
use Rattle.fs_machine.proofs.HangLemmas.{hangs_as_left}
use Rattle.fs_machine.proofs.JoinLemmas.{rest_dials}

-- a new channel names what the old one named, and waits for what it waited for, or for less
pub record IsLess (old new : Chan) : Type 0 where
  pub names : (number : ℕ) → new.leg_of ≡ Some number → old.leg_of ≡ Some number
  pub waits : (number : ℕ) → awaited_by new ≡ Some number → awaited_by old ≡ Some number
  pub holds : new.wait ≡ Bridged → old.wait ≡ Bridged

-- at rest a channel waits for the end of no bridge
pub rest_holds : (socket : Option ℕ) (state : State) → wait_at_rest socket state ≡ Bridged → ⊥
rest_holds socket state is =
    let both : Ready ≡ Bridged = sym (rest_free socket state) ∙ ap hold_in is in
    cc

pub rest_less : (c : Chan) → IsLess c (at_rest c)
rest_less c = record {
  names = λ number is. is;
  waits = λ number is. absurd (none-some number (sym (rest_dials c.socket c.state) ∙ is));
  holds = λ is. absurd (rest_holds c.socket c.state is);
}

pub park_less : (c : Chan) → IsLess c (parked c)
park_less c = record {
  names = λ number is. is;
  waits = λ number is. absurd (none-some number (sym (rest_dials c.socket CsPark) ∙ is));
  holds = λ is. absurd (rest_holds c.socket CsPark is);
}

pub hung_less : (cause : Cause) (c : Chan) → IsLess c (hung_up cause c)
hung_less cause c = record {
  names = λ number is. absurd (none-some number is);
  waits = λ number is. absurd (none-some number is);
  holds = λ is. let both : Ready ≡ Bridged = is in absurd (cc);
}

pub freed_less : (cause : Cause) (c : Chan) → IsLess c (unbridged cause c)
freed_less cause c = record { names = λ number is. is; waits = λ number is. is; holds = λ is. is }

pub leisure_less : (c : Chan) → IsLess c (at_leisure c)
leisure_less c = record {
  names = λ number is. is;
  waits = λ number is. absurd (none-some number (sym (rest_dials None c.state) ∙ is));
  holds = λ is. absurd (rest_holds None c.state is);
}

pub falls_less : (hangs : ℕ → Bool) (slot : ℕ) (old new : Chan) → Falls hangs slot old new → IsLess old new
falls_less hangs slot old new (Cut cause hung) = hung_less cause old
falls_less hangs slot old new (Unbridged cause) = freed_less cause old
falls_less hangs slot old new (Rests outlives live) = rest_less old
falls_less hangs slot old new (Parks outlives live) = park_less old

-- what a channel of a slot was
pub record CameFrom (s : Switch) (slot : ℕ) (c : Chan) : Type 0 where
  pub was : Chan
  pub there : chan_at s slot ≡ Some was
  pub less : IsLess was c

-- each channel was there, and has come to name and to wait for nothing
abbrev pub Came : Switch → Switch → Type 0
Came s t = (slot : ℕ) (c : Chan) → chan_at t slot ≡ Some c → CameFrom s slot c

pub came_self : (s : Switch) → Came s s
came_self s slot c is = record {
  was = c;
  there = is;
  less = record { names = λ number is. is; waits = λ number is. is; holds = λ is. is };
}

pub came_put : (s t : Switch) (seat : ℕ) (old new : Chan) → chan_at t seat ≡ Some old → IsLess old new → Came s t →
    Came s (with_chan seat (Some new) t)
came_put s t seat old new there less h slot c is = by (written_or_kept t.channels seat (Some new) slot c is)
  where
    by : IsWrittenOrKept t.channels seat (Some new) slot c → CameFrom s slot c
    by (inl here) =
        let same : new ≡ c = same_Some new c here.1 in
        let from : CameFrom s slot old = h slot old (ap (chan_at t) here.0 ∙ there) in
        record {
          was = from.was;
          there = from.there;
          less = record {
            names = λ number names. from.less.names number (less.names number (ap (λ (d : Chan). d.leg_of) same ∙ names));
            waits = λ number waits. from.less.waits number (less.waits number (ap awaited_by same ∙ waits));
            holds = λ holds. from.less.holds (less.holds (ap (λ (d : Chan). d.wait) same ∙ holds));
          };
        }
    by (inr kept) = h slot c kept.1

pub came_changed : (s t : Switch) (change : Orig → Orig) (number : ℕ) → Came s t → Came s (orig_changed change number t)
came_changed s t change number h slot c is =
    h slot c (ap (λ (channels : List (Option Chan)). held_in channels slot) (sym (orig_changed_channels change number t)) ∙ is)

pub came_hung : (named : Members) (s t : Switch) → Came s t → Came s (after_hangups named t)
came_hung named s t h =
    hangups_kept named t (Came s) (λ event u k. k)
    (λ slot old new u there falls k. came_put s u slot old new there (falls_less (λ at. hangs_up at named t) slot old new falls) k)
    (λ number u k. k) (λ cause seat slot number u k. came_changed s u (dies cause seat slot) number k) (λ number u k. k) h

pub came_bridges_left : (slots : List ℕ) (s t : Switch) → Came s t → Came s (after_bridges_left slots t)
came_bridges_left slots s t h =
    bridges_left_kept slots t (Came s) (λ event u k. k)
    (λ slot old new u there falls k. came_put s u slot old new there (falls_less (hangs_as_left slots t) slot old new falls) k)
    (λ number u k. k) (λ cause seat slot number u k. came_changed s u (dies cause seat slot) number k) (λ number u k. k) h

pub came_left : (slot : ℕ) (s t : Switch) → Came s t → Came s (after_leaving slot t)
came_left slot s t h =
    let awaited : Option ℕ = option_and_then awaited_by (chan_at t slot) in
    let u : Switch = orig_given_up slot awaited t in
    let k : Came s u = given_up_kept (Came s) (λ number v k. k) slot awaited t h in
    changed_there (Came s) at_leisure slot u (λ c there. came_put s u slot c (at_leisure c) there (leisure_less c) k) k
