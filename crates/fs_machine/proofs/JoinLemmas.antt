-- Two channels that are to be joined by a command: nothing stands in the way, they leave what they were in, and come into media.
use Rattle.std.proofs.Common.{◌≡◌, ℕ, ◌==◌, Bool, true, false, not, ◌&&◌, if◌then◌else◌, Option}
use Rattle.std.proofs.Common.{None, Some}
use Rattle.std.proofs.Common.{is_none, is_some, ◌⊎◌, inl, inr, refl, sym, ap, ◌∙◌}
use Rattle.std.proofs.lemmas.Bool.{cases_eq, false≢true}
use Rattle.std.proofs.lemmas.Option.{none-some, same_Some}
use Rattle.fs_text.specs.Texts.{Text}
use Rattle.fs_text.specs.declared.states.State.{State}
use Rattle.fs_text.specs.declared.states.State.TheVariants.{CsPark, CsExchangeMedia}
use Rattle.fs_bridge.specs.declared.row.BridgeKind.{BridgeKind}
use Rattle.fs_chan.specs.declared.chan.Chan.{Chan}
use Rattle.fs_chan.specs.Bridging.{awaited_in, awaited_by, bridged}
use Rattle.fs_chan.specs.Changes.{is_live, in_state, wait_at_rest}
use Rattle.fs_seats.specs.Seats.{held_in, with_held}
use Rattle.fs_seats.proofs.HeldLemmas.{held_here, held_there, held_within}
use Rattle.fs_state.specs.Switch.{Switch, chan_at, with_chan, with_bridge}
use Rattle.fs_state.specs.Moves.{after_move}
use Rattle.fs_state.specs.Hangups.{lives, lives_at}
use Rattle.fs_state.specs.Bridging.{can_join, peer_of, with_peer_from, with_peer, joined_as, after_join}
use Rattle.fs_machine.specs.Joining.{is_early, is_ready, is_answered, in_the_way}
use Rattle.fs_machine.specs.Texts.{same_channel, not_ready, not_answered}
use Rattle.fs_machine.proofs.ShortLemmas.{left_holds, right_holds}
use Rattle.fs_machine.proofs.Kept.{Stage, Stays}
use Rattle.fs_machine.proofs.StayLemmas.{same_holder, exchange_lives, same_vars, moved_there, changed_there}

-- ---- what waits for no legs

-- the channel in a slot dials nothing
abbrev pub DialsNone : Switch → ℕ → Type 0
DialsNone s slot = (c : Chan) → chan_at s slot ≡ Some c → awaited_by c ≡ None

-- at rest a channel waits for no legs
pub rest_dials : (socket : Option ℕ) (state : State) → awaited_in (wait_at_rest socket state) ≡ None
rest_dials (Some conn) state = refl
rest_dials None CsPark = refl
rest_dials None _ = refl

-- a channel that dials nothing stays so, where the one that is changed does
pub dials_put : (s : Switch) (slot seat : ℕ) (old new : Chan) → chan_at s seat ≡ Some old →
    (awaited_by old ≡ None → awaited_by new ≡ None) → DialsNone s slot → DialsNone (with_chan seat (Some new) s) slot
dials_put s slot seat old new there keeps h c is = by (cases_eq slot seat)
  where
    by : (slot ≡ seat) ⊎ (slot ≡ seat → ⊥) → awaited_by c ≡ None
    by (inl same) =
        let here : held_in (with_held s.channels seat (Some new)) slot ≡ Some new =
        ap (held_in (with_held s.channels seat (Some new))) same
        ∙ held_here s.channels seat (Some new) (held_within s.channels seat old there) in
        ap awaited_by (same_Some c new (sym is ∙ here)) ∙ keeps (h old (ap (held_in s.channels) same ∙ there))
    by (inr other) = h c (sym (held_there s.channels seat slot (Some new) other) ∙ is)

-- ---- nothing stands in the way

clear : (a b c : Text) (same ready answered : Bool) →
    (if same then Some a else (if not ready then Some b else (if not answered then Some c else None))) ≡ None → ready ≡ true
clear a b c true ready answered e = absurd (none-some a (sym e))
clear a b c false false answered e = absurd (none-some b (sym e))
clear a b c false true answered e = refl

no_leg : (leg_of : Option ℕ) → is_none leg_of ≡ true → leg_of ≡ None
no_leg None is = refl
no_leg (Some n) is = absurd (false≢true is)

pub ready_lone : (found : Option Chan) → is_ready found ≡ true → (c : Chan) → found ≡ Some c → c.leg_of ≡ None
ready_lone found is c there =
    let both : (not (is_early c.state) && is_none c.leg_of) ≡ true = ap is_ready (sym there) ∙ is in
    no_leg c.leg_of (right_holds (not (is_early c.state)) (is_none c.leg_of) both)

-- both are ready
pub ready_now : (a b : ℕ) (s : Switch) → in_the_way a b s ≡ None → (is_ready (chan_at s a) ≡ true) × (is_ready (chan_at s b) ≡ true)
ready_now a b s is =
    let both : (is_ready (chan_at s a) && is_ready (chan_at s b)) ≡ true =
    clear same_channel not_ready not_answered (a == b) (is_ready (chan_at s a) && is_ready (chan_at s b))
    (is_answered (chan_at s a) && is_answered (chan_at s b)) is in
    (left_holds (is_ready (chan_at s a)) (is_ready (chan_at s b)) both, right_holds (is_ready (chan_at s a)) (is_ready (chan_at s b)) both)

-- ---- two that meet

-- a live channel that is no leg of an origination, and waits for no legs
pub record CanMeet (s : Switch) (slot : ℕ) : Type 0 where
  pub chan : Chan
  pub there : chan_at s slot ≡ Some chan
  pub live : is_live chan ≡ true
  pub lone : chan.leg_of ≡ None
  pub free : awaited_by chan ≡ None

pub meets_now : (s : Switch) (slot : ℕ) → lives_at s slot ≡ true → ((c : Chan) → chan_at s slot ≡ Some c → c.leg_of ≡ None) →
    DialsNone s slot → CanMeet s slot
meets_now s slot live lone dials = by (chan_at s slot) refl live
  where
    by : (found : Option Chan) → chan_at s slot ≡ found → lives found ≡ true → CanMeet s slot
    by None is live = absurd (false≢true live)
    by (Some c) is live = record { chan = c; there = is; live = live; lone = lone c is; free = dials c is }

meet_put : (s : Switch) (slot seat : ℕ) (old new : Chan) → chan_at s seat ≡ Some old → (is_live old ≡ true → is_live new ≡ true) →
    (old.leg_of ≡ None → new.leg_of ≡ None) → (awaited_by old ≡ None → awaited_by new ≡ None) → CanMeet s slot →
    CanMeet (with_chan seat (Some new) s) slot
meet_put s slot seat old new there lives lone free h = by (cases_eq slot seat)
  where
    by : (slot ≡ seat) ⊎ (slot ≡ seat → ⊥) → CanMeet (with_chan seat (Some new) s) slot
    by (inl same) =
        let is : h.chan ≡ old = same_Some h.chan old (sym h.there ∙ (ap (held_in s.channels) same ∙ there)) in
        record {
          chan = new;
          there = ap (held_in (with_held s.channels seat (Some new))) same
              ∙ held_here s.channels seat (Some new) (held_within s.channels seat old there);
          live = lives (ap is_live (sym is) ∙ h.live);
          lone = lone (ap (λ (d : Chan). d.leg_of) (sym is) ∙ h.lone);
          free = free (ap awaited_by (sym is) ∙ h.free);
        }
    by (inr other) =
        record {
          chan = h.chan;
          there = held_there s.channels seat slot (Some new) other ∙ h.there;
          live = h.live;
          lone = h.lone;
          free = h.free;
        }

peer_meets : (slot seat other : ℕ) (s : Switch) → CanMeet s slot → CanMeet (with_peer seat other s) slot
peer_meets slot seat other s h = by (chan_at s other)
  where
    by : (found : Option Chan) → CanMeet (with_peer_from seat other found s) slot
    by None = h
    by (Some d) =
        changed_there (λ (t : Switch). CanMeet t slot) (bridged (peer_of other d)) seat s
        (λ c there. meet_put s slot seat c (bridged (peer_of other d) c) there (λ live. live) (λ lone. lone) (λ free. refl) h) h

joined_meets : (kind : BridgeKind) (a b slot : ℕ) (s : Switch) → CanMeet s slot → CanMeet (joined_as kind a b s) slot
joined_meets kind a b slot s h =
    let t : Switch = with_bridge a b kind s in
    let k : CanMeet (with_peer b a (with_peer a b t)) slot =
    peer_meets slot b a (with_peer a b t)
    (peer_meets slot a b t (record { chan = h.chan; there = h.there; live = h.live; lone = h.lone; free = h.free })) in
    record { chan = k.chan; there = k.there; live = k.live; lone = k.lone; free = k.free }

pub join_meets : (kind : BridgeKind) (a b slot : ℕ) (s : Switch) → CanMeet s slot → CanMeet (after_join kind a b s) slot
join_meets kind a b slot s h = by (can_join a b s)
  where
    by : (test : Bool) → CanMeet (if test then joined_as kind a b s else s) slot
    by true = joined_meets kind a b slot s h
    by false = h

pub media_meets : (slot seat : ℕ) (s : Switch) → CanMeet s slot → CanMeet (after_move (in_state CsExchangeMedia) seat s) slot
media_meets slot seat s h =
    moved_there (λ (t : Switch). CanMeet t slot)
    (λ event t k. record { chan = k.chan; there = k.there; live = k.live; lone = k.lone; free = k.free }) (in_state CsExchangeMedia) seat s
    (λ c there. meet_put s slot seat c (in_state CsExchangeMedia c) there (λ live. exchange_lives) (λ lone. lone) (λ free. free) h) h

-- one that can meet another comes into media
pub media_stays : {b : Stage} (s : Switch) (slot : ℕ) → CanMeet s slot → (c : Chan) → chan_at s slot ≡ Some c →
    Stays b c (in_state CsExchangeMedia c)
media_stays s slot meets c there =
    let is : meets.chan ≡ c = same_Some meets.chan c (sym meets.there ∙ there) in
    let lone : c.leg_of ≡ None = ap (λ (d : Chan). d.leg_of) (sym is) ∙ meets.lone in
    record {
      keeps = record {
        links = refl;
        live = exchange_lives ∙ sym (ap is_live (sym is) ∙ meets.live);
        short = λ short. short;
        vars = same_vars c.vars c.vars refl;
        apt = λ apt. record {
          outbound = apt.outbound;
          idle = λ some. absurd (false≢true (sym (ap is_some lone) ∙ some));
          free = apt.free;
          alone = apt.alone;
          held = apt.held;
        };
      };
      holder = same_holder refl refl;
    }
