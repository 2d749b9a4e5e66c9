-- Channels leave what they were in and live on, step by step: a fact is kept that bears each single step.
use Rattle.std.proofs.Common.{◌≡◌, ℕ, true, List, [], ◌∷◌, map, Option, None, Some, is_some, refl, sym, ap}
use Rattle.std.proofs.Common.{◌∙◌, option_and_then, inl, inr}
use Rattle.std.proofs.lemmas.Bool.{false≢true}
use Rattle.std.proofs.lemmas.Option.{none-some, same_Some}
use Rattle.fs_text.specs.Texts.{Text}
use Rattle.fs_text.specs.declared.states.State.TheVariants.{CsPark}
use Rattle.fs_text.specs.declared.causes.Cause.TheVariants.{OriginatorCancel}
use Rattle.fs_bridge.specs.Closure.{Members}
use Rattle.fs_chan.specs.declared.chan.Chan.{Chan}
use Rattle.fs_chan.specs.Bridging.{awaited_by, at_leisure}
use Rattle.fs_chan.specs.Changes.{is_live, parked, transferred, IsShortTarget, HasShortFields}
use Rattle.fs_chan.specs.declared.target.Target3.{Target3}
use Rattle.fs_chan.specs.declared.wait.Wait.{Wait}
use Rattle.fs_chan.specs.declared.wait.Wait.TheVariants.{Ready, Bridged}
use Rattle.fs_seats.specs.Seats.{held_in, with_held}
use Rattle.fs_seats.proofs.HeldLemmas.{held_here, held_within}
use Rattle.fs_state.specs.declared.event.Event.{Event}
use Rattle.fs_state.specs.declared.event.QueueAction.TheVariants.{Abort}
use Rattle.fs_state.specs.Switch.{Switch, chan_at, with_event}
use Rattle.fs_state.specs.Moves.{with_changed_chan_from, orig_given_up}
use Rattle.fs_state.specs.Hangups.{after_hangups}
use Rattle.fs_state.specs.Leaving.{all_legs_at, after_cancelling, after_bridges_left, after_leaving_others}
use Rattle.fs_state.specs.Queues.{queue_event, queue_at}
use Rattle.fs_machine.specs.Joining.{after_leaving, after_farewell, after_farewells, after_departures}
use Rattle.fs_machine.proofs.AbortLemmas.{queue_left_kept}
use Rattle.fs_machine.proofs.Kept.{Stage, hold_in, Links, links_of, KeepsHold, Stays}
use Rattle.fs_machine.proofs.ShortLemmas.{sent_short}
use Rattle.fs_machine.proofs.StayLemmas.{rest_holder, same_vars, free_links, rest_free, rest_links, park_lives, routing_lives}

-- ---- a fact that bears each step

-- where it bears of events that one leaves its queue
module _ (P : Switch → Type 0)
    (aborts : (name : Text) (slot : ℕ) (s : Switch) → P s → P (with_event (queue_event Abort name slot) s))
    (left : (slot : ℕ) (s : Switch) → P s → P (after_leaving slot s)) where
  farewell_by : (slot : ℕ) (s : Switch) → P s → P (after_farewell slot s)
  farewell_by slot s h = queue_left_kept P aborts (queue_at s slot) slot (after_leaving slot s) (left slot s h)

  farewells_by : (slots : List ℕ) (s : Switch) → P s → P (after_farewells slots s)
  farewells_by [] s h = h
  farewells_by (slot ∷ slots) s h = farewells_by slots (after_farewell slot s) (farewell_by slot s h)

  -- all of it
  module _ (hung : (named : Members) (s : Switch) → P s → P (after_hangups named s))
      (closed : (slots : List ℕ) (s : Switch) → P s → P (after_bridges_left slots s)) where
    pub departed_by : (slots : List ℕ) (s : Switch) → P s → P (after_departures slots s)
    departed_by slots s h =
        farewells_by slots (after_leaving_others slots s)
        (closed slots (after_cancelling slots s) (hung (map (λ slot. (slot, OriginatorCancel)) (all_legs_at s slots)) s h))

-- where it bears all events
module _ (P : Switch → Type 0) (told : (event : Event) (s : Switch) → P s → P (with_event event s))
    (left : (slot : ℕ) (s : Switch) → P s → P (after_leaving slot s)) where
  aborts : (name : Text) (slot : ℕ) (s : Switch) → P s → P (with_event (queue_event Abort name slot) s)
  aborts name slot s h = told (queue_event Abort name slot) s h

  pub farewell_kept : (slot : ℕ) (s : Switch) → P s → P (after_farewell slot s)
  farewell_kept = farewell_by P aborts left

  pub farewells_kept : (slots : List ℕ) (s : Switch) → P s → P (after_farewells slots s)
  farewells_kept = farewells_by P aborts left

  module _ (hung : (named : Members) (s : Switch) → P s → P (after_hangups named s))
      (closed : (slots : List ℕ) (s : Switch) → P s → P (after_bridges_left slots s)) where
    pub departed_kept : (slots : List ℕ) (s : Switch) → P s → P (after_departures slots s)
    departed_kept = departed_by P aborts left hung closed

-- ---- whoever has left

-- nothing holds it
pub left_free : (slot : ℕ) (s : Switch) (c : Chan) → chan_at (after_leaving slot s) slot ≡ Some c → hold_in c.wait ≡ Ready
left_free slot s c there = by (chan_at t slot) refl there
  where
    t : Switch
    t = orig_given_up slot (option_and_then awaited_by (chan_at s slot)) s

    by : (found : Option Chan) → chan_at t slot ≡ found → chan_at (with_changed_chan_from at_leisure slot found t) slot ≡ Some c →
        hold_in c.wait ≡ Ready
    by None is there = absurd (none-some c (sym is ∙ there))
    by (Some d) is there =
        let here : held_in (with_held t.channels slot (Some (at_leisure d))) slot ≡ Some (at_leisure d) =
        held_here t.channels slot (Some (at_leisure d)) (held_within t.channels slot d is) in
        ap (λ (x : Chan). hold_in x.wait) (same_Some c (at_leisure d) (sym there ∙ here)) ∙ rest_free None d.state

-- it goes where it is sent, or parks
sent_stays : {b : Stage} (c d : Chan) → is_live c ≡ true → c.leg_of ≡ None → hold_in c.wait ≡ Ready → links_of d ≡ free_links c →
    is_live d ≡ true → (HasShortFields c.profile → HasShortFields d.profile) → d.vars ≡ c.vars → KeepsHold c d → Stays b c d
sent_stays c d live lone free links lives short vars holder = record {
  keeps = record {
    links = links
        ∙ ap (λ (hold : Wait). record { uuid = c.uuid; partner = c.partner; peer = c.peer; leg_of = c.leg_of; hold = hold }) (sym free);
    live = lives ∙ sym live;
    short = short;
    vars = same_vars c.vars d.vars vars;
    apt = λ apt. record {
      outbound = λ some. absurd (no_leg some);
      idle = λ some. absurd (no_leg some);
      free = λ some. absurd (no_leg some);
      alone = λ some. leg ∙ lone;
      held = λ some. absurd (no_peer (apt.held (ap is_some (sym peer) ∙ some)));
    };
  };
  holder = holder;
}
  where
    leg : d.leg_of ≡ c.leg_of
    leg = ap (λ (l : Links). l.leg_of) links

    peer : d.peer ≡ c.peer
    peer = ap (λ (l : Links). l.peer) links

    no_leg : is_some d.leg_of ≡ true → ⊥
    no_leg some = false≢true (sym (ap is_some (leg ∙ lone)) ∙ some)

    no_peer : hold_in c.wait ≡ Bridged → ⊥
    no_peer held = let both : Ready ≡ Bridged = sym free ∙ held in absurd (cc)

pub parked_stays : {b : Stage} (c : Chan) → is_live c ≡ true → c.leg_of ≡ None → hold_in c.wait ≡ Ready → Stays b c (parked c)
parked_stays c live lone free = sent_stays c (parked c) live lone free (rest_links c CsPark) park_lives (λ short. short) refl
    (rest_holder c.socket CsPark (inl refl) refl)

pub transferred_stays : {b : Stage} (to : Target3) (c : Chan) → IsShortTarget to → is_live c ≡ true → c.leg_of ≡ None →
    hold_in c.wait ≡ Ready → Stays b c (transferred to c)
transferred_stays to c short live lone free =
    sent_stays c (transferred to c) live lone free refl routing_lives (sent_short to c.profile short) refl
    (record { socket = inr refl; dials = λ h. tt })
