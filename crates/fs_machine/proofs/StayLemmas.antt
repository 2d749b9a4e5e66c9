-- What channels do that others do not see, and what is told of it.
use Rattle.std.proofs.Common.{◌≡◌, ℕ, ◌==◌, nat_lt, Bool, true, false, if◌then◌else◌, List, [], ◌∷◌, Option, None, Some, ◌⊎◌, inl, inr}
use Rattle.std.proofs.Common.{is_none, refl, sym, ap, subst, ◌∙◌, true≢false}
use Rattle.std.specs.Prelude.{is_some}
use Rattle.std.proofs.lemmas.Bool.{cases_eq, false≢true}
use Rattle.std.proofs.lemmas.Option.{none-some}
use Rattle.fs_text.specs.declared.states.State.{State}
use Rattle.fs_text.specs.declared.states.State.TheVariants.{CsNew, CsInit, CsRouting, CsExecute, CsPark, CsConsumeMedia, CsExchangeMedia}
use Rattle.fs_text.specs.declared.states.State.TheVariants.{CsHangup, CsReporting}
use Rattle.fs_text.specs.State.{state_row, state_number}
use Rattle.fs_text.specs.declared.event_names.EventName.{EventName}
use Rattle.fs_text.specs.declared.event_names.EventName.TheVariants.{ChannelState, ChannelAnswer, ChannelExecuteComplete, ChannelPark}
use Rattle.fs_text.specs.declared.event_names.EventName.TheVariants.{ChannelUnpark}
use Rattle.fs_chan.specs.declared.action.Action.{Action}
use Rattle.fs_chan.specs.declared.chan.Chan.{Chan}
use Rattle.fs_chan.specs.declared.peer.Direction.{Direction}
use Rattle.fs_chan.specs.declared.peer.Direction.TheVariants.{Inbound, Outbound}
use Rattle.fs_chan.specs.declared.wait.Wait.{Wait}
use Rattle.fs_chan.specs.declared.wait.Wait.TheVariants.{Ready, Bridged, Legs, Dial, Socket}
use Rattle.fs_chan.specs.Changes.{is_live, with_answer_place, wait_at_rest, HasShortFields}
use Rattle.fs_chan.specs.Bridging.{awaited_in, with_disposition}
use Rattle.fs_chan.specs.Controlling.{awaiting_dial, held_by, let_go_in, let_go, dial_in, dial_of}
use Rattle.fs_chan.specs.Exports.{with_set}
use Rattle.fs_chan.specs.Work as chan
use Rattle.fs_text.specs.Texts.{Text}
use Rattle.fs_vars.specs.Pairs.{same_text, value_of}
use Rattle.fs_vars.specs.Variables.{Variables}
use Rattle.fs_chan.specs.declared.assignment.Assignment.{Assignment}
use Rattle.fs_machine.specs.Applications.{with_assignment}
use Rattle.fs_orig.specs.declared.orig.Orig.{Orig}
use Rattle.fs_orig.specs.Changes.{with_answer}
use Rattle.fs_seats.specs.Seats.{held_in, with_held}
use Rattle.fs_seats.proofs.HeldLemmas.{held_here, held_there, held_within}
use Rattle.fs_state.specs.declared.event.Event.{Event}
use Rattle.fs_state.specs.Switch.{Switch, chan_at, with_chan, orig_of, with_event}
use Rattle.fs_state.specs.Moves.{plain_event, with_leaving_event, with_coming_event, with_state_events, with_changed_chan_from}
use Rattle.fs_state.specs.Moves.{with_changed_chan, after_move_from, after_move, with_running, orig_changed_from, orig_changed, leg_changed}
use Rattle.fs_state.specs.Moves.{application_event, its_leg_changed, after_answer_from, after_one_answer, partner_at, for_slot, after_answer}
use Rattle.fs_machine.specs.Controlling.{names_target}
use Rattle.fs_machine.specs.Work.{first_state, with_variables}
use Rattle.fs_machine.specs.Sound.{is_idle}
use Rattle.fs_machine.proofs.LimitLemmas.{AreLimited, cause_key, with_set_limited, with_set_stays}
use Rattle.fs_machine.proofs.Kept.{Stage, hold_in, Links, links_of, IsApt, IsAtWork, KeepsVars, Keeps, IsDialable, KeepsHold, Stays}
use Rattle.fs_machine.proofs.Kept.{TellsNoBridge}

-- ---- states that live

abbrev pub Lives : State → Type 0
Lives state = nat_lt (state_number state) (state_number CsHangup) ≡ true

pub new_lives : Lives CsNew
unfolding state_row
new_lives = refl

pub init_lives : Lives CsInit
unfolding state_row
init_lives = refl

pub routing_lives : Lives CsRouting
unfolding state_row
routing_lives = refl

pub execute_lives : Lives CsExecute
unfolding state_row
execute_lives = refl

pub park_lives : Lives CsPark
unfolding state_row
park_lives = refl

media_lives : Lives CsConsumeMedia
unfolding state_row
media_lives = refl

pub exchange_lives : Lives CsExchangeMedia
unfolding state_row
exchange_lives = refl

pub hangup_dead : nat_lt (state_number CsHangup) (state_number CsHangup) ≡ false
unfolding state_row
hangup_dead = refl

pub reporting_dead : nat_lt (state_number CsReporting) (state_number CsHangup) ≡ false
unfolding state_row
reporting_dead = refl

-- a channel of a state lives as the state says
pub live_by : (c : Chan) (state : State) (b : Bool) → c.state ≡ state → nat_lt (state_number state) (state_number CsHangup) ≡ b →
    is_live c ≡ b
live_by c state b is lives = ap (λ (x : State). nat_lt (state_number x) (state_number CsHangup)) is ∙ lives

pub first_lives : (direction : Direction) → Lives (first_state direction)
first_lives Inbound = routing_lives
first_lives Outbound = media_lives

-- a leg that is not decided yet lives
pub idle_lives : (state : State) → is_idle state ≡ true → Lives state
idle_lives CsNew is = new_lives
idle_lives CsInit is = init_lives
idle_lives CsConsumeMedia is = media_lives
idle_lives _ is = absurd (false≢true is)

-- ---- what a channel waits for

hold_awaited : (wait : Wait) → awaited_in (hold_in wait) ≡ awaited_in wait
hold_awaited (Legs orig) = refl
hold_awaited Bridged = refl
hold_awaited _ = refl

-- held by the same, it waits for the same legs
pub same_awaited : (old new : Wait) → hold_in new ≡ hold_in old → awaited_in new ≡ awaited_in old
same_awaited old new same = sym (hold_awaited new) ∙ (ap awaited_in same ∙ hold_awaited old)

-- ---- variables

-- those that stay
pub same_vars : {b : Stage} (old new : Variables) → new ≡ old → KeepsVars b old new
same_vars old new same = record {
  limits = λ limited. subst AreLimited (sym same) limited;
  cause = λ begun. ap (λ (vars : Variables). value_of vars.pairs cause_key) same;
}

-- of a name that the machine sets otherwise
pub set_vars : {b : Stage} (vars : Variables) (name value : Text) → same_text cause_key name ≡ false →
    KeepsVars b vars (with_set vars name value)
set_vars vars name value apart = record {
  limits = with_set_limited vars name value;
  cause = λ begun. with_set_stays name cause_key value vars apart;
}

-- others, before anything has begun
pub early_vars : (old new : Variables) → (AreLimited old → AreLimited new) → KeepsVars None old new
early_vars old new limits = record { limits = limits; cause = λ begun. absurd (false≢true begun) }

-- ---- a channel at work

-- it is no leg that others wait for, and no leg of a bridge
nothing_else : (c d : Chan) → IsAtWork c → d.leg_of ≡ c.leg_of → d.peer ≡ c.peer → IsApt c → IsApt d
nothing_else c d works leg peer apt = record {
  outbound = λ some. absurd (no_leg (ap is_some (sym leg) ∙ some));
  idle = λ some. absurd (no_leg (ap is_some (sym leg) ∙ some));
  free = λ some. absurd (no_leg (ap is_some (sym leg) ∙ some));
  alone = λ some. absurd (no_peer (ap is_some (sym peer) ∙ some));
  held = λ some. absurd (no_peer (ap is_some (sym peer) ∙ some));
}
  where
    no_leg : is_some c.leg_of ≡ true → ⊥
    no_leg some = true≢false (sym (apt.idle some) ∙ works.busy)

    no_peer : is_some c.peer ≡ true → ⊥
    no_peer some = let both : Ready ≡ Bridged = sym works.free ∙ apt.held some in absurd (cc)

-- what others know of it
abbrev pub free_links : Chan → Links
free_links c = record { uuid = c.uuid; partner = c.partner; peer = c.peer; leg_of = c.leg_of; hold = Ready }

freed : (c : Chan) → IsAtWork c → free_links c ≡ links_of c
freed c works =
    ap (λ (hold : Wait). record { uuid = c.uuid; partner = c.partner; peer = c.peer; leg_of = c.leg_of; hold = hold }) (sym works.free)

-- it goes on, or waits for something that does not hold it
pub work_keeps : {b : Stage} (c d : Chan) → IsAtWork c → links_of d ≡ free_links c → is_live d ≡ true →
    (HasShortFields c.profile → HasShortFields d.profile) → d.vars ≡ c.vars → Keeps b c d
work_keeps c d works links live short vars = record {
  links = links ∙ freed c works;
  live = live ∙ sym works.live;
  short = short;
  apt = nothing_else c d works (ap (λ (l : Links). l.leg_of) links) (ap (λ (l : Links). l.peer) links);
  vars = same_vars c.vars d.vars vars;
}

pub work_stays : {b : Stage} (c d : Chan) → IsAtWork c → links_of d ≡ free_links c → is_live d ≡ true →
    (HasShortFields c.profile → HasShortFields d.profile) → d.vars ≡ c.vars → KeepsHold c d → Stays b c d
work_stays c d works links live short vars holder = record { keeps = work_keeps c d works links live short vars; holder = holder }

-- ---- connections that hold channels

-- it is held as it was, and waits for what it waited for
pub same_holder : {c d : Chan} → d.socket ≡ c.socket → d.wait ≡ c.wait → KeepsHold c d
same_holder {c} {d} socket wait = record { socket = inl socket; dials = subst IsDialable (sym wait) }

-- at rest it waits for no controller
pub rest_dialable : (socket : Option ℕ) (state : State) → IsDialable (wait_at_rest socket state)
rest_dialable (Some conn) state = tt
rest_dialable None CsPark = tt
rest_dialable None _ = tt

-- it is held as it was, and rests
pub rest_holder : {c d : Chan} (socket : Option ℕ) (state : State) → (d.socket ≡ c.socket) ⊎ (d.socket ≡ None) →
    d.wait ≡ wait_at_rest socket state → KeepsHold c d
rest_holder socket state held wait = record { socket = held; dials = λ h. subst IsDialable (sym wait) (rest_dialable socket state) }

-- whoever waits for a controller is at work
pub dials_at_work : (c : Chan) (text : Text) → dial_of c ≡ Some text → IsAtWork c
dials_at_work c text is = by c.state c.wait refl refl is
  where
    at : (state : State) → c.state ≡ state → Lives state → is_idle state ≡ false → hold_in c.wait ≡ Ready → IsAtWork c
    at state same lives busy free = record { live = live_by c state true same lives; free = free; busy = ap is_idle same ∙ busy }

    by : (state : State) (wait : Wait) → c.state ≡ state → c.wait ≡ wait → dial_in state wait ≡ Some text → IsAtWork c
    by CsExecute (Dial one) state wait waits = at CsExecute state execute_lives refl (ap hold_in wait)
    by CsPark (Dial one) state wait waits = at CsPark state park_lives refl (ap hold_in wait)
    by _ _ state wait waits = absurd (none-some text waits)

-- a connection takes hold of it
pub held_keeps : {b : Stage} (conn : ℕ) (c : Chan) (text : Text) → dial_of c ≡ Some text → Keeps b c (held_by conn c)
held_keeps conn c text waits =
    let works : IsAtWork c = dials_at_work c text waits in
    work_keeps c (held_by conn c) works refl works.live (λ short. short) refl

-- it waits for a controller that a text names
pub dials_stays : {b : Stage} (text : Text) (c : Chan) → names_target text ≡ true → IsAtWork c → Stays b c (awaiting_dial text c)
dials_stays text c names works =
    work_stays c (awaiting_dial text c) works refl works.live (λ short. short) refl (record { socket = inl refl; dials = λ h. names })

-- what it waits for at rest does not hold it
pub rest_free : (socket : Option ℕ) (state : State) → hold_in (wait_at_rest socket state) ≡ Ready
rest_free (Some conn) state = refl
rest_free None CsPark = refl
rest_free None _ = refl

-- at rest it is known as it was
pub rest_links : (c : Chan) (state : State) →
    record { uuid = c.uuid; partner = c.partner; peer = c.peer; leg_of = c.leg_of; hold = hold_in (wait_at_rest c.socket state) } ≡
    free_links c
rest_links c state =
    ap (λ (hold : Wait). record { uuid = c.uuid; partner = c.partner; peer = c.peer; leg_of = c.leg_of; hold = hold })
    (rest_free c.socket state)

-- ---- changes of one channel that others do not see

-- what others know, its direction, its state and its profile stay
pub record Quiet (old new : Chan) : Type 0 where
  pub links : links_of new ≡ links_of old
  pub direction : new.direction ≡ old.direction
  pub state : new.state ≡ old.state
  pub profile : new.profile ≡ old.profile
  pub holder : KeepsHold old new

abbrev pub AllQuiet : (Chan → Chan) → Type 0
AllQuiet change = (c : Chan) → Quiet c (change c)

-- how a change leaves the variables of each channel
abbrev pub AllKeep : Stage → (Chan → Chan) → Type 0
AllKeep b change = (c : Chan) → KeepsVars b c.vars (change c).vars

pub quiet_stays : {b : Stage} (c d : Chan) → Quiet c d → KeepsVars b c.vars d.vars → Stays b c d
quiet_stays c d quiet vars = record {
  keeps = record {
    links = quiet.links;
    live = ap (λ (state : State). nat_lt (state_number state) (state_number CsHangup)) quiet.state;
    short = subst HasShortFields (sym quiet.profile);
    apt = λ apt. record {
      outbound = λ some. quiet.direction ∙ apt.outbound (ap is_some (sym leg) ∙ some);
      idle = λ some. ap is_idle quiet.state ∙ apt.idle (ap is_some (sym leg) ∙ some);
      free = λ some. same_awaited c.wait d.wait (ap (λ (l : Links). l.hold) quiet.links) ∙ apt.free (ap is_some (sym leg) ∙ some);
      alone = λ some. leg ∙ apt.alone (ap is_some (sym peer) ∙ some);
      held = λ some. ap (λ (l : Links). l.hold) quiet.links ∙ apt.held (ap is_some (sym peer) ∙ some);
    };
    vars = vars;
  };
  holder = quiet.holder;
}
  where
    leg : d.leg_of ≡ c.leg_of
    leg = ap (λ (l : Links). l.leg_of) quiet.links

    peer : d.peer ≡ c.peer
    peer = ap (λ (l : Links). l.peer) quiet.links

-- it is let go
pub let_go_stays : {b : Stage} (c : Chan) → Stays b c (let_go c)
let_go_stays {b} c = by c.wait refl
  where
    by : (wait : Wait) → c.wait ≡ wait → Stays b c (let_go_in wait c)
    by (Socket conn) is = record {
      keeps = record {
        links =
            ap (λ (hold : Wait). record { uuid = c.uuid; partner = c.partner; peer = c.peer; leg_of = c.leg_of; hold = hold })
            (rest_free None c.state ∙ sym (ap hold_in is));
        live = refl;
        short = λ short. short;
        apt = λ apt. record {
          outbound = apt.outbound;
          idle = apt.idle;
          free = λ some. same_awaited c.wait (wait_at_rest None c.state) (rest_free None c.state ∙ sym (ap hold_in is)) ∙ apt.free some;
          alone = apt.alone;
          held = λ some. rest_free None c.state ∙ sym (ap hold_in is) ∙ apt.held some;
        };
        vars = same_vars c.vars c.vars refl;
      };
      holder = rest_holder None c.state (inr refl) refl;
    }
    by _ is =
        quiet_stays c (record c { socket = None })
        (record {
          links = refl;
          direction = refl;
          state = refl;
          profile = refl;
          holder = record { socket = inr refl; dials = λ h. h };
        }) (same_vars c.vars c.vars refl)

pub quiet_works : (c d : Chan) → Quiet c d → IsAtWork c → IsAtWork d
quiet_works c d quiet works = record {
  live = ap (λ (state : State). nat_lt (state_number state) (state_number CsHangup)) quiet.state ∙ works.live;
  free = ap (λ (l : Links). l.hold) quiet.links ∙ works.free;
  busy = ap is_idle quiet.state ∙ works.busy;
}

without_first_quiet : (messages : List Action) → AllQuiet (chan.without_first messages)
without_first_quiet [] c = record { links = refl; direction = refl; state = refl; profile = refl; holder = same_holder refl refl }
without_first_quiet (message ∷ messages) c = record { links = refl; direction = refl; state = refl; profile = refl; holder = same_holder refl refl }

after_taking_quiet : (line : List Action) → AllQuiet (chan.after_taking line)
after_taking_quiet [] c = record { links = refl; direction = refl; state = refl; profile = refl; holder = same_holder refl refl }
after_taking_quiet (next ∷ later) c = without_first_quiet c.messages c

without_first_vars : (messages : List Action) (c : Chan) → (chan.without_first messages c).vars ≡ c.vars
without_first_vars [] c = refl
without_first_vars (message ∷ messages) c = refl

after_taking_vars : (line : List Action) (c : Chan) → (chan.after_taking line c).vars ≡ c.vars
after_taking_vars [] c = refl
after_taking_vars (next ∷ later) c = without_first_vars c.messages c

pub after_next_keeps : {b : Stage} → AllKeep b chan.after_next
after_next_keeps c = same_vars c.vars (chan.after_next c).vars (after_taking_vars (chan.pending_of c) c)

pub after_next_quiet : AllQuiet chan.after_next
after_next_quiet c = after_taking_quiet (chan.pending_of c) c

pub running_quiet : (action : Action) → AllQuiet (with_running action)
running_quiet action c = record { links = refl; direction = refl; state = refl; profile = refl; holder = same_holder refl refl }

pub variables_quiet : (vars : Variables) → AllQuiet (with_variables vars)
variables_quiet vars c = record { links = refl; direction = refl; state = refl; profile = refl; holder = same_holder refl refl }

pub assignment_quiet : (how : Assignment) (argument : Text) → AllQuiet (with_assignment how argument)
assignment_quiet how argument c = record { links = refl; direction = refl; state = refl; profile = refl; holder = same_holder refl refl }

pub answer_quiet : (seat : ℕ) → AllQuiet (with_answer_place seat)
answer_quiet seat c = record { links = refl; direction = refl; state = refl; profile = refl; holder = same_holder refl refl }

pub disposition_quiet : (text : Text) → AllQuiet (with_disposition text)
disposition_quiet text c = record { links = refl; direction = refl; state = refl; profile = refl; holder = same_holder refl refl }

-- ---- a slot whose channel is at work

pub record WorksAt (channels : List (Option Chan)) (slot : ℕ) : Type 0 where
  pub chan : Chan
  pub there : held_in channels slot ≡ Some chan
  pub works : IsAtWork chan

-- it is the one that stands there
pub is_at_work : (channels : List (Option Chan)) (slot : ℕ) (c : Chan) → WorksAt channels slot → held_in channels slot ≡ Some c → IsAtWork c
is_at_work channels slot c at there =
    let is : held_in channels slot ≡ Some at.chan = at.there in
    let same : at.chan ≡ c = cc in
    subst IsAtWork same at.works

-- ---- what is told of a change of state

-- the application that is over is no bridge
pub application_plain : (found : Option Action) (slot : ℕ) → TellsNoBridge (application_event ChannelExecuteComplete found slot)
application_plain None slot = (refl, tt)
application_plain (Some action) slot = (refl, tt)

-- each event of a change of state tells of its channel alone
module _ (P : Switch → Type 0)
    (plain_kept : (name : EventName) (slot : ℕ) (s : Switch) → TellsNoBridge (plain_event name slot) → P s →
    P (with_event (plain_event name slot) s)) where
  left_plain_kept : (state : State) (slot : ℕ) {s : Switch} → P s → P (with_leaving_event state slot s)
  left_plain_kept CsPark slot h = plain_kept ChannelUnpark slot _ (refl, tt) h
  left_plain_kept _ slot h = h

  come_plain_kept : (state : State) (slot : ℕ) {s : Switch} → P s → P (with_coming_event state slot s)
  come_plain_kept CsPark slot h = plain_kept ChannelPark slot _ (refl, tt) h
  come_plain_kept _ slot h = h

  pub plain_differing_kept : (b : Bool) {s t : Switch} → P s → P t → P (if b then s else t)
  plain_differing_kept true first second = first
  plain_differing_kept false first second = second

  pub state_plain_kept : (old new : State) (slot : ℕ) {s : Switch} → P s → P (with_state_events old new slot s)
  state_plain_kept old new slot h =
      plain_differing_kept (state_number old == state_number new) h
      (plain_kept ChannelState slot _ (refl, tt) (come_plain_kept new slot (left_plain_kept old slot h)))

-- a channel is changed, and tells of that
pub moved_plain : (P : Switch → Type 0)
    (plain_kept : (name : EventName) (slot : ℕ) (s : Switch) → TellsNoBridge (plain_event name slot) → P s →
    P (with_event (plain_event name slot) s)) (change : Chan → Chan) (slot : ℕ) (s : Switch) →
    ((c : Chan) → chan_at s slot ≡ Some c → P (with_chan slot (Some (change c)) s)) → P s → P (after_move change slot s)
moved_plain P plain_kept change slot s there h = by (chan_at s slot) refl
  where
    by : (found : Option Chan) → chan_at s slot ≡ found → P (after_move_from change slot found s)
    by None is = h
    by (Some c) is = state_plain_kept P plain_kept c.state (change c).state slot (there c is)

-- the same for what each event keeps
module _ (P : Switch → Type 0) (told_kept : (event : Event) (s : Switch) → P s → P (with_event event s)) where
  plain_told : (name : EventName) (slot : ℕ) (s : Switch) → TellsNoBridge (plain_event name slot) → P s →
      P (with_event (plain_event name slot) s)
  plain_told name slot s plain h = told_kept (plain_event name slot) s h

  pub differing_kept : (b : Bool) {s t : Switch} → P s → P t → P (if b then s else t)
  differing_kept b first second = plain_differing_kept P plain_told b first second

  pub state_told_kept : (old new : State) (slot : ℕ) {s : Switch} → P s → P (with_state_events old new slot s)
  state_told_kept old new slot h = state_plain_kept P plain_told old new slot h

  pub moved_there : (change : Chan → Chan) (slot : ℕ) (s : Switch) →
      ((c : Chan) → chan_at s slot ≡ Some c → P (with_chan slot (Some (change c)) s)) → P s → P (after_move change slot s)
  moved_there change slot s there h = moved_plain P plain_told change slot s there h

-- a channel is changed, and tells of nothing
pub changed_there : (P : Switch → Type 0) (change : Chan → Chan) (slot : ℕ) (s : Switch) →
    ((c : Chan) → chan_at s slot ≡ Some c → P (with_chan slot (Some (change c)) s)) → P s → P (with_changed_chan change slot s)
changed_there P change slot s there h = by (chan_at s slot) refl
  where
    by : (found : Option Chan) → chan_at s slot ≡ found → P (with_changed_chan_from change slot found s)
    by None is = h
    by (Some c) is = there c is

-- ---- it is at work still

-- where a channel that is at work becomes one that is
works_put : (channels : List (Option Chan)) (slot seat : ℕ) (old new : Chan) → held_in channels seat ≡ Some old →
    (IsAtWork old → IsAtWork new) → WorksAt channels slot → WorksAt (with_held channels seat (Some new)) slot
works_put channels slot seat old new there keeps at = by (cases_eq slot seat)
  where
    by : (slot ≡ seat) ⊎ (slot ≡ seat → ⊥) → WorksAt (with_held channels seat (Some new)) slot
    by (inl same) = record {
      chan = new;
      there = ap (held_in (with_held channels seat (Some new))) same ∙ held_here channels seat (Some new)
          (held_within channels seat old there);
      works = keeps (is_at_work channels slot old at (ap (held_in channels) same ∙ there));
    }
    by (inr other) = record { chan = at.chan; there = held_there channels seat slot (Some new) other ∙ at.there; works = at.works }

pub moved_works : (change : Chan → Chan) (slot : ℕ) (s : Switch) → AllQuiet change → WorksAt s.channels slot →
    WorksAt (after_move change slot s).channels slot
moved_works change slot s quiet at =
    moved_there (λ (t : Switch). WorksAt t.channels slot) (λ event t h. h) change slot s
    (λ c there. works_put s.channels slot slot c (change c) there (quiet_works c (change c) (quiet c)) at) at

pub changed_works : (change : Chan → Chan) (slot : ℕ) (s : Switch) → AllQuiet change → WorksAt s.channels slot →
    WorksAt (with_changed_chan change slot s).channels slot
changed_works change slot s quiet at =
    changed_there (λ (t : Switch). WorksAt t.channels slot) change slot s
    (λ c there. works_put s.channels slot slot c (change c) there (quiet_works c (change c) (quiet c)) at) at

-- a change of an origination leaves channels as they are
pub orig_changed_channels : (change : Orig → Orig) (number : ℕ) (s : Switch) → (orig_changed change number s).channels ≡ s.channels
orig_changed_channels change number s = by (orig_of s number)
  where
    by : (found : Option Orig) → (orig_changed_from change number found s).channels ≡ s.channels
    by None = refl
    by (Some o) = refl

pub its_leg_channels : (change : ℕ → Orig → Orig) (slot : ℕ) (leg_of : Option ℕ) (s : Switch) →
    (its_leg_changed change slot leg_of s).channels ≡ s.channels
its_leg_channels change slot None s = refl
its_leg_channels change slot (Some number) s = orig_changed_channels (leg_changed change slot) number s

one_answered_works : (slot seat : ℕ) (s : Switch) → WorksAt s.channels slot → WorksAt (after_one_answer seat s).channels slot
one_answered_works slot seat s at = by (chan_at s seat) refl
  where
    put : (c : Chan) → chan_at s seat ≡ Some c → (test : Bool) →
        WorksAt (if test then its_leg_changed (λ position. with_answer position s.entries) seat c.leg_of
        (with_event (plain_event ChannelAnswer seat) (with_chan seat (Some (with_answer_place s.entries c)) s)) else s).channels slot
    put c is true =
        subst (λ (channels : List (Option Chan)). WorksAt channels slot)
        (sym (its_leg_channels (λ position. with_answer position s.entries) seat c.leg_of
        (with_event (plain_event ChannelAnswer seat) (with_chan seat (Some (with_answer_place s.entries c)) s))))
        (works_put s.channels slot seat c (with_answer_place s.entries c) is
        (quiet_works c (with_answer_place s.entries c) (answer_quiet s.entries c)) at)
    put c is false = at

    by : (found : Option Chan) → chan_at s seat ≡ found → WorksAt (after_answer_from seat found s).channels slot
    by None is = at
    by (Some c) is = put c is (is_none c.answered)

pub answered_works : (slot : ℕ) (s : Switch) → WorksAt s.channels slot → WorksAt (after_answer slot s).channels slot
answered_works slot s at = by (partner_at s slot)
  where
    by : (partner : Option ℕ) → WorksAt (for_slot after_one_answer partner (after_one_answer slot s)).channels slot
    by None = one_answered_works slot slot s at
    by (Some partner) = one_answered_works slot partner (after_one_answer slot s) (one_answered_works slot slot s at)
