-- Each act keeps channels and the connections that hold them together: whoever names a connection is live and is what that controls, and a
-- channel that waits for a controller waits for one that a text names.
use Rattle.std.proofs.Common.{◌≡◌, ℕ, ◌+◌, ◌-◌, ◌^◌, min, Bool, true, false, not, if◌then◌else◌, List, Option, None, Some, option_map}
use Rattle.std.proofs.Common.{unwrap_or, is_none, ◌⊎◌, inl, inr, refl, sym, ap, subst, ◌∙◌}
use Rattle.std.proofs.lemmas.Bool.{cases_eq, eq-eqb, false≢true}
use Rattle.std.proofs.lemmas.Option.{none-some, same_Some}
use Rattle.fs_text.specs.Texts.{Text}
use Rattle.fs_bridge.specs.Closure.{Members}
use Rattle.fs_chan.specs.declared.action.Action.{Action}
use Rattle.fs_chan.specs.declared.chan.Chan.{Chan}
use Rattle.fs_chan.specs.declared.wait.Wait.{Wait}
use Rattle.fs_chan.specs.declared.wait.Wait.TheVariants.{Socket}
use Rattle.fs_chan.specs.Bridging.{in_media}
use Rattle.fs_chan.specs.Changes.{is_live}
use Rattle.fs_chan.specs.Controlling.{held_by, let_go, let_go_in as freed_in, dial_of, is_number, is_held_by}
use Rattle.fs_text.specs.declared.states.State.TheVariants.{CsPark}
use Rattle.fs_orig.specs.declared.caller.Caller.{Caller}
use Rattle.fs_orig.specs.declared.plan.LegPlan.{LegPlan}
use Rattle.fs_orig.specs.declared.winner.Winner.{Winner}
use Rattle.fs_orig.specs.declared.winner.Winner.TheVariants.{App, Route}
use Rattle.fs_seats.specs.declared.numbered.Numbered.{Numbered}
use Rattle.fs_seats.specs.Seats.{held_in, with_held, least_free}
use Rattle.fs_seats.specs.Rows.{seat_of, row_of, with_row, without_row, with_new_row}
use Rattle.fs_seats.proofs.RowLemmas.{AreDistinct, row_none, row_of-with_row_same, row_of-with_row_other, row_of-without_row_other}
use Rattle.fs_seats.proofs.RowLemmas.{row_of-with_new_row_same, row_of-with_new_row_other}
use Rattle.fs_seats.proofs.TableLemmas.{IsWrittenOrKept, written_or_kept, kept_without, row_found}
use Rattle.fs_state.specs.declared.conn.Conn.{Conn}
use Rattle.fs_state.specs.declared.conn.Control.{Control}
use Rattle.fs_state.specs.declared.conn.Phase.{Phase}
use Rattle.fs_state.specs.declared.conn.Phase.TheVariants.{Ready}
use Rattle.fs_state.specs.declared.conn.Parting.TheVariants as parting
use Rattle.fs_state.specs.declared.job.Asker.{Asker}
use Rattle.fs_state.specs.declared.job.Asker.TheVariants as asker
use Rattle.fs_state.specs.declared.job.JobWork.{JobWork}
use Rattle.fs_state.specs.declared.job.JobWork.TheVariants.{Originate}
use Rattle.fs_state.specs.Ending.{ended}
use Rattle.fs_state.specs.Switch.{Switch, chan_at, with_chan, conn_of, is_full_of_conns, with_new_job, without_job, without_orig}
use Rattle.fs_state.specs.Switch.{next_orig_number}
use Rattle.fs_state.specs.Moves.{after_move, orig_changed, leg_changed}
use Rattle.fs_state.specs.Hangups.{lives, after_hangups}
use Rattle.fs_state.specs.Leaving.{after_bridges_left}
use Rattle.fs_orig.specs.declared.orig.Orig.{Orig}
use Rattle.fs_orig.specs.Changes.{with_answer}
use Rattle.fs_machine.specs.declared.call.Call.{Call}
use Rattle.fs_machine.specs.declared.owing.Giver.{Giver}
use Rattle.fs_machine.specs.declared.owing.Giver.TheVariants as giver
use Rattle.fs_machine.specs.Connections.{conn_changed_from, conn_changed, admitted, parted, owed_since, not_owed, with_subs_changed}
use Rattle.fs_machine.specs.Controlling.{controller, coming_number, completed_by, with_completion_of, let_go_from, let_go_in}
use Rattle.fs_machine.specs.Controlling.{controlled_slot, control_of, slot_controlled_by, after_letting_go, is_held, is_left_in}
use Rattle.fs_machine.specs.Controlling.{after_leavings}
use Rattle.fs_machine.specs.Owing.{after_job_begin, background_begun, after_job_end}
use Rattle.fs_machine.specs.Originations.{pair_made, won_by, after_winning}
use Rattle.fs_machine.specs.Attempts.{first_group, originate_begun}
use Rattle.fs_machine.specs.Sound.{IsBoundTo, HoldersAgree}
use Rattle.fs_machine.specs.Step.{new_conn}
use Rattle.fs_machine.specs.Texts.{made_text, failed_text}
use Rattle.fs_machine.proofs.ClosureLemmas.{hangs_up}
use Rattle.fs_machine.proofs.ControlLemmas.{left_off, behind_conn}
use Rattle.fs_machine.proofs.FrontLemmas.{Front, front_of, orig_changed_conns, KeptByRemains, joins_by_remains}
use Rattle.fs_machine.proofs.FrontLemmas.{calls_by_remains, dials_by_remains}
use Rattle.fs_machine.proofs.HangLemmas.{dies, Falls, Cut, Unbridged, Rests, Parks, hangups_kept, bridges_left_kept, hangs_as_left}
use Rattle.fs_machine.proofs.Kept.{Stage, Fact, Remains, IsDialable, KeepsHold, none_joined_by, WasLetGo, raced, AreDead, KeptByTouches}
use Rattle.fs_machine.proofs.Kept.{KeptByCalls, KeptByBirths, KeptByApi, KeptByDials, KeptByMoves}
use Rattle.fs_machine.proofs.NameLemmas.{leg_chan, far_chan, pair_channels}
use Rattle.fs_machine.proofs.RestLemmas.{Rest, orig_changed_rest}
use Rattle.fs_machine.proofs.StayLemmas.{execute_lives, park_lives, exchange_lives, dials_at_work, same_holder, rest_holder}
use Rattle.fs_machine.proofs.StayLemmas.{moved_there, orig_changed_channels}
use Rattle.fs_machine.proofs.Walk.{group_made_kept}

abbrev Conns : Type 0
Conns = List (Option (Numbered Conn))

-- the connection of a number is there, gives all commands, and controls the channel in a slot
record Binds (conns : Conns) (conn slot : ℕ) : Type 0 where
  its : Conn
  there : row_of conns conn ≡ Some its
  ready : its.phase ≡ Ready
  control : Control
  has : its.control ≡ Some control
  at : control.slot ≡ slot

-- a channel may stand in a slot: if it names a connection, it is live, and is what that controls
abbrev IsHeldRight : Conns → ℕ → Chan → Type 0
IsHeldRight conns slot c = (conn : ℕ) → c.socket ≡ Some conn → (is_live c ≡ true) × Binds conns conn slot

-- each channel may stand where it stands, and waits for no controller that no text names
pub record Holds (channels : List (Option Chan)) (conns : Conns) : Type 0 where
  each : (slot : ℕ) (c : Chan) → held_in channels slot ≡ Some c → IsHeldRight conns slot c
  dials : (slot : ℕ) (c : Chan) → held_in channels slot ≡ Some c → IsDialable c.wait

-- this reads nothing else
abbrev pub Holding : Fact
Holding b s = Holds s.channels s.conns

holds_same : (s t : Switch) → t.channels ≡ s.channels → t.conns ≡ s.conns → Holds s.channels s.conns → Holds t.channels t.conns
holds_same s t channels conns h =
    subst (λ (x : Conns). Holds t.channels x) (sym conns) (subst (λ (x : List (Option Chan)). Holds x s.conns) (sym channels) h)

-- ---- one channel

-- one comes that may stand there
put_holds : (channels : List (Option Chan)) (conns : Conns) (seat : ℕ) (new : Chan) → IsHeldRight conns seat new → IsDialable new.wait →
    Holds channels conns → Holds (with_held channels seat (Some new)) conns
put_holds channels conns seat new right dials h = record {
  each = λ slot c is. each slot c (written_or_kept channels seat (Some new) slot c is);
  dials = λ slot c is. dialable slot c (written_or_kept channels seat (Some new) slot c is);
}
  where
    each : (slot : ℕ) (c : Chan) → IsWrittenOrKept channels seat (Some new) slot c → IsHeldRight conns slot c
    each slot c (inl here) conn names =
        let same : new ≡ c = same_Some new c here.1 in
        let got : (is_live new ≡ true) × Binds conns conn seat = right conn (ap (λ (d : Chan). d.socket) same ∙ names) in
        (sym (ap is_live same) ∙ got.0, subst (Binds conns conn) (sym here.0) got.1)
    each slot c (inr kept) conn names = h.each slot c kept.1 conn names

    dialable : (slot : ℕ) (c : Chan) → IsWrittenOrKept channels seat (Some new) slot c → IsDialable c.wait
    dialable slot c (inl here) = subst (λ (d : Chan). IsDialable d.wait) (same_Some new c here.1) dials
    dialable slot c (inr kept) = h.dials slot c kept.1

-- what no connection holds may stand anywhere
free_right : (conns : Conns) (slot : ℕ) (c : Chan) → c.socket ≡ None → IsHeldRight conns slot c
free_right conns slot c none conn names = absurd (none-some conn (sym none ∙ names))

-- one is changed, and is held as it was, or by none
kept_holds : (channels : List (Option Chan)) (conns : Conns) (slot : ℕ) (old new : Chan) → held_in channels slot ≡ Some old →
    (is_live old ≡ true → is_live new ≡ true) → KeepsHold old new → Holds channels conns → Holds (with_held channels slot (Some new)) conns
kept_holds channels conns slot old new there live holder h =
    put_holds channels conns slot new (by holder.socket) (holder.dials (h.dials slot old there)) h
  where
    by : (new.socket ≡ old.socket) ⊎ (new.socket ≡ None) → IsHeldRight conns slot new
    by (inl same) conn names =
        let got : (is_live old ≡ true) × Binds conns conn slot = h.each slot old there conn (sym same ∙ names) in
        (live got.0, got.1)
    by (inr none) conn names = absurd (none-some conn (sym none ∙ names))

gone_holds : (channels : List (Option Chan)) (conns : Conns) (slot : ℕ) → Holds channels conns → Holds (with_held channels slot None) conns
gone_holds channels conns slot h = record {
  each = λ other c is. h.each other c (kept_without channels slot other c is).1;
  dials = λ other c is. h.dials other c (kept_without channels slot other c is).1;
}

remains_holds : (slot : ℕ) (old new : Chan) (s : Switch) → chan_at s slot ≡ Some old → Remains old new → KeepsHold old new →
    Holds s.channels s.conns → Holds (with_chan slot (Some new) s).channels s.conns
remains_holds slot old new s there remains holder h =
    kept_holds s.channels s.conns slot old new there (λ live. remains.live ∙ live) holder h

-- ---- hangups

falls_holds : (hangs : ℕ → Bool) (slot : ℕ) (old new : Chan) (s : Switch) → chan_at s slot ≡ Some old → Falls hangs slot old new →
    Holds s.channels s.conns → Holds (with_chan slot (Some new) s).channels s.conns
falls_holds hangs slot old new s there (Cut cause hung) h =
    put_holds s.channels s.conns slot new (free_right s.conns slot new refl) tt h
falls_holds hangs slot old new s there (Unbridged cause) h =
    kept_holds s.channels s.conns slot old new there (λ live. live) (same_holder refl refl) h
falls_holds hangs slot old new s there (Rests outlives lived) h =
    kept_holds s.channels s.conns slot old new there (λ live. live) (rest_holder old.socket old.state (inl refl) refl) h
falls_holds hangs slot old new s there (Parks outlives lived) h =
    kept_holds s.channels s.conns slot old new there (λ live. park_lives) (rest_holder old.socket CsPark (inl refl) refl) h

orig_holds : (change : Orig → Orig) (number : ℕ) (s : Switch) → Holds s.channels s.conns →
    Holds (orig_changed change number s).channels (orig_changed change number s).conns
orig_holds change number s h =
    holds_same s (orig_changed change number s) (orig_changed_channels change number s) (orig_changed_conns change number s) h

hung_holds : (named : Members) (s : Switch) → Holds s.channels s.conns →
    Holds (after_hangups named s).channels (after_hangups named s).conns
hung_holds named s h =
    hangups_kept named s (λ (t : Switch). Holds t.channels t.conns) (λ event t k. k)
    (λ slot old new t there falls k. falls_holds (λ at. hangs_up at named s) slot old new t there falls k)
    (λ number t k. k)
    (λ cause seat leg number t k. orig_holds (dies cause seat leg) number t k) (λ number t k. k) h

bridges_left_holds : (slots : List ℕ) (s : Switch) → Holds s.channels s.conns →
    Holds (after_bridges_left slots s).channels (after_bridges_left slots s).conns
bridges_left_holds slots s h =
    bridges_left_kept slots s (λ (t : Switch). Holds t.channels t.conns) (λ event t k. k)
    (λ slot old new t there falls k. falls_holds (hangs_as_left slots s) slot old new t there falls k)
    (λ number t k. k)
    (λ cause seat leg number t k. orig_holds (dies cause seat leg) number t k) (λ number t k. k) h

-- ---- births, and legs that win

media_holds : (slot : ℕ) (s : Switch) → Holds s.channels s.conns →
    Holds (after_move in_media slot s).channels (after_move in_media slot s).conns
media_holds slot s h =
    moved_there (λ (t : Switch). Holds t.channels t.conns) (λ event t k. k) in_media slot s
    (λ c there. kept_holds s.channels s.conns slot c (in_media c) there (λ live. exchange_lives) (same_holder refl refl) h) h

pair_conns : (call : Call) (orig a b : ℕ) (s : Switch) → (pair_made call orig a b s).conns ≡ s.conns
pair_conns call orig a b s = by call.uuid
  where
    by : (uuid : Option Text) → (pair_made (record call { uuid = uuid }) orig a b s).conns ≡ s.conns
    by None = refl
    by (Some own) = refl

pair_holds : (call : Call) (orig a b : ℕ) (s : Switch) → Holds s.channels s.conns →
    Holds (pair_made call orig a b s).channels (pair_made call orig a b s).conns
pair_holds call orig a b s h =
    let leg : Chan = leg_chan call orig a b s in
    let far : Chan = far_chan call orig a b s in
    subst (λ (x : Conns). Holds (pair_made call orig a b s).channels x) (sym (pair_conns call orig a b s))
    (subst (λ (x : List (Option Chan)). Holds x s.conns) (sym (pair_channels call orig a b s))
    (put_holds (with_held s.channels a (Some leg)) s.conns b far (free_right s.conns b far refl) tt
    (put_holds s.channels s.conns a leg (free_right s.conns a leg refl) tt h)))

wins_holds : (winner : Winner) (slot : ℕ) (s : Switch) → Holds s.channels s.conns →
    Holds (after_winning winner slot s).channels (after_winning winner slot s).conns
unfolding after_winning
wins_holds winner slot s h =
    moved_there (λ (t : Switch). Holds t.channels t.conns) (λ event t k. k) (won_by winner) slot s (λ c there. by winner c there) h
  where
    by : (how : Winner) (c : Chan) → chan_at s slot ≡ Some c → Holds (with_chan slot (Some (won_by how c)) s).channels s.conns
    by (App application argument) c there =
        kept_holds s.channels s.conns slot c (won_by (App application argument) c) there (λ live. execute_lives)
        (record { socket = inl refl; dials = λ k. tt }) h
    by (Route to) c there =
        put_holds s.channels s.conns slot (won_by (Route to) c) (free_right s.conns slot (won_by (Route to) c) refl) tt h

-- ---- connections

-- the others stand as they stood
binds_same : (old new : Conns) (conn slot : ℕ) → row_of new conn ≡ row_of old conn → Binds old conn slot → Binds new conn slot
binds_same old new conn slot same b =
    record { its = b.its; there = same ∙ b.there; ready = b.ready; control = b.control; has = b.has; at = b.at }

-- those that channels name hold them still
through : (channels : List (Option Chan)) (old new : Conns) →
    ((slot conn : ℕ) (c : Chan) → held_in channels slot ≡ Some c → c.socket ≡ Some conn → Binds old conn slot → Binds new conn slot) →
    Holds channels old → Holds channels new
through channels old new keeps h = record {
  each = λ slot c is conn names.
      let got : (is_live c ≡ true) × Binds old conn slot = h.each slot c is conn names in
      (got.0, keeps slot conn c is names got.1);
  dials = h.dials;
}

-- one is changed that stays ready, and controls what it did
record StaysBound (change : Conn → Conn) : Type 0 where
  ready : (c : Conn) → c.phase ≡ Ready → (change c).phase ≡ Ready
  control : (c : Conn) → (change c).control ≡ c.control

changed_holds : (change : Conn → Conn) (conn : ℕ) (s : Switch) → StaysBound change → Holds s.channels s.conns →
    Holds (conn_changed change conn s).channels (conn_changed change conn s).conns
changed_holds change conn s stays h = by (conn_of s conn) refl
  where
    bound : (c : Conn) → conn_of s conn ≡ Some c → (slot other : ℕ) → (conn ≡ other) ⊎ (conn ≡ other → ⊥) → Binds s.conns other slot →
        Binds (with_row s.conns conn (change c)) other slot
    bound c is slot other (inr differ) b =
        binds_same s.conns (with_row s.conns conn (change c)) other slot (row_of-with_row_other s.conns conn (change c) other differ) b
    bound c is slot other (inl same) b =
        let found = row_found s.conns conn c is in
        let one : c ≡ b.its = same_Some c b.its (sym is ∙ ap (row_of s.conns) same ∙ b.there) in
        subst (λ (n : ℕ). Binds (with_row s.conns conn (change c)) n slot) same
        (record {
          its = change c;
          there = row_of-with_row_same s.conns conn found.0 (change c) found.2.at;
          ready = stays.ready c (ap (λ (d : Conn). d.phase) one ∙ b.ready);
          control = b.control;
          has = stays.control c ∙ (ap (λ (d : Conn). d.control) one ∙ b.has);
          at = b.at;
        })

    by : (found : Option Conn) → conn_of s conn ≡ found →
        Holds (conn_changed_from change conn found s).channels (conn_changed_from change conn found s).conns
    by None is = h
    by (Some c) is =
        through s.channels s.conns (with_row s.conns conn (change c))
        (λ slot other d there names b. bound c is slot other (cases_eq conn other) b) h

-- no channel names a connection
abbrev IsUnnamed : List (Option Chan) → ℕ → Type 0
IsUnnamed channels conn = (slot : ℕ) (c : Chan) → held_in channels slot ≡ Some c → c.socket ≡ Some conn → ⊥

-- so whoever is named is another one
named_apart : (channels : List (Option Chan)) (conn slot other : ℕ) (c : Chan) → IsUnnamed channels conn → held_in channels slot ≡ Some c →
    c.socket ≡ Some other → conn ≡ other → ⊥
named_apart channels conn slot other c unnamed there names same = unnamed slot c there (names ∙ ap Some (sym same))

-- it may become whatever it does
unnamed_changed : (change : Conn → Conn) (conn : ℕ) (s : Switch) → IsUnnamed s.channels conn → Holds s.channels s.conns →
    Holds (conn_changed change conn s).channels (conn_changed change conn s).conns
unnamed_changed change conn s unnamed h = by (conn_of s conn)
  where
    by : (found : Option Conn) → Holds (conn_changed_from change conn found s).channels (conn_changed_from change conn found s).conns
    by None = h
    by (Some c) =
        through s.channels s.conns (with_row s.conns conn (change c))
        (λ slot other d there names b. binds_same s.conns (with_row s.conns conn (change c)) other slot
        (row_of-with_row_other s.conns conn (change c) other (named_apart s.channels conn slot other d unnamed there names)) b) h

-- and may be gone
unnamed_gone : (conn : ℕ) (s : Switch) → IsUnnamed s.channels conn → Holds s.channels s.conns → Holds s.channels (without_row s.conns conn)
unnamed_gone conn s unnamed h =
    through s.channels s.conns (without_row s.conns conn)
    (λ slot other d there names b. binds_same s.conns (without_row s.conns conn) other slot
    (row_of-without_row_other s.conns conn other (named_apart s.channels conn slot other d unnamed there names)) b) h

-- ---- a connection lets its channel go

-- the slot that a connection controls is that of the channel that names it
slot_bound : (s : Switch) (conn slot : ℕ) → Binds s.conns conn slot → slot_controlled_by conn s ≡ Some slot
slot_bound s conn slot b =
    ap (λ (found : Option Conn). controlled_slot (control_of found)) b.there ∙ (ap controlled_slot b.has ∙ ap Some b.at)

completed_channels : (running : Option Action) (slot : ℕ) (s : Switch) → (with_completion_of running slot s).channels ≡ s.channels
completed_channels None slot s = refl
completed_channels (Some action) slot s = refl

let_go_free : (c : Chan) → (let_go c).socket ≡ None
let_go_free c = by c.wait
  where
    by : (wait : Wait) → (freed_in wait c).socket ≡ None
    by (Socket conn) = refl
    by _ = refl

-- then no channel names it any more
let_go_unnamed : (conn : ℕ) (s : Switch) → Holds s.channels s.conns → IsUnnamed (after_letting_go conn s).channels conn
let_go_unnamed conn s h = by (slot_controlled_by conn s) refl
  where
    -- whoever names it stands in its slot
    its_slot : (slot : ℕ) (c : Chan) → chan_at s slot ≡ Some c → c.socket ≡ Some conn → slot_controlled_by conn s ≡ Some slot
    its_slot slot c there names = slot_bound s conn slot (h.each slot c there conn names).1

    freed : (seat : ℕ) (d : Chan) → slot_controlled_by conn s ≡ Some seat → (slot : ℕ) (c : Chan) →
        IsWrittenOrKept s.channels seat (Some (let_go d)) slot c → c.socket ≡ Some conn → ⊥
    freed seat d is slot c (inl here) names =
        none-some conn
        (sym (let_go_free d) ∙ (ap (λ (e : Chan). e.socket) (same_Some (let_go d) c here.1) ∙ names))
    freed seat d is slot c (inr kept) names = kept.0 (same_Some slot seat (sym (its_slot slot c kept.1 names) ∙ is))

    at : (seat : ℕ) (d : Chan) → slot_controlled_by conn s ≡ Some seat → chan_at s seat ≡ Some d → (test : Bool) →
        is_held_by conn d ≡ test →
        IsUnnamed
        (if test then with_completion_of (completed_by d.wait d.running) seat (with_chan seat (Some (let_go d)) s) else s).channels conn
    at seat d is there true held slot c now names =
        freed seat d is slot c
        (written_or_kept s.channels seat (Some (let_go d)) slot c
        (ap (λ (channels : List (Option Chan)). held_in channels slot)
        (sym (completed_channels (completed_by d.wait d.running) seat (with_chan seat (Some (let_go d)) s))) ∙ now)) names
    at seat d is there false other slot c now names =
        let same : slot ≡ seat = same_Some slot seat (sym (its_slot slot c now names) ∙ is) in
        let one : c ≡ d = same_Some c d (sym now ∙ (ap (chan_at s) same ∙ there)) in
        let holds : is_held_by conn d ≡ true =
        sym (ap (is_held_by conn) one) ∙ (ap (is_number conn) names ∙ eq-eqb conn conn refl) in
        false≢true (sym other ∙ holds)

    from : (seat : ℕ) → slot_controlled_by conn s ≡ Some seat → (found : Option Chan) → chan_at s seat ≡ found →
        IsUnnamed (let_go_from conn seat found s).channels conn
    from seat is None there slot c now names =
        let same : slot ≡ seat = same_Some slot seat (sym (its_slot slot c now names) ∙ is) in
        none-some c (sym there ∙ (sym (ap (chan_at s) same) ∙ now))
    from seat is (Some d) there slot c now names = at seat d is there (is_held_by conn d) refl slot c now names

    by : (found : Option ℕ) → slot_controlled_by conn s ≡ found → IsUnnamed (let_go_in conn found s).channels conn
    by None is slot c now names = none-some slot (sym is ∙ its_slot slot c now names)
    by (Some seat) is slot c now names = from seat is (chan_at s seat) refl slot c now names

-- ---- each connection parts whose channel has left it

-- none does that a channel names
leaves_holds : (s : Switch) → Holds s.channels s.conns → Holds (after_leavings s).channels (after_leavings s).conns
leaves_holds s h =
    through s.channels s.conns (after_leavings s).conns
    (λ slot conn c there names b. record {
      its = b.its;
      there = behind_conn s conn ∙ (ap (option_map (left_off s conn)) b.there ∙ ap Some (stays slot conn c there names b));
      ready = b.ready;
      control = b.control;
      has = b.has;
      at = b.at;
    }) h
  where
    holds : (slot conn : ℕ) (c : Chan) → chan_at s slot ≡ Some c → c.socket ≡ Some conn → (control : Control) → control.slot ≡ slot →
        not (is_held conn (chan_at s control.slot)) ≡ false
    holds slot conn c there names control at =
        ap (λ (found : Option Chan). not (is_held conn found)) (ap (chan_at s) at ∙ there)
        ∙ ap (λ (socket : Option ℕ). not (is_number conn socket)) names
        ∙ ap not (eq-eqb conn conn refl)

    stays : (slot conn : ℕ) (c : Chan) → chan_at s slot ≡ Some c → c.socket ≡ Some conn → (b : Binds s.conns conn slot) →
        left_off s conn b.its ≡ b.its
    stays slot conn c there names b =
        let left : is_left_in s conn b.its.phase b.its.control ≡ false =
        ap (λ (phase : Phase). is_left_in s conn phase b.its.control) b.ready
        ∙ ap (is_left_in s conn Ready) b.has
        ∙ holds slot conn c there names b.control b.at in
        ap (λ (test : Bool). if test then parted parting.ChannelLeft b.its else b.its) left

-- ---- a connection comes

-- its number is a new one
pub record IsNew (conns : Conns) (drawn : ℕ) : Type 0 where
  pub distinct : AreDistinct conns
  pub fresh : seat_of conns (min (drawn + 1) (2 ^ 32 - 1)) ≡ None

-- the others hold what they held
comes_holds : (channels : List (Option Chan)) (conns : Conns) (number : ℕ) (new : Conn) → seat_of conns number ≡ None →
    Holds channels conns → Holds channels (with_new_row conns number new)
comes_holds channels conns number new fresh h =
    through channels conns (with_new_row conns number new)
    (λ slot conn c there names b. binds_same conns (with_new_row conns number new) conn slot
    (row_of-with_new_row_other conns number new conn (λ same. none-some b.its (sym (row_none conns number fresh) ∙ (ap (row_of conns) same
    ∙ b.there)))) b) h

-- it takes hold of a channel
hold_holds : (slot : ℕ) (c : Chan) (text : Text) (s : Switch) → chan_at s slot ≡ Some c → dial_of c ≡ Some text →
    is_full_of_conns s ≡ false → IsNew s.conns s.drawn.conns → Holds s.channels s.conns →
    Holds (with_held s.channels slot (Some (held_by (coming_number s) c))) (with_new_row s.conns (coming_number s) (controller slot c text))
hold_holds slot c text s there waits room new h = by (least_free s.conns 0) refl room
  where
    conn : ℕ
    conn = coming_number s

    by : (found : Option ℕ) → least_free s.conns 0 ≡ found → is_none found ≡ false →
        Holds (with_held s.channels slot (Some (held_by conn c))) (with_new_row s.conns conn (controller slot c text))
    by None is free = absurd (cc)
    by (Some put) is free =
        put_holds s.channels (with_new_row s.conns conn (controller slot c text)) slot (held_by conn c)
        (λ other names. (
          (dials_at_work c text waits).live,
          subst (λ (n : ℕ). Binds (with_new_row s.conns conn (controller slot c text)) n slot) (same_Some conn other names)
              (record {
                its = controller slot c text;
                there = row_of-with_new_row_same s.conns conn (controller slot c text) put new.distinct new.fresh is;
                ready = refl;
                control = record { slot = slot; uuid = c.uuid; dialed = text };
                has = refl;
                at = refl;
              }),
        )) tt (comes_holds s.channels s.conns conn (controller slot c text) new.fresh h)

-- ---- all of them

-- where nobody lives no connection is named
dead_holds : (s : Switch) (conns : Conns) → AreDead s → Holds s.channels s.conns → Holds s.channels conns
dead_holds s conns dead h =
    through s.channels s.conns conns
    (λ slot conn c there names b. absurd (false≢true (sym (dead slot) ∙ (ap lives there ∙ (h.each slot c there conn names).0)))) h

-- before anything has begun the next number is a new one
abbrev IsOpen : Stage → Conns → ℕ → Type 0
IsOpen None conns drawn = IsNew conns drawn
IsOpen (Some n) conns drawn = Unit {0}

abbrev pub Held : Fact
Held b s = Holds s.channels s.conns × IsOpen b s.conns s.drawn.conns

-- ---- what channels do

same_holding : (b : Stage) (t u : Switch) → Holding b t → front_of u ≡ front_of t → u.conns ≡ t.conns → Holding b u
same_holding b t u h same conns = holds_same t u (ap (λ (f : Front). f.channels) same) conns h

remains_moves : KeptByRemains Holding
remains_moves = record {
  told = λ event plain h. h;
  globals = λ globals h. h;
  joins = λ kind caller answerer {b = b} {s = s} can h.
      joins_by_remains Holding (λ event b t k. k) (λ rows b t k. k)
      (λ slot old new b t there remains holder k. remains_holds slot old new t there remains holder k) kind caller answerer b s h;
  remains = λ slot old new {s = s} there remains holder h. remains_holds slot old new s there remains holder h;
  hung = λ named {s = s} h. hung_holds named s h;
  leaves = λ slots {s = s} h. bridges_left_holds slots s h;
  more = λ h. h;
  gone = λ slot old {s = s} there dead h. gone_holds s.channels s.conns slot h;
}

births_hold : KeptByBirths Holding
births_hold = record {
  spent = λ h. h;
  pair = λ call orig a b {s = s} short named first second h. pair_holds call orig a b s h;
}

module _ (before : Switch) where
  calls_hold : KeptByCalls Holding
  calls_hold = calls_by_remains before Holding same_holding remains_moves births_hold (λ slot u lively h. media_holds slot u h)

  dials_hold : KeptByDials before Holding
  dials_hold = dials_by_remains before Holding same_holding remains_moves births_hold (λ slot u lively h. media_holds slot u h)

  -- an answer is no matter of the numbers of connections
  touches_held : KeptByTouches Held
  touches_held = record {
    told = λ event plain h. h;
    globals = λ globals h. h;
    changed = λ slot old new {b = b} {s = s} there stays h. (calls_hold.touches.changed slot old new {b = b} {s = s} there stays h.0, h.1);
    answers = λ seat slot number {b = b} {s = s} h. (
      calls_hold.touches.answers seat slot number {b = b} {s = s} h.0,
      subst (λ (r : Rest). IsOpen b r.conns r.conns_drawn)
          (sym (orig_changed_rest (leg_changed (λ position. with_answer position seat) slot) number s)) h.1,
    );
  }

  calls_held : KeptByCalls Held
  calls_held = record {
    touches = touches_held;
    hung = λ named {s = s} early h. (calls_hold.hung named {s = s} early.0 h.0, tt);
    joined = λ kind caller answerer c d {s = s} can there other one two idle spare was h. (
      calls_hold.joined kind caller answerer c d {s = s} can there other one two idle spare
          (none_joined_by {P = Held} {Q = Holding} {s = s} was (λ t k. k.0)) h.0,
      tt,
    );
    departs = λ slots {s = s} early h. (calls_hold.departs slots {s = s} early.0 h.0, tt);
    more = λ h. h;
    gone = λ slot old {s = s} there dead early h. (calls_hold.gone slot old {s = s} there dead early.0 h.0, tt);
  }

  dials_held : KeptByDials before Held
  dials_held = record {
    spent = λ h. (h.0, tt);
    dials = λ slot c groups timeout {s = s} there works are h.
        (dials_hold.dials slot c groups timeout {s = s} there works are h.0, tt);
    regroups = λ number o plans caller {s = s} there are h. (dials_hold.regroups number o plans caller {s = s} there are h.0, tt);
    fails = λ slot orig cause {s = s} waits over h. (dials_hold.fails slot orig cause {s = s} waits over h.0, tt);
    wins = λ slot orig leg slots waits won h. (dials_hold.wins slot orig leg slots waits won h.0, tt);
  }

-- ---- what jobs and connections do

-- what is owed to a connection does not matter, nor does what it subscribes, nor whether it may give all commands
owed_bound : (since : ℕ) → StaysBound (owed_since since)
owed_bound since = record { ready = λ c is. is; control = λ c. refl }

not_owed_bound : StaysBound not_owed
not_owed_bound = record { ready = λ c is. is; control = λ c. refl }

begun_held : (by : Giver) (what : JobWork) (s : Switch) → Holds s.channels s.conns →
    Holds (after_job_begin by what s).channels (after_job_begin by what s).conns
begun_held (giver.Conn conn) what s h =
    changed_holds (owed_since s.entries) conn (with_new_job (record { asker = asker.Conn conn; work = what }) s) (owed_bound s.entries) h
begun_held (giver.Job number job) what s h = h

ended_held : (number : ℕ) (who : Asker) (answer : Text) (s : Switch) → Holds s.channels s.conns →
    Holds (after_job_end number who answer s).channels (after_job_end number who answer s).conns
ended_held number (asker.Conn conn) answer s h = changed_holds not_owed conn (without_job number s) not_owed_bound h
ended_held number (asker.Background job) answer s h = h

background_held : (given : Option Text) (command : Text) (s : Switch) → Holds s.channels s.conns →
    Holds (background_begun given command s).channels (background_begun given command s).conns
background_held None command s h = h
background_held (Some uuid) command s h = h

originated_held : (by : Giver) (groups : List (List LegPlan)) (winner : Winner) (caller : Caller) (timeout : Option ℕ) (s : Switch) →
    Holds s.channels s.conns →
    Holds (originate_begun by groups winner caller timeout s).channels (originate_begun by groups winner caller timeout s).conns
originated_held by groups winner caller timeout s h =
    begun_held by (Originate (next_orig_number s) winner caller) _
    (group_made_kept Holding births_hold (first_group groups) caller (next_orig_number s) {s = s} h)

api_held : (by : Giver) → KeptByApi by Held
api_held by = record {
  spent = λ h. (h.0, tt);
  draws = λ h. (h.0, tt);
  waits = λ what {s = s} wait may room h. (begun_held by what s h.0, tt);
  originates = λ groups winner caller timeout {s = s} may are short room h. (originated_held by groups winner caller timeout s h.0, tt);
  leavings = λ {s = s} h. (leaves_holds s h.0, tt);
  ends = λ reply notice {s = s} dead h. (dead_holds s (ended reply notice s).conns dead h.0, tt);
}

-- no channel names a connection that has let its channel go
was_unnamed : (conn : ℕ) (s : Switch) → WasLetGo Held conn s → IsUnnamed s.channels conn
was_unnamed conn s was =
    subst (λ (t : Switch). IsUnnamed t.channels conn) (sym was.left) (let_go_unnamed conn was.past was.first.0)

pub held_moves : (before : Switch) → KeptByMoves before Held
held_moves before = record {
  calls = calls_held before;
  jobs = record {
    out = λ number job does h. h;
    runs = λ number job. api_held (giver.Job number job);
    woken = λ number who what answer {s = s} wait does h. (ended_held number who answer s h.0, tt);
    failed = λ job who winner caller orig cause {s = s} does over h. (ended_held job who (failed_text cause) (without_orig orig s) h.0, tt);
    wins = λ job who winner caller orig leg slots does won h.
        let t : Switch = raced slots before in
        let u : Switch = after_winning winner (unwrap_or leg.slot 0) t in
        (ended_held job who (made_text leg.uuid) (without_orig orig u) (wins_holds winner (unwrap_or leg.slot 0) t h.0), tt);
  };
  dials = dials_held before;
  commands = λ conn. record {
    api = api_held (giver.Conn conn);
    noticed = λ frame h. h;
    gave = λ frame h. h;
    asked = λ change {s = s} h.
        (changed_holds (with_subs_changed change) conn s (record { ready = λ c is. is; control = λ c. refl }) h.0, tt);
    admitted = λ {s = s} fresh h. (changed_holds admitted conn s (record { ready = λ c is. refl; control = λ c. refl }) h.0, tt);
    parted = λ why {s = s} leaves was h. (unnamed_changed (parted why) conn s (was_unnamed conn s was) h.0, tt);
    backgrounds = λ given command {s = s} room h. (background_held given command s h.0, tt);
  };
  visits = record {
    arrived = λ {s = s} h. (comes_holds s.channels s.conns (coming_number s) new_conn h.1.fresh h.0, tt);
    taken = λ conn h. h;
    holds = λ slot c text {s = s} there waits room h. (hold_holds slot c text s there waits room h.1 h.0, tt);
    silent = λ conn {s = s} was h. (unnamed_changed (parted parting.EndOfInput) conn s (was_unnamed conn s was) h.0, tt);
    left = λ conn {s = s} was h. (unnamed_gone conn s (was_unnamed conn s was) h.0, tt);
    halted = (api_held (giver.Conn 0)).ends;
  };
}

-- ---- as the definition has it

pub nobody_holds : (channels : List (Option Chan)) (conns : Conns) → ((slot : ℕ) → held_in channels slot ≡ None) → Holds channels conns
nobody_holds channels conns none = record {
  each = λ slot c is. absurd (none-some c (sym (none slot) ∙ is));
  dials = λ slot c is. absurd (none-some c (sym (none slot) ∙ is));
}

pub holders_agree : (s : Switch) → Holds s.channels s.conns → HoldersAgree s
holders_agree s h = record {
  live = λ slot conn c there names. (h.each slot c there conn names).0;
  each = λ slot conn c there names. by slot conn (h.each slot c there conn names).1;
  dials = λ slot c text there waits. subst IsDialable waits (h.dials slot c there);
}
  where
    by : (slot conn : ℕ) → Binds s.conns conn slot → IsBoundTo s conn slot
    by slot conn b = record { its = b.its; there = b.there; ready = b.ready; control = b.control; has = b.has; at = b.at }
