-- Bridges stand behind a hangup just where none of their legs hung up.
use Rattle.std.proofs.Common.{◌≡◌, ◌≢◌, ℕ, Bool, true, false, if◌then◌else◌, List, [], ◌∷◌, Option, None, Some, is_some, ◌⊎◌}
use Rattle.std.proofs.Common.{inl, inr, refl, sym, ap, subst, ◌∙◌, true≢false}
use Rattle.std.specs.List.{find}
use Rattle.std.proofs.lemmas.Bool.{eqb-true, false≢true}
use Rattle.std.proofs.lemmas.Cmp.{nat_eq_equiv}
use Rattle.std.proofs.lemmas.Option.{none-some, same_Some}
use Rattle.fs_text.specs.declared.states.State.TheVariants.{CsHangup}
use Rattle.fs_text.specs.declared.causes.Cause.{Cause}
use Rattle.fs_text.specs.declared.event_names.EventName.TheVariants.{ChannelExecuteComplete}
use Rattle.fs_bridge.specs.declared.after.After.{After}
use Rattle.fs_bridge.specs.declared.after.After.TheVariants.{GoOn, Hangup, Park}
use Rattle.fs_bridge.specs.declared.row.Row.{Row}
use Rattle.fs_bridge.specs.Bridges.{BridgeRows, has_number, part_of}
use Rattle.fs_bridge.specs.Closure.{Member, Members, Ends, peer_in, closure_of}
use Rattle.fs_bridge.specs.Hangups.{IsOneOf}
use Rattle.fs_chan.specs.declared.chan.Chan.{Chan}
use Rattle.fs_chan.specs.declared.wait.Wait.{Wait}
use Rattle.fs_chan.specs.declared.wait.Wait.TheVariants.{Ready, Sleep, Parked, Legs, Bridged}
use Rattle.fs_chan.specs.Bridging.{awaited_in, awaited_by, unbridged}
use Rattle.fs_chan.specs.Changes.{is_live, at_rest, parked, hung_up}
use Rattle.fs_orig.specs.declared.orig.Orig.{Orig}
use Rattle.fs_orig.specs.Changes.{with_death}
use Rattle.fs_seats.specs.Seats.{held_in, with_held}
use Rattle.fs_state.specs.Switch.{Switch, chan_at, with_chan, bridge_at, without_bridge, with_event, orig_of}
use Rattle.fs_state.specs.Moves.{with_changed_chan_from, with_changed_chan, after_move, after_one_hangup, its_leg_changed, leg_changed}
use Rattle.fs_state.specs.Moves.{application_event, running_at, with_state_events, orig_changed_from, hangup_event, orig_given_up}
use Rattle.fs_state.specs.Moves.{after_hangup_from}
use Rattle.fs_state.specs.declared.event.Event.{Event}
use Rattle.fs_chan.specs.declared.peer.Peer.{Peer}
use Rattle.fs_machine.proofs.HangLemmas.{given_up_kept}
use Rattle.fs_machine.proofs.TieLemmas.{HungAs, hung_by}
use Rattle.fs_state.specs.Hangups.{world_of, living_of, lives_at, has_peer, Ended, after_end, after_ends, unbridge_event, is_leg_of}
use Rattle.fs_state.specs.Hangups.{with_end_told, untold_by}
use Rattle.fs_state.specs.declared.event.QueueAction.TheVariants.{Abort}
use Rattle.fs_state.specs.Queues.{queue_event, abort_told}
use Rattle.fs_machine.proofs.AbortLemmas.{abort_kept}
use Rattle.fs_state.specs.Hangups.{after_member, after_members, after_outliving, after_survival, after_survivals, after_closure}
use Rattle.fs_state.specs.Hangups.{after_hangups}
use Rattle.fs_machine.specs.Sound.{is_idle}
use Rattle.fs_machine.proofs.Kept.{hold_in, IsApt}
use Rattle.fs_machine.proofs.StayLemmas.{differing_kept, state_told_kept, changed_there, moved_there}
use Rattle.fs_machine.proofs.JoinLemmas.{DialsNone, rest_dials}
use Rattle.fs_machine.proofs.LegLemmas.{Channels}
use Rattle.fs_machine.proofs.BondRows.{IsLeg, RowsFit, leg_part, peer_leg, still_part, stays_part, unbridged_fit}
use Rattle.fs_machine.proofs.BondLemmas.{HasEnded, member_ended, Outlives, survivor_outlives, end_stands}
use Rattle.fs_machine.proofs.BondTables.{NamesPeer, OpenBonds, BondsIn, Bonds, NoSlot, opened, closed, Stood, stood, lone_put}

-- ---- whoever outlives a bridge

-- what is held by a bridge waits for no legs
pub held_dials : (wait : Wait) → hold_in wait ≡ Bridged → awaited_in wait ≡ None
held_dials Ready is = refl
held_dials (Sleep until) is = refl
held_dials Parked is = refl
held_dials Bridged is = refl
held_dials (Legs orig) is = absurd (cc)
held_dials _ is = refl

-- a leg of a bridge is no leg of an origination, and waits for no legs
pub record IsHeld (s : Switch) (slot : ℕ) : Type 0 where
  pub lone : (c : Chan) → chan_at s slot ≡ Some c → c.leg_of ≡ None
  pub dials : DialsNone s slot

pub leg_held : (s : Switch) (slot : ℕ) (row : Row) → Bonds s → bridge_at s slot ≡ Some row → IsHeld s slot
leg_held s slot row h part = record {
  lone = λ c there. (h.apt slot c there).alone (has c there);
  dials = λ c there. held_dials c.wait ((h.apt slot c there).held (has c there));
}
  where
    has : (c : Chan) → chan_at s slot ≡ Some c → is_some c.peer ≡ true
    has c there =
        let names : NamesPeer s.channels slot (peer_in row slot) = h.legs slot row part in
        ap (λ (d : Chan). is_some d.peer) (same_Some c names.chan (sym there ∙ names.there)) ∙ ap is_some names.names

survivor_part : (named : Members) (s : Switch) (one : ℕ × After) → Bonds s →
    IsOneOf one (closure_of (world_of s) (living_of s named)).survivors →
    (row : Row) × (bridge_at s one.0 ≡ Some row) × HasEnded named s row
survivor_part named s one h is =
    let out : Outlives named s one.0 = survivor_outlives named s one h.rows is in (
      out.row,
      ap (bridge_at s) out.other
          ∙ leg_part s.bridges out.by (peer_in out.row out.by) out.row h.rows out.part (peer_leg out.row out.by),
      out.ended,
    )

pub survivors_held : (named : Members) (s : Switch) (one : ℕ × After) → Bonds s →
    IsOneOf one (closure_of (world_of s) (living_of s named)).survivors → IsHeld s one.0
survivors_held named s one h is = let part = survivor_part named s one h is in leg_held s one.0 part.0 h part.1

-- whoever outlives a bridge waits for no legs
pub survivors_dial_none : (named : Members) (s : Switch) (one : ℕ × After) → Bonds s →
    IsOneOf one (closure_of (world_of s) (living_of s named)).survivors → DialsNone s one.0
survivors_dial_none named s one h is = (survivors_held named s one h is).dials

-- ---- bridges end

its_leg_bridges : (change : ℕ → Orig → Orig) (slot : ℕ) (leg_of : Option ℕ) (s : Switch) →
    (its_leg_changed change slot leg_of s).bridges ≡ s.bridges
its_leg_bridges change slot None s = refl
its_leg_bridges change slot (Some number) s = by (orig_of s number)
  where
    by : (found : Option Orig) → (orig_changed_from (leg_changed change slot) number found s).bridges ≡ s.bridges
    by None = refl
    by (Some o) = refl

changed_bridges : (change : Chan → Chan) (slot : ℕ) (s : Switch) → (with_changed_chan change slot s).bridges ≡ s.bridges
changed_bridges change slot s = by (chan_at s slot)
  where
    by : (found : Option Chan) → (with_changed_chan_from change slot found s).bridges ≡ s.bridges
    by None = refl
    by (Some c) = refl

-- where nothing stands in a slot, it need not be open
none_open : (open_at rest : ℕ → Type 0) (channels : Channels) (bridges : BridgeRows) (seat : ℕ) → held_in channels seat ≡ None →
    ((slot : ℕ) → open_at slot → (slot ≡ seat) ⊎ rest slot) → ((slot : ℕ) → rest slot → open_at slot) →
    OpenBonds open_at channels bridges → OpenBonds rest channels bridges
none_open open_at rest channels bridges seat none split whole h = record {
  apt = h.apt;
  rows = h.rows;
  legs = h.legs;
  out = λ slot is. h.out slot (whole slot is);
  back = λ slot c there some. by slot c there (h.back slot c there some);
}
  where
    by : (slot : ℕ) (c : Chan) → held_in channels slot ≡ Some c → open_at slot ⊎ (is_some (part_of slot bridges) ≡ true) →
        rest slot ⊎ (is_some (part_of slot bridges) ≡ true)
    by slot c there (inr part) = inr part
    by slot c there (inl is) =
        elim (split slot is) [
          | inl same ↦ absurd (none-some c (sym none ∙ (ap (held_in channels) (sym same) ∙ there)))
          | inr left ↦ inl left
        ]

pub peerless_apt : (c d : Chan) → d.peer ≡ None → d.leg_of ≡ c.leg_of → d.direction ≡ c.direction → d.state ≡ c.state →
    (awaited_by c ≡ None → awaited_by d ≡ None) → IsApt c → IsApt d
peerless_apt c d none leg direction state dials apt = record {
  outbound = λ some. direction ∙ apt.outbound (ap is_some (sym leg) ∙ some);
  idle = λ some. ap is_idle state ∙ apt.idle (ap is_some (sym leg) ∙ some);
  free = λ some. dials (apt.free (ap is_some (sym leg) ∙ some));
  alone = λ some. absurd (false≢true (sym (ap is_some none) ∙ some));
  held = λ some. absurd (false≢true (sym (ap is_some none) ∙ some));
}

-- no leg of anything is apt
pub nothing_apt : (d : Chan) → d.peer ≡ None → d.leg_of ≡ None → IsApt d
nothing_apt d none lone = record {
  outbound = λ some. absurd (false≢true (sym (ap is_some lone) ∙ some));
  idle = λ some. absurd (false≢true (sym (ap is_some lone) ∙ some));
  free = λ some. absurd (false≢true (sym (ap is_some lone) ∙ some));
  alone = λ some. absurd (false≢true (sym (ap is_some none) ∙ some));
  held = λ some. absurd (false≢true (sym (ap is_some none) ∙ some));
}

freed_bonds : (open_at rest : ℕ → Type 0) (cause : Cause) (seat : ℕ) (t : Switch) → part_of seat t.bridges ≡ None →
    ((slot : ℕ) → open_at slot → (slot ≡ seat) ⊎ rest slot) → ((slot : ℕ) → rest slot → open_at slot) →
    OpenBonds open_at t.channels t.bridges →
    OpenBonds rest (with_changed_chan (unbridged cause) seat t).channels (with_changed_chan (unbridged cause) seat t).bridges
freed_bonds open_at rest cause seat t none split whole h = by (chan_at t seat) refl
  where
    by : (found : Option Chan) → chan_at t seat ≡ found →
        OpenBonds rest (with_changed_chan_from (unbridged cause) seat found t).channels
        (with_changed_chan_from (unbridged cause) seat found t).bridges
    by None is = none_open open_at rest t.channels t.bridges seat is split whole h
    by (Some c) is =
        lone_put open_at rest t.channels t.bridges seat c (unbridged cause c) is none
        (peerless_apt c (unbridged cause c) refl refl refl refl (λ none. none) (h.apt seat c is)) refl split whole h

-- bridges that stood when the hangup began have ended
pub record Ending (s t : Switch) : Type 0 where
  pub bonds : Bonds t
  pub less : (slot : ℕ) (row : Row) → bridge_at t slot ≡ Some row → bridge_at s slot ≡ Some row

module _ (s t : Switch) (fit : RowsFit s.bridges) (row : Row) (cause : Cause) (at : ℕ) (stood : bridge_at s at ≡ Some row)
    (h : Ending s t) where
  own_number : has_number row.number row ≡ true
  own_number = nat_eq_equiv.refl row.number

  -- its legs are part of nothing more
  legs_out : (slot : ℕ) → IsLeg slot row → bridge_at (without_bridge row.number t) slot ≡ None
  legs_out slot leg = by (bridge_at (without_bridge row.number t) slot) refl
    where
      by : (found : Option Row) → bridge_at (without_bridge row.number t) slot ≡ found → bridge_at (without_bridge row.number t) slot ≡ None
      by None is = is
      by (Some r) is =
          let still = still_part row.number slot t.bridges r h.bonds.rows.sound is in
          let same : r ≡ row = same_Some r row (sym (h.less slot r still.0) ∙ leg_part s.bridges at slot row fit stood leg) in
          absurd (true≢false (sym own_number ∙ (ap (has_number row.number) (sym same) ∙ still.1)))

  -- whoever named a peer is one of these, or is part of another bridge
  others_back : (slot : ℕ) → is_some (bridge_at t slot) ≡ true →
      IsLeg slot row ⊎ (is_some (bridge_at (without_bridge row.number t) slot) ≡ true)
  others_back slot some = by (bridge_at t slot) refl some
    where
      test : (r : Row) → bridge_at t slot ≡ Some r → (b : Bool) → has_number row.number r ≡ b →
          IsLeg slot row ⊎ (is_some (bridge_at (without_bridge row.number t) slot) ≡ true)
      test r is true e =
          let same : r ≡ row = fit.numbers slot at r row (h.less slot r is) stood (eqb-true r.number row.number e) in
          inl (subst (IsLeg slot) same (h.bonds.rows.leg slot r is))
      test r is false e = inr (ap is_some (stays_part row.number slot t.bridges r h.bonds.rows.sound is e))

      by : (found : Option Row) → bridge_at t slot ≡ found → is_some found ≡ true →
          IsLeg slot row ⊎ (is_some (bridge_at (without_bridge row.number t) slot) ≡ true)
      by None is e = absurd (false≢true e)
      by (Some r) is e = test r is (has_number row.number r) refl

  row_open : OpenBonds (λ slot. IsLeg slot row) t.channels (without_bridge row.number t).bridges
  row_open = record {
    apt = h.bonds.apt;
    rows = unbridged_fit row.number t.bridges h.bonds.rows;
    legs = λ slot r part. h.bonds.legs slot r (still_part row.number slot t.bridges r h.bonds.rows.sound part).0;
    out = λ slot leg. legs_out slot leg;
    back = λ slot c there some. others_back slot (h.bonds.back slot c there some);
  }

  caller_freed : OpenBonds (λ slot. slot ≡ row.answerer)
      (with_changed_chan (unbridged cause) row.caller (without_bridge row.number t)).channels
      (with_changed_chan (unbridged cause) row.caller (without_bridge row.number t)).bridges
  caller_freed =
      freed_bonds (λ slot. IsLeg slot row) (λ slot. slot ≡ row.answerer) cause row.caller (without_bridge row.number t)
      (legs_out row.caller (inl refl)) (λ slot leg. leg) (λ slot same. inr same) row_open

  both_freed : OpenBonds NoSlot (after_end row cause t).channels (after_end row cause t).bridges
  both_freed =
      freed_bonds (λ slot. slot ≡ row.answerer) NoSlot cause row.answerer
      (with_changed_chan (unbridged cause) row.caller (without_bridge row.number t)) (caller_freed.out row.answerer refl)
      (λ slot same. inl same) (λ slot none. absurd none) caller_freed

  end_part : (slot : ℕ) (r : Row) → bridge_at (after_end row cause t) slot ≡ Some r →
      (bridge_at t slot ≡ Some r) × (has_number row.number r ≡ false)
  end_part slot r is =
      let u : Switch = without_bridge row.number t in
      let same : (after_end row cause t).bridges ≡ u.bridges =
      changed_bridges (unbridged cause) row.answerer (with_changed_chan (unbridged cause) row.caller u)
      ∙ changed_bridges (unbridged cause) row.caller u in
      still_part row.number slot t.bridges r h.bonds.rows.sound (ap (part_of slot) (sym same) ∙ is)

  pub end_bonds : Ending s (after_end row cause t)
  end_bonds = record {
    bonds = closed (after_end row cause t).channels (after_end row cause t).bridges both_freed;
    less = λ slot r is. h.less slot r (end_part slot r is).0;
  }

  -- it stands nowhere
  pub end_gone : (slot : ℕ) → bridge_at (after_end row cause t) slot ≡ Some row → ⊥
  end_gone slot is = true≢false (sym own_number ∙ (end_part slot row is).1)

-- a row stands nowhere
abbrev NoRow : Row → Switch → Type 0
NoRow row t = (slot : ℕ) → bridge_at t slot ≡ Some row → ⊥

record AllEnded (s t : Switch) (ended : List Ended) : Type 0 where
  ending : Ending s (after_ends ended t)
  gone : (e : Ended) → IsOneOf e ended → NoRow e.0 (after_ends ended t)
  less : (row : Row) → NoRow row t → NoRow row (after_ends ended t)

all_end : (ended : List Ended) (s t : Switch) → RowsFit s.bridges →
    ((e : Ended) → IsOneOf e ended → (slot : ℕ) × (bridge_at s slot ≡ Some e.0)) → Ending s t → AllEnded s t ended
all_end [] s t fit stood h = record { ending = h; gone = λ e one. absurd one; less = λ row none. none }
all_end (e ∷ ended) s t fit stood h =
    let at = stood e (inl refl) in
    let next : Ending s (after_end e.0 e.1 t) = end_bonds s t fit e.0 e.1 at.0 at.1 h in
    let rest : AllEnded s (after_end e.0 e.1 t) ended =
    all_end ended s (after_end e.0 e.1 t) fit (λ x one. stood x (inr one)) next in
    record {
      ending = rest.ending;
      gone = λ x one. by x one rest;
      less = λ row none. rest.less row (λ slot is. none slot (end_part s t fit e.0 e.1 at.0 at.1 h slot row is).0);
    }
  where
    by : (x : Ended) → IsOneOf x (e ∷ ended) → AllEnded s (after_end e.0 e.1 t) ended → NoRow x.0 (after_ends ended (after_end e.0 e.1 t))
    by x (inl same) rest =
        let at = stood e (inl refl) in
        subst (λ (y : Ended). NoRow y.0 (after_ends ended (after_end e.0 e.1 t))) (sym same)
        (rest.less e.0 (end_gone s t fit e.0 e.1 at.0 at.1 h))
    by x (inr one) rest = rest.gone x one

-- a bridge that stands is one of those that end, or stands still
ends_part : (s : Switch) → RowsFit s.bridges → (slot : ℕ) (row : Row) → bridge_at s slot ≡ Some row → (ended : List Ended) (t : Switch) →
    ((e : Ended) → IsOneOf e ended → (at : ℕ) × (bridge_at s at ≡ Some e.0)) → Ending s t → bridge_at t slot ≡ Some row →
    ((e : Ended) × IsOneOf e ended × (e.0 ≡ row)) ⊎ (bridge_at (after_ends ended t) slot ≡ Some row)
ends_part s fit slot row was [] t stood h part = inr part
ends_part s fit slot row was (e ∷ ended) t stood h part =
    by
    (λ still. ends_part s fit slot row was ended (after_end e.0 e.1 t) (λ x one. stood x (inr one))
    (end_bonds s t fit e.0 e.1 at.0 at.1 h) still) (has_number e.0.number row) refl
  where
    at : (seat : ℕ) × (bridge_at s seat ≡ Some e.0)
    at = stood e (inl refl)

    later : ((x : Ended) × IsOneOf x ended × (x.0 ≡ row)) ⊎ (bridge_at (after_ends ended (after_end e.0 e.1 t)) slot ≡ Some row) →
        ((x : Ended) × IsOneOf x (e ∷ ended) × (x.0 ≡ row)) ⊎ (bridge_at (after_ends ended (after_end e.0 e.1 t)) slot ≡ Some row)
    later (inl found) = inl (found.0, inr found.1, found.2)
    later (inr there) = inr there

    by : ((bridge_at (after_end e.0 e.1 t) slot ≡ Some row) →
        ((x : Ended) × IsOneOf x ended × (x.0 ≡ row)) ⊎ (bridge_at (after_ends ended (after_end e.0 e.1 t)) slot ≡ Some row)) →
        (test : Bool) → has_number e.0.number row ≡ test →
        ((x : Ended) × IsOneOf x (e ∷ ended) × (x.0 ≡ row)) ⊎ (bridge_at (after_ends ended (after_end e.0 e.1 t)) slot ≡ Some row)
    by rest true is = inl (e, inl refl, fit.numbers at.0 slot e.0 row at.1 was (sym (eqb-true row.number e.0.number is)))
    by rest false is =
        later
        (rest
        (ap (part_of slot)
        (changed_bridges (unbridged e.1) e.0.answerer (with_changed_chan (unbridged e.1) e.0.caller (without_bridge e.0.number t))
        ∙ changed_bridges (unbridged e.1) e.0.caller (without_bridge e.0.number t))
        ∙ stays_part e.0.number slot t.bridges row h.bonds.rows.sound part is))

-- ---- whoever hangs up, and whoever does not

-- a channel in a slot is no leg of an origination
abbrev pub LoneIn : Channels → ℕ → Type 0
LoneIn channels slot = (c : Chan) → held_in channels slot ≡ Some c → c.leg_of ≡ None

pub lone_kept : (channels : Channels) (slot seat : ℕ) (old new : Chan) → held_in channels seat ≡ Some old →
    (old.leg_of ≡ None → new.leg_of ≡ None) → LoneIn channels slot → LoneIn (with_held channels seat (Some new)) slot
lone_kept channels slot seat old new there keeps h c is = by (stood channels seat old new slot c there is)
  where
    by : Stood channels seat old new slot c → c.leg_of ≡ None
    by was = how was.how
      where
        how : ((slot ≡ seat) × (was.was ≡ old) × (c ≡ new)) ⊎ ((slot ≢ seat) × (c ≡ was.was)) → c.leg_of ≡ None
        how (inl e) =
            ap (λ (d : Chan). d.leg_of) e.2 ∙ keeps (ap (λ (d : Chan). d.leg_of) (sym e.1) ∙ h was.was was.there)
        how (inr e) = ap (λ (d : Chan). d.leg_of) e.1 ∙ h was.was was.there

-- those who outlive bridges are no legs of originations
abbrev AreLone : List (ℕ × After) → Switch → Type 0
AreLone survivors t = (one : ℕ × After) → IsOneOf one survivors → LoneIn t.channels one.0

freed_lone : (survivors : List (ℕ × After)) (cause : Cause) (seat : ℕ) (t : Switch) → AreLone survivors t →
    AreLone survivors (with_changed_chan (unbridged cause) seat t)
freed_lone survivors cause seat t h =
    changed_there (AreLone survivors) (unbridged cause) seat t
    (λ c is one among. lone_kept t.channels one.0 seat c (unbridged cause c) is (λ none. none) (h one among)) h

ends_lone : (survivors : List (ℕ × After)) (ended : List Ended) (t : Switch) → AreLone survivors t → AreLone survivors (after_ends ended t)
ends_lone survivors [] t h = h
ends_lone survivors (e ∷ ended) t h =
    ends_lone survivors ended (after_end e.0 e.1 t)
    (freed_lone survivors e.1 e.0.answerer (with_changed_chan (unbridged e.1) e.0.caller (without_bridge e.0.number t))
    (freed_lone survivors e.1 e.0.caller (without_bridge e.0.number t) h))

-- all bridges that are to end have ended: these are those that stand
record AllEnd (survivors : List (ℕ × After)) (bridges : BridgeRows) (t : Switch) : Type 0 where
  bonds : Bonds t
  same : t.bridges ≡ bridges
  lone : AreLone survivors t

hung_bridges : (cause : Cause) (slot : ℕ) (s : Switch) → (after_one_hangup cause slot s).bridges ≡ s.bridges
hung_bridges cause slot s = by (chan_at s slot)
  where
    by : (found : Option Chan) → (after_hangup_from cause slot found s).bridges ≡ s.bridges
    by None = refl
    by (Some c) =
        let cut : Switch = with_event (hangup_event cause slot) (with_chan slot (Some (hung_up cause c)) s) in
        let told : Switch = with_state_events c.state CsHangup slot cut in
        let left : Switch = its_leg_changed (λ position. with_death position s.entries cause) slot c.leg_of told in
        differing_kept (λ (t : Switch). t.bridges ≡ s.bridges) (λ event t h. h) (is_live c) {s = orig_given_up slot (awaited_by c) left}
        {t = s}
        (given_up_kept (λ (t : Switch). t.bridges ≡ s.bridges) (λ number t h. h) slot (awaited_by c) left
        (its_leg_bridges (λ position. with_death position s.entries cause) slot c.leg_of told
        ∙ state_told_kept (λ (t : Switch). t.bridges ≡ s.bridges) (λ event t h. h) c.state CsHangup slot {s = cut} refl)) refl

-- a channel in no bridge comes to name no peer
module _ (survivors : List (ℕ × After)) (bridges : BridgeRows) where
  put_ended : (seat : ℕ) (old new : Chan) (t : Switch) → chan_at t seat ≡ Some old → part_of seat bridges ≡ None → IsApt new →
      new.peer ≡ None → (old.leg_of ≡ None → new.leg_of ≡ None) → AllEnd survivors bridges t →
      AllEnd survivors bridges (with_chan seat (Some new) t)
  put_ended seat old new t there none apt peerless keeps h = record {
    bonds = closed (with_held t.channels seat (Some new)) t.bridges
        (lone_put NoSlot NoSlot t.channels t.bridges seat old new there (ap (part_of seat) h.same ∙ none) apt peerless
        (λ slot no. absurd no) (λ slot no. absurd no) (opened t.channels t.bridges h.bonds));
    same = h.same;
    lone = λ one among. lone_kept t.channels one.0 seat old new there keeps (h.lone one among);
  }

  told_ended : (event : Event) (t : Switch) → AllEnd survivors bridges t → AllEnd survivors bridges (with_event event t)
  told_ended event t h = record { bonds = h.bonds; same = h.same; lone = h.lone }

  as_ended : (t u : Switch) → u.channels ≡ t.channels → u.bridges ≡ t.bridges → AllEnd survivors bridges t → AllEnd survivors bridges u
  as_ended t u channels same h = record {
    bonds = subst (λ (all : Channels). BondsIn all u.bridges) (sym channels)
        (subst (λ (rows : BridgeRows). BondsIn t.channels rows) (sym same) h.bonds);
    same = same ∙ h.same;
    lone = λ one among. subst (λ (all : Channels). LoneIn all one.0) (sym channels) (h.lone one among);
  }

  one_ended : (cause : Cause) (slot : ℕ) (t : Switch) → part_of slot bridges ≡ None → AllEnd survivors bridges t →
      AllEnd survivors bridges (after_one_hangup cause slot t)
  one_ended cause slot t none h = by (hung_by cause slot t)
    where
      by : HungAs cause slot t (after_one_hangup cause slot t).channels → AllEnd survivors bridges (after_one_hangup cause slot t)
      by (inl dead) = as_ended t (after_one_hangup cause slot t) dead.1 (hung_bridges cause slot t) h
      by (inr found) =
          as_ended (with_chan slot (Some (hung_up cause found.0)) t) (after_one_hangup cause slot t) found.2 (hung_bridges cause slot t)
          (put_ended slot found.0 (hung_up cause found.0) t found.1 none (nothing_apt (hung_up cause found.0) refl refl) refl
          (λ lone. refl) h)

  tells_ended : (found : Option Ended) (t : Switch) → AllEnd survivors bridges t → AllEnd survivors bridges (with_end_told found t)
  tells_ended None t h = h
  tells_ended (Some e) t h = told_ended (unbridge_event e) t h

  members_ended : (untold : List Ended) (members : Members) (t : Switch) →
      ((m : Member) → IsOneOf m members → part_of m.0 bridges ≡ None) → AllEnd survivors bridges t →
      AllEnd survivors bridges (after_members untold members t)
  members_ended untold [] t none h = h
  members_ended untold (m ∷ members) t none h =
      members_ended (untold_by m.0 untold) members (after_member untold m t) (λ other one. none other (inr one))
      (one_ended m.1 m.0 (with_end_told (find (is_leg_of m.0) untold) (abort_told m.0 t)) (none m (inl refl))
      (tells_ended (find (is_leg_of m.0) untold) (abort_told m.0 t)
      (abort_kept (AllEnd survivors bridges) m.0 (λ name u k. told_ended (queue_event Abort name m.0) u k) t h)))

  -- whoever is part of no bridge names no peer
  peerless : (t : Switch) (slot : ℕ) (c : Chan) → part_of slot bridges ≡ None → AllEnd survivors bridges t → chan_at t slot ≡ Some c →
      c.peer ≡ None
  peerless t slot c none h there = by c.peer refl
    where
      by : (peer : Option Peer) → c.peer ≡ peer → peer ≡ None
      by None is = refl
      by (Some peer) is =
          absurd
          (false≢true
          (sym (ap is_some (ap (part_of slot) h.same ∙ none)) ∙ h.bonds.back slot c there (ap is_some is)))

  outlives_ended : (what : After) (slot : ℕ) (t : Switch) → part_of slot bridges ≡ None → LoneIn t.channels slot →
      AllEnd survivors bridges t → AllEnd survivors bridges (after_outliving what slot t)
  outlives_ended GoOn slot t none lone h =
      told_ended (application_event ChannelExecuteComplete (running_at slot t) slot) (after_move at_rest slot t)
      (moved_there (AllEnd survivors bridges) told_ended at_rest slot t
      (λ c is. put_ended slot c (at_rest c) t is none
      (peerless_apt c (at_rest c) (peerless t slot c none h is) refl refl refl
      (λ none. rest_dials c.socket c.state) (h.bonds.apt slot c is)) (peerless t slot c none h is)
      (λ no. no) h) h)
  outlives_ended Park slot t none lone h =
      moved_there (AllEnd survivors bridges) told_ended parked slot t
      (λ c is. put_ended slot c (parked c) t is none (nothing_apt (parked c) (peerless t slot c none h is) (lone c is))
      (peerless t slot c none h is) (λ no. no) h) h
  outlives_ended (Hangup cause) slot t none lone h = h

  survival_ended : (what : After) (slot : ℕ) (t : Switch) → part_of slot bridges ≡ None → LoneIn t.channels slot →
      AllEnd survivors bridges t → AllEnd survivors bridges (after_survival what slot t)
  survival_ended what slot t none lone h = by (lives_at t slot)
    where
      by : (live : Bool) → AllEnd survivors bridges (if live then after_outliving what slot t else t)
      by true = outlives_ended what slot t none lone h
      by false = h

  survivals_ended : (later : List (ℕ × After)) (t : Switch) →
      ((one : ℕ × After) → IsOneOf one later → IsOneOf one survivors × (part_of one.0 bridges ≡ None)) → AllEnd survivors bridges t →
      AllEnd survivors bridges (after_survivals later t)
  survivals_ended [] t all h = h
  survivals_ended (one ∷ later) t all h =
      let this = all one (inl refl) in
      survivals_ended later (after_survival one.1 one.0 t) (λ other is. all other (inr is))
      (survival_ended one.1 one.0 t this.1 (h.lone one this.0) h)

-- ---- all of it

-- whatever stands in a slot is no leg of an origination, and part of no bridge
pub record StandsAlone (s : Switch) (slot : ℕ) : Type 0 where
  pub lone : LoneIn s.channels slot
  pub none : bridge_at s slot ≡ None

-- whoever hangs up, or outlives a bridge, is part of none behind the ends
module _ (named : Members) (s : Switch) (h : Bonds s) where
  e : Ends
  e = closure_of (world_of s) (living_of s named)

  all : AllEnded s s e.ended
  unfolding e
  all =
      all_end e.ended s s h.rows (λ x one. end_stands named s x one) (record { bonds = h; less = λ slot row is. is })

  out_of_ended : (slot : ℕ) (row : Row) → HasEnded named s row → bridge_at (after_ends e.ended s) slot ≡ Some row → ⊥
  unfolding e
  out_of_ended slot row has is =
      all.gone has.end has.one slot (is ∙ ap (λ (r : Row). Some r) (sym has.is))

  member_out : (m : Member) → IsOneOf m e.members → bridge_at (after_ends e.ended s) m.0 ≡ None
  unfolding e
  member_out m one = by (bridge_at (after_ends e.ended s) m.0) refl
    where
      by : (found : Option Row) → bridge_at (after_ends e.ended s) m.0 ≡ found → found ≡ None
      by None is = refl
      by (Some row) is =
          let was : bridge_at s m.0 ≡ Some row = all.ending.less m.0 row is in
          let names : NamesPeer s.channels m.0 (peer_in row m.0) = h.legs m.0 row was in
          let peer : has_peer (chan_at s m.0) ≡ true = ap has_peer names.there ∙ ap is_some names.names in
          absurd (out_of_ended m.0 row (member_ended named s m row h.rows one peer was) is)

  survivor_out : (one : ℕ × After) → IsOneOf one e.survivors → bridge_at (after_ends e.ended s) one.0 ≡ None
  unfolding e
  survivor_out one among = by (bridge_at (after_ends e.ended s) one.0) refl
    where
      by : (found : Option Row) → bridge_at (after_ends e.ended s) one.0 ≡ found → found ≡ None
      by None is = refl
      by (Some row) is =
          let part = survivor_part named s one h among in
          let same : row ≡ part.0 = same_Some row part.0 (sym (all.ending.less one.0 row is) ∙ part.1) in
          absurd (out_of_ended one.0 row (subst (HasEnded named s) (sym same) part.2) is)

  -- whoever outlives one, in whatever order, is among these, or stands alone
  abbrev AreOutliving : List (ℕ × After) → Type 0
  AreOutliving later =
      (one : ℕ × After) → IsOneOf one later →
      IsOneOf one (closure_of (world_of s) (living_of s named)).survivors ⊎ StandsAlone s one.0

  lone_before : (one : ℕ × After) → IsOneOf one e.survivors ⊎ StandsAlone s one.0 → LoneIn s.channels one.0
  unfolding e
  lone_before one (inl among) = (survivors_held named s one h among).lone
  lone_before one (inr alone) = alone.lone

  alone_out : (one : ℕ × After) → IsOneOf one e.survivors ⊎ StandsAlone s one.0 → bridge_at (after_ends e.ended s) one.0 ≡ None
  unfolding e
  alone_out one (inl among) = survivor_out one among
  alone_out one (inr alone) = by (bridge_at (after_ends e.ended s) one.0) refl
    where
      by : (found : Option Row) → bridge_at (after_ends e.ended s) one.0 ≡ found → found ≡ None
      by None is = refl
      by (Some row) is = absurd (none-some row (sym alone.none ∙ all.ending.less one.0 row is))

  closure_ended : (later : List (ℕ × After)) → AreOutliving later →
      AllEnd later (after_ends e.ended s).bridges (after_survivals later (after_members e.ended e.members (after_ends e.ended s)))
  unfolding e
  closure_ended later outlive =
      let u : Switch = after_ends e.ended s in
      let v : Switch = after_members e.ended e.members u in
      let lone : AreLone later u = ends_lone later e.ended s (λ one among. lone_before one (outlive one among)) in
      let first : AllEnd later u.bridges u = record { bonds = all.ending.bonds; same = refl; lone = lone } in
      let second : AllEnd later u.bridges v = members_ended later u.bridges e.ended e.members u (λ m one. member_out m one) first in
      survivals_ended later u.bridges later v (λ one among. (among, alone_out one (outlive one among))) second

  -- the switch behind all that, where these outlive a bridge
  abbrev pub closed_with : List (ℕ × After) → Switch
  closed_with later =
      after_closure (record (closure_of (world_of s) (living_of s named)) { survivors = later }) s

  pub closure_bonds : (later : List (ℕ × After)) → AreOutliving later → Ending s (closed_with later)
  unfolding e
  closure_bonds later outlive =
      let k : AllEnd later (after_ends e.ended s).bridges (closed_with later) = closure_ended later outlive in
      record { bonds = k.bonds; less = λ slot row is. all.ending.less slot row (ap (part_of slot) (sym k.same) ∙ is) }

  -- a bridge that stood has ended, or stands
  pub closure_part : (later : List (ℕ × After)) → AreOutliving later → (slot : ℕ) (row : Row) → bridge_at s slot ≡ Some row →
      HasEnded named s row ⊎ (bridge_at (closed_with later) slot ≡ Some row)
  unfolding e
  closure_part later outlive slot row part =
      by (ends_part s h.rows slot row part e.ended s (λ x one. end_stands named s x one) (record { bonds = h; less = λ at r is. is }) part)
    where
      by : ((x : Ended) × IsOneOf x (closure_of (world_of s) (living_of s named)).ended × (x.0 ≡ row))
          ⊎ (bridge_at (after_ends (closure_of (world_of s) (living_of s named)).ended s) slot ≡ Some row) →
          HasEnded named s row ⊎ (bridge_at (closed_with later) slot ≡ Some row)
      by (inl ended) = inl (record { end = ended.0; one = ended.1; is = ended.2 })
      by (inr still) = inr (ap (part_of slot) (closure_ended later outlive).same ∙ still)

-- where nobody else outlives a bridge
pub hung_bonds : (named : Members) (s : Switch) → Bonds s → Bonds (after_hangups named s)
unfolding after_hangups
hung_bonds named s h =
    (closure_bonds named s h (closure_of (world_of s) (living_of s named)).survivors (λ one among. inl among)).bonds

pub hung_part : (named : Members) (s : Switch) → Bonds s → (slot : ℕ) (row : Row) → bridge_at s slot ≡ Some row →
    HasEnded named s row ⊎ (bridge_at (after_hangups named s) slot ≡ Some row)
unfolding after_hangups
hung_part named s h slot row part =
    closure_part named s h (closure_of (world_of s) (living_of s named)).survivors (λ one among. inl among) slot row part
