-- Whoever waits for an origination lives and owns it, behind each thing that channels do.
use Rattle.std.proofs.Common.{◌≡◌, ℕ, Bool, true, false, if◌then◌else◌, List, [], ◌∷◌, Option, None, Some, option_and_then, ◌⊎◌, inl, inr}
use Rattle.std.proofs.Common.{refl, sym, ap, subst, ◌∙◌, true≢false}
use Rattle.std.proofs.lemmas.Bool.{eqb-true, false≢true}
use Rattle.std.proofs.lemmas.Option.{none-some, same_Some}
use Rattle.fs_text.specs.Texts.{Text}
use Rattle.fs_text.specs.Cause.{cause_name}
use Rattle.fs_text.specs.declared.causes.Cause.{Cause}
use Rattle.fs_text.specs.declared.states.State.TheVariants.{CsHangup, CsPark}
use Rattle.fs_bridge.specs.declared.row.BridgeKind.{BridgeKind}
use Rattle.fs_bridge.specs.declared.row.BridgeKind.TheVariants.{Dial}
use Rattle.fs_bridge.specs.Closure.{Members}
use Rattle.fs_chan.specs.declared.chan.Chan.{Chan}
use Rattle.fs_chan.specs.declared.wait.Wait.{Wait}
use Rattle.fs_chan.specs.declared.wait.Wait.TheVariants.{Legs, Bridged}
use Rattle.fs_chan.specs.Bridging.{awaited_in, awaited_by, bridged, in_media, at_leisure, unbridged}
use Rattle.fs_chan.specs.Changes.{is_live, at_rest, parked, hung_up}
use Rattle.fs_chan.specs.Controlling.{held_by, dial_of}
use Rattle.fs_orig.specs.declared.orig.Orig.{Orig}
use Rattle.fs_orig.specs.declared.orig.Owner.{Owner}
use Rattle.fs_orig.specs.declared.orig.Owner.TheVariants as owner
use Rattle.fs_orig.specs.Changes.{with_answer, with_death}
use Rattle.fs_orig.specs.Legs.{is_at}
use Rattle.fs_seats.specs.Seats.{held_in}
use Rattle.fs_seats.proofs.HeldLemmas.{held_here, held_within}
use Rattle.fs_state.specs.Switch.{Switch, chan_at, with_chan, with_bridge, orig_of, without_orig, with_event}
use Rattle.fs_state.specs.Moves.{with_state_events, with_changed_chan_from, with_changed_chan, after_move_from, after_move}
use Rattle.fs_state.specs.Moves.{orig_changed_from, orig_changed, leg_changed, its_leg_changed, is_owner, given_up_by, orig_given_up}
use Rattle.fs_state.specs.Moves.{hangup_event}
use Rattle.fs_state.specs.Moves.{after_hangup_from, after_one_hangup}
use Rattle.fs_state.specs.Hangups.{lives, lives_at, after_hangups, after_hangup}
use Rattle.fs_state.specs.Leaving.{after_bridges_left}
use Rattle.fs_state.specs.Bridging.{can_join, peer_of, with_peer_from, with_peer, joined_as}
use Rattle.fs_machine.specs.Attempts.{awaits}
use Rattle.fs_machine.specs.Bridging.{goes_on, after_going_on, bridge_failed_from, after_bridge_failure, disposed, after_bridge_win}
use Rattle.fs_machine.specs.Joining.{after_leaving, after_departures}
use Rattle.fs_machine.proofs.LeaveLemmas.{departed_kept}
use Rattle.fs_machine.proofs.Kept.{Stage, hold_in, Links, Keeps, KeptByTouches}
use Rattle.fs_machine.proofs.StayLemmas.{exchange_lives, held_keeps, moved_there, changed_there, state_told_kept, orig_changed_channels}
use Rattle.fs_machine.proofs.JoinLemmas.{rest_dials}
use Rattle.fs_machine.proofs.TieLemmas.{lives_as}
use Rattle.fs_machine.proofs.HangLemmas.{Settles, Freed, Resumes, Halts, hangups_kept_by, hangs_as_left, bridges_left_kept_by}
use Rattle.fs_machine.proofs.ClosureLemmas.{hangs_up}
use Rattle.fs_machine.proofs.CutLemmas.{DeadAt, hangup_kills}
use Rattle.fs_machine.proofs.CanLemmas.{answerer_lives}
use Rattle.fs_machine.proofs.WonLemmas.{joinable_won_kept}
use Rattle.fs_machine.proofs.Walk.{disposed_kept}
use Rattle.fs_machine.proofs.OwnerLemmas.{KeepsOwner, leg_keeps}
use Rattle.fs_machine.proofs.BondTables.{NoSlot}
use Rattle.fs_machine.proofs.AwaitedTables.{HasOwner, Await, AwaitsNoMore, awaits_none, put_await, close_await, open_await}
use Rattle.fs_machine.proofs.AwaitedTables.{rows_await, stay_with, gone_await}

-- ---- what a switch has

abbrev pub AwaitAt : (ℕ → Type 0) → Switch → Type 0
AwaitAt open_at s = Await open_at s.channels s.origs

-- all waits are right, or all but that of one slot
abbrev pub Awaits : Switch → Type 0
Awaits s = AwaitAt NoSlot s

abbrev pub AwaitsBut : ℕ → Switch → Type 0
AwaitsBut slot s = AwaitAt (λ at. at ≡ slot) s

-- what holds a channel tells what it waits for
held_awaits : (wait : Wait) → awaited_in (hold_in wait) ≡ awaited_in wait
held_awaits (Legs orig) = refl
held_awaits Bridged = refl
held_awaits _ = refl

keeps_awaits : {b : Stage} (old new : Chan) → Keeps b old new → AwaitsNoMore old new
keeps_awaits old new keeps number is = (
  sym (held_awaits old.wait) ∙ sym (ap (λ (l : Links). awaited_in l.hold) keeps.links) ∙ held_awaits new.wait ∙ is,
  λ live. keeps.live ∙ live,
)

-- the channel in a slot waits for nothing
abbrev pub NoneAt : ℕ → Switch → Type 0
NoneAt slot s = (c : Chan) → chan_at s slot ≡ Some c → awaited_by c ≡ None

put_none : (slot : ℕ) (old new : Chan) (s : Switch) → chan_at s slot ≡ Some old → awaited_by new ≡ None →
    NoneAt slot (with_chan slot (Some new) s)
put_none slot old new s there none c is =
    ap awaited_by (sym (same_Some new c (sym (held_here s.channels slot (Some new) (held_within s.channels slot old there)) ∙ is))) ∙ none

moved_none : (change : Chan → Chan) (slot : ℕ) (s : Switch) → ((c : Chan) → awaited_by (change c) ≡ None) →
    NoneAt slot (after_move change slot s)
moved_none change slot s none = by (chan_at s slot) refl
  where
    by : (found : Option Chan) → chan_at s slot ≡ found → NoneAt slot (after_move_from change slot found s)
    by None is = λ c there. absurd (none-some c (sym is ∙ there))
    by (Some c) is =
        state_told_kept (NoneAt slot) (λ event t k. k) c.state (change c).state slot {s = with_chan slot (Some (change c)) s}
        (put_none slot c (change c) s is (none c))

changed_none : (change : Chan → Chan) (slot : ℕ) (s : Switch) → ((c : Chan) → awaited_by (change c) ≡ None) →
    NoneAt slot (with_changed_chan change slot s)
changed_none change slot s none = by (chan_at s slot) refl
  where
    by : (found : Option Chan) → chan_at s slot ≡ found → NoneAt slot (with_changed_chan_from change slot found s)
    by None is = λ c there. absurd (none-some c (sym is ∙ there))
    by (Some c) is = put_none slot c (change c) s is (none c)

module _ (open_at : ℕ → Type 0) where
  put : (slot : ℕ) (old new : Chan) (s : Switch) → chan_at s slot ≡ Some old → AwaitsNoMore old new → AwaitAt open_at s →
      AwaitAt open_at (with_chan slot (Some new) s)
  put slot old new s there fewer h = put_await open_at s.channels s.origs slot old new there fewer h

  pub moved_await : (change : Chan → Chan) (slot : ℕ) (s : Switch) → ((c : Chan) → AwaitsNoMore c (change c)) → AwaitAt open_at s →
      AwaitAt open_at (after_move change slot s)
  moved_await change slot s fewer h =
      moved_there (AwaitAt open_at) (λ event t k. k) change slot s (λ c there. put slot c (change c) s there (fewer c) h) h

  changed_await : (change : Chan → Chan) (slot : ℕ) (s : Switch) → ((c : Chan) → AwaitsNoMore c (change c)) → AwaitAt open_at s →
      AwaitAt open_at (with_changed_chan change slot s)
  changed_await change slot s fewer h =
      changed_there (AwaitAt open_at) change slot s (λ c there. put slot c (change c) s there (fewer c) h) h

  pub orig_changed_await : (change : Orig → Orig) (number : ℕ) (s : Switch) → KeepsOwner change → AwaitAt open_at s →
      AwaitAt open_at (orig_changed change number s)
  orig_changed_await change number s keeps h = by (orig_of s number) refl
    where
      by : (found : Option Orig) → orig_of s number ≡ found → AwaitAt open_at (orig_changed_from change number found s)
      by None is = h
      by (Some o) is = rows_await open_at s.channels s.origs _ (stay_with s.origs number o (change o) is (keeps o)) h

  pub touches_await : KeptByTouches (λ b s. AwaitAt open_at s)
  touches_await = record {
    told = λ event plain h. h;
    globals = λ globals h. h;
    changed = λ slot old new {s = s} there stays h. put slot old new s there (keeps_awaits old new stays.keeps) h;
    answers = λ seat slot number {s = s} h.
        orig_changed_await (leg_changed (λ position. with_answer position seat) slot) number s
        (leg_keeps (λ position. with_answer position seat) slot (λ position o. refl)) h;
  }

  -- a connection takes hold of a channel
  pub taken_await : (slot conn : ℕ) (c : Chan) (text : Text) (s : Switch) → chan_at s slot ≡ Some c → dial_of c ≡ Some text →
      AwaitAt open_at s → AwaitAt open_at (with_chan slot (Some (held_by conn c)) s)
  taken_await slot conn c text s there waits h =
      put slot c (held_by conn c) s there (keeps_awaits c (held_by conn c) (held_keeps {b = None} conn c text waits)) h

  -- ---- hangups

  -- what a slot owns is given up, where its channel waits for nothing any more, or where it is open
  given_up_await : (slot : ℕ) (awaited : Option ℕ) (s : Switch) →
      ((c : Chan) → chan_at s slot ≡ Some c → (awaited_by c ≡ None) ⊎ open_at slot) → AwaitAt open_at s →
      AwaitAt open_at (orig_given_up slot awaited s)
  given_up_await slot None s none h = h
  given_up_await slot (Some number) s none h = by (orig_of s number) refl
    where
      free : (at : ℕ) (c : Chan) → chan_at s at ≡ Some c → awaited_by c ≡ Some number → at ≡ slot → open_at at
      free at c held waits here = open_there (none c (ap (chan_at s) (sym here) ∙ held))
        where
          open_there : (awaited_by c ≡ None) ⊎ open_at slot → open_at at
          open_there (inl nothing) = absurd (none-some number (sym nothing ∙ waits))
          open_there (inr opens) = subst open_at (sym here) opens

      owns : (o : Orig) → orig_of s number ≡ Some o → o.owner ≡ owner.Slot slot → AwaitAt open_at (without_orig number s)
      owns o there is =
          gone_await open_at s.channels s.origs number
          (λ at c held waits owned.
          let same : o ≡ owned.orig = same_Some o owned.orig (sym there ∙ owned.there) in
          let slots : owner.Slot at ≡ owner.Slot slot = sym owned.owned ∙ (sym (ap (λ (x : Orig). x.owner) same) ∙ is) in
          let here : at ≡ slot = cc in
          free at c held waits here) h

      owner_is : (by : Owner) → is_owner slot by ≡ true → by ≡ owner.Slot slot
      owner_is (owner.Slot other) is = ap owner.Slot (eqb-true other slot is)
      owner_is (owner.Job job) is = absurd (false≢true is)

      either : (o : Orig) → orig_of s number ≡ Some o → (test : Bool) → is_owner slot o.owner ≡ test →
          AwaitAt open_at (if test then without_orig number s else s)
      either o there true is = owns o there (owner_is o.owner is)
      either o there false is = h

      by : (found : Option Orig) → orig_of s number ≡ found → AwaitAt open_at (given_up_by slot number found s)
      by None is = h
      by (Some o) is = either o is (is_owner slot o.owner) refl

  -- a channel is hung up: it waits for nothing, its leg dies, and what it dialed is given up
  one_hung_await : (cause : Cause) (slot : ℕ) (s : Switch) → AwaitAt open_at s → AwaitAt open_at (after_one_hangup cause slot s)
  one_hung_await cause slot s h = by (chan_at s slot) refl
    where
      Both : Switch → Type 0
      Both t = AwaitAt open_at t × NoneAt slot t

      cut : Chan → Switch
      cut c = with_state_events c.state CsHangup slot (with_event (hangup_event cause slot) (with_chan slot (Some (hung_up cause c)) s))

      cut_both : (c : Chan) → chan_at s slot ≡ Some c → Both (cut c)
      cut_both c there =
          state_told_kept Both (λ event t k. (k.0, k.1)) c.state CsHangup slot
          {s = with_event (hangup_event cause slot) (with_chan slot (Some (hung_up cause c)) s)}
          (put slot c (hung_up cause c) s there (awaits_none c (hung_up cause c) refl) h, put_none slot c (hung_up cause c) s there refl)

      change : ℕ → Orig → Orig
      change position = with_death position s.entries cause

      leg_both : (leg_of : Option ℕ) (t : Switch) → Both t → Both (its_leg_changed change slot leg_of t)
      leg_both None t k = k
      leg_both (Some number) t k = (
        orig_changed_await (leg_changed change slot) number t (leg_keeps change slot (λ position o. refl)) k.0,
        λ d is. k.1 d (ap (λ (channels : List (Option Chan)). held_in channels slot)
            (sym (orig_changed_channels (leg_changed change slot) number t)) ∙ is),
      )

      live : (c : Chan) → chan_at s slot ≡ Some c → (test : Bool) →
          AwaitAt open_at (if test then orig_given_up slot (awaited_by c) (its_leg_changed change slot c.leg_of (cut c)) else s)
      live c there true =
          let both : Both (its_leg_changed change slot c.leg_of (cut c)) = leg_both c.leg_of (cut c) (cut_both c there) in
          given_up_await slot (awaited_by c) (its_leg_changed change slot c.leg_of (cut c)) (λ d is. inl (both.1 d is)) both.0
      live c there false = h

      by : (found : Option Chan) → chan_at s slot ≡ found → AwaitAt open_at (after_hangup_from cause slot found s)
      by None is = h
      by (Some c) is = live c is (is_live c)

  pub settled_await : (hangs : ℕ → Bool) (slot : ℕ) (old new : Chan) (s : Switch) → chan_at s slot ≡ Some old → Settles hangs slot old new →
      AwaitAt open_at s → AwaitAt open_at (with_chan slot (Some new) s)
  settled_await hangs slot old new s there (Freed cause) h = put slot old (unbridged cause old) s there (λ number is. (is, λ live. live)) h
  settled_await hangs slot old new s there (Resumes outlives live) h =
      put slot old (at_rest old) s there (awaits_none old (at_rest old) (rest_dials old.socket old.state)) h
  settled_await hangs slot old new s there (Halts outlives live) h =
      put slot old (parked old) s there (awaits_none old (parked old) (rest_dials old.socket CsPark)) h

  pub hung_await : (named : Members) (s : Switch) → AwaitAt open_at s → AwaitAt open_at (after_hangups named s)
  hung_await named s h =
      hangups_kept_by named s (AwaitAt open_at) (λ event t k. k)
      (λ slot old new t there how k. settled_await (λ at. hangs_up at named s) slot old new t there how k) (λ number t k. k)
      (λ cause slot t hung k. one_hung_await cause slot t k) h

  bridges_left_await : (slots : List ℕ) (s : Switch) → AwaitAt open_at s → AwaitAt open_at (after_bridges_left slots s)
  bridges_left_await slots s h =
      bridges_left_kept_by slots s (AwaitAt open_at) (λ event t k. k) (settled_await (hangs_as_left slots s)) (λ number t k. k)
      (λ cause slot t hung k. one_hung_await cause slot t k) h

  -- ---- bridges

  bridged_await : (slot other : ℕ) (d : Chan) (s : Switch) → AwaitAt open_at s →
      AwaitAt open_at (with_changed_chan (bridged (peer_of other d)) slot s)
  bridged_await slot other d s h =
      changed_await (bridged (peer_of other d)) slot s (λ c. awaits_none c (bridged (peer_of other d) c) refl) h

  peer_await : (slot other : ℕ) (s : Switch) → AwaitAt open_at s → AwaitAt open_at (with_peer slot other s)
  peer_await slot other s h = by (chan_at s other)
    where
      by : (found : Option Chan) → AwaitAt open_at (with_peer_from slot other found s)
      by None = h
      by (Some d) = bridged_await slot other d s h

-- ---- a slot is closed

close : (slot : ℕ) (s : Switch) → NoneAt slot s → AwaitsBut slot s → Awaits s
close slot s none h = close_await s.channels s.origs slot none h

-- whoever waits lives
dead_none : (slot : ℕ) (s : Switch) → DeadAt slot s → AwaitsBut slot s → NoneAt slot s
dead_none slot s dead h d is = by (awaited_by d) refl
  where
    by : (found : Option ℕ) → awaited_by d ≡ found → found ≡ None
    by None waits = refl
    by (Some number) waits = absurd (true≢false (sym (h.live slot number d is waits) ∙ (sym (ap lives_as is) ∙ dead)))

pub failed_await : (cause : Cause) (slot : ℕ) (s : Switch) → AwaitsBut slot s → Awaits (after_bridge_failure cause slot s)
unfolding after_bridge_failure
failed_await cause slot s h = by (chan_at s slot) refl
  where
    t : Switch
    t = disposed (cause_name cause) slot s

    told : AwaitsBut slot t
    told = disposed_kept (λ b u. AwaitsBut slot u) (touches_await (λ at. at ≡ slot)) (cause_name cause) slot {b = None} {s = s} h

    on : (onward : Bool) → Awaits (after_going_on onward cause slot t)
    on true =
        close slot (after_move at_rest slot t) (moved_none at_rest slot t (λ c. rest_dials c.socket c.state))
        (moved_await (λ at. at ≡ slot) at_rest slot t (λ c. awaits_none c (at_rest c) (rest_dials c.socket c.state)) told)
    on false =
        let hung : AwaitsBut slot (after_hangup cause slot t) = hung_await (λ at. at ≡ slot) ((slot, cause) ∷ []) t told in
        close slot (after_hangup cause slot t) (dead_none slot (after_hangup cause slot t) (hangup_kills cause slot t) hung) hung

    by : (found : Option Chan) → chan_at s slot ≡ found → Awaits (bridge_failed_from found cause slot s)
    by None is = close slot s (λ c there. absurd (none-some c (sym is ∙ there))) h
    by (Some c) is = on (goes_on cause c.vars)

-- a leg of a bridge waits for the end of it
peer_closes : (slot other : ℕ) (s : Switch) → lives_at s other ≡ true → AwaitsBut slot s → Awaits (with_peer slot other s)
peer_closes slot other s live h = by (chan_at s other) refl
  where
    by : (found : Option Chan) → chan_at s other ≡ found → Awaits (with_peer_from slot other found s)
    by None is = absurd (false≢true (sym (ap lives is) ∙ live))
    by (Some d) is =
        close slot (with_changed_chan (bridged (peer_of other d)) slot s) (changed_none (bridged (peer_of other d)) slot s (λ c. refl))
        (bridged_await (λ at. at ≡ slot) slot other d s h)

media_await : (slot : ℕ) (s : Switch) → Awaits s → Awaits (after_move in_media slot s)
media_await slot s h = moved_await NoSlot in_media slot s (λ c number is. (is, λ live. exchange_lives)) h

won_joins : (slot leg : ℕ) (s : Switch) → can_join slot leg s ≡ true → AwaitsBut slot s →
    Awaits (after_move in_media leg (joined_as Dial slot leg s))
won_joins slot leg s can h =
    let t : Switch = with_bridge slot leg Dial s in
    media_await leg (joined_as Dial slot leg s)
    (peer_await NoSlot leg slot (with_peer slot leg t) (peer_closes slot leg t (answerer_lives slot leg s can) h))

pub won_await : (slot leg : ℕ) (s : Switch) → can_join slot leg s ≡ true → AwaitsBut slot s → Awaits (after_bridge_win slot leg s)
won_await slot leg s can h =
    joinable_won_kept (AwaitsBut slot) Awaits (touches_await (λ at. at ≡ slot)) slot leg (won_joins slot leg) s can h

pub joined_await : (kind : BridgeKind) (caller answerer : ℕ) (s : Switch) → Awaits s → Awaits (joined_as kind caller answerer s)
joined_await kind caller answerer s h =
    let t : Switch = with_bridge caller answerer kind s in
    peer_await NoSlot answerer caller (with_peer caller answerer t) (peer_await NoSlot caller answerer t h)

left_await_all : (slot : ℕ) (s : Switch) → Awaits s → Awaits (after_leaving slot s)
left_await_all slot s h =
    let awaited : Option ℕ = option_and_then awaited_by (chan_at s slot) in
    let t : Switch = orig_given_up slot awaited s in
    let gone : AwaitsBut slot t =
    given_up_await (λ at. at ≡ slot) slot awaited s (λ c is. inr refl) (open_await (λ at. at ≡ slot) s.channels s.origs h) in
    close slot (with_changed_chan at_leisure slot t) (changed_none at_leisure slot t (λ c. rest_dials None c.state))
    (changed_await (λ at. at ≡ slot) at_leisure slot t (λ c. awaits_none c (at_leisure c) (rest_dials None c.state)) gone)

pub departed_await : (slots : List ℕ) (s : Switch) → Awaits s → Awaits (after_departures slots s)
departed_await slots s h =
    departed_kept Awaits (λ event t k. k) left_await_all (hung_await NoSlot) (bridges_left_await NoSlot) slots s h

-- what a slot waited for is gone
pub without_await : (slot orig : ℕ) (s : Switch) → awaits slot orig s ≡ true → Awaits s → AwaitsBut slot (without_orig orig s)
without_await slot orig s waits h =
    gone_await (λ at. at ≡ slot) s.channels s.origs orig (λ at c held awaited owned. by (chan_at s slot) refl waits at owned)
    (open_await (λ at. at ≡ slot) s.channels s.origs h)
  where
    same : (at : ℕ) → HasOwner s.origs orig at → NoSlot slot ⊎ HasOwner s.origs orig slot → at ≡ slot
    same at owned (inl none) = absurd none
    same at owned (inr owns) =
        let one : owned.orig ≡ owns.orig = same_Some owned.orig owns.orig (sym owned.there ∙ owns.there) in
        let slots : owner.Slot at ≡ owner.Slot slot = sym owned.owned ∙ (ap (λ (x : Orig). x.owner) one ∙ owns.owned) in
        cc

    found : (c : Chan) → chan_at s slot ≡ Some c → (awaited : Option ℕ) → awaited_by c ≡ awaited → is_at orig awaited ≡ true →
        NoSlot slot ⊎ HasOwner s.origs orig slot
    found c there None is at = absurd (false≢true at)
    found c there (Some number) is at = h.own slot orig c there (is ∙ ap Some (eqb-true number orig at))

    by : (held : Option Chan) → chan_at s slot ≡ held → is_at orig (option_and_then awaited_by held) ≡ true → (at : ℕ) →
        HasOwner s.origs orig at → at ≡ slot
    by None there is at owned = absurd (false≢true is)
    by (Some c) there is at owned = same at owned (found c there (awaited_by c) refl is)
