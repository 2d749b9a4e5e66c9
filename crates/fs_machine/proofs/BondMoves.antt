-- Each act keeps what two channels of a bridge are to each other.
use Rattle.std.proofs.Common.{◌≡◌, ◌≢◌, ℕ, Bool, true, false, List, [], ◌∷◌, Option, None, Some, unwrap_or}
use Rattle.std.proofs.Common.{is_some, option_and_then, ◌⊎◌, inl, inr, refl, sym, ap, subst, ◌∙◌, true≢false}
use Rattle.std.proofs.lemmas.Bool.{false≢true}
use Rattle.std.proofs.lemmas.List.{set-set}
use Rattle.std.proofs.lemmas.Option.{none-some, same_Some}
use Rattle.fs_text.specs.Cause.{cause_name}
use Rattle.fs_text.specs.declared.causes.Cause.{Cause}
use Rattle.fs_bridge.specs.declared.row.BridgeKind.{BridgeKind}
use Rattle.fs_bridge.specs.declared.row.BridgeKind.TheVariants.{Dial}
use Rattle.fs_bridge.specs.Bridges.{joined, next_row}
use Rattle.fs_chan.specs.declared.chan.Chan.{Chan}
use Rattle.fs_chan.specs.declared.peer.Peer.{Peer}
use Rattle.fs_chan.specs.declared.wait.Wait.TheVariants.{Ready, Bridged}
use Rattle.fs_chan.specs.Bridging.{awaiting, awaited_by, exported_pairs, with_disposition, bridged, in_media}
use Rattle.fs_chan.specs.Changes.{is_live, at_rest}
use Rattle.fs_chan.specs.Controlling.{held_by}
use Rattle.fs_orig.specs.declared.leg.OrigLeg.{OrigLeg}
use Rattle.fs_orig.specs.declared.orig.Owner.TheVariants as owner
use Rattle.fs_orig.specs.declared.plan.LegPlan.{LegPlan}
use Rattle.fs_orig.specs.declared.winner.Winner.{Winner}
use Rattle.fs_orig.specs.declared.winner.Winner.TheVariants.{App, Route}
use Rattle.fs_orig.specs.Changes.{with_answer, at_next_group}
use Rattle.fs_orig.specs.Legs.{is_at}
use Rattle.fs_orig.specs.Plans.{all_behind}
use Rattle.fs_seats.specs.Seats.{held_in, with_held}
use Rattle.fs_seats.proofs.HeldLemmas.{held_here, held_within}
use Rattle.fs_seats.proofs.TableLemmas.{still_there, not_free}
use Rattle.fs_state.proofs.LegTables.{berthed}
use Rattle.fs_state.specs.Switch.{Switch, chan_at, with_chan, bridge_at, with_bridge, next_orig_number, with_event, with_next_identifier}
use Rattle.fs_state.specs.Switch.{without_orig}
use Rattle.fs_state.specs.Moves.{with_changed_chan_from, after_move_from, after_move, orig_changed, leg_changed}
use Rattle.fs_state.specs.Hangups.{lives, lives_at}
use Rattle.fs_state.specs.Bridging.{bridge_event, can_join, peer_of, with_peer_from, with_peer, joined_as}
use Rattle.fs_machine.specs.Originations.{MadeGroup, group_made, won_by, after_winning}
use Rattle.fs_machine.specs.Attempts.{first_group, orig_begun, awaits, with_group}
use Rattle.fs_machine.specs.Bridging.{caller_of, group_dialed, goes_on, after_going_on, disposed, bridge_failed_from, after_bridge_failure}
use Rattle.fs_machine.specs.Bridging.{after_bridge_win}
use Rattle.fs_machine.specs.Dialing.{tried_by_slot}
use Rattle.fs_machine.proofs.Kept.{Stage, Links, IsApt, IsAtWork, Keeps, KeptByTouches, KeptByCalls, KeptByBirths, KeptByDials}
use Rattle.fs_machine.proofs.Kept.{KeptByMoves, raced, HasWon}
use Rattle.fs_machine.proofs.StayLemmas.{WorksAt, is_at_work, exchange_lives, execute_lives, routing_lives, state_told_kept, moved_there}
use Rattle.fs_machine.proofs.StayLemmas.{changed_there, held_keeps}
use Rattle.fs_machine.proofs.StayLemmas.{orig_changed_channels}
use Rattle.fs_machine.proofs.JoinLemmas.{rest_dials}
use Rattle.fs_machine.proofs.NameLemmas.{leg_chan, far_chan, pair_channels}
use Rattle.fs_machine.proofs.Walk.{disposed_kept, group_made_kept}
use Rattle.fs_machine.proofs.CanLemmas.{joins_apart, caller_lone, answerer_lone, caller_lives, answerer_lives}
use Rattle.fs_machine.proofs.WonLemmas.{bridge_won_kept}
use Rattle.fs_machine.proofs.FrontLemmas.{Front, front_of, orig_changed_front, moves_by_front}
use Rattle.fs_machine.proofs.LegLemmas.{Channels, roles_of, IsLegOf, LegsStand}
use Rattle.fs_machine.proofs.LegHangups.{winning_leg}
use Rattle.fs_machine.proofs.BondTables.{BondsIn, Bonds, Bonding, Stood, stood}
use Rattle.fs_machine.proofs.BondHangups.{held_dials, LoneIn, lone_kept, peerless_apt, nothing_apt, hung_bonds}
use Rattle.fs_machine.proofs.BondLeaves.{departed_bonds}
use Rattle.fs_machine.proofs.BondChanges.{as_bonds, same_put, gone_put, pair_bonds, joined_tables}

-- ---- a channel that names no peer

abbrev PeerlessIn : Channels → ℕ → Type 0
PeerlessIn channels slot = (c : Chan) → held_in channels slot ≡ Some c → c.peer ≡ None

peerless_kept : (channels : Channels) (slot seat : ℕ) (old new : Chan) → held_in channels seat ≡ Some old →
    (old.peer ≡ None → new.peer ≡ None) → PeerlessIn channels slot → PeerlessIn (with_held channels seat (Some new)) slot
peerless_kept channels slot seat old new there keeps h c is = by (stood channels seat old new slot c there is)
  where
    by : Stood channels seat old new slot c → c.peer ≡ None
    by was = how was.how
      where
        how : ((slot ≡ seat) × (was.was ≡ old) × (c ≡ new)) ⊎ ((slot ≢ seat) × (c ≡ was.was)) → c.peer ≡ None
        how (inl e) = ap (λ (d : Chan). d.peer) e.2 ∙ keeps (ap (λ (d : Chan). d.peer) (sym e.1) ∙ h was.was was.there)
        how (inr e) = ap (λ (d : Chan). d.peer) e.1 ∙ h was.was was.there

no_peer : (peer : Option Peer) → (is_some peer ≡ true → ⊥) → peer ≡ None
no_peer None none = refl
no_peer (Some peer) none = absurd (none refl)

no_number : (found : Option ℕ) → (is_some found ≡ true → ⊥) → found ≡ None
no_number None none = refl
no_number (Some number) none = absurd (none refl)

-- one that waits for legs names none, and it is none itself
awaits_some : (orig : ℕ) (found : Option ℕ) → is_at orig found ≡ true → found ≡ None → ⊥
awaits_some orig found is none = false≢true (sym (ap (is_at orig) none) ∙ is)

awaits_peerless : (s : Switch) (slot orig : ℕ) → awaits slot orig s ≡ true → Bonds s → PeerlessIn s.channels slot
awaits_peerless s slot orig is h c there =
    no_peer c.peer
    (λ some. awaits_some orig (awaited_by c) (ap (λ (found : Option Chan). is_at orig (option_and_then awaited_by found)) (sym there) ∙ is)
    (held_dials c.wait ((h.apt slot c there).held some)))

awaits_lone : (s : Switch) (slot orig : ℕ) → awaits slot orig s ≡ true → Bonds s → LoneIn s.channels slot
awaits_lone s slot orig is h c there =
    no_number c.leg_of
    (λ some. awaits_some orig (awaited_by c) (ap (λ (found : Option Chan). is_at orig (option_and_then awaited_by found)) (sym there) ∙ is)
    ((h.apt slot c there).free some))

-- ---- what happens to channels

-- a channel keeps what others know of it
keeps_bonds : {b : Stage} (slot : ℕ) (old new : Chan) (s : Switch) → chan_at s slot ≡ Some old → Keeps b old new → Bonds s →
    Bonds (with_chan slot (Some new) s)
keeps_bonds slot old new s there keeps h =
    same_put s.channels s.bridges slot old new there (keeps.apt (h.apt slot old there)) (ap (λ (l : Links). l.uuid) keeps.links)
    (ap (λ (l : Links). l.peer) keeps.links) (λ live. keeps.live ∙ live) h

pub bonds_touches : KeptByTouches Bonding
bonds_touches = record {
  told = λ event plain h. h;
  globals = λ globals h. h;
  changed = λ slot old new {s = s} there stays h. keeps_bonds slot old new s there stays.keeps h;
  answers = λ seat slot number {s = s} h.
      as_front s (orig_changed (leg_changed (λ position. with_answer position seat) slot) number s)
      (orig_changed_front (leg_changed (λ position. with_answer position seat) slot) number s) h;
}
  where
    as_front : (t u : Switch) → front_of u ≡ front_of t → Bonds t → Bonds u
    as_front t u same h = as_bonds t u (ap (λ (f : Front). f.channels) same) (ap (λ (f : Front). f.bridges) same) h

-- ---- two are joined

-- a channel gets its peer
peer_there : (slot other : ℕ) (c d : Chan) (t : Switch) → chan_at t slot ≡ Some c → chan_at t other ≡ Some d →
    with_peer slot other t ≡ with_chan slot (Some (bridged (peer_of other d) c)) t
peer_there slot other c d t is_c is_d =
    ap (λ (found : Option Chan). with_peer_from slot other found t) is_d
    ∙ ap (λ (found : Option Chan). with_changed_chan_from (bridged (peer_of other d)) slot found t) is_c

module _ (kind : BridgeKind) (caller answerer : ℕ) (c d : Chan) (s : Switch) (can : can_join caller answerer s ≡ true)
    (calls : chan_at s caller ≡ Some c) (answers : chan_at s answerer ≡ Some d) where
  differ : caller ≢ answerer
  differ = joins_apart caller answerer s can

  first_none : bridge_at s caller ≡ None
  first_none = caller_lone caller answerer s can

  second_none : bridge_at s answerer ≡ None
  second_none = answerer_lone caller answerer s can

  live : is_live c ≡ true
  live = sym (ap lives calls) ∙ caller_lives caller answerer s can

  alive : is_live d ≡ true
  alive = sym (ap lives answers) ∙ answerer_lives caller answerer s can

  -- the switch with both
  pub joined_there : with_peer answerer caller (with_peer caller answerer (with_bridge caller answerer kind s))
      ≡ with_chan answerer (Some (bridged (peer_of caller c) d))
      (with_chan caller (Some (bridged (peer_of answerer d) c)) (with_bridge caller answerer kind s))
  joined_there =
      let u : Switch = with_bridge caller answerer kind s in
      let v : Switch = with_chan caller (Some (bridged (peer_of answerer d) c)) u in
      ap (with_peer answerer caller) (peer_there caller answerer c d u calls answers)
      ∙ peer_there answerer caller d (bridged (peer_of answerer d) c) v
      (still_there s.channels caller (Some (bridged (peer_of answerer d) c)) answerer d (λ same. differ (sym same)) answers)
      (held_here s.channels caller (Some (bridged (peer_of answerer d) c)) (held_within s.channels caller c calls))

  apt_bridged : (at : ℕ) (x y : Chan) → x.leg_of ≡ None → IsApt (bridged (peer_of at y) x)
  apt_bridged at x y lone = record {
    outbound = λ some. absurd (false≢true (sym (ap is_some lone) ∙ some));
    idle = λ some. absurd (false≢true (sym (ap is_some lone) ∙ some));
    free = λ some. absurd (false≢true (sym (ap is_some lone) ∙ some));
    alone = λ some. lone;
    held = λ some. refl;
  }

  pub joined_bonds : c.leg_of ≡ None → d.leg_of ≡ None → Bonds s → Bonds (joined_as kind caller answerer s)
  joined_bonds lone lone_too h =
      subst (λ (t : Switch). BondsIn t.channels t.bridges) (sym joined_there)
      (joined_tables s.channels s.bridges kind caller answerer c d
      (bridged (peer_of caller c) d) calls answers differ first_none second_none
      live alive refl refl (apt_bridged answerer c d lone) (apt_bridged caller d c lone_too) h)

  -- one of them comes into media
  pub media_bonds : c.leg_of ≡ None → Bonds s → Bonds (after_move in_media answerer (joined_as kind caller answerer s))
  media_bonds lone h =
      subst (λ (t : Switch). Bonds (after_move in_media answerer (with_event (bridge_event (next_row caller answerer kind s.bridges)) t)))
      (sym joined_there)
      (subst (λ (found : Option Chan). Bonds (after_move_from in_media answerer found w)) (sym stands)
      (state_told_kept (λ (t : Switch). Bonds t) (λ event t k. k) e.state (in_media e).state answerer
      {s = with_chan answerer (Some (in_media e)) w}
      (subst (λ (all : Channels). BondsIn all (joined caller answerer kind s.bridges))
      (sym (set-set (with_held s.channels caller (Some (bridged (peer_of answerer d) c))) answerer (Some e) (Some (in_media e))))
      (joined_tables s.channels s.bridges kind caller answerer c d (in_media e) calls answers differ first_none second_none live
      exchange_lives refl refl (apt_bridged answerer c d lone) apt h))))
    where
      e : Chan
      e = bridged (peer_of caller c) d

      w : Switch
      w = with_event (bridge_event (next_row caller answerer kind s.bridges))
          (with_chan answerer (Some (bridged (peer_of caller c) d))
          (with_chan caller (Some (bridged (peer_of answerer d) c)) (with_bridge caller answerer kind s)))

      apt : IsApt (in_media e)
      apt = record {
        outbound = λ some. absurd (false≢true some);
        idle = λ some. absurd (false≢true some);
        free = λ some. absurd (false≢true some);
        alone = λ some. refl;
        held = λ some. refl;
      }

      stands : chan_at w answerer ≡ Some e
      stands =
          let once : Channels = with_held s.channels caller (Some (bridged (peer_of answerer d) c)) in
          held_here once answerer (Some e)
          (held_within once answerer d
          (still_there s.channels caller (Some (bridged (peer_of answerer d) c)) answerer d (λ same. differ (sym same)) answers))

bonds_calls : KeptByCalls Bonding
bonds_calls = record {
  touches = bonds_touches;
  hung = λ named {s = s} early h. hung_bonds named s h;
  joined = λ kind caller answerer c d {s = s} can there other one two first second was h.
      joined_bonds kind caller answerer c d s can there other one two h;
  departs = λ slots {s = s} early h. departed_bonds slots s h;
  more = λ h. h;
  gone = λ slot old {s = s} there dead early h. gone_put s.channels s.bridges slot old there dead h;
}

bonds_births : KeptByBirths Bonding
bonds_births = record {
  spent = λ h. h;
  pair = λ call orig a b {s = s} short named first second h. pair_bonds call orig a b s first second h;
}

-- ---- a bridge that failed

-- the channel goes on, or hangs up
failed_bonds : (cause : Cause) (slot : ℕ) (s : Switch) → PeerlessIn s.channels slot → Bonds s → Bonds (after_bridge_failure cause slot s)
unfolding after_bridge_failure
failed_bonds cause slot s peerless h = by (chan_at s slot)
  where
    t : Switch
    t = disposed (cause_name cause) slot s

    told : Bonds t
    told = disposed_kept Bonding bonds_touches (cause_name cause) slot {b = None} {s = s} h

    quiet : PeerlessIn t.channels slot
    quiet =
        changed_there (λ (u : Switch). PeerlessIn u.channels slot) (with_disposition (cause_name cause)) slot s
        (λ c is. peerless_kept s.channels slot slot c (with_disposition (cause_name cause) c) is (λ none. none) peerless) peerless

    on : (onward : Bool) → Bonds (after_going_on onward cause slot t)
    on true =
        moved_there (λ (u : Switch). Bonds u) (λ event u k. k) at_rest slot t
        (λ c is. same_put t.channels t.bridges slot c (at_rest c) is
        (peerless_apt c (at_rest c) (quiet c is) refl refl refl (λ none. rest_dials c.socket c.state) (told.apt slot c is)) refl refl
        (λ live. live) told) told
    on false = hung_bonds ((slot, cause) ∷ []) t told

    by : (found : Option Chan) → Bonds (bridge_failed_from found cause slot s)
    by None = h
    by (Some c) = on (goes_on cause c.vars)

-- ---- a bridge that is won

-- the channel that dialed names no peer, and is no leg of an origination
record Dialed (slot : ℕ) (s : Switch) : Type 0 where
  bonds : Bonds s
  peerless : PeerlessIn s.channels slot
  lone : LoneIn s.channels slot

dialed_touches : (slot : ℕ) → KeptByTouches (λ b s. Dialed slot s)
dialed_touches slot = record {
  told = λ event plain h. record { bonds = h.bonds; peerless = h.peerless; lone = h.lone };
  globals = λ globals h. record { bonds = h.bonds; peerless = h.peerless; lone = h.lone };
  changed = λ seat old new {b = b} {s = s} there stays h. record {
    bonds = bonds_touches.changed seat old new {b = b} {s = s} there stays h.bonds;
    peerless = peerless_kept s.channels slot seat old new there (λ none. ap (λ (l : Links). l.peer) stays.keeps.links ∙ none) h.peerless;
    lone = lone_kept s.channels slot seat old new there (λ none. ap (λ (l : Links). l.leg_of) stays.keeps.links ∙ none) h.lone;
  };
  answers = λ seat leg number {s = s} h.
      let same = sym (orig_changed_channels (leg_changed (λ position. with_answer position seat) leg) number s) in
      record {
        bonds = bonds_touches.answers seat leg number {b = None} {s = s} h.bonds;
        peerless = subst (λ (all : Channels). PeerlessIn all slot) same h.peerless;
        lone = subst (λ (all : Channels). LoneIn all slot) same h.lone;
      };
}

-- whoever lives is there
chan_lives : (s : Switch) (slot : ℕ) → lives_at s slot ≡ true → (c : Chan) × (chan_at s slot ≡ Some c)
chan_lives s slot live = by (chan_at s slot) refl live
  where
    by : (found : Option Chan) → chan_at s slot ≡ found → lives found ≡ true → (c : Chan) × (chan_at s slot ≡ Some c)
    by None is e = absurd (false≢true e)
    by (Some c) is e = (c, is)

bridge_won_bonds : (slot leg : ℕ) (s : Switch) → Dialed slot s → Bonds (after_bridge_win slot leg s)
bridge_won_bonds slot leg s h =
    bridge_won_kept (Dialed slot) (λ (t : Switch). Bonds t) (dialed_touches slot) slot leg
    (λ t can k. joins t can k (chan_lives t slot (caller_lives slot leg t can)) (chan_lives t leg (answerer_lives slot leg t can)))
    (λ t cannot k. k.bonds) s h
  where
    joins : (t : Switch) → can_join slot leg t ≡ true → Dialed slot t → (c : Chan) × (chan_at t slot ≡ Some c) →
        (d : Chan) × (chan_at t leg ≡ Some d) → Bonds (after_move in_media leg (joined_as Dial slot leg t))
    joins t can k c d = media_bonds Dial slot leg c.0 d.0 t can c.1 d.1 (k.lone c.0 c.1) k.bonds

-- ---- a channel that dials

-- whoever is at work is so while others are born
works_births : (slot : ℕ) → KeptByBirths (λ b s. WorksAt s.channels slot)
works_births slot = record {
  spent = λ h. h;
  pair = λ call orig a b {s = s} short named first second h.
      subst (λ (all : Channels). WorksAt all slot) (sym (pair_channels call orig a b s))
      (record {
        chan = h.chan;
        there = still_there (with_held s.channels a (Some (leg_chan call orig a b s))) b (Some (far_chan call orig a b s)) slot h.chan
            (not_free s.channels b slot h.chan second.free h.there)
            (still_there s.channels a (Some (leg_chan call orig a b s)) slot h.chan (not_free s.channels a slot h.chan first.free h.there)
            h.there);
        works = h.works;
      });
}

dialed_bonds : (slot : ℕ) (c : Chan) (groups : List (List LegPlan)) (timeout : ℕ) (s : Switch) → chan_at s slot ≡ Some c → IsAtWork c →
    Bonds s →
    Bonds (tried_by_slot slot groups timeout (next_orig_number s) (group_dialed (Some c) (first_group groups) (next_orig_number s) s))
dialed_bonds slot c groups timeout s there works h =
    moved_there (λ (u : Switch). Bonds u) (λ event u k. k) (awaiting number) slot begun
    (λ d is. put d is (is_at_work made.state.channels slot d at is)) made_bonds
  where
    number : ℕ
    number = next_orig_number s

    plans : List LegPlan
    plans = all_behind (exported_pairs c.vars) (first_group groups)

    made : MadeGroup
    made = group_made plans (caller_of c) number s

    begun : Switch
    begun = orig_begun (owner.Slot slot) groups made.legs timeout made.state

    made_bonds : Bonds made.state
    made_bonds = group_made_kept Bonding bonds_births plans (caller_of c) number {s = s} h

    at : WorksAt made.state.channels slot
    at =
        group_made_kept (λ b (t : Switch). WorksAt t.channels slot) (works_births slot) plans (caller_of c) number {s = s}
        (record { chan = c; there = there; works = works })

    put : (d : Chan) → chan_at begun slot ≡ Some d → IsAtWork d → Bonds (with_chan slot (Some (awaiting number d)) begun)
    put d is at_work =
        let apt : IsApt d = made_bonds.apt slot d is in
        let peerless : d.peer ≡ None =
        no_peer d.peer (λ some. let both : Ready ≡ Bridged = sym at_work.free ∙ apt.held some in absurd (cc)) in
        let lone : d.leg_of ≡ None = no_number d.leg_of (λ some. true≢false (sym (apt.idle some) ∙ at_work.busy)) in
        same_put begun.channels begun.bridges slot d (awaiting number d) is (nothing_apt (awaiting number d) peerless lone) refl refl
        (λ live. live) made_bonds

-- ---- a leg that wins

won_bonds : (winner : Winner) (slot : ℕ) (s : Switch) → ((c : Chan) → chan_at s slot ≡ Some c → c.peer ≡ None) → Bonds s →
    Bonds (after_winning winner slot s)
unfolding after_winning
won_bonds winner slot s peerless h =
    moved_there (λ (t : Switch). Bonds t) (λ event t k. k) (won_by winner) slot s (λ c is. put winner c is) h
  where
    put : (what : Winner) (c : Chan) → chan_at s slot ≡ Some c → Bonds (with_chan slot (Some (won_by what c)) s)
    put (App application argument) c is =
        same_put s.channels s.bridges slot c (won_by (App application argument) c) is
        (nothing_apt (won_by (App application argument) c) (peerless c is) refl) refl refl (λ live. execute_lives) h
    put (Route to) c is =
        same_put s.channels s.bridges slot c (won_by (Route to) c) is (nothing_apt (won_by (Route to) c) (peerless c is) refl) refl refl
        (λ live. routing_lives) h

-- a leg names no peer
winner_peerless : (before : Switch) (orig : ℕ) (leg : OrigLeg) (slots : List ℕ) → LegsStand (roles_of before) →
    HasWon before orig leg slots → Bonds (raced slots before) → (c : Chan) →
    chan_at (raced slots before) (unwrap_or leg.slot 0) ≡ Some c → c.peer ≡ None
winner_peerless before orig leg slots stand won h c there =
    let stands : IsLegOf (raced slots before).channels (berthed orig leg.slot) = winning_leg before orig leg slots won stand in
    let at : chan_at (raced slots before) (unwrap_or leg.slot 0) ≡ Some stands.chan =
    ap (λ (slot : Option ℕ). chan_at (raced slots before) (unwrap_or slot 0)) stands.is ∙ stands.there in
    let names : c.leg_of ≡ Some orig = ap (λ (d : Chan). d.leg_of) (same_Some c stands.chan (sym there ∙ at)) ∙ stands.names in
    no_peer c.peer (λ some. none-some orig (sym ((h.apt (unwrap_or leg.slot 0) c there).alone some) ∙ names))

-- ---- every move

bonds_same : (b : Stage) (t u : Switch) → Bonds t → front_of u ≡ front_of t → Bonds u
bonds_same b t u h same = as_bonds t u (ap (λ (f : Front). f.channels) same) (ap (λ (f : Front). f.bridges) same) h

regrouped_bonds : (number : ℕ) (made : MadeGroup) → Bonds made.state → Bonds (with_group number made)
regrouped_bonds number made h =
    bonds_same None made.state (with_group number made) h (orig_changed_front (at_next_group made.legs) number made.state)

bonds_dials : (before : Switch) → KeptByDials before Bonding
bonds_dials before = record {
  spent = λ h. h;
  dials = λ slot c groups timeout {s = s} there works are h. dialed_bonds slot c groups timeout s there works h;
  regroups = λ number o plans caller {s = s} there next h.
      regrouped_bonds number (group_made plans caller number s)
      (group_made_kept Bonding bonds_births plans caller number {s = s} h);
  fails = λ slot orig cause {s = s} waits over h. failed_bonds cause slot (without_orig orig s) (awaits_peerless s slot orig waits h) h;
  wins = λ slot orig leg slots waits won h.
      bridge_won_bonds slot (unwrap_or leg.slot 0) (without_orig orig (raced slots before))
      (record {
        bonds = h;
        peerless = awaits_peerless (raced slots before) slot orig waits h;
        lone = awaits_lone (raced slots before) slot orig waits h;
      });
}

pub bonds_moves : (before : Switch) → LegsStand (roles_of before) → KeptByMoves before Bonding
bonds_moves before stand =
    moves_by_front before Bonding bonds_same bonds_calls bonds_births (bonds_dials before)
    (λ job who winner caller orig leg slots does won h.
    won_bonds winner (unwrap_or leg.slot 0) (raced slots before) (winner_peerless before orig leg slots stand won h) h)
    (λ s h. as_bonds s (with_next_identifier s) refl refl h)
    (λ slot conn c text s there waits h. keeps_bonds slot c (held_by conn c) s there (held_keeps {b = None} conn c text waits) h)
