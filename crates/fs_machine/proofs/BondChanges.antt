-- What two channels of a bridge are to each other behind a change of one channel, a birth, a death and a bridge more.
use Rattle.std.proofs.Common.{◌≡◌, ◌≢◌, ℕ, ◌+◌, ◌==◌, Bool, true, false, if◌then◌else◌, Option, None, Some, is_some, ◌⊎◌, inl, inr}
use Rattle.std.proofs.Common.{refl, sym, ap, subst, ◌∙◌, arith, true≢false}
use Rattle.std.proofs.lemmas.Bool.{eqb-true, false≢true}
use Rattle.std.proofs.lemmas.Cmp.{nat_eq_equiv}
use Rattle.std.proofs.lemmas.Option.{same_Some}
use Rattle.fs_bridge.specs.declared.row.Row.{Row}
use Rattle.fs_bridge.specs.declared.row.BridgeKind.{BridgeKind}
use Rattle.fs_bridge.specs.Bridges.{BridgeRows, part_of, next_row, joined}
use Rattle.fs_bridge.specs.Closure.{peer_in}
use Rattle.fs_chan.specs.declared.chan.Chan.{Chan}
use Rattle.fs_chan.specs.Bridging.{bridged}
use Rattle.fs_chan.specs.Changes.{is_live}
use Rattle.fs_seats.specs.Seats.{held_in, with_held}
use Rattle.fs_seats.proofs.HeldLemmas.{IsFree, held_here, held_there, held_within}
use Rattle.fs_seats.proofs.TableLemmas.{IsWrittenOrKept, written_or_kept, kept_without, still_there, not_free, one_there}
use Rattle.fs_state.specs.Switch.{Switch}
use Rattle.fs_state.specs.Bridging.{peer_of}
use Rattle.fs_machine.specs.declared.call.Call.{Call}
use Rattle.fs_machine.specs.Originations.{leg_end, pair_made}
use Rattle.fs_machine.proofs.Kept.{IsApt}
use Rattle.fs_machine.proofs.LegLemmas.{Channels}
use Rattle.fs_machine.proofs.NameLemmas.{leg_by, leg_chan, far_chan, pair_in, pair_channels}
use Rattle.fs_machine.proofs.BondRows.{IsLeg, leg_part, peer_leg, caller_leg, answerer_leg, joined_part, new_part, old_part, joined_fit}
use Rattle.fs_machine.proofs.BondTables.{NamesPeer, BondsIn, Bonds, Stood, stood, peer_put, apart_leg, apart_peer}

-- the same channels and bridges
pub as_bonds : (t u : Switch) → u.channels ≡ t.channels → u.bridges ≡ t.bridges → Bonds t → Bonds u
as_bonds t u channels same h =
    subst (λ (all : Channels). BondsIn all u.bridges) (sym channels)
    (subst (λ (rows : BridgeRows). BondsIn t.channels rows) (sym same) h)

-- ---- one channel is changed

abbrev AllApt : Channels → Type 0
AllApt channels = (slot : ℕ) (c : Chan) → held_in channels slot ≡ Some c → IsApt c

apt_put : (channels : Channels) (seat : ℕ) (old new : Chan) → held_in channels seat ≡ Some old → IsApt new → AllApt channels →
    AllApt (with_held channels seat (Some new))
apt_put channels seat old new there apt h slot d is = by (stood channels seat old new slot d there is)
  where
    by : Stood channels seat old new slot d → IsApt d
    by was = how was.how
      where
        how : ((slot ≡ seat) × (was.was ≡ old) × (d ≡ new)) ⊎ ((slot ≢ seat) × (d ≡ was.was)) → IsApt d
        how (inl e) = subst IsApt (sym e.2) apt
        how (inr e) = subst IsApt (sym e.1) (h slot was.was was.there)

-- and names the peer that it named
pub same_put : (channels : Channels) (bridges : BridgeRows) (seat : ℕ) (old new : Chan) → held_in channels seat ≡ Some old → IsApt new →
    new.uuid ≡ old.uuid → new.peer ≡ old.peer → (is_live old ≡ true → is_live new ≡ true) → BondsIn channels bridges →
    BondsIn (with_held channels seat (Some new)) bridges
same_put channels bridges seat old new there apt uuid peer live h = record {
  apt = apt_put channels seat old new there apt h.apt;
  rows = h.rows;
  legs = λ slot row part. peer_put channels seat old new slot (peer_in row slot) there (λ same. (live, peer)) (λ same. uuid)
      (h.legs slot row part);
  back = λ slot d is some. back_of slot d (stood channels seat old new slot d there is) some;
}
  where
    back_of : (slot : ℕ) (d : Chan) → Stood channels seat old new slot d → is_some d.peer ≡ true → is_some (part_of slot bridges) ≡ true
    back_of slot d was some = how was.how
      where
        how : ((slot ≡ seat) × (was.was ≡ old) × (d ≡ new)) ⊎ ((slot ≢ seat) × (d ≡ was.was)) → is_some (part_of slot bridges) ≡ true
        how (inl e) =
            h.back slot was.was was.there
            (ap is_some (ap (λ (c : Chan). c.peer) e.1 ∙ (sym peer ∙ ap (λ (c : Chan). c.peer) (sym e.2))) ∙ some)
        how (inr e) = h.back slot was.was was.there (ap (λ (c : Chan). is_some c.peer) (sym e.1) ∙ some)

-- ---- channels come and go

-- one comes into a free slot, and names no peer
free_put : (channels : Channels) (bridges : BridgeRows) (seat : ℕ) (new : Chan) → held_in channels seat ≡ None → IsApt new →
    new.peer ≡ None → BondsIn channels bridges → BondsIn (with_held channels seat (Some new)) bridges
free_put channels bridges seat new free apt peerless h = record {
  apt = λ slot d is. apt_of slot d (written_or_kept channels seat (Some new) slot d is);
  rows = h.rows;
  legs = λ slot row part.
      let n : NamesPeer channels slot (peer_in row slot) = h.legs slot row part in
      record {
        chan = n.chan;
        there = still_there channels seat (Some new) slot n.chan (not_free channels seat slot n.chan free n.there) n.there;
        live = n.live;
        peer = n.peer;
        peer_there = still_there channels seat (Some new) (peer_in row slot) n.peer
            (not_free channels seat (peer_in row slot) n.peer free n.peer_there) n.peer_there;
        names = n.names;
      };
  back = λ slot d is some. back_of slot d (written_or_kept channels seat (Some new) slot d is) some;
}
  where
    apt_of : (slot : ℕ) (d : Chan) → IsWrittenOrKept channels seat (Some new) slot d → IsApt d
    apt_of slot d (inl here) = subst IsApt (same_Some new d here.1) apt
    apt_of slot d (inr kept) = h.apt slot d kept.1

    back_of : (slot : ℕ) (d : Chan) → IsWrittenOrKept channels seat (Some new) slot d → is_some d.peer ≡ true →
        is_some (part_of slot bridges) ≡ true
    back_of slot d (inl here) some =
        absurd (false≢true (sym (ap is_some (ap (λ (c : Chan). c.peer) (sym (same_Some new d here.1)) ∙ peerless)) ∙ some))
    back_of slot d (inr kept) some = h.back slot d kept.1 some

-- one that does not live is gone
pub gone_put : (channels : Channels) (bridges : BridgeRows) (seat : ℕ) (old : Chan) → held_in channels seat ≡ Some old →
    is_live old ≡ false → BondsIn channels bridges → BondsIn (with_held channels seat None) bridges
gone_put channels bridges seat old there dead h = record {
  apt = λ slot d is. h.apt slot d (kept_without channels seat slot d is).1;
  rows = h.rows;
  legs = λ slot row part.
      let other : ℕ = peer_in row slot in
      let n : NamesPeer channels slot other = h.legs slot row part in
      record {
        chan = n.chan;
        there = still_there channels seat None slot n.chan (lives slot row part) n.there;
        live = n.live;
        peer = n.peer;
        peer_there = still_there channels seat None other n.peer
            (lives other row (leg_part bridges slot other row h.rows part (peer_leg row slot))) n.peer_there;
        names = n.names;
      };
  back = λ slot d is some. h.back slot d (kept_without channels seat slot d is).1 some;
}
  where
    lives : (slot : ℕ) (row : Row) → part_of slot bridges ≡ Some row → slot ≢ seat
    lives slot row part same =
        let n : NamesPeer channels slot (peer_in row slot) = h.legs slot row part in
        let is : old ≡ n.chan = one_there channels seat slot old n.chan there n.there same in
        true≢false (sym n.live ∙ (ap is_live (sym is) ∙ dead))

-- the two of a pair name no peers
pub pair_bonds : (call : Call) (orig a b : ℕ) (s : Switch) → IsFree Chan s.channels 1 a → IsFree Chan s.channels (a + 1) b → Bonds s →
    Bonds (pair_made call orig a b s)
pair_bonds call orig a b s first second h =
    subst (λ (all : Channels). BondsIn all (pair_made call orig a b s).bridges) (sym (pair_channels call orig a b s))
    (subst (λ (rows : BridgeRows). BondsIn (pair_in s.channels a b (leg_chan call orig a b s) (far_chan call orig a b s)) rows)
    (sym (leg_by (λ (t : Switch). t.bridges ≡ s.bridges) call.uuid call (leg_end orig a b) s refl (λ own. refl)))
    (free_put (with_held s.channels a (Some (leg_chan call orig a b s))) s.bridges b (far_chan call orig a b s)
    (held_there s.channels a b (Some (leg_chan call orig a b s)) (λ same. omega (arith, second.behind, same)) ∙ second.free)
    (record {
      outbound = λ some. absurd (false≢true some);
      idle = λ some. absurd (false≢true some);
      free = λ some. absurd (false≢true some);
      alone = λ some. absurd (false≢true some);
      held = λ some. absurd (false≢true some);
    }) refl
    (free_put s.channels s.bridges a (leg_chan call orig a b s) first.free
    (record {
      outbound = λ some. refl;
      idle = λ some. refl;
      free = λ some. refl;
      alone = λ some. absurd (false≢true some);
      held = λ some. absurd (false≢true some);
    }) refl h)))

-- ---- one bridge more

-- two channels come to name each other
module _ (channels : Channels) (bridges : BridgeRows) (kind : BridgeKind) (caller answerer : ℕ) (c d e : Chan)
    (calls : held_in channels caller ≡ Some c) (answers : held_in channels answerer ≡ Some d) (differ : caller ≢ answerer)
    (first : part_of caller bridges ≡ None) (second : part_of answerer bridges ≡ None) (live : is_live c ≡ true)
    (alive : is_live e ≡ true) (uuid : e.uuid ≡ d.uuid) (names : e.peer ≡ Some (peer_of caller c))
    (apt : IsApt (bridged (peer_of answerer d) c)) (apt_too : IsApt e) (h : BondsIn channels bridges) where
  once : Channels
  once = with_held channels caller (Some (bridged (peer_of answerer d) c))

  both : Channels
  both = with_held (with_held channels caller (Some (bridged (peer_of answerer d) c))) answerer (Some e)

  answers_still : held_in once answerer ≡ Some d
  unfolding once
  answers_still = still_there channels caller (Some (bridged (peer_of answerer d) c)) answerer d (λ same. differ (sym same)) answers

  at_caller : held_in both caller ≡ Some (bridged (peer_of answerer d) c)
  unfolding once both
  at_caller =
      held_there once answerer caller (Some e) differ
      ∙ held_here channels caller (Some (bridged (peer_of answerer d) c)) (held_within channels caller c calls)

  at_answerer : held_in both answerer ≡ Some e
  unfolding once both
  at_answerer = held_here once answerer (Some e) (held_within once answerer d answers_still)

  caller_names : NamesPeer both caller answerer
  caller_names = record {
    chan = bridged (peer_of answerer d) c;
    there = at_caller;
    live = live;
    peer = e;
    peer_there = at_answerer;
    names = ap (λ text. Some (record { slot = answerer; uuid = text })) (sym uuid);
  }

  answerer_names : NamesPeer both answerer caller
  answerer_names = record {
    chan = e;
    there = at_answerer;
    live = alive;
    peer = bridged (peer_of answerer d) c;
    peer_there = at_caller;
    names = names;
  }

  new_names : (slot : ℕ) → IsLeg slot (next_row caller answerer kind bridges) →
      NamesPeer both slot (peer_in (next_row caller answerer kind bridges) slot)
  new_names slot (inl same) =
      subst (λ (at : ℕ). NamesPeer both at (peer_in (next_row caller answerer kind bridges) at)) (sym same)
      (subst (NamesPeer both caller)
      (sym (ap (λ (test : Bool). if test then answerer else caller) (nat_eq_equiv.refl caller))) caller_names)
  new_names slot (inr same) =
      subst (λ (at : ℕ). NamesPeer both at (peer_in (next_row caller answerer kind bridges) at)) (sym same)
      (by (caller == answerer) refl)
    where
      by : (test : Bool) → (caller == answerer) ≡ test → NamesPeer both answerer (if test then answerer else caller)
      by true is = absurd (differ (eqb-true caller answerer is))
      by false is = answerer_names

  old_names : (slot : ℕ) (row : Row) → part_of slot bridges ≡ Some row → NamesPeer both slot (peer_in row slot)
  unfolding once both
  old_names slot row part =
      let other : ℕ = peer_in row slot in
      let n : NamesPeer channels slot other = h.legs slot row part in
      record {
        chan = n.chan;
        there = still_there once answerer (Some e) slot n.chan (apart_leg bridges answerer slot row second part)
            (still_there channels caller (Some (bridged (peer_of answerer d) c)) slot n.chan (apart_leg bridges caller slot row first part)
            n.there);
        live = n.live;
        peer = n.peer;
        peer_there = still_there once answerer (Some e) other n.peer (apart_peer bridges answerer slot row h.rows second part)
            (still_there channels caller (Some (bridged (peer_of answerer d) c)) other n.peer
            (apart_peer bridges caller slot row h.rows first part) n.peer_there);
        names = n.names;
      }

  all_names : (slot : ℕ) (row : Row) → part_of slot (joined caller answerer kind bridges) ≡ Some row →
      NamesPeer both slot (peer_in row slot)
  all_names slot row part = by (joined_part caller answerer kind bridges first second slot row part)
    where
      by : (IsLeg slot (next_row caller answerer kind bridges) × (row ≡ next_row caller answerer kind bridges))
          ⊎ (part_of slot bridges ≡ Some row) → NamesPeer both slot (peer_in row slot)
      by (inl new) = subst (λ (r : Row). NamesPeer both slot (peer_in r slot)) (sym new.1) (new_names slot new.0)
      by (inr old) = old_names slot row old

  some_new : (slot : ℕ) → IsLeg slot (next_row caller answerer kind bridges) →
      is_some (part_of slot (joined caller answerer kind bridges)) ≡ true
  some_new slot (inl same) =
      ap (λ (at : ℕ). is_some (part_of at (joined caller answerer kind bridges))) same
      ∙ ap is_some (new_part caller answerer kind bridges first second caller (caller_leg (next_row caller answerer kind bridges)))
  some_new slot (inr same) =
      ap (λ (at : ℕ). is_some (part_of at (joined caller answerer kind bridges))) same
      ∙ ap is_some (new_part caller answerer kind bridges first second answerer (answerer_leg (next_row caller answerer kind bridges)))

  some_old : (slot : ℕ) → is_some (part_of slot bridges) ≡ true → is_some (part_of slot (joined caller answerer kind bridges)) ≡ true
  some_old slot some = by (part_of slot bridges) refl some
    where
      by : (found : Option Row) → part_of slot bridges ≡ found → is_some found ≡ true →
          is_some (part_of slot (joined caller answerer kind bridges)) ≡ true
      by None is e = absurd (false≢true e)
      by (Some row) is e = ap is_some (old_part caller answerer kind bridges first second slot row is)

  back_of : (slot : ℕ) (x : Chan) → held_in both slot ≡ Some x → is_some x.peer ≡ true →
      is_some (part_of slot (joined caller answerer kind bridges)) ≡ true
  unfolding once both
  back_of slot x is some = outer (written_or_kept once answerer (Some e) slot x is)
    where
      inner : IsWrittenOrKept channels caller (Some (bridged (peer_of answerer d) c)) slot x →
          is_some (part_of slot (joined caller answerer kind bridges)) ≡ true
      inner (inl here) = some_new slot (inl here.0)
      inner (inr kept) = some_old slot (h.back slot x kept.1 some)

      outer : IsWrittenOrKept once answerer (Some e) slot x → is_some (part_of slot (joined caller answerer kind bridges)) ≡ true
      outer (inl here) = some_new slot (inr here.0)
      outer (inr kept) = inner (written_or_kept channels caller (Some (bridged (peer_of answerer d) c)) slot x kept.1)

  pub joined_tables : BondsIn (with_held (with_held channels caller (Some (bridged (peer_of answerer d) c))) answerer (Some e))
      (joined caller answerer kind bridges)
  unfolding once both
  joined_tables = record {
    apt = apt_put once answerer d e answers_still apt_too (apt_put channels caller c (bridged (peer_of answerer d) c) calls apt h.apt);
    rows = joined_fit caller answerer kind bridges first second differ h.rows;
    legs = λ slot row part. all_names slot row part;
    back = λ slot x is some. back_of slot x is some;
  }
