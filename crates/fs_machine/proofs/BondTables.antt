-- The channels and the bridges of a switch, and how they belong together, behind a change of one channel.
use Rattle.std.proofs.Common.{◌≡◌, ◌≢◌, ℕ, true, None, Some, is_some, ◌⊎◌, inl, inr, refl, sym, ap, subst, ◌∙◌}
use Rattle.std.proofs.lemmas.Bool.{cases_eq, false≢true}
use Rattle.std.proofs.lemmas.Option.{none-some, same_Some}
use Rattle.fs_bridge.specs.declared.row.Row.{Row}
use Rattle.fs_bridge.specs.Bridges.{BridgeRows, part_of}
use Rattle.fs_bridge.specs.Closure.{peer_in}
use Rattle.fs_chan.specs.declared.chan.Chan.{Chan}
use Rattle.fs_chan.specs.Changes.{is_live}
use Rattle.fs_seats.specs.Seats.{held_in, with_held}
use Rattle.fs_seats.proofs.HeldLemmas.{held_here, held_there, held_within}
use Rattle.fs_state.specs.Switch.{Switch}
use Rattle.fs_machine.proofs.Kept.{Fact, IsApt}
use Rattle.fs_machine.proofs.LegLemmas.{Channels}
use Rattle.fs_machine.proofs.BondRows.{RowsFit, leg_part, peer_leg}

-- ---- what holds of them

-- a live channel names the one in another slot as its peer, by its identifier
pub record NamesPeer (channels : Channels) (slot other : ℕ) : Type 0 where
  pub chan : Chan
  pub there : held_in channels slot ≡ Some chan
  pub live : is_live chan ≡ true
  pub peer : Chan
  pub peer_there : held_in channels other ≡ Some peer
  pub names : chan.peer ≡ Some (record { slot = other; uuid = peer.uuid })

-- Each channel is apt, whoever is part of a bridge names the other leg, and whoever names a peer is part of a bridge, or is open. What is
-- open is part of none.
pub record OpenBonds (open_at : ℕ → Type 0) (channels : Channels) (bridges : BridgeRows) : Type 0 where
  pub apt : (slot : ℕ) (c : Chan) → held_in channels slot ≡ Some c → IsApt c
  pub rows : RowsFit bridges
  pub legs : (slot : ℕ) (row : Row) → part_of slot bridges ≡ Some row → NamesPeer channels slot (peer_in row slot)
  pub out : (slot : ℕ) → open_at slot → part_of slot bridges ≡ None
  pub back : (slot : ℕ) (c : Chan) → held_in channels slot ≡ Some c → is_some c.peer ≡ true →
      open_at slot ⊎ (is_some (part_of slot bridges) ≡ true)

-- the same with nothing open
pub record BondsIn (channels : Channels) (bridges : BridgeRows) : Type 0 where
  pub apt : (slot : ℕ) (c : Chan) → held_in channels slot ≡ Some c → IsApt c
  pub rows : RowsFit bridges
  pub legs : (slot : ℕ) (row : Row) → part_of slot bridges ≡ Some row → NamesPeer channels slot (peer_in row slot)
  pub back : (slot : ℕ) (c : Chan) → held_in channels slot ≡ Some c → is_some c.peer ≡ true → is_some (part_of slot bridges) ≡ true

-- of a switch
abbrev pub Bonds : Switch → Type 0
Bonds s = BondsIn s.channels s.bridges

abbrev pub Bonding : Fact
Bonding b s = Bonds s

abbrev pub NoSlot : ℕ → Type 0
NoSlot slot = ⊥

pub opened : (channels : Channels) (bridges : BridgeRows) → BondsIn channels bridges → OpenBonds NoSlot channels bridges
opened channels bridges h = record {
  apt = h.apt;
  rows = h.rows;
  legs = h.legs;
  out = λ slot none. absurd none;
  back = λ slot c there some. inr (h.back slot c there some);
}

pub closed : (channels : Channels) (bridges : BridgeRows) → OpenBonds NoSlot channels bridges → BondsIn channels bridges
closed channels bridges h = record {
  apt = h.apt;
  rows = h.rows;
  legs = h.legs;
  back = λ slot c there some. by slot (h.back slot c there some);
}
  where
    by : (slot : ℕ) → ⊥ ⊎ (is_some (part_of slot bridges) ≡ true) → is_some (part_of slot bridges) ≡ true
    by slot (inl none) = absurd none
    by slot (inr some) = some

-- ---- one channel is changed

-- what stands at a slot then stood there, or is the new channel
pub record Stood (channels : Channels) (seat : ℕ) (old new : Chan) (slot : ℕ) (d : Chan) : Type 0 where
  pub was : Chan
  pub there : held_in channels slot ≡ Some was
  pub how : ((slot ≡ seat) × (was ≡ old) × (d ≡ new)) ⊎ ((slot ≢ seat) × (d ≡ was))

pub stood : (channels : Channels) (seat : ℕ) (old new : Chan) (slot : ℕ) (d : Chan) → held_in channels seat ≡ Some old →
    held_in (with_held channels seat (Some new)) slot ≡ Some d → Stood channels seat old new slot d
stood channels seat old new slot d there is = by (cases_eq slot seat)
  where
    by : (slot ≡ seat) ⊎ (slot ≡ seat → ⊥) → Stood channels seat old new slot d
    by (inl same) =
        let here : held_in (with_held channels seat (Some new)) slot ≡ Some new =
        ap (held_in (with_held channels seat (Some new))) same
        ∙ held_here channels seat (Some new) (held_within channels seat old there) in
        record {
          was = old;
          there = ap (held_in channels) same ∙ there;
          how = inl (same, refl, same_Some d new (sym is ∙ here));
        }
    by (inr other) =
        record { was = d; there = sym (held_there channels seat slot (Some new) other) ∙ is; how = inr (other, refl) }

-- what stood at a slot is the old channel, and the new one stands there, or it stands there still
pub record Stands (channels : Channels) (seat : ℕ) (old new : Chan) (slot : ℕ) (c : Chan) : Type 0 where
  pub now : Chan
  pub there : held_in (with_held channels seat (Some new)) slot ≡ Some now
  pub how : ((slot ≡ seat) × (c ≡ old) × (now ≡ new)) ⊎ (now ≡ c)

pub stands : (channels : Channels) (seat : ℕ) (old new : Chan) (slot : ℕ) (c : Chan) → held_in channels seat ≡ Some old →
    held_in channels slot ≡ Some c → Stands channels seat old new slot c
stands channels seat old new slot c there is = by (cases_eq slot seat)
  where
    by : (slot ≡ seat) ⊎ (slot ≡ seat → ⊥) → Stands channels seat old new slot c
    by (inl same) = record {
      now = new;
      there = ap (held_in (with_held channels seat (Some new))) same
          ∙ held_here channels seat (Some new) (held_within channels seat old there);
      how = inl (same, same_Some c old (sym is ∙ (ap (held_in channels) same ∙ there)), refl);
    }
    by (inr other) = record { now = c; there = held_there channels seat slot (Some new) other ∙ is; how = inr refl }

-- a pair stays, where the channel that is changed is not its first, or lives on and names the same peer, and is not its second, or keeps
-- its identifier
pub peer_put : (channels : Channels) (seat : ℕ) (old new : Chan) (slot other : ℕ) → held_in channels seat ≡ Some old →
    (slot ≡ seat → (is_live old ≡ true → is_live new ≡ true) × (new.peer ≡ old.peer)) → (other ≡ seat → new.uuid ≡ old.uuid) →
    NamesPeer channels slot other → NamesPeer (with_held channels seat (Some new)) slot other
peer_put channels seat old new slot other there first second h = record {
  chan = a.now;
  there = a.there;
  live = live a.how;
  peer = b.now;
  peer_there = b.there;
  names = peer a.how ∙ (h.names ∙ ap (λ uuid. Some (record { slot = other; uuid = uuid })) (sym (uuid b.how)));
}
  where
    a : Stands channels seat old new slot h.chan
    a = stands channels seat old new slot h.chan there h.there

    b : Stands channels seat old new other h.peer
    b = stands channels seat old new other h.peer there h.peer_there

    live : ((slot ≡ seat) × (h.chan ≡ old) × (a.now ≡ new)) ⊎ (a.now ≡ h.chan) → is_live a.now ≡ true
    live (inl is) = ap is_live is.2 ∙ (first is.0).0 (ap is_live (sym is.1) ∙ h.live)
    live (inr is) = ap is_live is ∙ h.live

    peer : ((slot ≡ seat) × (h.chan ≡ old) × (a.now ≡ new)) ⊎ (a.now ≡ h.chan) → a.now.peer ≡ h.chan.peer
    peer (inl is) = ap (λ (c : Chan). c.peer) is.2 ∙ (first is.0).1 ∙ sym (ap (λ (c : Chan). c.peer) is.1)
    peer (inr is) = ap (λ (c : Chan). c.peer) is

    uuid : ((other ≡ seat) × (h.peer ≡ old) × (b.now ≡ new)) ⊎ (b.now ≡ h.peer) → b.now.uuid ≡ h.peer.uuid
    uuid (inl is) = ap (λ (c : Chan). c.uuid) is.2 ∙ second is.0 ∙ sym (ap (λ (c : Chan). c.uuid) is.1)
    uuid (inr is) = ap (λ (c : Chan). c.uuid) is

-- nobody of a bridge is in a slot that is part of none
pub apart_leg : (bridges : BridgeRows) (seat slot : ℕ) (row : Row) → part_of seat bridges ≡ None → part_of slot bridges ≡ Some row →
    slot ≡ seat → ⊥
apart_leg bridges seat slot row none part same = none-some row (sym none ∙ (ap (λ at. part_of at bridges) (sym same) ∙ part))

pub apart_peer : (bridges : BridgeRows) (seat slot : ℕ) (row : Row) → RowsFit bridges → part_of seat bridges ≡ None →
    part_of slot bridges ≡ Some row → peer_in row slot ≡ seat → ⊥
apart_peer bridges seat slot row fit none part same =
    apart_leg bridges seat (peer_in row slot) row none (leg_part bridges slot (peer_in row slot) row fit part (peer_leg row slot)) same

-- a channel that is part of no bridge comes to name no peer
pub lone_put : (open_at rest : ℕ → Type 0) (channels : Channels) (bridges : BridgeRows) (seat : ℕ) (old new : Chan) →
    held_in channels seat ≡ Some old → part_of seat bridges ≡ None → IsApt new → new.peer ≡ None →
    ((slot : ℕ) → open_at slot → (slot ≡ seat) ⊎ rest slot) → ((slot : ℕ) → rest slot → open_at slot) →
    OpenBonds open_at channels bridges → OpenBonds rest (with_held channels seat (Some new)) bridges
lone_put open_at rest channels bridges seat old new there none apt peerless split whole h = record {
  apt = λ slot d is. apt_of slot d (stood channels seat old new slot d there is);
  rows = h.rows;
  legs = λ slot row part. peer_put channels seat old new slot (peer_in row slot) there
      (λ same. absurd (apart_leg bridges seat slot row none part same))
      (λ same. absurd (apart_peer bridges seat slot row h.rows none part same)) (h.legs slot row part);
  out = λ slot is. h.out slot (whole slot is);
  back = λ slot d is some. back_of slot d (stood channels seat old new slot d there is) some;
}
  where
    apt_of : (slot : ℕ) (d : Chan) → Stood channels seat old new slot d → IsApt d
    apt_of slot d was = by was.how
      where
        by : ((slot ≡ seat) × (was.was ≡ old) × (d ≡ new)) ⊎ ((slot ≢ seat) × (d ≡ was.was)) → IsApt d
        by (inl is) = subst IsApt (sym is.2) apt
        by (inr is) = subst IsApt (sym is.1) (h.apt slot was.was was.there)

    back_of : (slot : ℕ) (d : Chan) → Stood channels seat old new slot d → is_some d.peer ≡ true →
        rest slot ⊎ (is_some (part_of slot bridges) ≡ true)
    back_of slot d was some = by was.how
      where
        opened_at : slot ≢ seat → open_at slot ⊎ (is_some (part_of slot bridges) ≡ true) →
            rest slot ⊎ (is_some (part_of slot bridges) ≡ true)
        opened_at other (inr part) = inr part
        opened_at other (inl is) =
            elim (split slot is) [
              | inl same ↦ absurd (other same)
              | inr left ↦ inl left
            ]

        by : ((slot ≡ seat) × (was.was ≡ old) × (d ≡ new)) ⊎ ((slot ≢ seat) × (d ≡ was.was)) →
            rest slot ⊎ (is_some (part_of slot bridges) ≡ true)
        by (inl is) = absurd (false≢true (sym (ap is_some (ap (λ (c : Chan). c.peer) is.2 ∙ peerless)) ∙ some))
        by (inr is) =
            opened_at is.0 (h.back slot was.was was.there (ap (λ (c : Chan). is_some c.peer) (sym is.1) ∙ some))
