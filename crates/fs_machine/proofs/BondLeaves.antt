-- Bridges stand behind those who leave just where nobody who leaves was a leg of them, and none of their legs hung up.
use Rattle.std.proofs.Common.{◌≡◌, ℕ, Bool, true, false, if◌then◌else◌, List, [], ◌∷◌, map, filter, Option, None, Some, is_some}
use Rattle.std.proofs.Common.{◌⊎◌, inl, inr, refl, sym, ap, subst, ◌∙◌, option_and_then}
use Rattle.std.proofs.lemmas.Bool.{false≢true}
use Rattle.std.proofs.lemmas.Option.{same_Some}
use Rattle.fs_text.specs.declared.causes.Cause.{Cause}
use Rattle.fs_text.specs.declared.causes.Cause.TheVariants.{NormalClearing, OriginatorCancel}
use Rattle.fs_bridge.specs.declared.after.After.{After}
use Rattle.fs_bridge.specs.declared.row.Row.{Row}
use Rattle.fs_bridge.specs.Closure.{peer_in}
use Rattle.fs_bridge.specs.Hangups.{IsOneOf}
use Rattle.fs_bridge.specs.Leaving.{with_survivors}
use Rattle.fs_bridge.specs.Orders.{has_slot}
use Rattle.fs_chan.specs.declared.chan.Chan.{Chan}
use Rattle.fs_chan.specs.declared.peer.Peer.{Peer}
use Rattle.fs_chan.specs.Bridging.{awaited_by, unbridged, at_leisure}
use Rattle.fs_seats.specs.Seats.{with_held}
use Rattle.fs_state.specs.Switch.{Switch, chan_at, bridge_at, without_bridge}
use Rattle.fs_state.specs.Moves.{with_changed_chan, orig_given_up}
use Rattle.fs_state.specs.Hangups.{lives, lives_at, has_peer, row_at, after_end}
use Rattle.fs_state.specs.Leaving.{all_legs_at, after_cancelling, after_parting, living_among, after_bridges_left, after_leaving_others}
use Rattle.fs_state.specs.Queues.{queue_at}
use Rattle.fs_machine.specs.Joining.{after_leaving, after_farewell, after_farewells, after_departures}
use Rattle.fs_machine.proofs.AbortLemmas.{queue_left_kept}
use Rattle.fs_machine.proofs.StayLemmas.{changed_there}
use Rattle.fs_machine.proofs.FreeLemmas.{Holds, holds_put}
use Rattle.fs_machine.proofs.HangLemmas.{given_up_kept}
use Rattle.fs_machine.proofs.JoinLemmas.{rest_dials}
use Rattle.fs_machine.proofs.LeaveLemmas.{farewell_kept}
use Rattle.fs_machine.proofs.BondLemmas.{HasEnded}
use Rattle.fs_machine.proofs.BondTables.{NamesPeer, Bonds, NoSlot, opened, closed, lone_put}
use Rattle.fs_machine.proofs.BondHangups.{IsHeld, leg_held, StandsAlone, Ending, end_bonds, closure_bonds, closure_part, peerless_apt}
use Rattle.fs_machine.proofs.BondHangups.{hung_bonds}
use Rattle.fs_machine.proofs.PartingLemmas.{parted_rows, parted_state, others_left, left_named, closure_at, partings_kept, parts_its}
use Rattle.fs_machine.proofs.PartingLemmas.{gone_as_left, stood_before, IsOtherLeg, other_leg, survivors_as_left, bridges_left_as}

-- ---- what holds of the channel in a slot

pub holds_freed : (Q : Chan → Type 0) (cause : Cause) → ((c : Chan) → Q c → Q (unbridged cause c)) → (slot : ℕ) (row : Row) (s : Switch) →
    Holds Q s slot → Holds Q (after_end row cause s) slot
holds_freed Q cause keeps slot row s h =
    one row.answerer (with_changed_chan (unbridged cause) row.caller (without_bridge row.number s))
    (one row.caller (without_bridge row.number s) h)
  where
    one : (seat : ℕ) (t : Switch) → Holds Q t slot → Holds Q (with_changed_chan (unbridged cause) seat t) slot
    one seat t k =
        changed_there (λ (u : Switch). Holds Q u slot) (unbridged cause) seat t
        (λ c is. holds_put Q t slot seat c (unbridged cause c) is (keeps c) k) k

-- what is one of some, and passes a test, is one of those that do
passes : {X : Type 0} (test : X → Bool) (x : X) (xs : List X) → IsOneOf x xs → test x ≡ true → IsOneOf x (filter test xs)
passes test x [] one is = absurd one
passes test x (y ∷ ys) one is = by (test y) refl one (λ later. passes test x ys later is)
  where
    by : (b : Bool) → test y ≡ b → (x ≡ y) ⊎ IsOneOf x ys → (IsOneOf x ys → IsOneOf x (filter test ys)) →
        IsOneOf x (if b then y ∷ filter test ys else filter test ys)
    by true e (inl same) rest = inl same
    by true e (inr later) rest = inr (rest later)
    by false e (inl same) rest = absurd (false≢true (sym (ap test same ∙ e) ∙ is))
    by false e (inr later) rest = rest later

-- ---- who is off

-- a channel names no peer
abbrev pub IsPeerless : Chan → Type 0
IsPeerless c = c.peer ≡ None

-- nor does it wait for legs, and it is none itself
pub record IsOff (c : Chan) : Type 0 where
  pub peerless : IsPeerless c
  pub lone : c.leg_of ≡ None
  pub dials : awaited_by c ≡ None

no_peer : (peer : Option Peer) → (is_some peer ≡ true → ⊥) → peer ≡ None
no_peer None none = refl
no_peer (Some peer) none = absurd (none refl)

-- whoever is part of no bridge names no peer
pub apart_peerless : (s : Switch) (slot : ℕ) → bridge_at s slot ≡ None → Bonds s → Holds IsPeerless s slot
apart_peerless s slot none h c there =
    no_peer c.peer (λ some. false≢true (sym (ap is_some none) ∙ h.back slot c there some))

-- ---- bridges are left

module _ (slots : List ℕ) (s : Switch) (h : Bonds s) where
  -- so the bridges of those that stand behind it are as they were
  pub parted_bonds : Bonds (parted_state slots s)
  parted_bonds = partings_kept (λ (t : Switch). Bonds t) parts slots s h.rows h
    where
      parts : (slot : ℕ) (row : Row) (t : Switch) → bridge_at t slot ≡ Some row → Bonds t → Bonds (after_parting (row, NormalClearing) t)
      parts slot row t part k = (end_bonds t t k.rows row NormalClearing slot part (record { bonds = k; less = λ at r is. is })).bonds

  pub holds_parted : (Q : Chan → Type 0) → ((c : Chan) → Q c → Q (unbridged NormalClearing c)) → (slot : ℕ) → Holds Q s slot →
      Holds Q (parted_state slots s) slot
  holds_parted Q keeps slot holds =
      partings_kept (λ (t : Switch). Holds Q t slot) (λ at row t part k. holds_freed Q NormalClearing keeps slot row t k) slots s h.rows holds

  -- whoever was part of one that is left is part of none
  parted_none : (slot : ℕ) (row : Row) → bridge_at s slot ≡ Some row → IsOneOf (row, NormalClearing) (parted_rows slots s) →
      bridge_at (parted_state slots s) slot ≡ None
  parted_none slot row part parted = by (bridge_at (parted_state slots s) slot) refl
    where
      by : (found : Option Row) → bridge_at (parted_state slots s) slot ≡ found → found ≡ None
      by None is = refl
      by (Some r) is =
          let same : r ≡ row = same_Some r row (sym (stood_before slots s slot r h.rows is) ∙ part) in
          absurd (gone_as_left slots s row slot h.rows parted (is ∙ ap (λ (x : Row). Some x) same))

  parted_off : (slot : ℕ) (row : Row) → bridge_at s slot ≡ Some row → IsOneOf (row, NormalClearing) (parted_rows slots s) →
      Holds IsOff (parted_state slots s) slot
  parted_off slot row part parted c there =
      let held : IsHeld s slot = leg_held s slot row h part in
      record {
        peerless = apart_peerless (parted_state slots s) slot (parted_none slot row part parted) parted_bonds c there;
        lone = holds_parted (λ d. d.leg_of ≡ None) (λ d none. none) slot held.lone c there;
        dials = holds_parted (λ d. awaited_by d ≡ None) (λ d none. none) slot held.dials c there;
      }

  -- whoever is part of a bridge lives and names a peer
  part_lives : (slot : ℕ) (row : Row) → bridge_at s slot ≡ Some row → lives_at s slot ≡ true
  part_lives slot row part =
      let names : NamesPeer s.channels slot (peer_in row slot) = h.legs slot row part in
      ap lives names.there ∙ names.live

  part_seen : (slot : ℕ) (row : Row) → bridge_at s slot ≡ Some row → row_at s slot ≡ Some row
  part_seen slot row part =
      let names : NamesPeer s.channels slot (peer_in row slot) = h.legs slot row part in
      ap (λ test. if test then bridge_at s slot else None) (ap has_peer names.there ∙ ap is_some names.names) ∙ part

  -- those who leave
  pub left_off : (slot : ℕ) (row : Row) → IsOneOf slot (living_among s slots) → bridge_at s slot ≡ Some row →
      Holds IsOff (parted_state slots s) slot
  left_off slot row among part =
      parted_off slot row part (parts_its slots s slot row h.rows among (part_seen slot row part))

  -- and those who are left
  other_leg_off : (one : ℕ × After) → IsOtherLeg slots s one.0 → Holds IsOff (parted_state slots s) one.0
  other_leg_off one other = parted_off one.0 other.row other.part other.parted

  pub other_off : (one : ℕ × After) → IsOneOf one (others_left slots s) → Holds IsOff (parted_state slots s) one.0
  other_off one among = other_leg_off one (other_leg slots s one h.rows among)

  -- these stand alone
  pub other_alone : (one : ℕ × After) → IsOneOf one (others_left slots s) → StandsAlone (parted_state slots s) one.0
  other_alone one among =
      let other : IsOtherLeg slots s one.0 = other_leg slots s one h.rows among in
      record {
        lone = λ c there. (other_leg_off one other c there).lone;
        none = parted_none one.0 other.row other.part other.parted;
      }

  -- ---- and what comes of that

  outlive : (one : ℕ × After) → IsOneOf one (with_survivors (others_left slots s) (closure_at slots s)).survivors →
      IsOneOf one (closure_at slots s).survivors ⊎ StandsAlone (parted_state slots s) one.0
  outlive one is = by (survivors_as_left slots s (closure_at slots s) one is)
    where
      by : IsOneOf one (closure_at slots s).survivors ⊎ (IsOneOf one (others_left slots s) × (has_slot one.0 (closure_at slots s).members ≡ false)) →
          IsOneOf one (closure_at slots s).survivors ⊎ StandsAlone (parted_state slots s) one.0
      by (inl old) = inl old
      by (inr new) = inr (other_alone one new.0)

  ending : Ending (parted_state slots s) (after_bridges_left slots s)
  ending =
      subst (λ (t : Switch). Ending (parted_state slots s) t) (sym (bridges_left_as slots s h))
      (closure_bonds (left_named slots s) (parted_state slots s) parted_bonds
      (with_survivors (others_left slots s) (closure_at slots s)).survivors outlive)

  pub bridges_left_bonds : Bonds (after_bridges_left slots s)
  bridges_left_bonds = ending.bonds

  -- a bridge that was not left has ended by that, or stands
  pub bridges_left_part : (slot : ℕ) (row : Row) → bridge_at (parted_state slots s) slot ≡ Some row →
      HasEnded (left_named slots s) (parted_state slots s) row ⊎ (bridge_at (after_bridges_left slots s) slot ≡ Some row)
  bridges_left_part slot row part =
      subst
      (λ (t : Switch). HasEnded (left_named slots s) (parted_state slots s) row ⊎ (bridge_at t slot ≡ Some row))
      (sym (bridges_left_as slots s h))
      (closure_part (left_named slots s) (parted_state slots s) parted_bonds
      (with_survivors (others_left slots s) (closure_at slots s)).survivors outlive slot row part)

  -- whoever was to leave is part of none: whoever was part of one lived
  pub left_apart : (slot : ℕ) → IsOneOf slot slots → bridge_at (after_bridges_left slots s) slot ≡ None
  left_apart slot one = by (bridge_at (after_bridges_left slots s) slot) refl
    where
      among : (row : Row) → bridge_at s slot ≡ Some row → IsOneOf slot (living_among s slots)
      among row was = passes (lives_at s) slot slots one (part_lives slot row was)

      by : (found : Option Row) → bridge_at (after_bridges_left slots s) slot ≡ found → found ≡ None
      by None is = refl
      by (Some row) is =
          let still : bridge_at (parted_state slots s) slot ≡ Some row = ending.less slot row is in
          let was : bridge_at s slot ≡ Some row = stood_before slots s slot row h.rows still in
          absurd
          (gone_as_left slots s row slot h.rows (parts_its slots s slot row h.rows (among row was) (part_seen slot row was)) still)

  -- and names no peer
  pub left_peerless : (slot : ℕ) → IsOneOf slot slots → Holds IsPeerless (after_bridges_left slots s) slot
  left_peerless slot one = apart_peerless (after_bridges_left slots s) slot (left_apart slot one) bridges_left_bonds

-- ---- farewells

given_apart : (at slot : ℕ) (awaited : Option ℕ) (s : Switch) → bridge_at s at ≡ None → bridge_at (orig_given_up slot awaited s) at ≡ None
given_apart at slot awaited s none = given_up_kept (λ (t : Switch). bridge_at t at ≡ None) (λ number t k. k) slot awaited s none

-- a channel leaves what it was in, and is part of no bridge
pub left_bonds : (slot : ℕ) (s : Switch) → bridge_at s slot ≡ None → Bonds s → Bonds (after_leaving slot s)
left_bonds slot s none h =
    changed_there (λ (u : Switch). Bonds u) at_leisure slot t
    (λ c is.
    closed (with_held t.channels slot (Some (at_leisure c))) t.bridges
    (lone_put NoSlot NoSlot t.channels t.bridges slot c (at_leisure c) is apart
    (peerless_apt c (at_leisure c) (apart_peerless t slot apart k c is) refl refl refl (λ none. rest_dials None c.state) (k.apt slot c is))
    (apart_peerless t slot apart k c is) (λ at no. absurd no) (λ at no. absurd no) (opened t.channels t.bridges k))) k
  where
    t : Switch
    t = orig_given_up slot (option_and_then awaited_by (chan_at s slot)) s

    k : Bonds t
    k = given_up_kept (λ (u : Switch). Bonds u) (λ number u k. k) slot (option_and_then awaited_by (chan_at s slot)) s h

    apart : bridge_at t slot ≡ None
    apart = given_apart slot slot (option_and_then awaited_by (chan_at s slot)) s none

pub farewell_bonds : (slot : ℕ) (s : Switch) → bridge_at s slot ≡ None → Bonds s → Bonds (after_farewell slot s)
farewell_bonds slot s none h =
    queue_left_kept (λ (t : Switch). Bonds t) (λ name at t k. k) (queue_at s slot) slot (after_leaving slot s) (left_bonds slot s none h)

-- whoever is part of none stays so
pub farewell_apart : (at slot : ℕ) (s : Switch) → bridge_at s at ≡ None → bridge_at (after_farewell slot s) at ≡ None
farewell_apart at slot s none =
    farewell_kept (λ (t : Switch). bridge_at t at ≡ None) (λ event t k. k)
    (λ seat t k.
    let u : Switch = orig_given_up seat (option_and_then awaited_by (chan_at t seat)) t in
    let first : bridge_at u at ≡ None = given_apart at seat (option_and_then awaited_by (chan_at t seat)) t k in
    changed_there (λ (v : Switch). bridge_at v at ≡ None) at_leisure seat u (λ c is. first) first) slot s none

pub farewells_bonds : (slots : List ℕ) (s : Switch) → ((slot : ℕ) → IsOneOf slot slots → bridge_at s slot ≡ None) → Bonds s →
    Bonds (after_farewells slots s)
farewells_bonds [] s apart h = h
farewells_bonds (slot ∷ slots) s apart h =
    farewells_bonds slots (after_farewell slot s) (λ other one. farewell_apart other slot s (apart other (inr one)))
    (farewell_bonds slot s (apart slot (inl refl)) h)

-- ---- all of it

pub cancelled_bonds : (slots : List ℕ) (s : Switch) → Bonds s → Bonds (after_cancelling slots s)
cancelled_bonds slots s h = hung_bonds (map (λ leg. (leg, OriginatorCancel)) (all_legs_at s slots)) s h

pub departed_bonds : (slots : List ℕ) (s : Switch) → Bonds s → Bonds (after_departures slots s)
departed_bonds slots s h =
    let k : Bonds (after_cancelling slots s) = cancelled_bonds slots s h in
    farewells_bonds slots (after_leaving_others slots s) (left_apart slots (after_cancelling slots s) k)
    (bridges_left_bonds slots (after_cancelling slots s) k)
