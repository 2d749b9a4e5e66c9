-- How a lane stands over its book.
use Rattle.std.specs.Prelude.{◌≡◌, ℕ, ◌+◌, ◌<◌, ◌≤◌, List, [], ◌∷◌, length, slice_index_or, Option, None, Some}
use Rattle.std.specs.List.{All}
use Rattle.fs_ports.specs.Ports.{Input, Output}
use Rattle.fs_book.specs.declared.book.Book.{Book}
use Rattle.fs_book.specs.Passes.{seen, mine, met, parts, opening_state, IsPassOf}
use Rattle.fs_doc.specs.Reading.{Configuration}
use Rattle.fs_machine.specs.declared.entry.Entry.{Entry}
use Rattle.fs_machine.specs.declared.answer.Answer.{Answer}
use Rattle.fs_machine.specs.declared.offer.Offer.{Offer}
use Rattle.fs_machine.specs.declared.refusal.RouteRefusal.{RouteRefusal}
use Rattle.fs_machine.specs.Runs.{View}
use Rattle.fs_machine.specs.Turned.{configured}
use Rattle.fs_top.specs.declared.conns.Conn.{Conn}
use Rattle.fs_top.specs.declared.desk.Desk.{Desk}
use Rattle.fs_top.specs.declared.lanes.Lane.{Lane}
use Rattle.fs_top.specs.declared.lanes.Lane.TheVariants.{Slot, Staff}
use Rattle.fs_top.specs.declared.lanes.Staff.{Staff as StaffLane}
use Rattle.fs_top.specs.declared.slots.SlotLane.{SlotLane}
use Rattle.fs_session.specs.declared.actor.Actor.TheVariants as who
use Rattle.fs_top.specs.Dials.{vain_in, HasRisen}
use Rattle.fs_top.specs.Lanes.{Keeps, Enters}

-- its pass is of the book and has two parts, it keeps its connections, and it never halts the switch, tells what came of a dial or notes a load
pub record StaffStands {L : Type 0} (input : L → Input) (output : L → Output) (may : ℕ → Type 0)
    (book : Book View Configuration Offer Entry Answer RouteRefusal) (staff : StaffLane L) : Type 0 where
  pub book_is : IsPassOf configured book staff.pass
  pub parts_is : parts staff.pass ≡ 2
  pub keeps : Keeps input output (Enters may ⊥ None) (configured (opening_state book)) (seen staff.pass) (mine staff.pass ∷ met staff.pass)
      staff.conns.items

-- the desk: its pass is of the book and has two parts, it serves nobody, never halts the switch, nor tells what came of a dial, and notes loads
pub record DeskStands {L : Type 0} (input : L → Input) (output : L → Output) (may : ℕ → Type 0)
    (book : Book View Configuration Offer Entry Answer RouteRefusal) (desk : Desk) : Type 0 where
  pub book_is : IsPassOf configured book desk.pass
  pub parts_is : parts desk.pass ≡ 2
  pub keeps : Keeps input output (Enters may ⊥ (Some who.Jobs)) (configured (opening_state book)) (seen desk.pass)
      (mine desk.pass ∷ met desk.pass) []

module _ {L O : Type 0} where
  -- The lane is that of a slot, its pass is of the book and has so many parts, it keeps its connections, never halts the switch, notes no load,
  -- and tells what came of a dial of its slot alone.
  abbrev pub SlotHolds : (L → Input) → (L → Output) → (ℕ → Type 0) → Book View Configuration Offer Entry Answer RouteRefusal → ℕ → ℕ
      → SlotLane L O → Type 0
  SlotHolds input output may book slot count lane =
      (lane.slot ≡ slot) × IsPassOf configured book lane.pass × (parts lane.pass ≡ count)
      × Keeps input output (Enters may ⊥ (Some (who.Slot slot))) (configured (opening_state book)) (seen lane.pass) (mine lane.pass ∷ met lane.pass)
      lane.conns.items

  -- it stands so where nobody else has parts of its pass
  abbrev pub SlotStands : (L → Input) → (L → Output) → (ℕ → Type 0) → Book View Configuration Offer Entry Answer RouteRefusal → ℕ
      → SlotLane L O → Type 0
  SlotStands input output may book slot lane = SlotHolds input output may book slot 2 lane

  -- so many entries of a lane tell that a dial of a slot was in vain
  abbrev pub vain_of : ℕ → SlotLane L O → ℕ
  vain_of slot lane = vain_in slot (seen lane.pass) (mine lane.pass ∷ met lane.pass)

  -- as many of them may have failed since its dialer counted so many
  abbrev pub DialsFailed : (O → ℕ) → ℕ → SlotLane L O → Type 0
  DialsFailed faults from lane = HasRisen (vain_of lane.slot lane) from (faults lane.dialer)

  -- a lane of whichever kind
  abbrev pub Stands : (L → Input) → (L → Output) → (ℕ → Type 0) → Book View Configuration Offer Entry Answer RouteRefusal → Lane L O → Type 0
  Stands input output may book (Slot lane) = SlotStands input output may book lane.slot lane
  Stands input output may book (Staff staff) = StaffStands input output may book staff

  abbrev pub HasFailed : (O → ℕ) → ℕ → Lane L O → Type 0
  HasFailed faults from (Slot lane) = DialsFailed faults from lane
  HasFailed faults from (Staff staff) = Unit {0}

  -- the lanes of so many slots, from 1 on, come first, in their order
  abbrev pub IsPlaced : ℕ → ℕ → Lane L O → Type 0
  IsPlaced slots at (Slot lane) = (at < slots) × (lane.slot ≡ at + 1)
  IsPlaced slots at (Staff staff) = slots ≤ at

  -- where it is the lane of a slot, so many others stand in front of it
  abbrev pub IsNext : ℕ → Lane L O → Type 0
  IsNext before (Slot lane) = lane.slot ≡ before + 1
  IsNext before (Staff staff) = Unit {0}

  -- so do all of a list
  abbrev pub ArePlaced : ℕ → List (Lane L O) → Type 0
  ArePlaced slots lanes = (at : ℕ) (lane : Lane L O) → at < length lanes → IsPlaced slots at (slice_index_or lanes at lane)

  abbrev pub HaveFailed : (O → ℕ) → ℕ → List (Lane L O) → Type 0
  HaveFailed faults from lanes = All (HasFailed faults from) lanes

  -- the dialer of a lane, if it has one
  abbrev pub dialers_of : Lane L O → List O
  dialers_of (Slot lane) = lane.dialer ∷ []
  dialers_of (Staff staff) = []

-- the connection that came of a dial, if one did
abbrev pub conns_of : {L : Type 0} → Option (Conn L) → List (Conn L)
conns_of None = []
conns_of (Some conn) = conn ∷ []
