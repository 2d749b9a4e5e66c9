-- A lane stands as well over a clock that may tell more.
use Rattle.std.proofs.Common.{◌≡◌, ℕ, List, [], ◌∷◌, Option, None, Some, sym, ap, subst, ◌∙◌}
use Rattle.std.specs.List.{AllByRecursion}
use Rattle.fs_ports.specs.Ports.{Input, Output}
use Rattle.fs_book.specs.declared.book.Book.{Book}
use Rattle.fs_book.specs.Passes.{seen, mine, met, opening_state}
use Rattle.fs_conn.specs.Talks.{Point, MadeAt, Talks}
use Rattle.fs_conn.specs.declared.end.End.{End}
use Rattle.fs_doc.specs.Reading.{Configuration}
use Rattle.fs_machine.specs.declared.entry.Entry.{Entry}
use Rattle.fs_machine.specs.declared.answer.Answer.{Answer}
use Rattle.fs_machine.specs.declared.offer.Offer.{Offer}
use Rattle.fs_machine.specs.declared.refusal.RouteRefusal.{RouteRefusal}
use Rattle.fs_machine.specs.Runs.{View}
use Rattle.fs_machine.specs.Turned.{configured}
use Rattle.fs_top.specs.declared.desk.Desk.{Desk}
use Rattle.fs_top.specs.declared.lanes.Staff.{Staff}
use Rattle.fs_top.specs.declared.slots.SlotLane.{SlotLane}
use Rattle.fs_top.specs.Dials.{HasRisen}
use Rattle.fs_session.specs.declared.actor.Actor.{Actor}
use Rattle.fs_session.specs.declared.actor.Actor.TheVariants as who
use Rattle.fs_top.specs.Lanes.{Enters}
use Rattle.fs_top.specs.Standing.{DeskStands, StaffStands, SlotHolds, DialsFailed, vain_of}
use Rattle.fs_top.proofs.LaneLemmas.{keeps_may}

entry_told : (may may' : ℕ → Type 0) (own : Option Actor) → ((moment : ℕ) → may moment → may' moment) → (entry : Entry) →
    Enters may ⊥ own entry → Enters may' ⊥ own entry
entry_told may may' own more entry entered = ((more entry.moment entered.0.0, entered.0.1, entered.0.2), entered.1, entered.2)

pub staff_told : {L : Type 0} (input : L → Input) (output : L → Output) (may may' : ℕ → Type 0)
    (book : Book View Configuration Offer Entry Answer RouteRefusal) (staff : Staff L) → ((moment : ℕ) → may moment → may' moment)
    → StaffStands input output may book staff → StaffStands input output may' book staff
staff_told input output may may' book staff more stands = record {
  book_is = stands.book_is;
  parts_is = stands.parts_is;
  keeps =
      keeps_may input output (Enters may ⊥ None) (Enters may' ⊥ None) (configured (opening_state book)) (seen staff.pass)
      (mine staff.pass ∷ met staff.pass) staff.conns.items (entry_told may may' None more) stands.keeps;
}

pub desk_told : {L : Type 0} (input : L → Input) (output : L → Output) (may may' : ℕ → Type 0)
    (book : Book View Configuration Offer Entry Answer RouteRefusal) (desk : Desk) → ((moment : ℕ) → may moment → may' moment)
    → DeskStands input output may book desk → DeskStands input output may' book desk
desk_told input output may may' book desk more stands = record {
  book_is = stands.book_is;
  parts_is = stands.parts_is;
  keeps =
      keeps_may input output (Enters may ⊥ (Some who.Jobs)) (Enters may' ⊥ (Some who.Jobs)) (configured (opening_state book)) (seen desk.pass)
      (mine desk.pass ∷ met desk.pass) [] (entry_told may may' (Some who.Jobs) more) stands.keeps;
}

pub slot_told : {L O : Type 0} (input : L → Input) (output : L → Output) (may may' : ℕ → Type 0)
    (book : Book View Configuration Offer Entry Answer RouteRefusal) (slot count : ℕ) (lane : SlotLane L O)
    → ((moment : ℕ) → may moment → may' moment) → SlotHolds input output may book slot count lane
    → SlotHolds input output may' book slot count lane
slot_told input output may may' book slot count lane more holds = (
  holds.0,
  holds.1,
  holds.2,
  keeps_may input output (Enters may ⊥ (Some (who.Slot slot))) (Enters may' ⊥ (Some (who.Slot slot))) (configured (opening_state book))
      (seen lane.pass) (mine lane.pass ∷ met lane.pass) lane.conns.items (entry_told may may' (Some (who.Slot slot)) more) holds.3,
)

-- what failed for a lane has failed for it where it goes on without a dial
pub failed_as : {L O : Type 0} (faults : O → ℕ) (from : ℕ) (old new : SlotLane L O) → new.slot ≡ old.slot → new.dialer ≡ old.dialer
    → ((slot : ℕ) → vain_of slot new ≡ vain_of slot old) → DialsFailed faults from old → DialsFailed faults from new
failed_as faults from old new slot_is dialer_is vain_is failed =
    subst (λ (n : ℕ). HasRisen n from (faults new.dialer)) (sym (vain_is new.slot ∙ ap (λ (slot : ℕ). vain_of slot old) slot_is))
    (subst (λ (n : ℕ). HasRisen (vain_of old.slot old) from n) (sym (ap faults dialer_is)) failed)

-- so does a conversation
made_told : (may may' : ℕ → Type 0) (conn : ℕ) (log : List Entry) (places : List ℕ) → ((moment : ℕ) → may moment → may' moment) →
    AllByRecursion (MadeAt may conn log) places → AllByRecursion (MadeAt may' conn log) places
made_told may may' conn log [] more made = tt
made_told may may' conn log (p ∷ places) more made =
    ((made.0.0, made.0.1, made.0.2, more made.0.0.moment made.0.3), made_told may may' conn log places more made.1)

pub talks_told : (may may' : ℕ → Type 0) (config : Configuration) (conn : ℕ) (from now : Point) (end : End) →
    ((moment : ℕ) → may moment → may' moment) → Talks may config conn from now end → Talks may' config conn from now end
talks_told may may' config conn from now end more talks = record {
  later = talks.later;
  gains = record {
    places = talks.gains.places;
    more = talks.gains.more;
    each = made_told may may' conn now.log talks.gains.places more talks.gains.each;
  };
  told = talks.told;
}
