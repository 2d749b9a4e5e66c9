-- Connections part whose channels have left them, and are owed what they were.
use Rattle.std.proofs.Common.{◌≡◌, ℕ, ◌≤◌, Bool, true, false, if◌then◌else◌, map, Option, None, Some, refl, sym, ap, subst, ◌∙◌}
use Rattle.std.proofs.lemmas.Option.{none-some, same_Some}
use Rattle.fs_seats.specs.declared.numbered.Numbered.{Numbered}
use Rattle.fs_seats.specs.Seats.{held_in}
use Rattle.fs_seats.proofs.NumberLemmas.{Numbers}
use Rattle.fs_seats.proofs.TableLemmas.{something_there}
use Rattle.fs_state.specs.declared.conn.Conn.{Conn}
use Rattle.fs_state.specs.declared.conn.Parting.TheVariants.{ChannelLeft}
use Rattle.fs_state.specs.declared.job.Asker.TheVariants as asker
use Rattle.fs_state.specs.Switch.{Switch}
use Rattle.fs_machine.specs.Connections.{parted}
use Rattle.fs_machine.specs.Controlling.{is_left, row_behind, conn_behind, after_leavings}
use Rattle.fs_machine.specs.Owed.{Parts}
use Rattle.fs_machine.proofs.ControlLemmas.{behind_held}
use Rattle.fs_machine.proofs.OwedBooks.{Conns, Jobs, Books, books_of, HasJob, Owes, Linked, Goes}

-- this is what stood there, under the same number, was owed the same, and parted as its phase said
record Stood (conns : Conns) (p : ℕ) (a : Numbered Conn) : Type 0 where
  row : Numbered Conn
  there : held_in conns p ≡ Some row
  number : row.number ≡ a.number
  owed : row.held.owed ≡ a.held.owed
  parts : Parts row.held → Parts a.held

became : (conns : Conns) (p : ℕ) (row a : Numbered Conn) (left : Bool) → held_in conns p ≡ Some row →
    (if left then record { number = row.number; held = parted ChannelLeft row.held } else row) ≡ a → Stood conns p a
became conns p row a true there is = record {
  row = row;
  there = there;
  number = ap (λ (x : Numbered Conn). x.number) is;
  owed = ap (λ (x : Numbered Conn). x.held.owed) is;
  parts = λ h. subst (λ (x : Numbered Conn). Parts x.held) is (something_there ChannelLeft);
}
became conns p row a false there is = record {
  row = row;
  there = there;
  number = ap (λ (x : Numbered Conn). x.number) is;
  owed = ap (λ (x : Numbered Conn). x.held.owed) is;
  parts = λ h. subst (λ (x : Numbered Conn). Parts x.held) is h;
}

stood : (s : Switch) (conns : Conns) (p : ℕ) (a : Numbered Conn) → held_in (map (conn_behind s) conns) p ≡ Some a → Stood conns p a
stood s conns p a is = by (held_in conns p) refl
  where
    by : (held : Option (Numbered Conn)) → held_in conns p ≡ held → Stood conns p a
    by None at = absurd (none-some a (sym (behind_held s conns p ∙ ap (conn_behind s) at) ∙ is))
    by (Some row) at =
        became conns p row a (is_left s row) at (same_Some (row_behind s row) a (sym (behind_held s conns p ∙ ap (conn_behind s) at) ∙ is))

left_numbers : (s : Switch) (conns : Conns) (drawn : ℕ) → Numbers conns drawn → Numbers (map (conn_behind s) conns) drawn
left_numbers s conns drawn h = record {
  apart = λ p q a c is_a is_c e.
      let one : Stood conns p a = stood s conns p a is_a in
      let two : Stood conns q c = stood s conns q c is_c in
      h.apart p q one.row two.row one.there two.there (one.number ∙ (e ∙ sym two.number));
  within = λ p a is.
      let one : Stood conns p a = stood s conns p a is in
      subst (λ (n : ℕ). n ≤ drawn) one.number (h.within p one.row one.there);
}

left_owes : (s : Switch) (conns : Conns) (jobs : Jobs) (drawn : ℕ) → Owes conns jobs drawn → Owes (map (conn_behind s) conns) jobs drawn
left_owes s conns jobs drawn h = record {
  owed = λ p a since is o.
      let one : Stood conns p a = stood s conns p a is in
      subst (λ (n : ℕ). HasJob jobs n) one.number (h.owed p one.row since one.there (one.owed ∙ o));
  owes = λ q job p a is_job is e none.
      let one : Stood conns p a = stood s conns p a is in
      h.owes q job p one.row is_job one.there (e ∙ ap asker.Conn (sym one.number)) (one.owed ∙ none);
  alone = h.alone;
  within = h.within;
}

linked_left : (s : Switch) (conns : Conns) (jobs : Jobs) (drawn jobs_drawn : ℕ) → Linked conns jobs drawn jobs_drawn →
    Linked (map (conn_behind s) conns) jobs drawn jobs_drawn
linked_left s conns jobs drawn jobs_drawn h = record {
  numbers = left_numbers s conns drawn h.numbers;
  parts = λ p a is. let one : Stood conns p a = stood s conns p a is in one.parts (h.parts p one.row one.there);
  job_numbers = h.job_numbers;
  owes = left_owes s conns jobs drawn h.owes;
}

pub goes_left : (b : Books) (s : Switch) → Goes b (books_of s) → Goes b (books_of (after_leavings s))
goes_left b s h = record {
  sound = record { linked = linked_left s s.conns s.jobs s.drawn.conns s.drawn.jobs h.sound.linked; tries = h.sound.tries };
  near = record {
    conns = h.near.conns;
    jobs = h.near.jobs;
    origs = h.near.origs;
    cost = h.near.cost;
    limit = h.near.limit;
  };
}
