-- Where no job is left, and no origination that one owns, nobody has to be owed a reply, and nothing is tried; so it is behind the end of
-- the switch.
use Rattle.std.proofs.Common.{◌≡◌, ℕ, ◌+◌, ◌≤◌, length, map, Option, None, Some, refl, sym, ap, subst, ◌∙◌, arith}
use Rattle.std.proofs.lemmas.List.{length-map}
use Rattle.std.proofs.lemmas.Option.{none-some, same_Some}
use Rattle.fs_text.specs.Texts.{Text}
use Rattle.fs_orig.specs.declared.orig.Orig.{Orig}
use Rattle.fs_seats.specs.declared.numbered.Numbered.{Numbered}
use Rattle.fs_seats.specs.Seats.{no_seats, held_in}
use Rattle.fs_seats.proofs.NumberLemmas.{Numbers}
use Rattle.fs_seats.proofs.TableLemmas.{something_there, none_held, none_taken, one_if, taken_in}
use Rattle.fs_state.specs.declared.conn.Conn.{Conn}
use Rattle.fs_state.specs.declared.conn.Phase.{Phase}
use Rattle.fs_state.specs.declared.conn.Phase.TheVariants.{Fresh, Ready, Ending, Closed}
use Rattle.fs_state.specs.declared.conn.Parting.TheVariants.{Stopped}
use Rattle.fs_state.specs.declared.job.Job.{Job}
use Rattle.fs_state.specs.Switch.{Switch}
use Rattle.fs_state.specs.Ending.{released, released_in, released_row, ended}
use Rattle.fs_state.proofs.SlotLemmas.{no_seats_length}
use Rattle.fs_machine.specs.Owed.{Parts}
use Rattle.fs_machine.proofs.StopLemmas.{released_held}
use Rattle.fs_machine.proofs.OwedTables.{by_job, by_slot, owned_at, owned_in, taken_apart, none_owned}
use Rattle.fs_machine.proofs.OwedBooks.{Conns, Jobs, Books, books_of, Linked, Owes, trying_in, Tries, Goes}

-- ---- without jobs

-- nobody is owed a reply
pub owes_nobody : (conns : Conns) (jobs drawn : ℕ) →
    ((p : ℕ) (a : Numbered Conn) → held_in conns p ≡ Some a → a.held.owed ≡ None) → Owes conns (no_seats jobs) drawn
owes_nobody conns jobs drawn none = record {
  owed = λ p a since is o. absurd (none-some since (sym (none p a is) ∙ o));
  owes = λ q job p a is_job is e. absurd (none_held jobs q job is_job);
  alone = λ q r a c conn is_a is_c one two. absurd (none_held jobs q a is_a);
  within = λ q job conn is for. absurd (none_held jobs q job is);
}

-- nothing is tried
pub tries_nothing : (jobs origs drawn : ℕ) → jobs ≡ 1024 → origs ≡ 1280 → Tries (no_seats jobs) (owned_in by_job (no_seats origs)) drawn
tries_nothing jobs origs drawn job_seats orig_seats = record {
  there = λ q job number is t. absurd (none_held jobs q job is);
  alone = λ q r a c number is_a is_c ta tc. absurd (none_held jobs q a is_a);
  within = λ p number is. absurd (none_owned by_job origs p number is);
  fewer = fewer;
  job_seats = no_seats_length (Numbered Job) jobs ∙ job_seats;
  orig_seats = length-map (no_seats {T = Numbered Orig} origs) (owned_at by_job) ∙ (no_seats_length (Numbered Orig) origs ∙ orig_seats);
}
  where
    fewer : taken_in (owned_in by_job (no_seats {T = Numbered Orig} origs)) ≤ trying_in (no_seats {T = Numbered Job} jobs)
    fewer =
        let apart : taken_in (no_seats {T = Numbered Orig} origs) ≡ taken_in (owned_in by_job (no_seats {T = Numbered Orig} origs))
        + taken_in (owned_in by_slot (no_seats {T = Numbered Orig} origs)) = taken_apart (no_seats {T = Numbered Orig} origs) in
        let none : taken_in (no_seats {T = Numbered Orig} origs) ≡ 0 = none_taken {T = Numbered Orig} one_if origs refl in
        omega (arith, apart, none)

-- ---- connections are released

-- each parts as its phase says
released_parts : (at : Phase) (c : Conn) → Parts c → Parts (released_in at c)
released_parts Fresh c h = something_there Stopped
released_parts Ready c h = something_there Stopped
released_parts Ending c h = h
released_parts Closed c h = h

-- and is owed nothing
released_unowed : (at : Phase) (c : Conn) → (released_in at c).owed ≡ None
released_unowed Fresh c = refl
released_unowed Ready c = refl
released_unowed Ending c = refl
released_unowed Closed c = refl

-- this is what became of what stood there
record IsReleased (conns : Conns) (p : ℕ) (a : Numbered Conn) : Type 0 where
  row : Numbered Conn
  there : held_in conns p ≡ Some row
  is : released_row row ≡ a

was : (conns : Conns) (p : ℕ) (a : Numbered Conn) → held_in (map released conns) p ≡ Some a → IsReleased conns p a
was conns p a is = by (held_in conns p) refl
  where
    by : (held : Option (Numbered Conn)) → held_in conns p ≡ held → IsReleased conns p a
    by None at = absurd (none-some a (sym (released_held conns p ∙ ap released at) ∙ is))
    by (Some row) at =
        record { row = row; there = at; is = same_Some (released_row row) a (sym (released_held conns p ∙ ap released at) ∙ is) }

released_numbers : (conns : Conns) (drawn : ℕ) → Numbers conns drawn → Numbers (map released conns) drawn
released_numbers conns drawn h = record {
  apart = λ p q a c is_a is_c e.
      let one : IsReleased conns p a = was conns p a is_a in
      let two : IsReleased conns q c = was conns q c is_c in
      h.apart p q one.row two.row one.there two.there (number p a one ∙ (e ∙ sym (number q c two)));
  within = λ p a is.
      let one : IsReleased conns p a = was conns p a is in
      subst (λ (n : ℕ). n ≤ drawn) (number p a one) (h.within p one.row one.there);
}
  where
    number : (p : ℕ) (a : Numbered Conn) (h : IsReleased conns p a) → h.row.number ≡ a.number
    number p a h = ap (λ (x : Numbered Conn). x.number) h.is

-- no job is left, and nobody is owed anything
linked_released : (conns : Conns) (jobs : Jobs) (left drawn jobs_drawn : ℕ) → Linked conns jobs drawn jobs_drawn →
    Linked (map released conns) (no_seats left) drawn jobs_drawn
linked_released conns jobs left drawn jobs_drawn h = record {
  numbers = released_numbers conns drawn h.numbers;
  parts = λ p a is.
      let one : IsReleased conns p a = was conns p a is in
      subst (λ (x : Numbered Conn). Parts x.held) one.is
      (released_parts one.row.held.phase one.row.held (h.parts p one.row one.there));
  job_numbers = record {
    apart = λ p q a c is_a is_c e. absurd (none_held left p a is_a);
    within = λ p a is. absurd (none_held left p a is);
  };
  owes = owes_nobody (map released conns) left drawn (λ p a is.
      let one : IsReleased conns p a = was conns p a is in
      ap (λ (x : Numbered Conn). x.held.owed) (sym one.is) ∙ released_unowed one.row.held.phase one.row.held);
}

-- ---- the end

pub goes_ended : (b : Books) (reply notice : Text) (s : Switch) → Goes b (books_of s) → Goes b (books_of (ended reply notice s))
goes_ended b reply notice s h = record {
  sound = record {
    linked = linked_released s.conns s.jobs (length s.jobs) s.drawn.conns s.drawn.jobs h.sound.linked;
    tries = tries_nothing (length s.jobs) (length s.origs) s.drawn.origs h.sound.tries.job_seats
        (sym (length-map s.origs (owned_at by_job)) ∙ h.sound.tries.orig_seats);
  };
  near = record {
    conns = h.near.conns;
    jobs = h.near.jobs;
    origs = h.near.origs;
    cost = h.near.cost;
    limit = h.near.limit;
  };
}
