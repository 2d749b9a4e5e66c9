-- What a dial comes to: a connection takes hold of the channel, where it stands as one that arrives would, or all connections stay.
use Rattle.std.proofs.Common.{◌≡◌, ℕ, zero, suc, ◌-◌, ◌^◌, ◌<◌, ◌≤◌, Bool, true, false, not, if◌then◌else◌, List, [], ◌∷◌, Option}
use Rattle.std.proofs.Common.{None, Some, option_and_then, ◌⊎◌, inl, inr, refl, sym, ap, subst, ◌∙◌}
use Rattle.std.proofs.lemmas.Option.{none-some}
use Rattle.std.proofs.lemmas.Bool.{false≢true}
use Rattle.fs_text.specs.Texts.{Text}
use Rattle.fs_chan.specs.declared.chan.Chan.{Chan}
use Rattle.fs_chan.specs.Changes.{at_rest}
use Rattle.fs_chan.specs.Controlling.{dial_of}
use Rattle.fs_seats.specs.declared.numbered.Numbered.{Numbered}
use Rattle.fs_seats.specs.Seats.{held_in, with_held, least_free}
use Rattle.fs_seats.specs.Rows.{has_number, seat_of, row_of, with_held_at, with_new_row}
use Rattle.fs_seats.proofs.RowLemmas.{SameNumbers, seats_same, row_at, row_none, held_of, length_put_at, row_of-with_new_row_other}
use Rattle.fs_state.specs.declared.conn.Conn.{Conn}
use Rattle.fs_state.specs.Moves.{after_completion}
use Rattle.fs_state.specs.Switch.{Switch, chan_at, waiting_for, is_full_of_conns, at_moment}
use Rattle.fs_machine.specs.Controlling.{dial_at, controller, coming_number, taken_hold_of, taken_hold, has_hold, after_dial_of, after_dial}
use Rattle.fs_machine.specs.Controlling.{number_of_hold, held_through}
use Rattle.fs_machine.specs.Questions.{parting_of}
use Rattle.fs_machine.specs.Step.{new_conn, arrived}
use Rattle.fs_machine.proofs.ShortLemmas.{right_holds}
use Rattle.fs_machine.proofs.RestLemmas.{rest_of, moved_rest}
use Rattle.fs_machine.proofs.KeepLemmas.{is_shut, settles_same, Keeps, keeps_same, sockets_same}
use Rattle.fs_machine.proofs.WaitingLemmas.{Ordered, keeps_ordered, keeps_waiting, keeps_seat, arrived_ordered, arrived_waits, arrived_gone}

-- a controller takes hold of the channel in a slot, which waited for that
pub record TakesHold (linked : Bool) (slot : ℕ) (s : Switch) : Type 0 where
  pub chan : Chan
  pub text : Text
  pub there : chan_at s slot ≡ Some chan
  pub room : is_full_of_conns s ≡ false
  pub number : held_through linked slot s ≡ Some (coming_number s)
  pub after : after_dial linked slot s ≡ taken_hold_of slot chan text s

-- or none does
pub record TakesNone (linked : Bool) (slot : ℕ) (s : Switch) : Type 0 where
  pub none : held_through linked slot s ≡ None
  pub rest : rest_of (after_dial linked slot s) ≡ rest_of s

pub dial_takes : (linked : Bool) (slot : ℕ) (s : Switch) → TakesHold linked slot s ⊎ TakesNone linked slot s
dial_takes linked slot s = by (chan_at s slot) refl (option_and_then dial_of (chan_at s slot)) refl
  where
    free : (full : Bool) → not full ≡ true → full ≡ false
    free true is = absurd (false≢true is)
    free false is = refl

    there_by : (c : Chan) (text : Text) → chan_at s slot ≡ Some c → dial_at s slot ≡ Some text → (test : Bool) → has_hold linked s ≡ test →
        TakesHold linked slot s ⊎ TakesNone linked slot s
    there_by c text there waits true is = inl (record {
      chan = c;
      text = text;
      there = there;
      room = free (is_full_of_conns s) (right_holds linked (not (is_full_of_conns s)) is);
      number = ap (λ (found : Option Text). number_of_hold found linked s) waits
          ∙ ap (λ (b : Bool). if b then Some (coming_number s) else None) is;
      after = ap (λ (found : Option Text). after_dial_of found linked slot s) waits
          ∙ ap (λ (b : Bool). if b then taken_hold (chan_at s slot) text slot s else after_completion slot s) is
          ∙ ap (λ (found : Option Chan). taken_hold found text slot s) there;
    })
    there_by c text there waits false is = inr (record {
      none = ap (λ (found : Option Text). number_of_hold found linked s) waits
          ∙ ap (λ (b : Bool). if b then Some (coming_number s) else None) is;
      rest = ap (λ (found : Option Text). rest_of (after_dial_of found linked slot s)) waits
          ∙ ap (λ (b : Bool). rest_of (if b then taken_hold (chan_at s slot) text slot s else after_completion slot s)) is
          ∙ moved_rest at_rest slot s;
    })

    by : (found : Option Chan) → chan_at s slot ≡ found → (waits : Option Text) → dial_at s slot ≡ waits →
        TakesHold linked slot s ⊎ TakesNone linked slot s
    by found there None is = inr (record {
      none = ap (λ (found : Option Text). number_of_hold found linked s) is;
      rest = ap (λ (found : Option Text). rest_of (after_dial_of found linked slot s)) is;
    })
    by None there (Some text) is = absurd (none-some text (sym (ap (option_and_then dial_of) there) ∙ is))
    by (Some c) there (Some text) is = there_by c text there is (has_hold linked s) refl

-- whether one does is no matter of the clock
pub held_advanced : (linked : Bool) (slot now : ℕ) (s : Switch) → held_through linked slot (at_moment now s) ≡ held_through linked slot s
held_advanced linked slot now s = by (dial_at s slot)
  where
    by : (waits : Option Text) → number_of_hold waits linked (at_moment now s) ≡ number_of_hold waits linked s
    by None = refl
    by (Some text) = refl

-- without a link none does
pub unlinked : (slot : ℕ) (s : Switch) → held_through false slot s ≡ None
unlinked slot s = by (dial_at s slot)
  where
    by : (waits : Option Text) → number_of_hold waits false s ≡ None
    by None = refl
    by (Some text) = refl

-- then all connections stay
pub none_keeps : {who : Option ℕ} {may_end : Bool} → (linked : Bool) (slot : ℕ) (s : Switch) → TakesNone linked slot s →
    Keeps who may_end s (after_dial linked slot s)
none_keeps linked slot s takes = keeps_same s (after_dial linked slot s) (sockets_same s (after_dial linked slot s) takes.rest)

-- ---- it stands as one that arrives would

-- what a function tells of the seats is the same where it tells the same of two things
same_put : {T A : Type 0} → (f : Option T → A) (rows : List (Option T)) (put : ℕ) (a b : Option T) → f b ≡ f a → (seat : ℕ) →
    f (held_in (with_held rows put b) seat) ≡ f (held_in (with_held rows put a) seat)
same_put f [] put a b same seat = refl
same_put f (row ∷ rows) zero a b same zero = same
same_put f (row ∷ rows) zero a b same (suc seat) = refl
same_put f (row ∷ rows) (suc put) a b same zero = refl
same_put f (row ∷ rows) (suc put) a b same (suc seat) = same_put f rows put a b same seat

same_put_at : {T A : Type 0} → (f : Option T → A) (rows : List (Option T)) (found : Option ℕ) (a b : Option T) → f b ≡ f a → (seat : ℕ) →
    f (held_in (with_held_at rows b found) seat) ≡ f (held_in (with_held_at rows a found) seat)
same_put_at f rows None a b same seat = refl
same_put_at f rows (Some put) a b same seat = same_put f rows put a b same seat

module _ (slot : ℕ) (c : Chan) (text : Text) (s : Switch) where
  abbrev old : List (Option (Numbered Conn))
  old = with_new_row s.conns (coming_number s) new_conn

  abbrev new : List (Option (Numbered Conn))
  new = with_new_row s.conns (coming_number s) (controller slot c text)

  same_told : {A : Type 0} → (f : Option (Numbered Conn) → A) →
      f (Some (record { number = coming_number s; held = controller slot c text }))
      ≡ f (Some (record { number = coming_number s; held = new_conn })) →
      (seat : ℕ) → f (held_in new seat) ≡ f (held_in old seat)
  same_told f same seat =
      same_put_at f s.conns (least_free s.conns 0) (Some (record { number = coming_number s; held = new_conn }))
      (Some (record { number = coming_number s; held = controller slot c text })) same seat

  same_numbers : SameNumbers old new
  same_numbers number seat = same_told (has_number number) refl seat

  -- neither has parted
  same_parting : (number : ℕ) → option_and_then parting_of (row_of new number) ≡ option_and_then parting_of (row_of old number)
  same_parting number = by (seat_of old number) refl
    where
      by : (found : Option ℕ) → seat_of old number ≡ found →
          option_and_then parting_of (row_of new number) ≡ option_and_then parting_of (row_of old number)
      by None is =
          ap (option_and_then parting_of)
          (row_none new number (seats_same old new same_numbers number ∙ is) ∙ sym (row_none old number is))
      by (Some seat) is =
          ap (option_and_then parting_of) (row_at new number seat (seats_same old new same_numbers number ∙ is))
          ∙ same_told (λ held. option_and_then parting_of (held_of held)) refl seat
          ∙ sym (ap (option_and_then parting_of) (row_at old number seat is))

  pub hold_keeps : Keeps (Some (coming_number s)) false (arrived s).state (taken_hold_of slot c text s)
  hold_keeps = record {
    numbers = same_numbers;
    seats =
        length_put_at s.conns (Some (record { number = coming_number s; held = controller slot c text })) (least_free s.conns 0)
        ∙ sym (length_put_at s.conns (Some (record { number = coming_number s; held = new_conn })) (least_free s.conns 0));
    outboxes = refl;
    drawn = refl;
    opened = λ each seat. same_told is_shut refl seat ∙ each seat;
    others = λ number apart.
        settles_same (row_of old number) (row_of new number)
        (row_of-with_new_row_other s.conns (coming_number s) (controller slot c text) number (λ same. apart (ap Some same))
        ∙ sym (row_of-with_new_row_other s.conns (coming_number s) new_conn number (λ same. apart (ap Some same))));
    hears = λ none number heard is. heard (sym (same_parting number) ∙ is);
  }

-- ---- what a dial leaves

-- connections and outboxes fit together
pub dial_ordered : (linked : Bool) (slot : ℕ) (s : Switch) → Ordered s → s.drawn.conns < 2 ^ 32 - 1 → Ordered (after_dial linked slot s)
dial_ordered linked slot s ordered room = by (dial_takes linked slot s)
  where
    by : TakesHold linked slot s ⊎ TakesNone linked slot s → Ordered (after_dial linked slot s)
    by (inl takes) =
        subst Ordered (sym takes.after)
        (keeps_ordered (arrived s).state (taken_hold_of slot takes.chan takes.text s) (hold_keeps slot takes.chan takes.text s)
        (arrived_ordered s ordered room))
    by (inr none) =
        keeps_ordered s (after_dial linked slot s) (none_keeps {who = None} {may_end = false} linked slot s none) ordered

-- the same waits for each
pub dial_waits : (linked : Bool) (slot : ℕ) (s : Switch) (conn : ℕ) → Ordered s → s.drawn.conns < 2 ^ 32 - 1 →
    waiting_for (after_dial linked slot s) conn ≡ waiting_for s conn
dial_waits linked slot s conn ordered room = by (dial_takes linked slot s)
  where
    by : TakesHold linked slot s ⊎ TakesNone linked slot s → waiting_for (after_dial linked slot s) conn ≡ waiting_for s conn
    by (inl takes) =
        ap (λ (t : Switch). waiting_for t conn) takes.after
        ∙ keeps_waiting (arrived s).state (taken_hold_of slot takes.chan takes.text s) (hold_keeps slot takes.chan takes.text s) conn
        ∙ arrived_waits s conn ordered room
    by (inr none) =
        keeps_waiting s (after_dial linked slot s) (none_keeps {who = None} {may_end = false} linked slot s none) conn

-- one that had its number and is gone stays so
pub dial_gone : (linked : Bool) (slot : ℕ) (s : Switch) (conn : ℕ) → s.drawn.conns < 2 ^ 32 - 1 → seat_of s.conns conn ≡ None →
    conn ≤ s.drawn.conns → seat_of (after_dial linked slot s).conns conn ≡ None
dial_gone linked slot s conn room none below = by (dial_takes linked slot s)
  where
    by : TakesHold linked slot s ⊎ TakesNone linked slot s → seat_of (after_dial linked slot s).conns conn ≡ None
    by (inl takes) =
        ap (λ (t : Switch). seat_of t.conns conn) takes.after
        ∙ keeps_seat (arrived s).state (taken_hold_of slot takes.chan takes.text s) (hold_keeps slot takes.chan takes.text s) conn
        ∙ arrived_gone s conn room none below
    by (inr takes) =
        keeps_seat s (after_dial linked slot s) (none_keeps {who = None} {may_end = false} linked slot s takes) conn ∙ none
