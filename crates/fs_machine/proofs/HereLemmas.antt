-- A connection that has come is there, and its input has not ended, until it is closed.
use Rattle.std.proofs.Common.{◌≡◌, ℕ, zero, suc, ◌+◌, ◌-◌, ◌^◌, min, ◌≤◌, Bool, false, Option, None, Some, is_none, length, ◌⊎◌, inl, inr}
use Rattle.std.proofs.Common.{refl, sym, ap, subst, ◌∙◌, arith}
use Rattle.std.proofs.lemmas.Bool.{cases_eq, le-ltb}
use Rattle.std.proofs.lemmas.Option.{none-some}
use Rattle.fs_doc.specs.Reading.{Configuration}
use Rattle.fs_doc.specs.Limits.{IsWithin}
use Rattle.fs_seats.specs.declared.numbered.Numbered.{Numbered}
use Rattle.fs_seats.specs.Seats.{no_seats, least_free}
use Rattle.fs_seats.specs.Rows.{row_of, with_new_row}
use Rattle.fs_seats.proofs.RowLemmas.{row_none, row_gone, seats_same, row_of-with_new_row, row_of-with_new_row_other}
use Rattle.fs_state.specs.declared.conn.Conn.{Conn}
use Rattle.fs_state.specs.Drawn as numbers
use Rattle.fs_state.specs.Switch.{Switch, empty, conn_of, with_frame_taken, at_moment}
use Rattle.fs_machine.specs.declared.entry.Entry.{Entry}
use Rattle.fs_machine.specs.declared.entry.Act.{Act}
use Rattle.fs_machine.specs.declared.entry.Act.TheVariants.{Arrive, Take, Close, Dialed}
use Rattle.fs_machine.specs.declared.refusal.Refusal.TheVariants as refusal
use Rattle.fs_machine.specs.Here.{IsHere}
use Rattle.fs_machine.specs.Controlling.{taken_hold_of, after_dial, after_leavings}
use Rattle.fs_machine.specs.Step.{Acted, refused_where, refusal_of, new_conn, arrived, act_done, step}
use Rattle.fs_machine.proofs.KeepLemmas.{Hears, Keeps, leavings_keep, act_keeps}
use Rattle.fs_machine.proofs.LeftLemmas.{empty_none_left, arrive_done}
use Rattle.fs_machine.proofs.ComingLemmas.{TakesHold, TakesNone, dial_takes, none_keeps, hold_keeps}

-- ---- each act

-- an act that closes no connection, nor ends its input
abbrev pub ClosesNone : Act → Type 0
ClosesNone (Close conn how) = ⊥
ClosesNone _ = Unit {0}

-- connections that are kept in their seats, and whose input does not end
keeps_here : {who : Option ℕ} → (conn : ℕ) (s t : Switch) → Keeps who false s t → IsHere conn s → IsHere conn t
keeps_here conn s t keeps here = record {
  there = λ none. here.there (row_none s.conns conn (sym (seats_same s.conns t.conns keeps.numbers conn) ∙ row_gone t.conns conn none));
  hears = keeps.hears refl conn here.hears;
}

-- one that has just come
fresh_here : (conn : ℕ) (t : Switch) → conn_of t conn ≡ Some new_conn → IsHere conn t
fresh_here conn t is = record {
  there = λ none. none-some new_conn (sym none ∙ is);
  hears = subst Hears (sym is) (λ same. cc);
}

-- one that stays as it is
same_here : (conn : ℕ) (s t : Switch) → conn_of t conn ≡ conn_of s conn → IsHere conn s → IsHere conn t
same_here conn s t same here = record {
  there = λ none. here.there (sym same ∙ none);
  hears = subst Hears (sym same) here.hears;
}

-- whoever comes, the others stay
arrived_here : (conn : ℕ) (s : Switch) → IsHere conn s → IsHere conn (arrived s).state
arrived_here conn s here = by (cases_eq (numbers.with_conn s.drawn).conns conn)
  where
    same_number : (number : ℕ) → number ≡ conn →
        (row_of (with_new_row s.conns number new_conn) number ≡ Some new_conn) ⊎ (row_of
        (with_new_row s.conns number new_conn) number ≡ row_of s.conns number) →
        (row_of (with_new_row s.conns number new_conn) conn ≡ Some new_conn) ⊎ (row_of
        (with_new_row s.conns number new_conn) conn ≡ row_of s.conns conn)
    same_number number same found =
        subst (λ n.
        (row_of (with_new_row s.conns number new_conn) n ≡ Some new_conn) ⊎
        (row_of (with_new_row s.conns number new_conn) n ≡ row_of s.conns n))
        same found

    by : ((numbers.with_conn s.drawn).conns ≡ conn) ⊎ ((numbers.with_conn s.drawn).conns ≡ conn → ⊥) → IsHere conn (arrived s).state
    by (inl same) =
        elim (same_number (numbers.with_conn s.drawn).conns same (row_of-with_new_row s.conns (numbers.with_conn s.drawn).conns new_conn)) [
          | inl new ↦ fresh_here conn (arrived s).state new
          | inr old ↦ same_here conn s (arrived s).state old here
        ]
    by (inr differ) =
        same_here conn s (arrived s).state (row_of-with_new_row_other s.conns (numbers.with_conn s.drawn).conns new_conn conn differ) here

-- whoever parts as its channel left is there still
left_here : (conn : ℕ) (s : Switch) → IsHere conn s → IsHere conn (after_leavings s)
left_here conn s here = keeps_here conn s (after_leavings s) (leavings_keep {who = None} s) here

-- whoever takes hold of a channel, the others stay
dial_here : (conn : ℕ) (linked : Bool) (slot : ℕ) (s : Switch) → IsHere conn s → IsHere conn (after_dial linked slot s)
dial_here conn linked slot s here = by (dial_takes linked slot s)
  where
    by : TakesHold linked slot s ⊎ TakesNone linked slot s → IsHere conn (after_dial linked slot s)
    by (inl takes) =
        subst (IsHere conn) (sym takes.after)
        (keeps_here conn (arrived s).state (taken_hold_of slot takes.chan takes.text s) (hold_keeps slot takes.chan takes.text s)
        (arrived_here conn s here))
    by (inr none) = keeps_here conn s (after_dial linked slot s) (none_keeps {who = None} linked slot s none) here

acted_here : (conn : ℕ) (act : Act) (s : Switch) → ClosesNone act → IsHere conn s → IsHere conn (act_done act s).state
acted_here conn Arrive s such here = left_here conn (arrived s).state (arrived_here conn s here)
acted_here conn (Take taker) s such here =
    left_here conn (with_frame_taken taker s) (record { there = here.there; hears = here.hears })
acted_here conn (Close gone how) s such here = absurd such
acted_here conn (Dialed slot linked) s such here = left_here conn (after_dial linked slot s) (dial_here conn linked slot s here)
acted_here conn act s such here = keeps_here conn s (act_done act s).state (act_keeps act s) here

-- a connection that is here is so behind each entry that closes none
pub here_step : (conn : ℕ) (s : Switch) (entry : Entry) → ClosesNone entry.act → IsHere conn s → IsHere conn (step s entry).state
unfolding step
here_step conn s entry such here =
    let behind = acted_here conn entry.act (at_moment entry.moment s) such (record { there = here.there; hears = here.hears }) in
    record { there = behind.there; hears = behind.hears }

-- ---- the first connection

-- there is a seat for it
has_seat : (count : ℕ) → 1 ≤ count → is_none (least_free (no_seats {T = Numbered Conn} count) 0) ≡ false
unfolding no_seats
has_seat zero some = absurd (omega (arith, some))
has_seat (suc count) some = refl

-- it takes that
first_row : (count : ℕ) → 1 ≤ count → row_of (with_new_row (no_seats {T = Numbered Conn} count) 1 new_conn) 1 ≡ Some new_conn
unfolding no_seats
first_row zero some = absurd (omega (arith, some))
first_row (suc count) some = refl

-- it may come
pub arrival_accepted : (config : Configuration) (moment : ℕ) → IsWithin config →
    refusal_of (empty config) (record { moment = moment; act = Arrive }) ≡ None
unfolding refusal_of
arrival_accepted config moment within =
    let seats = config.settings.max_connections in
    ap (λ full. refused_where full (refusal.JournalFull 0 config.settings.journal_limit)
    (refused_where (is_none (least_free (no_seats {T = Numbered Conn} seats) 0))
    (refusal.TooMany (min (length (no_seats {T = Numbered Conn} seats)) (2 ^ 16 - 1))) None))
    (le-ltb config.settings.journal_limit (0 + 65600) (omega (arith, within.settings.journal.0)))
    ∙ ap (λ full. refused_where full (refusal.TooMany (min (length (no_seats {T = Numbered Conn} seats)) (2 ^ 16 - 1))) None)
    (has_seat seats within.settings.connections.0)

-- and then it is here
pub arrival_here : (config : Configuration) (moment : ℕ) → IsWithin config →
    IsHere 1 (step (empty config) (record { moment = moment; act = Arrive })).state
unfolding step
arrival_here config moment within =
    fresh_here 1 (step (empty config) (record { moment = moment; act = Arrive })).state
    (ap (λ (done : Acted). conn_of done.state 1) (arrive_done (at_moment moment (empty config)) (empty_none_left config))
    ∙ first_row config.settings.max_connections within.settings.connections.0)
