-- The end of the switch: nobody lives by then, no origination and no job is left behind it, and each connection is what it becomes by it.
use Rattle.std.proofs.Common.{◌≡◌, ℕ, zero, suc, List, [], ◌∷◌, length, map, true, Option, None, Some, option_map, refl, sym, ap, ◌∙◌}
use Rattle.std.proofs.lemmas.Bool.{both_ways}
use Rattle.fs_orig.specs.declared.orig.Orig.{Orig}
use Rattle.fs_text.specs.Texts.{Text}
use Rattle.fs_seats.specs.declared.numbered.Numbered.{Numbered}
use Rattle.fs_seats.specs.Seats.{held_in, no_seats}
use Rattle.fs_seats.specs.Rows.{has_number, seat_of, row_of}
use Rattle.fs_seats.proofs.HeldLemmas.{nothing_held}
use Rattle.fs_seats.proofs.RowLemmas.{SameNumbers, AreDistinct, AreWithin, seats_same, held_of, row_at, row_none}
use Rattle.fs_state.specs.declared.conn.Conn.{Conn}
use Rattle.fs_state.proofs.LegTables.{Berth, berth_at, berth_number}
use Rattle.fs_state.specs.Switch.{Switch, conn_of, job_of, orig_of}
use Rattle.fs_state.specs.Ending.{released, released_in, ended}

abbrev Conns : Type 0
Conns = List (Option (Numbered Conn))

-- ---- connections

-- what a connection becomes
abbrev pub let_off : Conn → Conn
let_off c = released_in c.phase c

-- at each seat stands what stood there, released
pub released_held : (conns : Conns) (seat : ℕ) → held_in (map released conns) seat ≡ released (held_in conns seat)
released_held [] zero = refl
released_held [] (suc seat) = refl
released_held (held ∷ conns) zero = refl
released_held (held ∷ conns) (suc seat) = released_held conns seat

pub released_numbers : (conns : Conns) → SameNumbers conns (map released conns)
released_numbers conns number seat = ap (has_number number) (released_held conns seat) ∙ by (held_in conns seat)
  where
    by : (held : Option (Numbered Conn)) → has_number number (released held) ≡ has_number number held
    by None = refl
    by (Some row) = refl

-- each stands at its seat
pub released_seat : (conns : Conns) (number : ℕ) → seat_of (map released conns) number ≡ seat_of conns number
released_seat conns number = seats_same conns (map released conns) (released_numbers conns) number

-- the connection of a number is what it becomes
pub ended_conn : (reply notice : Text) (s : Switch) (number : ℕ) →
    conn_of (ended reply notice s) number ≡ option_map let_off (conn_of s number)
ended_conn reply notice s number = by (seat_of s.conns number) refl
  where
    held : (there : Option (Numbered Conn)) → held_of (released there) ≡ option_map let_off (held_of there)
    held None = refl
    held (Some row) = refl

    by : (found : Option ℕ) → seat_of s.conns number ≡ found →
        row_of (map released s.conns) number ≡ option_map let_off (row_of s.conns number)
    by None is =
        row_none (map released s.conns) number (released_seat s.conns number ∙ is)
        ∙ sym (ap (option_map let_off) (row_none s.conns number is))
    by (Some seat) is =
        row_at (map released s.conns) number seat (released_seat s.conns number ∙ is)
        ∙ ap held_of (released_held s.conns seat)
        ∙ held (held_in s.conns seat)
        ∙ sym (ap (option_map let_off) (row_at s.conns number seat is))

-- ---- originations and jobs

-- nothing has a number
pub no_rows : {T : Type 0} → (count number : ℕ) → row_of (no_seats {T = Numbered T} count) number ≡ None
no_rows {T} count number = by (seat_of (no_seats {T = Numbered T} count) number) refl
  where
    by : (found : Option ℕ) → seat_of (no_seats {T = Numbered T} count) number ≡ found →
        row_of (no_seats {T = Numbered T} count) number ≡ None
    by None is = row_none (no_seats {T = Numbered T} count) number is
    by (Some seat) is =
        row_at (no_seats {T = Numbered T} count) number seat is ∙ ap held_of (nothing_held (Numbered T) count seat)

-- none stands in an empty table
not_there : (T : Type 0) (count number seat : ℕ) → has_number number (held_in (no_seats {T = Numbered T} count) seat) ≡ true → ⊥
not_there T count number seat stands =
    both_ways (has_number number (held_in (no_seats {T = Numbered T} count) seat))
    (ap (has_number number) (nothing_held (Numbered T) count seat)) stands

pub none_distinct : (T : Type 0) (count : ℕ) → AreDistinct (no_seats {T = Numbered T} count)
none_distinct T count number p q is_p is_q = absurd (not_there T count number p is_p)

pub none_within : (T : Type 0) (count bound : ℕ) → AreWithin bound (no_seats {T = Numbered T} count)
none_within T count bound number p is = absurd (not_there T count number p is)

-- no leg stands where there is no origination
pub none_berthed : (count seat position : ℕ) (berth : Berth) → berth_at (no_seats {T = Numbered Orig} count) seat position ≡ Some berth → ⊥
none_berthed count seat position berth h =
    not_there Orig count berth.number seat (berth_number position (held_in (no_seats {T = Numbered Orig} count) seat) berth h)

-- no job is left
pub no_job_left : (reply notice : Text) (s : Switch) (number : ℕ) → job_of (ended reply notice s) number ≡ None
no_job_left reply notice s number = no_rows (length s.jobs) number

-- no origination is left
pub no_orig_left : (reply notice : Text) (s : Switch) (number : ℕ) → orig_of (ended reply notice s) number ≡ None
no_orig_left reply notice s number = no_rows (length s.origs) number
