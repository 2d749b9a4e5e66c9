-- A connection that is gone lets its channel go, and each whose channel has left it parts.
use Rattle.std.proofs.Common.{◌≡◌, ℕ, zero, suc, Bool, true, false, if◌then◌else◌, List, [], ◌∷◌, map, Option, None, Some, option_map}
use Rattle.std.proofs.Common.{refl, ap, ◌∙◌}
use Rattle.std.specs.Option.{option_and_then}
use Rattle.fs_chan.specs.declared.action.Action.{Action}
use Rattle.fs_chan.specs.declared.chan.Chan.{Chan}
use Rattle.fs_chan.specs.Controlling.{let_go, is_held_by}
use Rattle.fs_seats.specs.declared.numbered.Numbered.{Numbered}
use Rattle.fs_seats.specs.Rows.{has_number, seat_of}
use Rattle.fs_seats.specs.Seats.{held_in}
use Rattle.fs_seats.proofs.RowLemmas.{SameNumbers, seats_same, row_none, row_gone}
use Rattle.fs_seats.proofs.TableLemmas.{row_is, row_found}
use Rattle.fs_state.specs.declared.conn.Conn.{Conn}
use Rattle.fs_state.specs.declared.conn.Parting.TheVariants.{ChannelLeft}
use Rattle.fs_state.specs.Switch.{Switch, chan_at, with_chan, conn_of, without_conn}
use Rattle.fs_machine.specs.Connections.{parted}
use Rattle.fs_machine.specs.Controlling.{completed_by, with_completion_of, let_go_from, let_go_in, slot_controlled_by, after_letting_go}
use Rattle.fs_machine.specs.Controlling.{is_left_in, is_left, row_behind, conn_behind, after_leavings}
use Rattle.fs_machine.specs.Questions.{owed_of, owed_to}

abbrev Conns : Type 0
Conns = List (Option (Numbered Conn))

-- whether its channel goes on before or behind that is the same
pub gone_first : (conn : ℕ) (s : Switch) →
    let_go_in conn (slot_controlled_by conn s) (without_conn conn s) ≡ without_conn conn (after_letting_go conn s)
gone_first conn s = by (slot_controlled_by conn s)
  where
    complete : (running : Option Action) (slot : ℕ) (t : Switch) →
        with_completion_of running slot (without_conn conn t) ≡ without_conn conn (with_completion_of running slot t)
    complete None slot t = refl
    complete (Some action) slot t = refl

    held : (test : Bool) (slot : ℕ) (c : Chan) →
        (if test then with_completion_of (completed_by c.wait c.running) slot (with_chan slot (Some (let_go c)) (without_conn conn s))
        else without_conn conn s)
        ≡ without_conn conn
        (if test then with_completion_of (completed_by c.wait c.running) slot (with_chan slot (Some (let_go c)) s) else s)
    held true slot c = complete (completed_by c.wait c.running) slot (with_chan slot (Some (let_go c)) s)
    held false slot c = refl

    from : (slot : ℕ) (found : Option Chan) → let_go_from conn slot found (without_conn conn s) ≡ without_conn conn (let_go_from conn slot found s)
    from slot None = refl
    from slot (Some c) = held (is_held_by conn c) slot c

    by : (slot : Option ℕ) → let_go_in conn slot (without_conn conn s) ≡ without_conn conn (let_go_in conn slot s)
    by None = refl
    by (Some slot) = from slot (chan_at s slot)

-- ---- those whose channel has left them

-- at each seat stands what stood there, and parts where its channel has left
pub behind_held : (s : Switch) (conns : Conns) (seat : ℕ) → held_in (map (conn_behind s) conns) seat ≡ conn_behind s (held_in conns seat)
behind_held s [] zero = refl
behind_held s [] (suc seat) = refl
behind_held s (held ∷ conns) zero = refl
behind_held s (held ∷ conns) (suc seat) = behind_held s conns seat

numbered_behind : (s : Switch) (row : Numbered Conn) → (row_behind s row).number ≡ row.number
numbered_behind s row = by (is_left s row)
  where
    by : (left : Bool) →
        (if left then record { number = row.number; held = parted ChannelLeft row.held } else row).number ≡ row.number
    by true = refl
    by false = refl

pub behind_numbers : (s : Switch) (conns : Conns) → SameNumbers conns (map (conn_behind s) conns)
behind_numbers s conns number seat = ap (has_number number) (behind_held s conns seat) ∙ by (held_in conns seat)
  where
    by : (held : Option (Numbered Conn)) → has_number number (conn_behind s held) ≡ has_number number held
    by None = refl
    by (Some row) = ap (λ (n : ℕ). has_number number (Some (record { number = n; held = row.held }))) (numbered_behind s row)

-- each stands at its seat
pub behind_seat : (s : Switch) (conns : Conns) (number : ℕ) → seat_of (map (conn_behind s) conns) number ≡ seat_of conns number
behind_seat s conns number = seats_same conns (map (conn_behind s) conns) (behind_numbers s conns) number

-- what a connection becomes
abbrev pub left_off : Switch → ℕ → Conn → Conn
left_off s number c = if is_left_in s number c.phase c.control then parted ChannelLeft c else c

held_behind : (s : Switch) (row : Numbered Conn) → (row_behind s row).held ≡ left_off s row.number row.held
held_behind s row = by (is_left s row)
  where
    by : (left : Bool) →
        (if left then record { number = row.number; held = parted ChannelLeft row.held } else row).held
        ≡ (if left then parted ChannelLeft row.held else row.held)
    by true = refl
    by false = refl

-- the connection of a number is what it becomes
pub behind_conn : (s : Switch) (number : ℕ) → conn_of (after_leavings s) number ≡ option_map (left_off s number) (conn_of s number)
behind_conn s number = by (conn_of s number) refl
  where
    by : (found : Option Conn) → conn_of s number ≡ found → conn_of (after_leavings s) number ≡ option_map (left_off s number) found
    by None is = row_none (map (conn_behind s) s.conns) number (behind_seat s s.conns number ∙ row_gone s.conns number is)
    by (Some c) is =
        let there = row_found s.conns number c is in
        let row : Numbered Conn = there.1 in
        row_is (map (conn_behind s) s.conns) number there.0 (row_behind s row)
        (record {
          at = behind_seat s s.conns number ∙ there.2.at;
          there = behind_held s s.conns there.0 ∙ ap (conn_behind s) there.2.there;
          numbered = numbered_behind s row ∙ there.2.numbered;
        })
        ∙ ap Some (held_behind s row
        ∙ ap (λ (n : ℕ). left_off s n row.held) there.2.numbered
        ∙ ap (left_off s number) there.3)

-- it is owed what it was owed
pub behind_owed : (s : Switch) (number : ℕ) → owed_to (after_leavings s) number ≡ owed_to s number
behind_owed s number = ap (option_and_then owed_of) (behind_conn s number) ∙ by (conn_of s number)
  where
    off : (c : Conn) (left : Bool) → (if left then parted ChannelLeft c else c).owed ≡ c.owed
    off c true = refl
    off c false = refl

    by : (found : Option Conn) →
        option_and_then owed_of (option_map (left_off s number) found) ≡ option_and_then owed_of found
    by None = refl
    by (Some c) = off c (is_left_in s number c.phase c.control)
