-- Connections part whose channels have left them, as a draft makes it: one seat after another.
use Rattle.std.proofs.Common.{◌≡◌, ℕ, zero, suc, ◌+◌, ◌<◌, ◌≤◌, Bool, true, false, if◌then◌else◌, List, [], ◌∷◌, ◌++◌, length, map, take}
use Rattle.std.proofs.Common.{drop, Option, None, Some, refl, sym, ap, ◌∙◌, append_assoc, append-nil, arith}
use Rattle.std.specs.Prelude.{flat_map}
use Rattle.std.proofs.lemmas.List.{set-get_or}
use Rattle.fs_seats.specs.declared.numbered.Numbered.{Numbered}
use Rattle.fs_seats.specs.Seats.{held_in, with_held, IsEmptyFrom}
use Rattle.fs_state.specs.declared.conn.Conn.{Conn}
use Rattle.fs_state.specs.declared.conn.Parting.TheVariants.{ChannelLeft}
use Rattle.fs_state.specs.Frames.{Gift}
use Rattle.fs_state.specs.Switch.{Switch, with_conn_at, gift_of}
use Rattle.fs_machine.specs.Connections.{parted}
use Rattle.fs_machine.specs.Controlling.{is_left, conn_behind, farewell, farewell_behind, left_at, after_leavings}

abbrev Seats : Type 0
Seats = List (Option (Numbered Conn))

-- those at the seats before one have parted where their channels have left them, the others are as they were
pub left_to : ℕ → Switch → Switch
left_to seat s = record s {
  conns = map (conn_behind s) (take seat s.conns) ++ drop seat s.conns;
  notices = s.notices ++ flat_map (farewell_behind s) (take seat s.conns);
}

-- ---- seat by seat

-- at first none has
pub left_first : (s : Switch) → left_to 0 s ≡ s
unfolding left_to
left_first s = ap (λ (gifts : List Gift). record s { notices = gifts }) (append-nil s.notices)

-- at the next seat stands what stood there
still_held : (s : Switch) (conns : Seats) (seat : ℕ) →
    held_in (map (conn_behind s) (take seat conns) ++ drop seat conns) seat ≡ held_in conns seat
still_held s [] zero = refl
still_held s [] (suc seat) = refl
still_held s (held ∷ conns) zero = refl
still_held s (held ∷ conns) (suc seat) = still_held s conns seat

-- it becomes what it becomes, too
conns_next : (s : Switch) (conns : Seats) (seat : ℕ) → seat < length conns →
    with_held (map (conn_behind s) (take seat conns) ++ drop seat conns) seat (conn_behind s (held_in conns seat))
    ≡ map (conn_behind s) (take (suc seat) conns) ++ drop (suc seat) conns
conns_next s [] seat within = absurd (omega (arith, within))
conns_next s (held ∷ conns) zero within = refl
conns_next s (held ∷ conns) (suc seat) within =
    ap (λ left. conn_behind s held ∷ left) (conns_next s conns seat (omega (arith, within)))

-- what is given there stands behind what was given before
gifts_next : (gives : Option (Numbered Conn) → List Gift) (conns : Seats) (seat : ℕ) → seat < length conns →
    flat_map gives (take seat conns) ++ gives (held_in conns seat) ≡ flat_map gives (take (suc seat) conns)
gifts_next gives [] seat within = absurd (omega (arith, within))
gifts_next gives (held ∷ conns) zero within = sym (append-nil (gives held))
gifts_next gives (held ∷ conns) (suc seat) within =
    append_assoc (gives held) (flat_map gives (take seat conns)) (gives (held_in conns seat))
    ∙ ap (λ gifts. gives held ++ gifts) (gifts_next gives conns seat (omega (arith, within)))

gifts_more : (gives : Option (Numbered Conn) → List Gift) (gifts : List Gift) (conns : Seats) (seat : ℕ) → seat < length conns →
    (gifts ++ flat_map gives (take seat conns)) ++ gives (held_in conns seat) ≡ gifts ++ flat_map gives (take (suc seat) conns)
gifts_more gives gifts conns seat within =
    append_assoc gifts (flat_map gives (take seat conns)) (gives (held_in conns seat))
    ∙ ap (λ more. gifts ++ more) (gifts_next gives conns seat within)

-- what stands there stays, and nothing is given
unchanged : (seat : ℕ) (held : Option (Numbered Conn)) (s : Switch) → held_in s.conns seat ≡ held →
    s ≡ record s { conns = with_held s.conns seat held; notices = s.notices ++ [] }
unchanged seat held s is =
    let same : with_held s.conns seat held ≡ s.conns =
    sym (ap (with_held s.conns seat) is) ∙ set-get_or s.conns seat None in
    sym (ap (λ (conns : Seats). record s { conns = conns; notices = s.notices ++ [] }) same
    ∙ ap (λ (gifts : List Gift). record s { notices = gifts }) (append-nil s.notices))

-- what becomes of a seat, whether or not its connection parts, or something stands there
seat_left : (seat : ℕ) (held : Option (Numbered Conn)) (s : Switch) → held_in s.conns seat ≡ held →
    left_at seat held s
    ≡ record s { conns = with_held s.conns seat (conn_behind s held); notices = s.notices ++ farewell_behind s held }
seat_left seat None s is = unchanged seat None s is
seat_left seat (Some row) s is = by (is_left s row)
  where
    by : (left : Bool) →
        (if left
        then record (with_conn_at seat (if left then record { number = row.number; held = parted ChannelLeft row.held } else row) s) {
          notices = s.notices ++ (if left then gift_of row.number (farewell row.held.control) ∷ [] else []);
        }
        else s)
        ≡ record s {
          conns = with_held s.conns seat (Some (if left then record { number = row.number; held = parted ChannelLeft row.held } else row));
          notices = s.notices ++ (if left then gift_of row.number (farewell row.held.control) ∷ [] else []);
        }
    by true = refl
    by false = unchanged seat (Some row) s is

-- one seat more has
one_left : (seat : ℕ) (s : Switch) → seat < length s.conns →
    left_at seat (held_in (left_to seat s).conns seat) (left_to seat s) ≡ left_to (suc seat) s
unfolding left_to
one_left seat s within =
    let held = held_in s.conns seat in
    let now = left_to seat s in
    ap (λ (there : Option (Numbered Conn)). left_at seat there now) (still_held s s.conns seat)
    ∙ seat_left seat held now (still_held s s.conns seat)
    ∙ ap (λ (conns : Seats). record now { conns = conns; notices = now.notices ++ farewell_behind s held }) (conns_next s s.conns seat within)
    ∙ ap (λ (gifts : List Gift). record (left_to (suc seat) s) { notices = gifts })
    (gifts_more (farewell_behind s) s.notices s.conns seat within)

-- the same by a switch that has come so far
pub left_next : (seat : ℕ) (s now : Switch) → seat < length s.conns → now ≡ left_to seat s →
    left_at seat (held_in now.conns seat) now ≡ left_to (seat + 1) s
left_next seat s now within is =
    ap (λ (t : Switch). left_at seat (held_in t.conns seat) t) is
    ∙ one_left seat s within
    ∙ ap (λ (n : ℕ). left_to n s) {x = suc seat} {y = seat + 1} (omega arith)

-- ---- all seats: behind those that are filled nobody stands

conns_left : (s : Switch) (conns : Seats) (from : ℕ) → ((k : ℕ) → from ≤ k → held_in conns k ≡ None) →
    map (conn_behind s) (take from conns) ++ drop from conns ≡ map (conn_behind s) conns
conns_left s [] zero none = refl
conns_left s [] (suc from) none = refl
conns_left s (held ∷ conns) zero none =
    ap (λ here. here ∷ conns) (none 0 (omega arith))
    ∙ ap (λ left. None ∷ left) (conns_left s conns zero (λ k from. none (suc k) (omega arith)))
    ∙ sym (ap (λ here. conn_behind s here ∷ map (conn_behind s) conns) (none 0 (omega arith)))
conns_left s (held ∷ conns) (suc from) none =
    ap (λ left. conn_behind s held ∷ left) (conns_left s conns from (λ k past. none (suc k) (omega (arith, past))))

gifts_left : (s : Switch) (conns : Seats) (from : ℕ) → ((k : ℕ) → from ≤ k → held_in conns k ≡ None) →
    flat_map (farewell_behind s) (take from conns) ≡ flat_map (farewell_behind s) conns
gifts_left s [] zero none = refl
gifts_left s [] (suc from) none = refl
gifts_left s (held ∷ conns) zero none =
    gifts_left s conns zero (λ k from. none (suc k) (omega arith))
    ∙ sym (ap (λ gifts. gifts ++ flat_map (farewell_behind s) conns) (ap (farewell_behind s) (none 0 (omega arith))))
gifts_left s (held ∷ conns) (suc from) none =
    ap (λ gifts. farewell_behind s held ++ gifts) (gifts_left s conns from (λ k past. none (suc k) (omega (arith, past))))

-- so all have
pub left_last : (from : ℕ) (s : Switch) → IsEmptyFrom from s.conns → left_to from s ≡ after_leavings s
unfolding left_to
left_last from s empty =
    let now = left_to from s in
    ap (λ (conns : Seats). record now { conns = conns }) (conns_left s s.conns from empty.each)
    ∙ ap (λ (gifts : List Gift). record (after_leavings s) { notices = s.notices ++ gifts }) (gifts_left s s.conns from empty.each)

pub ruleset left_rules = (left_first, left_last)
