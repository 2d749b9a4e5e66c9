-- The end of a switch, as a draft makes it: the connections are released one seat after another.
use Rattle.std.proofs.Common.{◌≡◌, ℕ, zero, suc, ◌+◌, ◌<◌, ◌≤◌, List, [], ◌∷◌, ◌++◌, length, map, take, drop, Option, None, Some}
use Rattle.std.proofs.Common.{refl, sym, ap, ◌∙◌, append_assoc, append-nil, arith}
use Rattle.std.specs.Prelude.{flat_map}
use Rattle.std.proofs.lemmas.List.{set-get_or}
use Rattle.fs_text.specs.Texts.{Text}
use Rattle.fs_seats.specs.declared.numbered.Numbered.{Numbered}
use Rattle.fs_seats.specs.Seats.{held_in, with_held, IsEmptyFrom}
use Rattle.fs_state.specs.declared.conn.Conn.{Conn}
use Rattle.fs_state.specs.Frames.{Gift}
use Rattle.fs_state.specs.Switch.{Switch}
use Rattle.fs_state.specs.Ending.{released, last_replies, last_notices, released_at, all_released}

abbrev Seats : Type 0
Seats = List (Option (Numbered Conn))

-- those at the seats before one are released, the others as they were
pub released_to : ℕ → Text → Text → Switch → Switch
released_to seat reply notice s = record s {
  conns = map released (take seat s.conns) ++ drop seat s.conns;
  late = s.late ++ flat_map (last_replies reply) (take seat s.conns);
  notices = s.notices ++ flat_map (last_notices notice) (take seat s.conns);
}

-- ---- seat by seat

-- at first none is released
pub released_first : (reply notice : Text) (s : Switch) → released_to 0 reply notice s ≡ s
unfolding released_to
released_first reply notice s =
    ap (λ (gifts : List Gift). record s { late = gifts; notices = s.notices ++ [] }) (append-nil s.late)
    ∙ ap (λ (gifts : List Gift). record s { notices = gifts }) (append-nil s.notices)

-- at the next seat stands what stood there
still_held : (conns : Seats) (seat : ℕ) → held_in (map released (take seat conns) ++ drop seat conns) seat ≡ held_in conns seat
still_held [] zero = refl
still_held [] (suc seat) = refl
still_held (held ∷ conns) zero = refl
still_held (held ∷ conns) (suc seat) = still_held conns seat

-- it is released, too
conns_next : (conns : Seats) (seat : ℕ) → seat < length conns →
    with_held (map released (take seat conns) ++ drop seat conns) seat (released (held_in conns seat))
    ≡ map released (take (suc seat) conns) ++ drop (suc seat) conns
conns_next [] seat within = absurd (omega (arith, within))
conns_next (held ∷ conns) zero within = refl
conns_next (held ∷ conns) (suc seat) within = ap (λ left. released held ∷ left) (conns_next conns seat (omega (arith, within)))

-- what is given there stands behind what was given before
gifts_next : (gives : Option (Numbered Conn) → List Gift) (conns : Seats) (seat : ℕ) → seat < length conns →
    flat_map gives (take seat conns) ++ gives (held_in conns seat) ≡ flat_map gives (take (suc seat) conns)
gifts_next gives [] seat within = absurd (omega (arith, within))
gifts_next gives (held ∷ conns) zero within = sym (append-nil (gives held))
gifts_next gives (held ∷ conns) (suc seat) within =
    append_assoc (gives held) (flat_map gives (take seat conns)) (gives (held_in conns seat))
    ∙ ap (λ gifts. gives held ++ gifts) (gifts_next gives conns seat (omega (arith, within)))

gifts_more : (gives : Option (Numbered Conn) → List Gift) (gifts : List Gift) (conns : Seats) (seat : ℕ) → seat < length conns →
    (gifts ++ flat_map gives (take seat conns)) ++ gives (held_in conns seat) ≡ gifts ++ flat_map gives (take (suc seat) conns)
gifts_more gives gifts conns seat within =
    append_assoc gifts (flat_map gives (take seat conns)) (gives (held_in conns seat))
    ∙ ap (λ more. gifts ++ more) (gifts_next gives conns seat within)

-- what becomes of a seat, whether or not something stands there
seat_released : (seat : ℕ) (reply notice : Text) (held : Option (Numbered Conn)) (s : Switch) → held_in s.conns seat ≡ held →
    released_at seat reply notice held s
    ≡ record s {
      conns = with_held s.conns seat (released held);
      late = s.late ++ last_replies reply held;
      notices = s.notices ++ last_notices notice held;
    }
seat_released seat reply notice (Some row) s is = refl
seat_released seat reply notice None s is =
    let same : with_held s.conns seat None ≡ s.conns =
    sym (ap (with_held s.conns seat) is) ∙ set-get_or s.conns seat None in
    sym (ap (λ (conns : Seats). record s { conns = conns; late = s.late ++ []; notices = s.notices ++ [] }) same
    ∙ ap (λ (gifts : List Gift). record s { late = gifts; notices = s.notices ++ [] }) (append-nil s.late)
    ∙ ap (λ (gifts : List Gift). record s { notices = gifts }) (append-nil s.notices))

-- one seat more is released
one_released : (seat : ℕ) (reply notice : Text) (s : Switch) → seat < length s.conns →
    released_at seat reply notice (held_in (released_to seat reply notice s).conns seat) (released_to seat reply notice s)
    ≡ released_to (suc seat) reply notice s
unfolding released_to
one_released seat reply notice s within =
    let held = held_in s.conns seat in
    let now = released_to seat reply notice s in
    ap (λ (there : Option (Numbered Conn)). released_at seat reply notice there now) (still_held s.conns seat)
    ∙ seat_released seat reply notice held now (still_held s.conns seat)
    ∙ ap (λ (conns : Seats). record now {
      conns = conns;
      late = now.late ++ last_replies reply held;
      notices = now.notices ++ last_notices notice held;
    }) (conns_next s.conns seat within)
    ∙ ap (λ (gifts : List Gift). record (released_to (suc seat) reply notice s) {
      late = gifts;
      notices = now.notices ++ last_notices notice held;
    }) (gifts_more (last_replies reply) s.late s.conns seat within)
    ∙ ap (λ (gifts : List Gift). record (released_to (suc seat) reply notice s) { notices = gifts })
    (gifts_more (last_notices notice) s.notices s.conns seat within)

-- the same by a switch that has come so far
pub released_next : (seat : ℕ) (reply notice : Text) (s now : Switch) → seat < length s.conns → now ≡ released_to seat reply notice s →
    released_at seat reply notice (held_in now.conns seat) now ≡ released_to (seat + 1) reply notice s
released_next seat reply notice s now within is =
    ap (λ (t : Switch). released_at seat reply notice (held_in t.conns seat) t) is
    ∙ one_released seat reply notice s within
    ∙ ap (λ (n : ℕ). released_to n reply notice s) {x = suc seat} {y = seat + 1} (omega arith)

-- ---- all seats: behind those that are filled nothing is left to be done

conns_left : (conns : Seats) (from : ℕ) → ((k : ℕ) → from ≤ k → held_in conns k ≡ None) →
    map released (take from conns) ++ drop from conns ≡ map released conns
conns_left [] zero none = refl
conns_left [] (suc from) none = refl
conns_left (held ∷ conns) zero none =
    ap (λ here. here ∷ conns) (none 0 (omega arith))
    ∙ ap (λ left. None ∷ left) (conns_left conns zero (λ k from. none (suc k) (omega arith)))
    ∙ sym (ap (λ here. released here ∷ map released conns) (none 0 (omega arith)))
conns_left (held ∷ conns) (suc from) none =
    ap (λ left. released held ∷ left) (conns_left conns from (λ k past. none (suc k) (omega (arith, past))))

gifts_left : (gives : Option (Numbered Conn) → List Gift) (conns : Seats) (from : ℕ) → gives None ≡ [] →
    ((k : ℕ) → from ≤ k → held_in conns k ≡ None) → flat_map gives (take from conns) ≡ flat_map gives conns
gifts_left gives [] zero nothing none = refl
gifts_left gives [] (suc from) nothing none = refl
gifts_left gives (held ∷ conns) zero nothing none =
    gifts_left gives conns zero nothing (λ k from. none (suc k) (omega arith))
    ∙ sym (ap (λ gifts. gifts ++ flat_map gives conns) (ap gives (none 0 (omega arith)) ∙ nothing))
gifts_left gives (held ∷ conns) (suc from) nothing none =
    ap (λ gifts. gives held ++ gifts) (gifts_left gives conns from nothing (λ k past. none (suc k) (omega (arith, past))))

-- so all are released
pub released_last : (from : ℕ) (reply notice : Text) (s : Switch) → IsEmptyFrom from s.conns →
    released_to from reply notice s ≡ all_released reply notice s
unfolding released_to
released_last from reply notice s empty =
    let now = released_to from reply notice s in
    ap (λ (conns : Seats). record now { conns = conns }) (conns_left s.conns from empty.each)
    ∙ ap (λ (gifts : List Gift). record now { conns = map released s.conns; late = s.late ++ gifts })
    (gifts_left (last_replies reply) s.conns from refl empty.each)
    ∙ ap (λ (gifts : List Gift). record (all_released reply notice s) { notices = s.notices ++ gifts })
    (gifts_left (last_notices notice) s.conns from refl empty.each)

pub ruleset released_rules = (released_first, released_last)
