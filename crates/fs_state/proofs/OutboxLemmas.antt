-- That the outboxes have room for what is given.
use Rattle.std.proofs.Common.{◌≡◌, ℕ, zero, suc, ap, ◌+◌, ◌-◌, ◌^◌, ◌<◌, ◌≤◌, ◌==◌, min, Bool, true, false, List, [], ◌∷◌, ◌++◌, length, drop, get_or, replicate}
use Rattle.std.proofs.Common.{Option, None, Some, refl, sym, subst, arith}
use Rattle.std.specs.List.{slice_set, All}
use Rattle.std.proofs.lemmas.List.{get_or-set_same, get_or-set_other, length-set, length-append, length-drop}
use Rattle.std.proofs.lemmas.List.Elements.{All-replicate}
use Rattle.std.proofs.lemmas.List.Sums.{sum_by-cons, sum_by-append}
use Rattle.std.proofs.lemmas.Bool.{eqb-true}
use Rattle.std.proofs.lemmas.Bool.Decides.{nat_tests}
use Rattle.fs_state.specs.declared.delta.OutboxChange.{OutboxChange}
use Rattle.fs_state.specs.declared.delta.OutboxChange.TheVariants.{Unchanged, Taken, Cleared}
use Rattle.fs_seats.specs.declared.numbered.Numbered.{Numbered}
use Rattle.fs_seats.specs.Rows.{seat_of}
use Rattle.fs_state.specs.declared.conn.Conn.{Conn}
use Rattle.fs_state.specs.Frames.{Gift}
use Rattle.fs_state.specs.Frames.{Frames}
use Rattle.fs_state.specs.Outboxes.{outbox_at, with_gift_delivered, outboxes_after, with_frames_at, frames_given}
use Rattle.fs_state.specs.Outboxes.{delivered, HaveRoom, AreWithin}

-- less fits where more does
pub room_less : {T : Type 0} → (outboxes : List (List T)) (n m : ℕ) → n ≤ m → HaveRoom outboxes m → HaveRoom outboxes n
room_less outboxes n m less h = record { each = λ k d within. omega (arith, less, h.each k d within) }

-- what holds of each outbox, and of another one that is put at a seat, holds of each then
all_with : {T : Type 0} → (P : List T → Type 0) (seat : ℕ) (outbox : List T) (outboxes : List (List T)) → (seat < length outboxes → P outbox) →
    All P outboxes → All P (slice_set outboxes seat outbox)
all_with {T} P seat outbox outboxes put h = each
  where
    at : (k : ℕ) (d : List T) → k < length outboxes → (b : Bool) → (k == seat) ≡ b → P (get_or (slice_set outboxes seat outbox) k d)
    at k d there true e =
        let same : k ≡ seat = eqb-true k seat e in
        let here : seat < length outboxes = subst (λ p. p < length outboxes) same there in
        subst (λ p. P (get_or (slice_set outboxes seat outbox) p d)) (sym same)
        (subst P (sym (get_or-set_same outboxes seat outbox d here)) (put here))
    at k d there false e =
        subst P (sym (get_or-set_other outboxes seat k outbox d (λ same. grind (arith, nat_tests, e, same)))) (h k d there)

    each : (k : ℕ) (d : List T) → k < length (slice_set outboxes seat outbox) → P (get_or (slice_set outboxes seat outbox) k d)
    each k d within = at k d (subst (λ len. k < len) (length-set outboxes seat outbox) within) (k == seat) refl

-- what is put last at a seat stands there
pub set_again : {T : Type 0} → (outboxes : List T) (seat : ℕ) (first last : T) →
    slice_set (slice_set outboxes seat first) seat last ≡ slice_set outboxes seat last
set_again [] seat first last = refl
set_again (outbox ∷ outboxes) zero first last = refl
set_again (outbox ∷ outboxes) (suc seat) first last = ap (λ rest. outbox ∷ rest) (set_again outboxes seat first last)

-- with another outbox at a seat, where it has so many frames more at most
pub room_with : {T : Type 0} → (seat : ℕ) (outbox : List T) (outboxes : List (List T)) (n more : ℕ) →
    length outbox ≤ length (get_or outboxes seat []) + more → HaveRoom outboxes (more + n) → HaveRoom (slice_set outboxes seat outbox) n
room_with seat outbox outboxes n more shorter h = record {
  each = all_with (λ q. length q + n < 2 ^ 63) seat outbox outboxes (λ here. omega (arith, shorter, h.each seat [] here))
      (λ k d within. omega (arith, h.each k d within));
}

-- ---- gifts

given_more : (gift : Gift) (gifts : List Gift) → frames_given (gift ∷ gifts) ≡ length gift.frames + frames_given gifts
given_more gift gifts = sum_by-cons (λ g. length g.frames) gift gifts

-- and after that for the gifts behind it
room_after_at : (at : Option ℕ) (outboxes : List Frames) (gift : Gift) (gifts : List Gift) → HaveRoom outboxes (frames_given (gift ∷ gifts)) →
    HaveRoom (with_frames_at at gift.frames outboxes) (frames_given gifts)
room_after_at None outboxes gift gifts h =
    room_less outboxes (frames_given gifts) (frames_given (gift ∷ gifts)) (omega (arith, given_more gift gifts)) h
room_after_at (Some seat) outboxes gift gifts h =
    room_with seat (outbox_at outboxes seat ++ gift.frames) outboxes (frames_given gifts) (length gift.frames)
    (omega (arith, length-append (outbox_at outboxes seat) gift.frames))
    (subst (HaveRoom outboxes) (given_more gift gifts) h)

pub room_after_gift : (conns : List (Option (Numbered Conn))) (gift : Gift) (gifts : List Gift) (outboxes : List Frames) →
    HaveRoom outboxes (frames_given (gift ∷ gifts)) →
    HaveRoom (with_gift_delivered conns gift outboxes) (frames_given gifts)
room_after_gift conns gift gifts outboxes h = room_after_at (seat_of conns gift.conn) outboxes gift gifts h

-- ---- gifts in several parts

pub given_append : (front back : List Gift) → frames_given (front ++ back) ≡ frames_given front + frames_given back
given_append front back = sum_by-append (λ g. length g.frames) front back

-- there is room for the first part
pub room_for_front : (outboxes : List Frames) (front back : List Gift) → HaveRoom outboxes (frames_given (front ++ back)) →
    HaveRoom outboxes (frames_given front)
room_for_front outboxes front back h =
    room_less outboxes (frames_given front) (frames_given (front ++ back)) (omega (arith, given_append front back)) h

-- and after that for the second
pub room_for_back : (conns : List (Option (Numbered Conn))) (front back : List Gift) (outboxes : List Frames) →
    HaveRoom outboxes (frames_given (front ++ back)) →
    HaveRoom (delivered conns front outboxes) (frames_given back)
room_for_back conns [] back outboxes h = h
room_for_back conns (gift ∷ front) back outboxes h =
    room_for_back conns front back (with_gift_delivered conns gift outboxes) (room_after_gift conns gift (front ++ back) outboxes h)

-- ---- the end of a draft

-- what is counted as far as 64 bits go, where it fits
pub room_counted : {T : Type 0} → (outboxes : List (List T)) (count : ℕ) → HaveRoom outboxes (min count (2 ^ 64 - 1)) → HaveRoom outboxes count
room_counted outboxes count h = record { each = λ k d within. omega (arith, h.each k d within) }

-- taking frames out leaves room
pub room_after : (change : OutboxChange) (outboxes : List Frames) (n : ℕ) → HaveRoom outboxes n → HaveRoom (outboxes_after change outboxes) n
room_after Unchanged outboxes n h = h
room_after (Taken seat) outboxes n h =
    room_with seat (drop 1 (outbox_at outboxes seat)) outboxes n 0 (omega (arith, length-drop 1 (outbox_at outboxes seat)))
    (room_less outboxes (0 + n) n (omega arith) h)
room_after (Cleared seat) outboxes n h = room_with seat [] outboxes n 0 (omega arith) (room_less outboxes (0 + n) n (omega arith) h)

-- ---- how many frames an outbox has at most

pub within_none : {T : Type 0} → (count : ℕ) → AreWithin (replicate {A = List T} count []) 0
within_none {T} count = record { each = All-replicate (λ (outbox : List T). length outbox ≤ 0) count [] (omega arith) }

pub within_taken : {T : Type 0} → (seat : ℕ) (outboxes : List (List T)) (most : ℕ) → AreWithin outboxes most →
    AreWithin (slice_set outboxes seat (drop 1 (get_or outboxes seat []))) most
within_taken seat outboxes most h = record {
  each = all_with (λ q. length q ≤ most) seat (drop 1 (get_or outboxes seat [])) outboxes
      (λ here. omega (arith, length-drop 1 (get_or outboxes seat []), h.each seat [] here)) h.each;
}

-- one that has so many more at most
pub within_given : {T : Type 0} → (seat : ℕ) (more : List T) (outboxes : List (List T)) (most : ℕ) → AreWithin outboxes most →
    AreWithin (slice_set outboxes seat (get_or outboxes seat [] ++ more)) (most + length more)
within_given seat more outboxes most h = record {
  each = all_with (λ q. length q ≤ most + length more) seat (get_or outboxes seat [] ++ more) outboxes
      (λ here. omega (arith, length-append (get_or outboxes seat []) more, h.each seat [] here))
      (λ k d within. omega (arith, h.each k d within));
}

pub within_less : {T : Type 0} → (outboxes : List (List T)) (most more : ℕ) → most ≤ more → AreWithin outboxes most → AreWithin outboxes more
within_less outboxes most more less h = record { each = λ k d within. omega (arith, less, h.each k d within) }

-- so outboxes have room for as many as are wanting to 2^63
pub room_within : {T : Type 0} → (outboxes : List (List T)) (most count : ℕ) → AreWithin outboxes most → count + most < 2 ^ 63 →
    HaveRoom outboxes count
room_within outboxes most count h less = record { each = λ k d within. omega (arith, less, h.each k d within) }
