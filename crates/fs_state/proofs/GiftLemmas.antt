-- What stands in the outboxes once gifts are delivered, a frame is taken or a connection goes.
use Rattle.std.proofs.Common.{◌≡◌, ℕ, zero, suc, ◌+◌, ◌<◌, ◌≤◌, ◌==◌, Bool, true, false, cond, if◌then◌else◌, List, [], ◌∷◌, ◌++◌, length}
use Rattle.std.proofs.Common.{take, drop, Option, None, Some, unwrap_or, slice_get, ◌⊎◌, inl, inr, refl, sym, ap, subst, ◌∙◌}
use Rattle.std.proofs.Common.{append-nil, arith}
use Rattle.std.specs.List.{concat}
use Rattle.std.proofs.lemmas.List.{get_or-set_same, get_or-set_other, length-set, length-replicate, map-append, drop-map}
use Rattle.std.proofs.lemmas.List.Sums.{sum_by-append, sum_by-take-drop}
use Rattle.std.proofs.lemmas.Bool.{eqb-true, eqb-false, cases_eq}
use Rattle.fs_seats.specs.declared.numbered.Numbered.{Numbered}
use Rattle.fs_seats.specs.Seats.{no_seats}
use Rattle.fs_seats.specs.Rows.{seat_of, with_held_at}
use Rattle.fs_seats.proofs.HeldLemmas.{all_alike}
use Rattle.fs_seats.proofs.RowLemmas.{IsFree, seats_apart, free_apart, less_free}
use Rattle.fs_state.specs.declared.conn.Conn.{Conn}
use Rattle.fs_state.specs.Frames.{Gift}
use Rattle.fs_state.specs.Frames.{Frames, text_of, texts_of, is_event, events_in}
use Rattle.fs_state.specs.Outboxes.{no_outboxes, outbox_at, with_outbox, without_first_frame, without_frames, with_frames_at}
use Rattle.fs_state.specs.Outboxes.{with_gift_delivered, delivered}
use Rattle.fs_state.specs.Switch.{changed_at}

-- ---- frames and their texts

-- the bytes of the first frame
pub first_bytes : (frames : Frames) → concat (take 1 (texts_of frames)) ≡ unwrap_or (slice_get (texts_of frames) 0) []
first_bytes [] = refl
first_bytes (frame ∷ frames) = append-nil (text_of frame)

pub texts_append : (a b : Frames) → texts_of (a ++ b) ≡ texts_of a ++ texts_of b
texts_append a b = map-append text_of a b

pub texts_drop : (n : ℕ) (a : Frames) → texts_of (drop n a) ≡ drop n (texts_of a)
texts_drop n a = sym (drop-map text_of n a)

pub events_append : (a b : Frames) → events_in (a ++ b) ≡ events_in a + events_in b
events_append a b = sum_by-append (λ frame. cond (is_event frame) 1 0) a b

-- no more tell of events once the first is gone
pub events_drop : (a : Frames) → events_in (drop 1 a) ≤ events_in a
events_drop a = omega (arith, sum_by-take-drop (λ frame. cond (is_event frame) 1 0) a 1)

-- where no connection stands nothing waits
abbrev pub AreQuiet : List (Option (Numbered Conn)) → List Frames → Type 0
AreQuiet conns outboxes = (seat : ℕ) → IsFree conns seat → outbox_at outboxes seat ≡ []

-- the outbox of a connection may change
pub quiet_put : (conns : List (Option (Numbered Conn))) (outboxes : List Frames) (number seat : ℕ) (outbox : Frames) →
    seat_of conns number ≡ Some seat →
    AreQuiet conns outboxes → AreQuiet conns (with_outbox seat outbox outboxes)
quiet_put conns outboxes number seat outbox is quiet free empty =
    get_or-set_other outboxes seat free outbox [] (free_apart conns number seat free is empty) ∙ quiet free empty

-- ---- no outbox comes or goes

-- there are as many outboxes as seats
pub as_many : (T : Type 0) (count : ℕ) → length (no_outboxes count) ≡ length (no_seats {T = T} count)
unfolding no_outboxes no_seats
as_many T count = length-replicate {A = Frames} count [] ∙ sym (length-replicate {A = Option T} count None)

-- no change takes an outbox away
pub changed_length : (change : ℕ → List Frames → List Frames) →
    ((seat : ℕ) (outboxes : List Frames) → length (change seat outboxes) ≡ length outboxes) →
    (found : Option ℕ) (outboxes : List Frames) → length (changed_at change found outboxes) ≡ length outboxes
changed_length change each None outboxes = refl
changed_length change each (Some seat) outboxes = each seat outboxes

-- no gift makes an outbox
pub given_length : (found : Option ℕ) (frames : Frames) (outboxes : List Frames) → length (with_frames_at found frames outboxes) ≡ length outboxes
given_length None frames outboxes = refl
given_length (Some seat) frames outboxes = length-set outboxes seat (outbox_at outboxes seat ++ frames)

pub delivered_length : (conns : List (Option (Numbered Conn))) (gifts : List Gift) (outboxes : List Frames) →
    length (delivered conns gifts outboxes) ≡ length outboxes
delivered_length conns [] outboxes = refl
delivered_length conns (gift ∷ gifts) outboxes =
    delivered_length conns gifts (with_frames_at (seat_of conns gift.conn) gift.frames outboxes)
    ∙ given_length (seat_of conns gift.conn) gift.frames outboxes

-- ---- gifts in several parts

-- first the one part is delivered, then the other
pub delivered_append : (conns : List (Option (Numbered Conn))) (a b : List Gift) (outboxes : List Frames) →
    delivered conns (a ++ b) outboxes ≡ delivered conns b (delivered conns a outboxes)
delivered_append conns [] b outboxes = refl
delivered_append conns (gift ∷ a) b outboxes = delivered_append conns a b (with_gift_delivered conns gift outboxes)

-- ---- outboxes without a connection

pub none_waits : (count seat : ℕ) → outbox_at (no_outboxes count) seat ≡ []
unfolding no_outboxes
none_waits count seat = all_alike {A = Frames} count seat []

-- an outbox that was emptied is empty
pub outbox_emptied : (outboxes : List Frames) (put : ℕ) → outbox_at (with_outbox put [] outboxes) put ≡ []
outbox_emptied [] put = refl
outbox_emptied (outbox ∷ outboxes) zero = refl
outbox_emptied (outbox ∷ outboxes) (suc put) = outbox_emptied outboxes put

-- a gift goes to no seat without a connection
pub quiet_given : (conns : List (Option (Numbered Conn))) (outboxes : List Frames) (number : ℕ) (frames : Frames) (found : Option ℕ) →
    seat_of conns number ≡ found →
    AreQuiet conns outboxes → AreQuiet conns (with_frames_at found frames outboxes)
quiet_given conns outboxes number frames None is quiet free empty = quiet free empty
quiet_given conns outboxes number frames (Some seat) is quiet free empty =
    quiet_put conns outboxes number seat (outbox_at outboxes seat ++ frames) is quiet free empty

pub quiet_delivered : (conns : List (Option (Numbered Conn))) (gifts : List Gift) (outboxes : List Frames) → AreQuiet conns outboxes →
    AreQuiet conns (delivered conns gifts outboxes)
quiet_delivered conns [] outboxes quiet free empty = quiet free empty
quiet_delivered conns (gift ∷ gifts) outboxes quiet free empty =
    quiet_delivered conns gifts (with_frames_at (seat_of conns gift.conn) gift.frames outboxes)
    (quiet_given conns outboxes gift.conn gift.frames (seat_of conns gift.conn) refl quiet) free empty

-- the seat from which a frame is taken has a connection
pub quiet_taken : (conns : List (Option (Numbered Conn))) (outboxes : List Frames) (number : ℕ) (found : Option ℕ) →
    seat_of conns number ≡ found →
    AreQuiet conns outboxes → AreQuiet conns (changed_at without_first_frame found outboxes)
quiet_taken conns outboxes number None is quiet free empty = quiet free empty
quiet_taken conns outboxes number (Some seat) is quiet free empty =
    quiet_put conns outboxes number seat (drop 1 (outbox_at outboxes seat)) is quiet free empty

-- the seat that is left is quiet
pub quiet_less : (conns : List (Option (Numbered Conn))) (outboxes : List Frames) (found : Option ℕ) → AreQuiet conns outboxes →
    AreQuiet (with_held_at conns None found) (changed_at without_frames found outboxes)
quiet_less conns outboxes None quiet seat free = quiet seat free
quiet_less conns outboxes (Some put) quiet seat free = by (cases_eq seat put)
  where
    by : (seat ≡ put) ⊎ (seat ≡ put → ⊥) → outbox_at (without_frames put outboxes) seat ≡ []
    by (inl same) = subst (λ p. outbox_at (without_frames put outboxes) p ≡ []) (sym same) (outbox_emptied outboxes put)
    by (inr differ) = get_or-set_other outboxes put seat [] [] differ ∙ quiet seat (less_free conns put seat differ free)

-- ---- a gift

-- a gift waits behind what waits for its connection, and for no other
pub one_given : (conns : List (Option (Numbered Conn))) (outboxes : List Frames) (conn seat : ℕ) (gift : Gift) →
    seat_of conns conn ≡ Some seat → seat < length outboxes →
    outbox_at (with_frames_at (seat_of conns gift.conn) gift.frames outboxes) seat ≡ outbox_at outboxes
    seat ++ (if gift.conn == conn then gift.frames else [])
one_given conns outboxes conn seat gift is within = by (gift.conn == conn) refl
  where
    other : (found : Option ℕ) → seat_of conns gift.conn ≡ found → (gift.conn == conn) ≡ false →
        outbox_at (with_frames_at found gift.frames outboxes) seat ≡ outbox_at outboxes seat ++ []
    other None there e = sym (append-nil (outbox_at outboxes seat))
    other (Some others) there e =
        get_or-set_other outboxes others seat (outbox_at outboxes others ++ gift.frames) []
        (λ same. eqb-false gift.conn conn e (sym (seats_apart conns conn gift.conn seat others is there same)))
        ∙ sym (append-nil (outbox_at outboxes seat))

    by : (b : Bool) → (gift.conn == conn) ≡ b →
        outbox_at (with_frames_at (seat_of conns gift.conn) gift.frames outboxes) seat ≡ outbox_at outboxes seat ++ (if b then gift.frames
        else [])
    by true e =
        ap (λ found. outbox_at (with_frames_at found gift.frames outboxes) seat) (ap (seat_of conns) (eqb-true gift.conn conn e) ∙ is)
        ∙ get_or-set_same outboxes seat (outbox_at outboxes seat ++ gift.frames) [] within
    by false e = other (seat_of conns gift.conn) refl e
