-- How frames are taken and written.
use Rattle.std.proofs.Common.{◌≡◌, ◌≢◌, ℕ, ◌-◌, ◌<◌, List, [], ◌∷◌, ◌++◌, length, Option, None, Some, Result, Ok, Err, unwrap_or}
use Rattle.std.proofs.Common.{slice_get, inr, refl, sym, ap, ◌∙◌, subst, append_assoc, append-nil, arith}
use Rattle.std.specs.Borrow.{GName}
use Rattle.fs_ports.specs.Ports.{Output, Writes}
use Rattle.fs_ports.proofs.Sides.{writes_both, writes_nothing}
use Rattle.fs_state.specs.Switch.{waiting_for, outgoing_for}
use Rattle.fs_state.proofs.GiftLemmas.{first_bytes}
use Rattle.fs_machine.specs.declared.entry.Act.{Act}
use Rattle.fs_machine.specs.declared.entry.Act.TheVariants.{Take, Close}
use Rattle.fs_machine.specs.declared.entry.Closing.TheVariants.{Sent}
use Rattle.fs_machine.specs.declared.reply.Reply.{Reply}
use Rattle.fs_machine.specs.declared.reply.Reply.TheVariants as reply
use Rattle.fs_machine.proofs.FrameLemmas.{take_answers}
use Rattle.fs_conn.specs.declared.playing.Play.{Play as Stage}
use Rattle.fs_conn.specs.declared.stop.Stop.{Stop}
use Rattle.fs_conn.specs.declared.stop.Stop.TheVariants.{Over, OutOfMemory, WriteFault}
use Rattle.fs_conn.specs.Play.{Play, switch_of, output_of, after_trying_act, repeated, after_taking_all, after_input_end, after_closing}
use Rattle.fs_conn.specs.Play.{after_taking_all_as}
use Rattle.fs_conn.specs.Wired.{Wired, IsUnread}
use Rattle.fs_conn.specs.Steps.{IsPlayFront, Halts, Does, Accepts, Enters, Puts, Clears}
use Rattle.fs_conn.specs.Playing.{so_far, HasFilledSo, Lent, Playing, seen, play_of, ReadsNothing, OnlyPlays, Writing, with_written, Fails}
use Rattle.fs_conn.specs.Playing.{Sends, HasFilled, MayClose}
use Rattle.fs_conn.proofs.PlayLemmas.{begins_self, goes_entered}
use Rattle.fs_conn.proofs.StepLemmas.{does_enters}
use Rattle.fs_conn.proofs.RoundLemmas.{round_stops_at}
use Rattle.fs_machine.specs.declared.note.LoadNote.{LoadNote}

-- a Take hands out a frame
pub take_replies : (old new : Play) (answer : Reply) → Accepts (Take 1) old new answer →
    answer ≡ reply.Frame (unwrap_or (slice_get (waiting_for (switch_of old) 1) 0) [])
take_replies old new answer accepts = accepts.reply_is ∙ take_answers (switch_of old) old.clock 1

-- and this is all that it hands out
pub take_hands : (old new : Play) (frame : List ℕ) → Accepts (Take 1) old new (reply.Frame frame) → output_of new ≡ output_of old ++ frame
take_hands old new frame accepts =
    let same : unwrap_or (slice_get (waiting_for (switch_of old) 1) 0) [] ≡ frame = let is =
    take_replies old new (reply.Frame frame) accepts in cc in
    accepts.hands ∙ ap (λ bytes. output_of old ++ bytes) (first_bytes (outgoing_for (switch_of old) 1) ∙ same)

-- ---- what stays

pub only_same : (s : Playing) → OnlyPlays s s
only_same s = record { input = refl; output = refl; unsent = refl; lent = refl }

pub only_then : (old mid new : Playing) → OnlyPlays old mid → OnlyPlays mid new → OnlyPlays old new
only_then old mid new first then = record {
  input = then.input ∙ first.input;
  output = then.output ∙ first.output;
  unsent = then.unsent ∙ first.unsent;
  lent = then.lent ∙ first.lent;
}

-- whatever the clock was before
pub only_at : (old new : Playing) (moment : ℕ) → OnlyPlays (record old { clock = moment }) new → OnlyPlays old new
only_at old new moment only = record { input = only.input; output = only.output; unsent = only.unsent; lent = only.lent }

pub reads_only : (old new : Playing) → OnlyPlays old new → ReadsNothing old new
reads_only old new only = record { input = only.input; lent = only.lent }

pub reads_then : (old mid new : Playing) → ReadsNothing old mid → ReadsNothing mid new → ReadsNothing old new
reads_then old mid new first then = record { input = then.input ∙ first.input; lent = then.lent ∙ first.lent }

-- the same play over a wire that went on
abbrev pub seen_over : {L F : Type 0} → Stage L F → Wired → Playing
seen_over p wire = seen (record p { wire = wire })

pub reads_unread : {L F : Type 0} → (p : Stage L F) (wire : Wired) → IsUnread p.wire wire → ReadsNothing (seen p) (seen_over p wire)
reads_unread p wire unread = record {
  input = unread.input;
  lent = ap {B = Lent} (λ (link : GName). record { machine = p.machine.ghost_name; link = link; files = p.file.files.ghost_name; name = p.file.name.now }) unread.link;
}

-- ---- one write after another

-- no frame was handed out, and all that was unsent was written
pub writes_first : (old new : Playing) → so_far new ≡ so_far old → Writes old.output new.output old.unsent → new.unsent ≡ [] →
    Writing old new
writes_first old new same writes none = record {
  frames = [];
  hands = ap output_of same ∙ sym (append-nil (output_of (so_far old)));
  sent = old.unsent;
  split = ap (λ bytes. old.unsent ++ bytes) (sym none);
  written = writes;
}

-- or nothing was, and what was unsent still is
pub writing_none : (old new : Playing) → output_of (so_far new) ≡ output_of (so_far old) → OnlyPlays old new → Writing old new
writing_none old new same only = record {
  frames = [];
  hands = same ∙ sym (append-nil (output_of (so_far old)));
  sent = [];
  split = append-nil old.unsent ∙ sym only.unsent;
  written = subst (λ (out : Output). Writes old.output out []) (sym only.output) (writes_nothing old.output);
}

split_both : (unsent frames sent left further later last : List ℕ) → unsent ++ frames ≡ sent ++ left → left ++ further ≡ later ++ last →
    unsent ++ (frames ++ further) ≡ (sent ++ later) ++ last
split_both unsent frames sent left further later last first then =
    sym (append_assoc unsent frames further) ∙ ap (λ xs. xs ++ further) first ∙ append_assoc sent left further ∙ ap (λ xs. sent ++ xs) then
    ∙ sym (append_assoc sent later last)

pub writing_then : (old mid new : Playing) → Writing old mid → Writing mid new → Writing old new
writing_then old mid new first then = record {
  frames = first.frames ++ then.frames;
  hands = then.hands ∙ ap (λ xs. xs ++ then.frames) first.hands ∙ append_assoc (output_of (so_far old)) first.frames then.frames;
  sent = first.sent ++ then.sent;
  split = split_both old.unsent first.frames first.sent mid.unsent then.frames then.sent new.unsent first.split then.split;
  written = writes_both old.output mid.output new.output first.sent then.sent first.written then.written;
}

fails_later : (point : List ℕ → Playing → Type 0) (old mid new : Playing) → Writing old mid → Fails point mid new → Fails point old new
fails_later point old mid new first then = record {
  mid = then.mid;
  unsent = then.unsent;
  writing = writing_then old mid (with_written then.mid then.unsent new) first then.writing;
  stopped = then.stopped;
  stands = then.stands;
}

-- a step, and then one that wrote this
pub sends_later : {A : Type 0} → (point : List ℕ → Playing → Type 0) (old mid new : Playing) (result : Result A Stop) → Writing old mid →
    Sends point mid new result → Sends point old new result
sends_later point old mid new (Ok done) first then = writing_then old mid new first then
sends_later point old mid new (Err (Over end)) first then = writing_then old mid new first then
sends_later point old mid new (Err OutOfMemory) first then = writing_then old mid new first then
sends_later point old mid new (Err WriteFault) first then = fails_later point old mid new first then

-- a step that hands out nothing, and stopped
pub sends_none : (point : List ℕ → Playing → Type 0) (old new : Playing) (stop : Stop) → output_of (so_far new) ≡ output_of (so_far old) →
    OnlyPlays old new → stop ≢ WriteFault → Sends {A = Unit {0}} point old new (Err stop)
sends_none point old new (Over end) same only unwritten = writing_none old new same only
sends_none point old new OutOfMemory same only unwritten = writing_none old new same only
sends_none point old new WriteFault same only unwritten = absurd (unwritten refl)

-- an act that was not entered
pub sends_entered : (point : List ℕ → Playing → Type 0) (act : Act) (old new : Playing) (stop : Stop) →
    Enters act (so_far old) (so_far new) (Err stop) → OnlyPlays old new → Sends {A = Unit {0}} point old new (Err stop)
sends_entered point act old new (Over end) enters only = writing_none old new (ap output_of enters.0) only
sends_entered point act old new OutOfMemory enters only = writing_none old new (ap output_of enters) only
sends_entered point act old new WriteFault enters only = absurd enters

-- an act that was refused
pub none_entered : (act : Act) (old new : Play) (reply : Option Reply) → ((answer : Reply) → reply ≡ Some answer → ⊥) →
    Enters act old new (Ok reply) →
    output_of new ≡ output_of old
none_entered act old new None none enters = ap output_of enters.same
none_entered act old new (Some answer) none enters = absurd (none answer refl)

-- a write failed at such a point, which is one of these too
pub sends_point : (point wider : List ℕ → Playing → Type 0) (old new : Playing) (stop : Stop) →
    ((bytes : List ℕ) → point bytes new → wider bytes new) → Sends {A = Unit {0}} point old new (Err stop) →
    Sends {A = Unit {0}} wider old new (Err stop)
sends_point point wider old new (Over end) is_wider sends = sends
sends_point point wider old new OutOfMemory is_wider sends = sends
sends_point point wider old new WriteFault is_wider sends = record {
  mid = sends.mid;
  unsent = sends.unsent;
  writing = sends.writing;
  stopped = sends.stopped;
  stands = is_wider sends.unsent sends.stands;
}

-- ---- the closing

-- what is unsent before the closing could not be written
pub sends_before_close : (notes : List LoadNote) (old mid new : Playing) (stop : Stop) → Writing old mid →
    play_of notes mid ≡ after_input_end (play_of notes old) →
    play_of notes new ≡ play_of notes mid → Clears {A = Unit {0}} mid.output new.output mid.unsent new.unsent (Err stop) →
    Sends {A = Unit {0}} (MayClose notes old) old new (Err stop)
sends_before_close notes old mid new (Over end) writing is same clears = absurd clears
sends_before_close notes old mid new OutOfMemory writing is same clears = absurd clears
sends_before_close notes old mid new WriteFault writing is same clears = record {
  mid = mid.output;
  unsent = mid.unsent;
  writing = record {
    frames = writing.frames;
    hands = ap output_of same ∙ writing.hands;
    sent = writing.sent;
    split = writing.split;
    written = writing.written;
  };
  stopped = clears;
  stands = inr (same ∙ is);
}

pub halts_before_close : (notes : List LoadNote) (old mid new : Playing) (stop : Stop) →
    play_of notes mid ≡ after_input_end (play_of notes old) →
    play_of notes new ≡ play_of notes mid → Clears {A = Unit {0}} mid.output new.output mid.unsent new.unsent (Err stop) →
    Halts stop (play_of notes new) (after_closing (play_of notes old))
halts_before_close notes old mid new (Over end) is same clears = absurd clears
halts_before_close notes old mid new OutOfMemory is same clears = absurd clears
halts_before_close notes old mid new WriteFault is same clears =
    subst (λ (p : Play). IsPlayFront p (after_closing (play_of notes old))) (sym (same ∙ is))
    ((goes_entered (Close 1 Sent)).begins (after_input_end (play_of notes old)))

-- all was written before it
pub writing_cleared : (old mid new : Playing) → Writing old mid → so_far new ≡ so_far mid →
    Clears {A = Unit {0}} mid.output new.output mid.unsent new.unsent (Ok tt) → Writing old new
writing_cleared old mid new writing same clears =
    writing_then old mid new writing (writes_first mid new same clears.0 clears.1)

-- then the closing was tried
pub does_closed : (notes : List LoadNote) (old mid new : Playing) (reply : Option Reply) →
    play_of notes mid ≡ after_input_end (play_of notes old) →
    Enters (Close 1 Sent) (play_of notes mid) (play_of notes new) (Ok reply) → play_of notes new ≡ after_closing (play_of notes old)
does_closed notes old mid new reply is enters =
    does_enters (Close 1 Sent) (play_of notes mid) (play_of notes new) (Ok reply) refl enters ∙ ap (after_trying_act (Close 1 Sent)) is

pub halts_closed : (notes : List LoadNote) (old mid new : Playing) (stop : Stop) → play_of notes mid ≡ after_input_end (play_of notes old) →
    Enters (Close 1 Sent) (play_of notes mid) (play_of notes new) (Err stop) → Halts stop (play_of notes new) (after_closing (play_of notes old))
halts_closed notes old mid new stop is enters =
    subst (λ (p : Play). Halts stop (play_of notes new) (after_trying_act (Close 1 Sent) p)) is
    (does_enters (Close 1 Sent) (play_of notes mid) (play_of notes new) (Err stop) refl enters)

-- ---- frames

-- a frame was put behind what is unsent
frame_put : (old mid new : Playing) (frame : List ℕ) → Accepts (Take 1) (so_far old) (so_far mid) (reply.Frame frame) →
    OnlyPlays old mid → so_far new ≡ so_far mid →
    Puts {A = Unit {0}} mid.output new.output mid.unsent new.unsent frame (Ok tt) → Writing old new
frame_put old mid new frame accepts only same puts = record {
  frames = frame;
  hands = ap output_of same ∙ take_hands (so_far old) (so_far mid) frame accepts;
  sent = puts.0;
  split = ap (λ bytes. bytes ++ frame) (sym only.unsent) ∙ puts.1;
  written = subst (λ (out : Output). Writes out new.output puts.0) only.output puts.2;
}

-- or that failed
frame_fails : (old mid new : Playing) (frame : List ℕ) → Accepts (Take 1) (so_far old) (so_far mid) (reply.Frame frame) →
    OnlyPlays old mid → so_far new ≡ so_far mid →
    Puts {A = Unit {0}} mid.output new.output mid.unsent new.unsent frame (Err WriteFault) → Fails HasFilledSo old new
frame_fails old mid new frame accepts only same puts = record {
  mid = mid.output;
  unsent = mid.unsent ++ frame;
  writing = record {
    frames = frame;
    hands = ap output_of same ∙ take_hands (so_far old) (so_far mid) frame accepts;
    sent = [];
    split = ap (λ bytes. bytes ++ frame) (sym only.unsent);
    written = subst (λ (out : Output). Writes old.output out []) (sym only.output) (writes_nothing old.output);
  };
  stopped = puts.0;
  stands = subst (HasFilled (mid.unsent ++ frame)) (sym same) (record {
    many = puts.1;
    before = old.journal;
    taken =
        ap (λ (p : Play). p.journal) accepts.does
        ∙ ap (λ (moment : ℕ). old.journal ++ record { moment = moment; act = Take 1 } ∷ []) (sym (ap (λ (p : Play). p.clock) accepts.does));
  });
}

pub frame_sends : {A : Type 0} → (old mid new : Playing) (frame : List ℕ) (result : Result A Stop) →
    Accepts (Take 1) (so_far old) (so_far mid) (reply.Frame frame) → OnlyPlays old mid → so_far new ≡ so_far mid →
    Puts mid.output new.output mid.unsent new.unsent frame result → Sends HasFilledSo old new result
frame_sends old mid new frame (Ok done) accepts only same puts = frame_put old mid new frame accepts only same puts
frame_sends old mid new frame (Err (Over end)) accepts only same puts = absurd puts
frame_sends old mid new frame (Err OutOfMemory) accepts only same puts = absurd puts
frame_sends old mid new frame (Err WriteFault) accepts only same puts = frame_fails old mid new frame accepts only same puts

-- so it was taken, or the play broke off
pub frame_does : {A : Type 0} → (notes : List LoadNote) (old mid new : Playing) (frame : List ℕ) (result : Result A Stop) →
    Accepts (Take 1) (play_of notes old) (play_of notes mid) (reply.Frame frame) → play_of notes new ≡ play_of notes mid →
    Puts mid.output new.output mid.unsent new.unsent frame result → Does (after_trying_act (Take 1)) (play_of notes old) (play_of notes new) result
frame_does notes old mid new frame (Ok done) accepts same puts =
    same ∙ does_enters (Take 1) (play_of notes old) (play_of notes mid) (Ok (Some _)) refl accepts
frame_does notes old mid new frame (Err (Over end)) accepts same puts = absurd puts
frame_does notes old mid new frame (Err OutOfMemory) accepts same puts = absurd puts
frame_does notes old mid new frame (Err WriteFault) accepts same puts =
    let is = same ∙ does_enters (Take 1) (play_of notes old) (play_of notes mid) (Ok (Some _)) refl accepts in
    subst (λ (p : Play). IsPlayFront (play_of notes new) p) is (begins_self (play_of notes new))

-- a Take for each frame that waited is to be entered
pub taken_first : (start : Play) →
    repeated (length (waiting_for (switch_of start) 1) - 0) (after_trying_act (Take 1)) start ≡ after_taking_all start
unfolding after_taking_all_as
taken_first start = ap (λ n. repeated n (after_trying_act (Take 1)) start) (none_done (length (waiting_for (switch_of start) 1)))
  where
    none_done : (n : ℕ) → n - 0 ≡ n
    none_done n = omega arith

-- one was not entered, or its frame not written
pub taken_stops : (done : ℕ) (start now next : Play) (stop : Stop) → done < length (waiting_for (switch_of start) 1) →
    repeated (length (waiting_for (switch_of start) 1) - done) (after_trying_act (Take 1)) now ≡ after_taking_all start →
    Halts stop next (after_trying_act (Take 1) now) → Halts stop next (after_taking_all start)
taken_stops done start now next stop some reaches halts =
    round_stops_at (length (waiting_for (switch_of start) 1)) done (after_trying_act (Take 1)) (goes_entered (Take 1)) now next
    (after_taking_all start) stop some reaches halts
