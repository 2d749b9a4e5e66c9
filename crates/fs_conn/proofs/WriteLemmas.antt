-- What a play has written of what it handed out.
use Rattle.std.proofs.Common.{◌≡◌, ◌≢◌, ℕ, ◌≤◌, Bool, List, [], ◌++◌, length, Err, ◌⊎◌, inl, inr, sym, refl, ap, ◌∙◌, subst, append_assoc}
use Rattle.std.proofs.Common.{append-nil}
use Rattle.fs_doc.specs.Reading.{Configuration}
use Rattle.fs_ports.specs.Ports.{Output, Writes, Stopped}
use Rattle.fs_ports.proofs.Sides.{writes_both, stopped_later}
use Rattle.fs_conn.specs.declared.stop.Stop.{Stop}
use Rattle.fs_conn.specs.declared.stop.Stop.TheVariants.{Over, OutOfMemory, WriteFault}
use Rattle.fs_conn.specs.Play.{Play, output_of, after_conversing, after_input_end}
use Rattle.fs_conn.specs.Playing.{Playing, play_of, Writing, with_written, Fails, Sends, HasFilled, HasFilledSo, MayClose}
use Rattle.fs_conn.specs.Turns.{IsPrompt, HasWritten, WritesAt, behind_frame, before_close, FailsAt, HasSent, StoppedBy}
use Rattle.fs_conn.proofs.SendLemmas.{writes_first}
use Rattle.fs_machine.specs.declared.note.LoadNote.{LoadNote}

module _ (notes : List LoadNote) where
  -- what was prompt stays so, whatever is written behind it
  prompt_more : (config : Configuration) (input sent more : List ℕ) → (input ≡ []) ⊎ IsPrompt config notes input sent →
      (input ≡ []) ⊎ IsPrompt config notes input (sent ++ more)
  prompt_more config input sent more (inl none) = inl none
  prompt_more config input sent more (inr prompt) = inr (record {
    earlier = prompt.earlier;
    piece = prompt.piece;
    split = prompt.split;
    few = prompt.few;
    more = prompt.more ++ more;
    written = ap (λ xs. xs ++ more) prompt.written ∙ append_assoc (output_of (after_conversing config prompt.earlier notes)) prompt.more more;
  })

  -- a step handed out and wrote more
  pub written_then : (start old new : Playing) (input : List ℕ) → HasSent notes start old input → Writing old new →
      HasSent notes start new input
  written_then start old new input first then = record {
    sent = first.sent ++ then.sent;
    split =
        then.hands ∙ ap (λ xs. xs ++ then.frames) first.split ∙ append_assoc first.sent old.unsent then.frames
        ∙ ap (λ xs. first.sent ++ xs) then.split
        ∙ sym (append_assoc first.sent then.sent new.unsent);
    written = writes_both start.output old.output new.output first.sent then.sent first.written then.written;
    prompt = prompt_more start.config input first.sent then.sent first.prompt;
  }

  -- all was written
  pub written_all : (start now : Playing) (out : Output) (input : List ℕ) → HasSent notes start now input →
      Writes now.output out now.unsent →
      HasSent notes start (with_written out [] now) input
  written_all start now out input first writes =
      let cleared = with_written out [] now in
      written_then start now cleared input first (writes_first now cleared refl writes refl)

  sent_whole : (handed sent unsent : List ℕ) → handed ≡ sent ++ unsent → unsent ≡ [] → sent ≡ handed
  sent_whole handed sent unsent split none = sym (split ∙ ap (λ xs. sent ++ xs) none ∙ append-nil sent)

  pub written_whole : (config : Configuration) (out0 out1 : Output) (input unsent : List ℕ) (p : Play) →
      HasWritten config notes out0 out1 input unsent p → unsent ≡ [] → Writes out0 out1 (output_of p)
  written_whole config out0 out1 input unsent p written none =
      subst (λ (bytes : List ℕ). Writes out0 out1 bytes) (sent_whole (output_of p) written.sent unsent written.split none) written.written

  -- and then a piece was read
  pub written_read : (config : Configuration) (out0 out1 : Output) (input piece : List ℕ) (p : Play) →
      p ≡ after_conversing config input notes →
      HasWritten config notes out0 out1 input [] p → length piece ≤ 4096 → HasWritten config notes out0 out1 (input ++ piece) [] p
  written_read config out0 out1 input piece p p_is written few = record {
    sent = written.sent;
    split = written.split;
    written = written.written;
    prompt = inr (record {
      earlier = input;
      piece = piece;
      split = refl;
      few = few;
      more = [];
      written = sent_whole (output_of p) written.sent [] written.split refl ∙ ap output_of p_is
          ∙ sym (append-nil (output_of (after_conversing config input notes)));
    });
  }

  -- ---- a play that stopped

  -- not by a write
  pub stopped_unwritten : (start now : Playing) (input : List ℕ) (read_failed : Bool) (stop : Stop) → stop ≢ WriteFault →
      HasSent notes start now input → StoppedBy notes start now input read_failed stop
  stopped_unwritten start now input read_failed (Over end) unwritten written = written
  stopped_unwritten start now input read_failed OutOfMemory unwritten written = written
  stopped_unwritten start now input read_failed WriteFault unwritten written = absurd (unwritten refl)

  fails_at : (point : List ℕ → Playing → Type 0) (start old new : Playing) (input : List ℕ) (read_failed : Bool) →
      HasSent notes start old input →
      Fails point old new → ((bytes : List ℕ) → point bytes new → WritesAt start.config notes input read_failed bytes (play_of notes new)) →
      FailsAt start.config notes start.output new.output input read_failed (play_of notes new)
  fails_at point start old new input read_failed written fails is_point = record {
    mid = fails.mid;
    unsent = fails.unsent;
    written = written_then start old (with_written fails.mid fails.unsent new) input written fails.writing;
    stopped = fails.stopped;
    point = is_point fails.unsent fails.stands;
  }

  -- in a step that wrote this
  pub stopped_sends : (point : List ℕ → Playing → Type 0) (start old new : Playing) (input : List ℕ) (read_failed : Bool) (stop : Stop) →
      HasSent notes start old input → Sends {A = Unit {0}} point old new (Err stop) →
      ((bytes : List ℕ) → point bytes new → WritesAt start.config notes input read_failed bytes (play_of notes new)) →
      StoppedBy notes start new input read_failed stop
  stopped_sends point start old new input read_failed (Over end) written sends is_point = written_then start old new input written sends
  stopped_sends point start old new input read_failed OutOfMemory written sends is_point = written_then start old new input written sends
  stopped_sends point start old new input read_failed WriteFault written sends is_point =
      fails_at point start old new input read_failed written sends is_point

  -- a frame with which there is enough was taken, whatever loads are to come
  pub filled_so : (unsent : List ℕ) (s : Playing) → HasFilledSo unsent s → HasFilled unsent (play_of notes s)
  filled_so unsent s filled = record { many = filled.many; before = filled.before; taken = filled.taken }

  -- the points at which a connection that came to its end may be closed
  pub may_close : (config : Configuration) (input : List ℕ) (read_failed : Bool) (unsent : List ℕ) (s later : Playing) →
      play_of notes s ≡ after_conversing config input notes →
      MayClose notes s unsent later → WritesAt config notes input read_failed unsent (play_of notes later)
  may_close config input read_failed unsent s later s_is (inl filled) = behind_frame (filled_so unsent later filled)
  may_close config input read_failed unsent s later s_is (inr ended) = before_close (ended ∙ ap after_input_end s_is)

  -- a write of it failed behind all that was written before
  pub stopped_whole : (config : Configuration) (out0 out1 : Output) (input : List ℕ) (read_failed : Bool) (p : Play) →
      FailsAt config notes out0 out1 input read_failed p → Stopped out0 out1 (output_of p)
  stopped_whole config out0 out1 input read_failed p fails =
      subst (λ (bytes : List ℕ). Stopped out0 out1 bytes) (sym fails.written.split)
      (stopped_later out0 fails.mid out1 fails.written.sent fails.unsent fails.written.written fails.stopped)
