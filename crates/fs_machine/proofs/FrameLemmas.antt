-- What entries cost and hand out, and what the acts of a connection answer and are refused for.
use Rattle.std.proofs.Common.{◌≡◌, ℕ, ◌≤◌, true, false, List, [], ◌∷◌, ◌++◌, Option, None, Some, is_some, unwrap_or, slice_get, not, refl}
use Rattle.std.proofs.Common.{sym, ap, ◌∙◌, append_assoc, append-nil, arith}
use Rattle.fs_text.specs.Texts.{Text}
use Rattle.fs_state.specs.Switch.{Switch, waiting_for, with_frame_taken, at_moment, is_full}
use Rattle.fs_machine.specs.declared.entry.Entry.{Entry}
use Rattle.fs_machine.specs.declared.entry.Act.{Act}
use Rattle.fs_machine.specs.declared.entry.Act.TheVariants.{Arrive, Command, Take, Close, Dialed, Work, Job, Loaded, Halt}
use Rattle.fs_machine.specs.declared.reply.Reply.TheVariants as reply
use Rattle.fs_machine.specs.declared.refusal.Refusal.TheVariants as refusal
use Rattle.fs_machine.specs.Entries.{cost_of}
use Rattle.fs_machine.specs.Connections.{phase_at}
use Rattle.fs_machine.specs.Questions.{owed_to, owes}
use Rattle.fs_machine.specs.Step.{step, refusal_of, reads, refused_where, busy}
use Rattle.fs_machine.specs.Runs.{run_from}
use Rattle.fs_machine.specs.Frames.{handed_in, handed_from}
use Rattle.fs_machine.proofs.ControlLemmas.{behind_owed}

-- every act costs something
pub some_cost : (act : Act) → 64 ≤ cost_of act
some_cost Arrive = omega arith
some_cost (Command conn block) = omega arith
some_cost (Take conn) = omega arith
some_cost (Close conn how) = omega arith
some_cost (Dialed slot linked) = omega arith
some_cost (Work slot) = omega arith
some_cost (Job number) = omega arith
some_cost (Loaded number note) = omega arith
some_cost Halt = omega arith

-- what a journal with one more entry hands out
pub handed_more : (conn : ℕ) (s : Switch) (entries : List Entry) (entry : Entry) →
    handed_from conn s (entries ++ entry ∷ []) ≡ handed_from conn s entries ++ handed_in conn entry.act (run_from s entries)
handed_more conn s [] entry = append-nil (handed_in conn entry.act s)
handed_more conn s (first ∷ entries) entry =
    ap (λ frames. handed_in conn first.act s ++ frames) (handed_more conn (step s first).state entries entry)
    ∙ sym (append_assoc (handed_in conn first.act s) (handed_from conn (step s first).state entries)
    (handed_in conn entry.act (run_from (step s first).state entries)))

-- a Take answers the first frame that waits
pub take_answers : (s : Switch) (moment conn : ℕ) →
    (step s (record { moment = moment; act = Take conn })).reply ≡ reply.Frame (unwrap_or (slice_get (waiting_for s conn) 0) [])
unfolding step
take_answers s moment conn = refl

-- and no command is answered by it
pub take_owes : (s : Switch) (moment taker conn : ℕ) → owes (step s (record { moment = moment; act = Take taker })).state conn ≡ owes s conn
unfolding step
take_owes s moment taker conn = ap is_some (behind_owed (with_frame_taken taker (at_moment moment s)) conn)

-- a connection that reads commands and is owed no reply gives one, unless the journal is full
pub command_refused : (s : Switch) (moment conn : ℕ) (block : Text) → reads (phase_at s conn) ≡ true → owes s conn ≡ false →
    refusal_of s (record { moment = moment; act = Command conn block }) ≡ refused_where (is_full s)
    (refusal.JournalFull s.cost s.settings.journal_limit) None
unfolding refusal_of
command_refused s moment conn block is_reading owes_none =
    ap (λ test. refused_where (is_full s) (refusal.JournalFull s.cost s.settings.journal_limit)
    (refused_where (not test) refusal.Gone (busy (owed_to s conn)))) is_reading
    ∙ ap (refused_where (is_full s) (refusal.JournalFull s.cost s.settings.journal_limit)) (not_busy (owed_to s conn) owes_none)
  where
    not_busy : (since : Option ℕ) → is_some since ≡ false → busy since ≡ None
    not_busy None none = refl
    not_busy (Some seat) none = absurd (cc)
