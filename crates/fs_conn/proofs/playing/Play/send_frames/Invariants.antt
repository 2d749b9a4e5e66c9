use Rattle.std.proofs.Common.{◌≡◌, ◌-◌, ◌≤◌, List, length}
use Rattle.fs_state.specs.Switch.{waiting_for}
use Rattle.fs_machine.specs.declared.entry.Act.TheVariants.{Take}
use Rattle.fs_machine.specs.declared.note.LoadNote.{LoadNote}
use Rattle.fs_conn.specs.Play.{switch_of, after_trying_act, repeated, after_taking_all}
use Rattle.fs_conn.specs.Steps.{spent}
use Rattle.fs_conn.specs.Filed.{file_of}
use Rattle.fs_conn.specs.Playing.{seen, play_of, so_far, AreNotes, Adds, ReadsNothing, Writing}
use Rattle.fs_conn.proofs.playing.Play.send_frames.Given as goal

-- the frames taken so far are written or unsent, and taking the others comes to the same play
abbrev pub invariant-loop : goal.invariant-loop
invariant-loop g l = record {
  reaches : (notes : List LoadNote) → AreNotes (seen l.self) notes →
      repeated (length (waiting_for (switch_of (so_far (seen l.fn.self))) 1) - l.counter) (after_trying_act (Take 1))
      (play_of notes (seen l.self)) ≡ after_taking_all (play_of notes (seen l.fn.self));
  sends : Writing (seen l.fn.self) (seen l.self);
  reads : ReadsNothing (seen l.fn.self) (seen l.self);
  adds : Adds (file_of g.F.Store.loads g.F.Store.counts g.F.Store.sizes l.fn.self.file)
      (file_of g.F.Store.loads g.F.Store.counts g.F.Store.sizes l.self.file) (seen l.fn.self) (seen l.self);
  spent : spent (so_far (seen l.fn.self)) ≤ spent (so_far (seen l.self));
}
