use Rattle.std.proofs.Common.{◌≡◌, ◌-◌, List}
use Rattle.fs_machine.specs.declared.note.LoadNote.{LoadNote}
use Rattle.fs_conn.specs.Play.{repeated, after_due_step}
use Rattle.fs_conn.specs.Steps.{Works}
use Rattle.fs_conn.specs.Filed.{file_of}
use Rattle.fs_conn.specs.Playing.{seen, play_of, so_far, AreNotes, Adds, OnlyPlays}
use Rattle.fs_conn.proofs.playing.Play.settle.Given as goal

-- the rounds that are left come to the same play
abbrev pub invariant-loop : goal.invariant-loop
invariant-loop g l = record {
  reaches : (notes : List LoadNote) → AreNotes (seen l.self) notes →
      repeated (100000 - l.counter) after_due_step (play_of notes (seen l.self))
      ≡ repeated 100000 after_due_step (play_of notes (seen l.fn.self));
  works : Works (so_far (seen l.fn.self)) (so_far (seen l.self));
  clock : l.self.clock ≡ l.fn.self.clock;
  adds : Adds (file_of g.F.Store.loads g.F.Store.counts g.F.Store.sizes l.fn.self.file)
      (file_of g.F.Store.loads g.F.Store.counts g.F.Store.sizes l.self.file) (seen l.fn.self) (seen l.self);
  only : OnlyPlays (seen l.fn.self) (seen l.self);
}
