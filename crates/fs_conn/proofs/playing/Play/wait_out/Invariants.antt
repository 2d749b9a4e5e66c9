use Rattle.std.proofs.Common.{◌≡◌, ◌-◌, ◌^◌, false, List}
use Rattle.fs_machine.specs.declared.note.LoadNote.{LoadNote}
use Rattle.fs_conn.specs.Play.{next_actor}
use Rattle.fs_conn.specs.Steps.{is_due, Works}
use Rattle.fs_conn.specs.Filed.{file_of}
use Rattle.fs_conn.specs.Playing.{seen, play_of, so_far, AreNotes, Adds, OnlyPlays}
use Rattle.fs_conn.proofs.SettleLemmas.{Awaits}
use Rattle.fs_conn.proofs.playing.Play.wait_out.Given as goal

-- the moments that are left come to the same play, and nothing is due at this one
abbrev pub invariant-loop-self : goal.invariant-loop-self
invariant-loop-self g l = record {
  awaits : (notes : List LoadNote) → AreNotes (seen l.self) notes → Awaits (play_of notes (seen l.fn.self)) (play_of notes (seen l.self));
  works : Works (so_far (seen l.fn.self)) (so_far (seen l.self));
  idle : is_due (next_actor (so_far (seen l.self))) ≡ false;
  adds : Adds (file_of g.F.Store.loads g.F.Store.counts g.F.Store.sizes l.fn.self.file)
      (file_of g.F.Store.loads g.F.Store.counts g.F.Store.sizes l.self.file) (seen l.fn.self) (seen l.self);
  only : OnlyPlays (seen l.fn.self) (seen l.self);
}

abbrev pub decreases-loop-self : goal.decreases-loop-self
decreases-loop-self g l = 2 ^ 64 - l.self.clock
