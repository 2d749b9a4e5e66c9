use Rattle.std.proofs.Common.{◌≡◌, false, IsTrue, List}
use Rattle.fs_machine.specs.declared.note.LoadNote.{LoadNote}
use Rattle.fs_machine.specs.Here.{IsHere}
use Rattle.fs_machine.specs.Questions.{owes}
use Rattle.fs_conn.specs.Play.{switch_of}
use Rattle.fs_conn.specs.Steps.{HoldsLittle}
use Rattle.fs_conn.specs.Filed.{file_of}
use Rattle.fs_conn.specs.Playing.{seen, so_far, AreNotes, Adds}
use Rattle.fs_conn.specs.Turns.{Stands, work_left}
use Rattle.fs_conn.proofs.playing.Play.converse.Given as goal

-- the connection goes on, it is there and owed nothing, and its link still waits for what it reads. Little is held
abbrev pub invariant-loop-blocks : goal.invariant-loop-blocks
invariant-loop-blocks g l = record {
  waits : IsTrue l.self.wire.input.waits;
  stands : (notes : List LoadNote) → AreNotes (seen l.self) notes → Stands notes (seen l.fn.self) (seen l.self) l.blocks;
  here : IsHere 1 (switch_of (so_far (seen l.self)));
  free : owes (switch_of (so_far (seen l.self))) 1 ≡ false;
  adds : Adds (file_of g.F.Store.loads g.F.Store.counts g.F.Store.sizes l.fn.self.file)
      (file_of g.F.Store.loads g.F.Store.counts g.F.Store.sizes l.self.file) (seen l.fn.self) (seen l.self);
  lent : (seen l.self).lent ≡ (seen l.fn.self).lent;
  little : HoldsLittle l.blocks;
}

abbrev pub decreases-loop-blocks : goal.decreases-loop-blocks
decreases-loop-blocks g l = work_left (so_far (seen l.self)) l.blocks
