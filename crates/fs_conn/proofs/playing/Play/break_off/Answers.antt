use Rattle.std.proofs.Common.{refl}
use Rattle.fs_conn.specs.Playing.{seen}
use Rattle.fs_conn.proofs.SendLemmas.{seen_over, reads_unread}
use Rattle.fs_conn.proofs.NoteLemmas.{adds_same, adds_then, begins_same, ended_adds}
use Rattle.fs_conn.proofs.EndLemmas.{plays_over, wants_memory, fails_over, plays_failed}
use Rattle.fs_conn.proofs.playing.Play.break_off.Goals as goal

pub returns-in-Ok-clause-plays : goal.returns-in-Ok-clause-plays
returns-in-Ok-clause-plays g c =
    let old = seen c.args.self.now in
    let new = seen_over c.args.self.now c.write.new.self in
    let unread = reads_unread c.args.self.now c.write.new.self c.write.ensures.unread in
    λ notes start stops. plays_over notes start old new c.in-Over.end (rw c.in-Over.is at stops) refl c.in-Ok.ensures.clears unread

pub returns-in-Err-clause-plays : goal.returns-in-Err-clause-plays
returns-in-Err-clause-plays g c =
    let old = seen c.args.self.now in
    let mid = seen_over c.args.self.now c.write.new.self in
    let unread = reads_unread c.args.self.now c.write.new.self c.write.ensures.unread in
    let did = c.close_failed.ensures in
    λ notes start stops. plays_failed notes start mid (seen c.close_failed.new.self) c.close_failed.result
    (fails_over notes start old mid c.in-Over.end _ (rw c.in-Over.is at stops) refl c.in-Err.ensures.clears unread) did.closes did.only

pub returns-in-OutOfMemory-clause-plays : goal.returns-in-OutOfMemory-clause-plays
returns-in-OutOfMemory-clause-plays g c =
    let did = c.write-written.ensures in
    λ notes start stops. rw did.unread.input
    (wants_memory notes start (seen c.args.self.now) _ _ c.write-written.result (rw c.in-OutOfMemory.is at stops) did.clears)

pub returns-in-WriteFault-clause-plays : goal.returns-in-WriteFault-clause-plays
returns-in-WriteFault-clause-plays g c =
    let did = c.close_failed-in-WriteFault.ensures in
    λ notes start stops. plays_failed notes start (seen c.args.self.now) (seen c.close_failed-in-WriteFault.new.self)
    c.close_failed-in-WriteFault.result
    (rw c.in-WriteFault.is at stops) did.closes did.only

pub returns-in-Ok-clause-loads : goal.returns-in-Ok-clause-loads
returns-in-Ok-clause-loads g c = λ start first loads.
    ended_adds c.in-Over.end start (seen_over c.args.self.now c.write.new.self)
    (adds_same start (seen c.args.self.now) (seen_over c.args.self.now c.write.new.self) refl (rw c.in-Over.is at loads))

pub returns-in-Err-clause-loads : goal.returns-in-Err-clause-loads
returns-in-Err-clause-loads g c = λ start first loads.
    let mid = seen_over c.args.self.now c.write.new.self in
    ended_adds c.close_failed.result start (seen c.close_failed.new.self)
    (adds_then start mid (seen c.close_failed.new.self) (adds_same start (seen c.args.self.now) mid refl (rw c.in-Over.is at loads))
    c.close_failed.ensures.adds)

pub returns-in-OutOfMemory-clause-loads : goal.returns-in-OutOfMemory-clause-loads
returns-in-OutOfMemory-clause-loads g c = λ start first loads.
    begins_same start (seen c.args.self.now) (seen_over c.args.self.now c.write-written.new.self) refl
    (rw c.in-OutOfMemory.is at loads)

pub returns-in-WriteFault-clause-loads : goal.returns-in-WriteFault-clause-loads
returns-in-WriteFault-clause-loads g c = λ start first loads.
    ended_adds c.close_failed-in-WriteFault.result start (seen c.close_failed-in-WriteFault.new.self)
    (adds_then start (seen c.args.self.now) (seen c.close_failed-in-WriteFault.new.self) (rw c.in-WriteFault.is at loads)
    c.close_failed-in-WriteFault.ensures.adds)
