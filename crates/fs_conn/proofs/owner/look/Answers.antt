use Rattle.std.proofs.Common.{refl}
use Rattle.fs_book.specs.Passes.{seen, mine, met, opening_state}
use Rattle.fs_machine.specs.Turned.{configured}
use Rattle.fs_conn.proofs.OwnerLemmas.{owns_on, quiet_by}
use Rattle.fs_conn.proofs.owner.look.Goals as goal

pub returns-clause-owns : goal.returns-clause-owns
returns-clause-owns g c =
    owns_on (configured (opening_state c.args.book.now)) c.args.conn _ _ _ _ c.look.ensures.later c.look.ensures.kept.0 c.requires.owns

pub returns-clause-quiet : goal.returns-clause-quiet
returns-clause-quiet g c =
    let old = c.args.pass.now in
    let new = c.look.new.pass in
    quiet_by (configured (opening_state c.args.book.now)) c.args.conn new.seat.me.0.start (mine old) (mine new) (met new) (seen old)
    (seen new) c.look.ensures.book.1 c.look.ensures.later c.look.ensures.kept.0 (old.sound.places 0 (mine old) refl) new.sound.owned
    c.requires.owns
