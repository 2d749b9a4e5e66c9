use Rattle.std.proofs.Common.{refl}
use Rattle.fs_book.specs.Passes.{seen, mine, met, opening_state}
use Rattle.fs_machine.specs.Turned.{configured}
use Rattle.fs_conn.proofs.OwnerLemmas.{owns_on, owns_entered, entered_by, refused_by}
use Rattle.fs_conn.proofs.owner.enter.Goals as goal

pub returns-in-Ok-clause-owns : goal.returns-in-Ok-clause-owns
returns-in-Ok-clause-owns g c =
    owns_entered (configured (opening_state c.args.book.now)) c.args.conn _ _ _ _ c.in-Ok.receipt.place c.in-Ok.ensures.later
    c.in-Ok.ensures.ok.4 c.requires.owns

pub returns-in-Ok-clause-ok : goal.returns-in-Ok-clause-ok
returns-in-Ok-clause-ok g c =
    let old = c.args.pass.now in
    let new = c.submit.new.pass in
    let ok = c.in-Ok.ensures.ok in
    entered_by (configured (opening_state c.args.book.now)) c.args.conn _ new.seat.me.0.start (mine old) (mine new) (met new) (seen old)
    (seen new) ok.0 c.now-moment.result c.args.act c.in-Ok.receipt.place c.in-Ok.receipt.answer.reply c.submit.ensures.book.1 c.now-moment.ensures ok.1 ok.2 ok.3
    ok.4 ok.5.tells.answers (old.sound.places 0 (mine old) refl) new.sound.owned c.requires.owns

pub returns-in-Ok-clause-stands : goal.returns-in-Ok-clause-stands
returns-in-Ok-clause-stands g c =
    let ok = c.in-Ok.ensures.ok in
    rw (← ok.2) at ok.5.tells.stands

pub returns-in-Err-Step-clause-owns : goal.returns-in-Err-Step-clause-owns
returns-in-Err-Step-clause-owns g c =
    let err = rw c.in-Err-Step.field-0-is at c.in-Err-Step.ensures.err in
    owns_on (configured (opening_state c.args.book.now)) c.args.conn _ _ _ _ c.in-Err-Step.ensures.later err.0 c.requires.owns

pub returns-in-Err-Step-clause-err : goal.returns-in-Err-Step-clause-err
returns-in-Err-Step-clause-err g c =
    let old = c.args.pass.now in
    let new = c.submit.new.pass in
    let err = rw c.in-Err-Step.field-0-is at c.in-Err-Step.ensures.err in
    refused_by (configured (opening_state c.args.book.now)) c.args.conn new.seat.me.0.start (mine old) (mine new) (met new) (seen old)
    (seen new) c.now-moment.result c.args.act c.in-Err-Step.refusal c.submit.ensures.book.1 c.submit.ensures.later err.0 err.1
    (old.sound.places 0 (mine old) refl) new.sound.owned c.requires.owns
