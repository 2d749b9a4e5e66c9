use Rattle.std.proofs.Common.{sym, ◌∙◌}
use Rattle.fs_top.proofs.CompleteLaws.{serves_well}
use Rattle.fs_top.proofs.ReloadLemmas.{either_counted}
use Rattle.fs_top.proofs.ServeLaws.{serves_headline, serves_shut, serves_document, serves_unread_file, serves_door, serves_full, serves_codes}
use Rattle.fs_top.proofs.serving.serve_with.Goals as goal

pub returns-clause-headline : goal.returns-clause-headline
returns-clause-headline g c = rw c.status-code.ensures (rw c.file_of-name.ensures at (serves_headline _ _ _ _ _ _ _ _ _ _ _ _ _ _ _ c.serve_file-ran.ensures.serves))

pub returns-clause-shutdown : goal.returns-clause-shutdown
returns-clause-shutdown g c =
    λ nought.
    rw c.file_of-name.ensures at (serves_shut _ _ _ _ _ _ _ _ _ _ _ _ _ _ _ c.serve_file-ran.ensures.serves (sym c.status-code.ensures ∙ nought))

pub returns-clause-document : goal.returns-clause-document
returns-clause-document g c =
    λ three.
    rw c.file_of-name.ensures at (serves_document _ _ _ _ _ _ _ _ _ _ _ _ _ _ _ c.serve_file-ran.ensures.serves (sym c.status-code.ensures ∙ three))

pub returns-clause-unreadable : goal.returns-clause-unreadable
returns-clause-unreadable g c =
    λ four.
    rw c.file_of-name.ensures at (serves_unread_file _ _ _ _ _ _ _ _ _ _ _ _ _ _ _ c.serve_file-ran.ensures.serves (sym c.status-code.ensures ∙ four))

pub returns-clause-door : goal.returns-clause-door
returns-clause-door g c =
    λ seven.
    rw c.file_of-name.ensures at (serves_door _ _ _ _ _ _ _ _ _ _ _ _ _ _ _ c.serve_file-ran.ensures.serves (sym c.status-code.ensures ∙ seven))

pub returns-clause-full : goal.returns-clause-full
returns-clause-full g c =
    λ eight.
    rw c.file_of-name.ensures at (serves_full _ _ _ _ _ _ _ _ _ _ _ _ _ _ _ c.serve_file-ran.ensures.serves (sym c.status-code.ensures ∙ eight))

pub returns-clause-codes : goal.returns-clause-codes
returns-clause-codes g c = rw c.status-code.ensures (serves_codes _ _ _ _ _ _ _ _ _ _ _ _ _ _ _ c.serve_file-ran.ensures.serves)

pub returns-clause-complete : goal.returns-clause-complete
returns-clause-complete g c = λ config servable none.
    let serves = c.serve_file-ran.ensures.serves in
    rw c.status-code.ensures
    (serves_well _ _ _ _ _ _ _ _ _ (rw c.file_of-name.ensures at (serves_document _ _ _ _ _ _ _ _ _ _ _ _ _ _ _ serves))
    (rw c.file_of-name.ensures at (serves_unread_file _ _ _ _ _ _ _ _ _ _ _ _ _ _ _ serves))
    (rw c.file_of-name.ensures at (serves_door _ _ _ _ _ _ _ _ _ _ _ _ _ _ _ serves)) config servable none
    (serves_codes _ _ _ _ _ _ _ _ _ _ _ _ _ _ _ serves))

pub returns-clause-loads : goal.returns-clause-loads
returns-clause-loads g c = rw c.file_of-name.ensures at c.serve_file-ran.ensures.loads

pub returns-clause-counted : goal.returns-clause-counted
returns-clause-counted g c = rw c.file_of-name.ensures at (either_counted _ _ _ c.serve_file-ran.ensures.loads)
