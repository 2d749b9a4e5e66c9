use Rattle.std.proofs.Common.{List, map, sym, subst, inl}
use Rattle.fs_machine.specs.declared.entry.Entry.{Entry}
use Rattle.fs_top.specs.Dials.{vain_dials, AreBounded}
use Rattle.fs_top.specs.Serving.{no_machine}
use Rattle.fs_top.proofs.ReloadLemmas.{either_noted}
use Rattle.fs_top.proofs.ServeLaws.{is_nothing}
use Rattle.fs_top.proofs.serving.serve_machine.Goals as goal

pub returns-in-Err-clause-serves : goal.returns-in-Err-clause-serves
returns-in-Err-clause-serves g c =
    let nothing = c.without_memory-in-Err.ensures in
    no_machine nothing.course (is_nothing _ _ _ nothing.journal nothing.conns nothing.dialers)

pub returns-in-Ok-serve_book-clause-dialers : goal.returns-in-Ok-serve_book-clause-dialers
returns-in-Ok-serve_book-clause-dialers g c =
    let faults = g.O.Dialer.dial_faults in
    let from = faults c.args.dialer.now in
    let journal = c.in-Ok-serve_book.machine.journal in
    subst (λ (log : List Entry). AreBounded (λ slot. vain_dials slot log) from (map faults c.conclude.result.dialers.items))
    (sym c.conclude.ensures.journal)
    (subst (λ ds. AreBounded (λ slot. vain_dials slot journal) from (map faults ds)) (sym c.conclude.ensures.dialers)
    c.in-Ok-serve_book.ensures.dialers)

pub returns-in-Ok-serve_book-clause-loads : goal.returns-in-Ok-serve_book-clause-loads
returns-in-Ok-serve_book-clause-loads g c =
    either_noted _ _ _ _ c.conclude.ensures.journal c.in-Ok-serve_book.ensures.loads

pub returns-in-Err-clause-loads : goal.returns-in-Err-clause-loads
returns-in-Err-clause-loads g c = inl c.without_memory-in-Err.ensures.journal
