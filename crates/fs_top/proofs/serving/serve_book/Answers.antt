use Rattle.std.proofs.Common.{List, map, sym, subst}
use Rattle.fs_machine.specs.declared.entry.Entry.{Entry}
use Rattle.fs_top.specs.Dials.{vain_dials, AreBounded}
use Rattle.fs_top.proofs.ServeLaws.{ends_closed}
use Rattle.fs_top.proofs.serving.serve_book.Goals as goal

pub returns-clause-ends : goal.returns-clause-ends
returns-clause-ends g c =
    ends_closed _ _ _ _ _ _ _ _ _ _ c.close-machine.ensures.config c.close-machine.ensures.journal
    (c.close-machine.ensures.headline _ _ c.in_ok-gathered.ensures.keeps) c.in_ok-gathered.ensures.settled

pub returns-clause-dialers : goal.returns-clause-dialers
returns-clause-dialers g c =
    let from = g.O.Dialer.dial_faults c.args.dialer.now in
    let counts = map g.O.Dialer.dial_faults c.in_ok-gathered.gathered.dialers.items in
    subst (λ (log : List Entry). AreBounded (λ slot. vain_dials slot log) from counts) (sym c.close-machine.ensures.journal)
    (c.close-machine.ensures.bounded from counts c.in_ok-gathered.ensures.bounded)

pub returns-clause-loads : goal.returns-clause-loads
returns-clause-loads g c = c.close-machine.ensures.loads _ _ c.in_ok-gathered.ensures.loads
