use Rattle.std.proofs.Common.{◌∷◌, Some, ap, sym, ◌∙◌, subst}
use Rattle.fs_book.specs.Opened.{Owned}
use Rattle.fs_book.specs.Passes.{mine, met}
use Rattle.fs_book.proofs.Stages.{idle_of, Some_is}
use Rattle.fs_book.proofs.Keeps.{closes}
use Rattle.fs_book.proofs.book.Book.close.Goals as goal

pub unreachable-requires : goal.unreachable-requires
unreachable-requires g c =
    let state =
    closes g.M.Turned.start g.M.Turned.journal g.M.Turned.opens g.M.Turned.names g.met.M.Turned.opens_once _ _ _ _ _ _
    (idle_of _ c.args.pass.no_ticket) c.requires.whole c.close_with-closed.ensures.values.2 c.take-slot.ensures.value in
    c.in_default.not-Some state.0 state.1

pub returns-clause-start : goal.returns-clause-start
returns-clause-start g c =
    let state =
    closes g.M.Turned.start g.M.Turned.journal g.M.Turned.opens g.M.Turned.names g.met.M.Turned.opens_once _ _ _ _ _ _
    (idle_of _ c.args.pass.no_ticket) c.requires.whole c.close_with-closed.ensures.values.2 c.take-slot.ensures.value in
    ap g.M.Turned.start (Some_is _ _ (sym c.in-Some.is ∙ state.1)) ∙ state.2

pub returns-clause-journal : goal.returns-clause-journal
returns-clause-journal g c =
    let state =
    closes g.M.Turned.start g.M.Turned.journal g.M.Turned.opens g.M.Turned.names g.met.M.Turned.opens_once _ _ _ _ _ _
    (idle_of _ c.args.pass.no_ticket) c.requires.whole c.close_with-closed.ensures.values.2 c.take-slot.ensures.value in
    ap g.M.Turned.journal (Some_is _ _ (sym c.in-Some.is ∙ state.1)) ∙ state.3

pub returns-clause-lists : goal.returns-clause-lists
returns-clause-lists g c =
    let state =
    closes g.M.Turned.start g.M.Turned.journal g.M.Turned.opens g.M.Turned.names g.met.M.Turned.opens_once _ _ _ _ _ _
    (idle_of _ c.args.pass.no_ticket) c.requires.whole c.close_with-closed.ensures.values.2 c.take-slot.ensures.value in
    state.4

pub returns-clause-owned : goal.returns-clause-owned
returns-clause-owned g c =
    let state =
    closes g.M.Turned.start g.M.Turned.journal g.M.Turned.opens g.M.Turned.names g.met.M.Turned.opens_once _ _ _ _ _ _
    (idle_of _ c.args.pass.no_ticket) c.requires.whole c.close_with-closed.ensures.values.2 c.take-slot.ensures.value in
    let same = Some_is _ _ (sym c.in-Some.is ∙ state.1) in
    let started = c.requires.book.1 ∙ ap Some (sym (ap g.M.Turned.start same ∙ state.2)) in
    subst (λ log. Owned g.M.Turned.opens g.M.Turned.names (Some (g.M.Turned.start c.in-Some.state))
    (mine c.args.pass ∷ met c.args.pass) log) (sym (ap g.M.Turned.journal same ∙ state.3))
    (subst (λ start. Owned g.M.Turned.opens g.M.Turned.names start (mine c.args.pass ∷ met c.args.pass) c.args.pass.seat.me.0.seen) started
    c.args.pass.sound.owned)
