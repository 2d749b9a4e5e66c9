use Rattle.std.proofs.Common.{◌∷◌, sym, List, subst}
use Rattle.fs_book.specs.Passes.{seen, mine, met, opening_state}
use Rattle.fs_machine.specs.Turned.{configured}
use Rattle.fs_top.specs.Dials.{is_in_vain, vain_dials, vain_in}
use Rattle.fs_top.specs.Doors.{Rose}
use Rattle.fs_top.specs.Lanes.{MayEnter}
use Rattle.fs_top.specs.Reloading.{NotesLoads}
use Rattle.fs_conn.specs.Play.{noted}
use Rattle.fs_machine.specs.declared.entry.Entry.{Entry}
use Rattle.fs_top.proofs.ReloadLemmas.{notes_whole}
use Rattle.fs_top.proofs.GatherLemmas.{headline}
use Rattle.fs_top.proofs.PlaceLemmas.{count_whole}
use Rattle.fs_top.proofs.VainLemmas.{bounded_as}
use Rattle.fs_top.proofs.gathering.close.Goals as goal

pub returns-clause-headline : goal.returns-clause-headline
returns-clause-headline g c = λ from to keeps.
    headline g.L.Port.input g.L.Port.output (MayEnter (g.C.Clock.tells c.args.clock.now) (Rose from to))
    (configured (opening_state c.args.book)) (seen c.args.pass) (mine c.args.pass ∷ met c.args.pass) c.args.conns.now.items
    c.close.ensures.lists keeps

pub returns-clause-bounded : goal.returns-clause-bounded
returns-clause-bounded g c = λ from counts.
    let lists = mine c.args.pass ∷ met c.args.pass in
    bounded_as (λ slot. vain_in slot (seen c.args.pass) lists) (λ slot. vain_dials slot (seen c.args.pass)) from counts
    (λ slot. sym (count_whole (is_in_vain slot) (seen c.args.pass) lists c.close.ensures.lists))

pub returns-clause-loads : goal.returns-clause-loads
returns-clause-loads g c = λ first last notes.
    subst (λ (log : List Entry). NotesLoads first last (noted log)) (sym c.close.ensures.journal)
    (notes_whole (seen c.args.pass) (mine c.args.pass ∷ met c.args.pass) first last c.close.ensures.lists notes)
