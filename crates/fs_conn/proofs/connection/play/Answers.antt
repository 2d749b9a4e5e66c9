use Rattle.std.proofs.Common.{rules, ap, sym, ◌∙◌}
use Rattle.fs_conn.specs.Play.{noted}
use Rattle.fs_conn.specs.Playing.{Lent}
use Rattle.fs_conn.specs.Wired.{Wired}
use Rattle.fs_conn.proofs.EndLemmas.{wants_first}
use Rattle.fs_conn.proofs.NoteLemmas.{loads_first}
use Rattle.fs_conn.proofs.connection.play.Goals as goal

pub returns-in-Err-clause-plays : goal.returns-in-Err-clause-plays
returns-in-Err-clause-plays g c = wants_first (noted c.args.machine.now.journal) c.args.machine.now.config _ _ _ c.requires.begun

pub returns-in-Err-clause-loads : goal.returns-in-Err-clause-loads
returns-in-Err-clause-loads g c = loads_first _ _ c.requires.begun

pub returns-clause-config : goal.returns-clause-config
returns-clause-config g c =
    let machine = sym (ap (λ (l : Lent). l.machine) c.whole-end.ensures.lent) in
    grind (machine, c.whole-end.ensures.config, rules)

pub returns-clause-plays : goal.returns-clause-plays
returns-clause-plays g c =
    let machine = sym (ap (λ (l : Lent). l.machine) c.whole-end.ensures.lent) in
    let link = sym (ap (λ (w : Wired). w.link) c.wire.view_is ∙ ap (λ (l : Lent). l.link) c.whole-end.ensures.lent) in
    grind (machine, link, c.wire.view_is, c.whole-end.ensures.plays, rules)

pub returns-clause-loads : goal.returns-clause-loads
returns-clause-loads g c =
    let machine = sym (ap (λ (l : Lent). l.machine) c.whole-end.ensures.lent) in
    let files = sym (ap (λ (l : Lent). l.files) c.whole-end.ensures.lent) in
    let name = sym (ap (λ (l : Lent). l.name) c.whole-end.ensures.lent) in
    grind (machine, files, name, c.whole-end.ensures.loads, rules)
