use Rattle.std.proofs.Common.{arith, ap, ◌∙◌, length, Some}
use Rattle.std.proofs.lemmas.List.{length-take}
use Rattle.fs_ports.specs.Memory.{load_behind}
use Rattle.fs_ports.proofs.Turns.{answers_move_on}
use Rattle.fs_ports.proofs.mem_files.MemFilesFiles.load.Goals as goal

pub returns-then-contains-clause-rest : goal.returns-then-contains-clause-rest
returns-then-contains-clause-rest c = λ behind.
    ap (λ shelf. Some (load_behind shelf c.args.name.now behind)) (c.self-then-contains.view_is ∙ c.move_on.ensures)
    ∙ ap Some (answers_move_on c.args.self.now c.args.name.now behind)

pub returns-in_default-clause-rest : goal.returns-in_default-clause-rest
returns-in_default-clause-rest c = λ behind.
    ap (λ shelf. Some (load_behind shelf c.args.name.now behind)) (c.self-in_default.view_is ∙ c.move_on-in_default.ensures)
    ∙ ap Some (answers_move_on c.args.self.now c.args.name.now behind)

pub returns-clause-rest : goal.returns-clause-rest
returns-clause-rest c = λ behind.
    ap (λ shelf. Some (load_behind shelf c.args.name.now behind)) c.move_on-2.ensures
    ∙ ap Some (answers_move_on c.args.self.now c.args.name.now behind)

pub returns-clause-counts : goal.returns-clause-counts
returns-clause-counts c =
    (omega (arith, ap length c.in_ok-front.ensures, length-take 1048577 c.in-Some.bytes.now), ap (λ f. f.counts) c.move_on-2.ensures)
