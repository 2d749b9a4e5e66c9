use Rattle.std.proofs.Common.{◌≡◌, true, false, List, sym, ap, ◌∙◌}
use Rattle.std.specs.List.{list_any}
use Rattle.fs_machine.specs.declared.entry.Entry.{Entry}
use Rattle.fs_top.specs.Headline as headline
use Rattle.fs_top.proofs.ServeLaws.{shut_down, halted_down}
use Rattle.fs_top.proofs.serving.course_of_stop.Goals as goal

pub returns-then-has_halt : goal.returns-then-has_halt
returns-then-has_halt c =
    let machine = c.args.machine.now in
    let halted : list_any headline.is_halt machine.journal ≡ true =
    ap (λ (entries : List Entry). list_any headline.is_halt entries) (sym (c.entries.ensures ∙ c.journal.ensures))
    ∙ sym c.if-has_halt.ensures in
    (c.requires.free, (halted, halted_down machine.config machine.journal c.requires.run c.requires.settled c.requires.free halted))

pub returns-else-has_halt : goal.returns-else-has_halt
returns-else-has_halt c =
    let machine = c.args.machine.now in
    let unhalted : list_any headline.is_halt machine.journal ≡ false =
    ap (λ (entries : List Entry). list_any headline.is_halt entries) (sym (c.entries.ensures ∙ c.journal.ensures))
    ∙ sym c.if-has_halt.ensures in
    (c.requires.free, (unhalted, shut_down machine.config machine.journal c.requires.settled c.requires.free unhalted))
