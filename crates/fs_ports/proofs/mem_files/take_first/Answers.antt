use Rattle.std.proofs.Common.{sym, ap, ◌∙◌}
use Rattle.std.specs.Prelude.{position}
use Rattle.fs_ports.specs.Memory.{is_named}
use Rattle.fs_ports.proofs.Turns.{removed_at, none_removed}
use Rattle.fs_ports.proofs.mem_files.take_first.Goals as goal

pub returns-in-Some : goal.returns-in-Some
returns-in-Some c =
    let items = c.args.files.now.items in
    let at = sym (c.position_of.ensures ∙ ap (position (is_named c.args.name.now)) c.deref.ensures.value) ∙ c.in-Some.is in
    c.remove.ensures.items ∙ removed_at (is_named c.args.name.now) items c.in-Some.position at

pub returns-in_default : goal.returns-in_default
returns-in_default c =
    let items = c.args.files.now.items in
    let none = sym (c.position_of.ensures ∙ ap (position (is_named c.args.name.now)) c.deref.ensures.value) ∙ c.in_default.is in
    none_removed (is_named c.args.name.now) items none
