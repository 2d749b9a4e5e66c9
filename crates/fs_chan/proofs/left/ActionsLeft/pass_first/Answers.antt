use Rattle.std.proofs.Common.{[], drop, option_map, unwrap_or, sym, ap, ◌∙◌}
use Rattle.std.specs.Arc.{arc_slice_items}
use Rattle.std.proofs.lemmas.List.{drop-drop}
use Rattle.fs_chan.proofs.left.ActionsLeft.pass_first.Goals as goal

pub returns-then-self-len : goal.returns-then-self-len
returns-then-self-len c =
    let items = unwrap_or (option_map arc_slice_items c.self.inside.all) [] in
    sym (drop-drop 1 c.self.inside.done items) ∙ ap (drop 1) c.self.view_is
