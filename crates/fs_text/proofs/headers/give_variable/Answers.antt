use Rattle.std.proofs.Common.{sym, ◌∙◌}
use Rattle.fs_text.proofs.headers.give_variable.Goals as goal

pub returns : goal.returns
returns g c = rw (sym c.is_empty.ensures ∙ c.if-is_empty.false) c.put_variable.ensures
