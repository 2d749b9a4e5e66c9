use Rattle.fs_vars.proofs.ExpansionLemmas.{escape_taken}
use Rattle.fs_vars.proofs.pieces.Pieces.take_escaped.Goals as goal

pub returns : goal.returns
returns c = escape_taken c.args.self.now c.take-escaped.new.self c.take-escaped.ensures.rest c.requires
