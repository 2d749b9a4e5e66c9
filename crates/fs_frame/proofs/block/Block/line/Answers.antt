use Rattle.fs_frame.specs.Block.{line_of}
use Rattle.fs_frame.proofs.block.Block.line.Goals as goal

pub returns : goal.returns
unfolding line_of
returns c = c.args.self.now.command_is.text
