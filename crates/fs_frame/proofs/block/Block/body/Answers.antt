use Rattle.std.proofs.lemmas.List.{take_rest}
use Rattle.std.proofs.Common.{◌∙◌, ap}
use Rattle.fs_frame.specs.Front.{behind_end}
use Rattle.fs_frame.proofs.CommandLaws.{body_of-behind}
use Rattle.fs_frame.proofs.block.Block.body.Goals as goal

pub returns : goal.returns
returns c =
    c.behind_empty.ensures ∙ ap behind_end (take_rest c.args.self.now.bytes.now c.args.self.now.command.end)
    ∙ body_of-behind c.args.self.now.bytes.now c.args.self.now.command c.args.self.now.command_is
