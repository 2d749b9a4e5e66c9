use Rattle.std.proofs.lemmas.List.{take_rest}
use Rattle.std.proofs.Common.{◌∙◌, ap}
use Rattle.fs_frame.specs.Lines.{lines_of}
use Rattle.fs_frame.specs.Headers.{headers_among}
use Rattle.fs_frame.proofs.CommandLaws.{headers_of-behind}
use Rattle.fs_frame.proofs.block.Block.headers.Goals as goal

pub returns : goal.returns
returns c =
    c.among.ensures ∙ ap (λ bytes. headers_among (lines_of bytes)) (take_rest c.args.self.now.bytes.now c.args.self.now.command.end)
    ∙ headers_of-behind c.args.self.now.bytes.now c.args.self.now.command c.args.self.now.command_is
