use Rattle.std.proofs.Common.{◌∙◌}
use Rattle.fs_ports.proofs.Turns.{bytes_found}
use Rattle.fs_ports.proofs.mem_files.file_bytes.Goals as goal

pub returns : goal.returns
returns c = c.first_bytes.ensures ∙ bytes_found c.args.files.now c.args.name.now
