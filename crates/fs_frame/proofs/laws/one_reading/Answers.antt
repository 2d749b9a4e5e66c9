use Rattle.std.proofs.Common.{sym}
use Rattle.fs_frame.proofs.FormLaws.{line_of-head, headers_of-head}
use Rattle.fs_frame.proofs.BodyLaws.{line_of-block, headers_of-block, body_of-block}
use Rattle.fs_frame.proofs.BlockLaws.{splits, blocks_of-splits, rest_of-splits}
use Rattle.fs_frame.proofs.laws.one_reading.Goals as goal

pub returns-clause-some : goal.returns-clause-some
returns-clause-some c stream = splits stream

pub returns-clause-only : goal.returns-clause-only
returns-clause-only c stream rest blocks split =
    (sym (blocks_of-splits stream rest blocks split), sym (rest_of-splits stream rest blocks split))

pub returns-clause-line : goal.returns-clause-line
returns-clause-line c bytes head = line_of-head bytes head

pub returns-clause-headers : goal.returns-clause-headers
returns-clause-headers c bytes head = headers_of-head bytes head

pub returns-clause-parts : goal.returns-clause-parts
returns-clause-parts c bytes block = (line_of-block bytes block, headers_of-block bytes block, body_of-block bytes block)
