use Rattle.std.proofs.Common.{◌∙◌, ap, length, unwrap_or}
use Rattle.fs_replay.specs.Reading.{is_other}
use Rattle.fs_replay.proofs.Mirrors.{first_or_end}
use Rattle.fs_replay.proofs.reader.digits_len.Goals as goal

pub returns-clause-len : goal.returns-clause-len
returns-clause-len c = c.unwrap_or.ensures ∙ ap (λ o. unwrap_or o (length c.args.bytes.now)) c.first_other.ensures ∙ first_or_end is_other c.args.bytes.now
