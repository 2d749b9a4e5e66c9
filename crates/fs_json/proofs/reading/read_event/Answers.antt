use Rattle.std.proofs.Common.{sym, rules}
use Rattle.fs_json.proofs.ReadLemmas.{value_is_read, nothing_is_read}
use Rattle.fs_json.proofs.reading.read_event.Goals as goal

pub returns-in-Ok : goal.returns-in-Ok
returns-in-Ok c = rw (value_is_read c.args.text.now _ c.in-Ok.ensures.ok.0 c.in-Ok.ensures.ok.1) c.strings_in.ensures

pub returns-in-Err-2 : goal.returns-in-Err-2
returns-in-Err-2 c = sym (nothing_is_read c.args.text.now (c.in-Err.ensures.err (search rules)))
