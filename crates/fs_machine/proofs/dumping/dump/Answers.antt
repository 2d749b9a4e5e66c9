use Rattle.std.proofs.Common.{◌≡◌, IfOk, subst}
use Rattle.fs_text.specs.Texts.{Text}
use Rattle.fs_chan.specs.Headers.{channel_headers}
use Rattle.fs_state.specs.Posting.{variable_headers}
use Rattle.fs_machine.proofs.DumpLemmas.{lines_taken}
use Rattle.fs_machine.proofs.dumping.dump.Goals as goal

pub returns : goal.returns
returns c =
    subst (λ (whole : Text). IfOk c.into_text.result (λ t. t ≡ whole))
    (lines_taken (channel_headers c.args.chan.now) (variable_headers c.args.chan.now.vars) c.tell_in.new.sink c.tell_variables.new.sink
    (rw c.in_ok-text.ensures at c.in_ok-tell_in.ensures) (rw c.deref.ensures at c.in_ok-tell_variables.ensures))
    c.into_text.ensures
