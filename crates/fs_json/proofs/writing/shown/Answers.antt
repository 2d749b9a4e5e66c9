use Rattle.std.proofs.Common.{ap, sym, ◌∙◌}
use Rattle.serde_json.specs.Data.{string}
use Rattle.fs_json.proofs.ShownLemmas.{shown_as_it_is, shown_escaped}
use Rattle.fs_json.proofs.writing.shown.Goals as goal

pub returns-in_ok-try_from_str-in-Ok : goal.returns-in_ok-try_from_str-in-Ok
returns-in_ok-try_from_str-in-Ok c =
    let cases = c.in-Ok.ensures.cases in
    c.in_ok-try_from_str-in-Ok.ensures ∙ ap string (cases.0 ∙ sym (shown_as_it_is _ cases.1))

pub returns-in-Err : goal.returns-in-Err
returns-in-Err c = rw (shown_escaped _ c.in-Err.ensures.cases.0) c.escaped.ensures
