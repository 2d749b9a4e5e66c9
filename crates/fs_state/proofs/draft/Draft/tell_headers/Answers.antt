use Rattle.std.proofs.Common.{◌++◌, ◌∙◌, ap}
use Rattle.fs_text.specs.Headers.{taking, with_values}
use Rattle.fs_text.proofs.TakingLemmas.{taking_append}
use Rattle.fs_state.specs.Drafts.{drafted}
use Rattle.fs_state.specs.Posting as spec
use Rattle.fs_state.proofs.draft.Draft.tell_headers.Goals as goal

pub returns : goal.returns
unfolding spec.headers_of
returns g c =
    let taken = g.S.HeaderSink.taken in
    let base = c.args.self.now.base in
    let s = drafted c.args.self.now in
    let event = c.args.event.now in
    let names = spec.name_headers event.name (spec.subclass_in event.detail) in
    let switch = spec.switch_headers s c.args.number in
    let chan = spec.headers_of_chan (spec.subject_told base s event.subject) in
    let detail = with_values (spec.detail_headers base s event.subject event.detail) in
    rw (taking_append taken ((names ++ switch) ++ chan) detail c.args.sink.now
    ∙ ap (taking taken detail)
    (taking_append taken (names ++ switch) chan c.args.sink.now
    ∙ ap (taking taken chan) (taking_append taken names switch c.args.sink.now)))
    (rw (c.in_ok-tell_subject.ensures, c.in_ok-tell_switch.ensures, c.in_ok-tell_name.ensures, c.subclass.ensures) at
    c.tell_detail.ensures)
