use Rattle.std.proofs.Common.{[]}
use Rattle.fs_event.specs.Texts.{plain, frame}
use Rattle.fs_event.proofs.LineLemmas.{taking_lines}
use Rattle.fs_state.specs.Drafts.{drafted}
use Rattle.fs_state.specs.Posting as spec
use Rattle.fs_state.proofs.draft.Draft.frame.Goals as goal

pub returns : goal.returns
unfolding spec.telling_of plain frame
returns c =
    let headers = spec.headers_of c.args.self.now.base (drafted c.args.self.now) c.args.number c.args.event.now in
    rw (c.in_ok-end.ensures, c.body.ensures, c.in_ok-tell_headers.ensures, c.clear.ensures, taking_lines headers []) at c.frame.ensures
