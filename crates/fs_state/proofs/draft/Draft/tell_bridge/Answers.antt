use Rattle.fs_text.proofs.TakingLemmas.{given_is}
use Rattle.fs_state.specs.Drafts.{drafted}
use Rattle.fs_state.specs.Posting as spec
use Rattle.fs_state.proofs.draft.Draft.tell_bridge.Goals as goal

pub returns : goal.returns
returns g c =
    rw (
    ← given_is g.S.HeaderSink.taken (spec.bridge_headers c.args.self.now.base (drafted c.args.self.now) c.args.row) c.args.sink.now
    )
    (rw (
      c.in_ok-give-2.ensures,
      c.in_ok-give.ensures,
      c.uuid_told.ensures,
      c.uuid_told-2.ensures,
      c.as_bytes.ensures.value,
      c.format.ensures.text,
    ) at c.give-3.ensures)
