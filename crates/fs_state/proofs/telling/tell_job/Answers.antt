use Rattle.fs_text.proofs.TakingLemmas.{given_is}
use Rattle.fs_state.specs.Posting as spec
use Rattle.fs_state.proofs.telling.tell_job.Goals as goal

pub returns : goal.returns
returns g c =
    rw (← given_is g.S.HeaderSink.taken (spec.job_headers c.args.job.now) c.args.sink.now)
    (rw (
      c.in_ok-give-2.ensures,
      c.in_ok-give.ensures,
      c.cut_word.ensures.word,
      c.cut_word.ensures.behind,
      c.without_spaces.ensures,
      c.as_bytes.ensures,
      c.as_bytes-2.ensures,
    ) at c.give-3.ensures)
