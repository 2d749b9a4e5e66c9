use Rattle.std.proofs.Common.{◌++◌, arith}
use Rattle.fs_state.specs.Waiting.{gifts_of_posts}
use Rattle.fs_state.proofs.MailLemmas.{frames_waiting}
use Rattle.fs_state.proofs.OutboxLemmas.{given_append}
use Rattle.fs_state.proofs.delta.Delta.frames_given.Goals as goal

pub returns : goal.returns
returns c =
    let d = c.args.self.now in
    let posted = gifts_of_posts d.posted in
    omega (
      arith,
      c.saturating_add.ensures,
      c.saturating_add-posted.ensures,
      c.saturating_add-behind.ensures,
      c.frames.ensures,
      c.frames-2.ensures,
      c.frames-3.ensures,
      c.frames-4.ensures,
      frames_waiting d.posted.events d.posted.lists,
      given_append d.replies (posted ++ (d.late ++ d.notices)),
      given_append posted (d.late ++ d.notices),
      given_append d.late d.notices,
    )
