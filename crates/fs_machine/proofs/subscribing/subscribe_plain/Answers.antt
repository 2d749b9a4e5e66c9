use Rattle.std.proofs.Common.{◌≡◌, OnOk, ap, subst, ◌∙◌}
use Rattle.fs_cmd.specs.Frames.{event_enabled}
use Rattle.fs_filter.specs.Asked.{asked_in}
use Rattle.fs_filter.specs.Subscriptions.{subscribed}
use Rattle.fs_state.specs.Drafts.{drafted}
use Rattle.fs_state.specs.Switch.{Switch}
use Rattle.fs_machine.proofs.AskingLemmas.{told_as}
use Rattle.fs_machine.proofs.subscribing.subscribe_plain.Goals as goal

pub returns : goal.returns
unfolding event_enabled
returns c =
    let asked = asked_in c.args.names.now in
    let changed = c.in_ok-known.ensures.ok ∙ ap (subscribed asked) c.in_ok-subs.ensures in
    let before = drafted c.args.draft.now in
    let text = c.text_if-text.result.now in
    let P : Switch → Type 0 = λ s. OnOk c.change_subs.result (drafted c.change_subs.new.draft ≡ s) in (
      c.change_subs.ensures.0,
      subst P
          (told_as (subscribed asked) asked c.in_ok-known.known c.args.conn before c.subscribe.new.self text event_enabled changed
          c.in_ok-known.ensures.known c.text_if-text.ensures)
          c.change_subs.ensures.1,
    )
