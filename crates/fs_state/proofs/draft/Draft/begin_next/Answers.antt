use Rattle.std.proofs.Common.{◌≡◌, Some, ap, ◌∙◌}
use Rattle.std.proofs.lemmas.Result.{on_ok_weaker}
use Rattle.fs_text.specs.declared.event_names.EventName.TheVariants.{ChannelExecute}
use Rattle.fs_chan.specs.declared.action.Action.{Action}
use Rattle.fs_state.specs.Drafts.{drafted}
use Rattle.fs_state.specs.Switch.{Switch, with_event}
use Rattle.fs_state.specs.Moves.{application_event}
use Rattle.fs_state.proofs.MoveLemmas.{begun_next}
use Rattle.fs_state.proofs.draft.Draft.begin_next.Goals as goal

pub returns : goal.returns
returns c =
    let action = c.args.action in
    let slot = c.args.slot in
    let told = λ (a : Action) (s : Switch). with_event (application_event ChannelExecute (Some a) slot) s in
    let next : drafted c.set_next.new.self ≡ _ = c.in_ok-set_next.ensures.1 ∙ begun_next action slot (drafted c.args.self.now) in (
      c.tell_application.ensures.0 ∙ c.set_next.ensures.0,
      on_ok_weaker c.tell_application.result
          (λ e. e ∙ ap (λ (a : Action). told a (drafted c.set_next.new.self)) c.in_ok-told.ensures ∙ ap (told action) next)
          c.tell_application.ensures.1,
    )
