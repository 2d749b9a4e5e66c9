-- In every run an entry that tells the end of a bridge has let go of both legs.
use Rattle.std.proofs.Common.{◌≡◌, ℕ, ◌+◌, List, [], ◌∷◌, ◌++◌, None, ◌⊎◌, inl, inr, refl, sym, subst}
use Rattle.fs_text.specs.declared.causes.Cause.{Cause}
use Rattle.fs_doc.specs.Limits.{IsWithin}
use Rattle.fs_doc.specs.Reading.{Configuration}
use Rattle.fs_bridge.specs.Hangups.{IsOneOf}
use Rattle.fs_chan.specs.declared.chan.Chan.{Chan}
use Rattle.fs_seats.specs.Seats.{held_in}
use Rattle.fs_seats.proofs.HeldLemmas.{nothing_held}
use Rattle.fs_state.specs.declared.event.Event.{Event}
use Rattle.fs_state.specs.Switch.{Switch, empty, at_moment}
use Rattle.fs_machine.specs.declared.entry.Entry.{Entry}
use Rattle.fs_machine.specs.Events.{events_by}
use Rattle.fs_machine.specs.FirstEnds.{IsJoinedSince, IsLetGo, EndsAreRecorded}
use Rattle.fs_machine.specs.Step.{act_done, step}
use Rattle.fs_machine.specs.Runs.{run_from, IsRunFrom}
use Rattle.fs_machine.proofs.ActWalk.{acted_kept}
use Rattle.fs_machine.proofs.RunLemmas.{run_more}
use Rattle.fs_machine.proofs.FramesLaws.{run_front}
use Rattle.fs_machine.proofs.StandingLemmas.{Standing, standing_empty, standing_step, standing_run}
use Rattle.fs_machine.proofs.LetGoLemmas.{LimitedIn, Limited, Tells}
use Rattle.fs_machine.proofs.LetGoMoves.{NoEnds, Freed, EndedIn, ending_moves}

-- no event is left in hand, and the variables of all channels keep their limits
record IsQuiet (s : Switch) : Type 0 where
  over : s.news ≡ []
  limits : Limited s.channels

-- an event of none
none_told : (news : List Event) → news ≡ [] → NoEnds news
none_told news over row cause event one is = subst (IsOneOf event) over one

-- what an entry does
acted_ends : (entry : Entry) (s : Switch) → Standing s → IsQuiet s →
    EndedIn (at_moment entry.moment s) (act_done entry.act (at_moment entry.moment s)).state.channels
    (act_done entry.act (at_moment entry.moment s)).state.bridges (act_done entry.act (at_moment entry.moment s)).state.news
acted_ends entry s h quiet =
    let now : Switch = at_moment entry.moment s in
    acted_kept now _
    (ending_moves now
    (record {
      fit = h.bonds.rows;
      stood = λ slot row is. is;
      there = λ slot row is. let leg = h.bonds.legs slot row is in record { chan = leg.chan; there = leg.there };
      limits = quiet.limits;
      told = λ row cause event one is. absurd (none_told s.news quiet.over row cause event one is);
      gone = λ e none. absurd none;
    }))
    entry.act (λ loads config t k. k)
    (record {
      same = refl;
      there = λ slot row is. let leg = h.bonds.legs slot row is in record { chan = leg.chan; there = leg.there };
      limits = quiet.limits;
      none = none_told s.news quiet.over;
    })

step_recorded : (s : Switch) (entry : Entry) → Standing s → IsQuiet s → EndsAreRecorded s (step s entry).state (events_by s entry)
unfolding step events_by
step_recorded s entry h quiet row cause event one is =
    let ended = (acted_ends entry s h quiet).told row cause event one is in
    record {
      caller_was = ended.caller_was;
      answerer_was = ended.answerer_was;
      caller = let_go row.caller cause ended.caller;
      answerer = let_go row.answerer cause ended.answerer;
    }
  where
    t : Switch
    t = (act_done entry.act (at_moment entry.moment s)).state

    freed : (slot : ℕ) (c : Chan) → Freed (at_moment entry.moment s) t.bridges slot c →
        (c.peer ≡ None) ⊎ IsJoinedSince s (step s entry).state slot
    freed slot c (inl none) = inl none
    freed slot c (inr joined) = inr (record { row = joined.row; part = joined.part; number = joined.number })

    let_go : (slot : ℕ) (cause : Cause) → Tells (Freed (at_moment entry.moment s) t.bridges slot) (held_in t.channels slot) cause →
        IsLetGo s (step s entry).state slot cause
    let_go slot cause go = record { chan = go.chan; there = go.there; apart = freed slot go.chan go.apart; told = go.told }

step_quiet : (s : Switch) (entry : Entry) → Standing s → IsQuiet s → IsQuiet (step s entry).state
unfolding step
step_quiet s entry h quiet = record { over = refl; limits = (acted_ends entry s h quiet).limits }

run_quiet : (s : Switch) (entries : List Entry) → IsRunFrom s entries → Standing s → IsQuiet s → IsQuiet (run_from s entries)
run_quiet s [] run h quiet = quiet
run_quiet s (entry ∷ entries) run h quiet =
    run_quiet (step s entry).state entries run.1 (standing_step s entry run.0 h) (step_quiet s entry h quiet)

empty_quiet : (config : Configuration) → IsQuiet (empty config)
empty_quiet config = record {
  over = refl;
  limits = λ slot. subst LimitedIn (sym (nothing_held Chan (config.settings.max_sessions + 1) slot)) tt;
}

pub ends_are_recorded : (config : Configuration) (entries : List Entry) (entry : Entry) → IsWithin config →
    IsRunFrom (empty config) (entries ++ entry ∷ []) →
    EndsAreRecorded (run_from (empty config) entries) (run_from (empty config) (entries ++ entry ∷ []))
    (events_by (run_from (empty config) entries) entry)
ends_are_recorded config entries entry within run =
    let first = run_front (empty config) entries entry run in
    let s : Switch = run_from (empty config) entries in
    subst (λ (t : Switch). EndsAreRecorded s t (events_by s entry)) (sym (run_more (empty config) entries entry))
    (step_recorded s entry (standing_run config entries within first.0)
    (run_quiet (empty config) entries first.0 (standing_empty config within) (empty_quiet config)))
