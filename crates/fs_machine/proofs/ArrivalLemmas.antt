-- A run draws one number for each connection that comes.
use Rattle.std.proofs.Common.{◌≡◌, ℕ, suc, ◌+◌, ◌-◌, ◌^◌, ◌<◌, min, Bool, true, false, List, [], ◌∷◌, ◌++◌, Option, None, Some}
use Rattle.std.proofs.Common.{◌⊎◌, inl, inr, is_some, if◌then◌else◌, refl, sym, ap, subst, ◌∙◌, arith}
use Rattle.fs_doc.specs.Reading.{Configuration}
use Rattle.fs_state.specs.Switch.{Switch, empty, at_moment}
use Rattle.fs_machine.specs.declared.entry.Entry.{Entry}
use Rattle.fs_machine.specs.declared.entry.Act.{Act}
use Rattle.fs_machine.specs.declared.entry.Act.TheVariants.{Arrive, Command, Take, Close, Dialed, Work, Job, Loaded, Halt}
use Rattle.fs_machine.specs.declared.entry.Closing.TheVariants.{EndOfInput, Sent, Failed}
use Rattle.fs_machine.specs.declared.reply.Reply.{Reply}
use Rattle.fs_machine.specs.declared.reply.Reply.TheVariants as reply
use Rattle.fs_machine.specs.Step.{refusal_of, act_done, step}
use Rattle.fs_machine.specs.Runs.{run_from, IsRunFrom}
use Rattle.fs_machine.specs.Laws.{state_after}
use Rattle.fs_machine.specs.Controlling.{coming_number, after_dial, held_through}
use Rattle.fs_machine.specs.Turned.{Answers, opens, comes_by, comes_after}
use Rattle.fs_book.specs.Numbered.{counted_where, count_behind}
use Rattle.fs_machine.proofs.RestLemmas.{Rest}
use Rattle.fs_machine.proofs.KeepLemmas.{act_keeps}
use Rattle.fs_machine.proofs.RunLemmas.{run_more}
use Rattle.fs_machine.proofs.ComingLemmas.{TakesHold, TakesNone, dial_takes, held_advanced}
use Rattle.fs_machine.proofs.OrderLemmas.{gone_drawn, Orderly, not_full, room_left, entry_orderly, run_orderly, empty_orderly}

next : (drawn : ℕ) → drawn < 2 ^ 32 - 1 → min (drawn + 1) (2 ^ 32 - 1) ≡ suc drawn
next drawn room = omega (arith, room)

dial_counts : (linked : Bool) (slot : ℕ) (s : Switch) → s.drawn.conns < 2 ^ 32 - 1 →
    (after_dial linked slot s).drawn.conns ≡ counted_where (is_some (held_through linked slot s)) s.drawn.conns
dial_counts linked slot s room = by (dial_takes linked slot s)
  where
    by : TakesHold linked slot s ⊎ TakesNone linked slot s →
        (after_dial linked slot s).drawn.conns ≡ counted_where (is_some (held_through linked slot s)) s.drawn.conns
    by (inl takes) =
        ap (λ (t : Switch). t.drawn.conns) takes.after ∙ next s.drawn.conns room
        ∙ sym (ap (λ (number : Option ℕ). counted_where (is_some number) s.drawn.conns) takes.number)
    by (inr takes) =
        ap (λ (rest : Rest). rest.conns_drawn) takes.rest
        ∙ sym (ap (λ (number : Option ℕ). counted_where (is_some number) s.drawn.conns) takes.none)

act_counts : (act : Act) (s : Switch) → s.drawn.conns < 2 ^ 32 - 1 →
    (act_done act s).state.drawn.conns ≡ counted_where (comes_by act s) s.drawn.conns
act_counts Arrive s room = next s.drawn.conns room
act_counts (Command conn block) s room = (act_keeps (Command conn block) s).drawn
act_counts (Take conn) s room = refl
act_counts (Close conn EndOfInput) s room = (act_keeps (Close conn EndOfInput) s).drawn
act_counts (Close conn Sent) s room = gone_drawn conn s
act_counts (Close conn Failed) s room = gone_drawn conn s
act_counts (Dialed slot linked) s room = dial_counts linked slot s room
act_counts (Work slot) s room = (act_keeps (Work slot) s).drawn
act_counts (Job number) s room = (act_keeps (Job number) s).drawn
act_counts (Loaded number note) s room = (act_keeps (Loaded number note) s).drawn
act_counts Halt s room = (act_keeps Halt s).drawn

-- whether one comes is no matter of the clock
comes_advanced : (act : Act) (now : ℕ) (s : Switch) → comes_by act (at_moment now s) ≡ comes_by act s
comes_advanced (Dialed slot linked) now s = ap is_some (held_advanced linked slot now s)
comes_advanced _ now s = refl

pub entry_counts : (s : Switch) (entry : Entry) → Orderly s → refusal_of s entry ≡ None →
    (step s entry).state.drawn.conns ≡ counted_where (comes_by entry.act s) s.drawn.conns
unfolding step
entry_counts s entry orderly none =
    act_counts entry.act (at_moment entry.moment s) (room_left s orderly (not_full s entry none))
    ∙ ap (λ b. counted_where b s.drawn.conns) (comes_advanced entry.act entry.moment s)

counts_on : (b : Bool) (drawn later count : ℕ) → later ≡ counted_where b drawn → later + count ≡ drawn + counted_where b count
counts_on true drawn later count is = omega (arith, is)
counts_on false drawn later count is = omega (arith, is)

-- so many as have come were drawn, behind these and then behind further ones
pub run_counts : (config : Configuration) (before entries : List Entry) → Orderly (state_after config before) →
    IsRunFrom (state_after config before) entries →
    (run_from (state_after config before) entries).drawn.conns
    ≡ (state_after config before).drawn.conns + count_behind (comes_after config) before entries
run_counts config before [] orderly run = omega arith
run_counts config before (entry ∷ entries) orderly run =
    let s : Switch = state_after config before in
    let went : state_after config (before ++ entry ∷ []) ≡ (step s entry).state = run_more (empty config) before entry in
    let count : ℕ = count_behind (comes_after config) (before ++ entry ∷ []) entries in
    ap (λ (t : Switch). (run_from t entries).drawn.conns) (sym went)
    ∙ run_counts config (before ++ entry ∷ []) entries
    (subst Orderly (sym went) (entry_orderly s entry orderly run.0))
    (subst (λ (t : Switch). IsRunFrom t entries) (sym went) run.1)
    ∙ ap (λ (t : Switch). t.drawn.conns + count) went
    ∙ counts_on (comes_after config before entry) s.drawn.conns (step s entry).state.drawn.conns count
    (entry_counts s entry orderly run.0)

pub none_more : (n : ℕ) → 0 + n ≡ n
none_more n = omega arith

reply_of : (s : Switch) (moment : ℕ) →
    (step s (record { moment = moment; act = Arrive })).reply ≡ reply.Arrived (min (s.drawn.conns + 1) (2 ^ 32 - 1))
unfolding step
reply_of s moment = refl

-- a connection that comes is told the number that its entry opens
pub arrived_opens : (config : Configuration) (log : List Entry) (moment : ℕ) (answer : Reply) →
    Answers config log (record { moment = moment; act = Arrive }) answer →
    (number : ℕ) × (answer ≡ reply.Arrived number) × (opens config log (record { moment = moment; act = Arrive }) ≡ Some number)
arrived_opens config log moment answer taken =
    let orderly = run_orderly (empty config) log (empty_orderly config taken.before.within.settings.journal.1) taken.before.run in
    let room = room_left (state_after config log) orderly
    (not_full (state_after config log) (record { moment = moment; act = Arrive }) taken.defined) in
    let count : ℕ = count_behind (comes_after config) [] log in
    let drawn : (state_after config log).drawn.conns ≡ count =
    run_counts config [] log (empty_orderly config taken.before.within.settings.journal.1) taken.before.run
    ∙ none_more count in (
      suc count,
      taken.reply_is ∙ reply_of (state_after config log) moment
          ∙ ap reply.Arrived (next (state_after config log).drawn.conns room ∙ ap suc drawn),
      refl,
    )

dial_reply : (s : Switch) (moment slot : ℕ) (linked : Bool) →
    (step s (record { moment = moment; act = Dialed slot linked })).reply ≡ reply.Dialed (held_through linked slot (at_moment moment s))
unfolding step
dial_reply s moment slot linked = refl

-- whoever told of a dial is told the number that its entry opens, if it opens one
pub dialed_opens : (config : Configuration) (log : List Entry) (moment slot : ℕ) (linked : Bool) (answer : Reply) →
    Answers config log (record { moment = moment; act = Dialed slot linked }) answer →
    answer ≡ reply.Dialed (opens config log (record { moment = moment; act = Dialed slot linked }))
dialed_opens config log moment slot linked answer taken =
    taken.reply_is ∙ dial_reply s moment slot linked
    ∙ ap reply.Dialed (held_advanced linked slot moment s ∙ by (dial_takes linked slot s))
  where
    s : Switch
    s = state_after config log

    orderly : Orderly s
    orderly = run_orderly (empty config) log (empty_orderly config taken.before.within.settings.journal.1) taken.before.run

    count : ℕ
    count = count_behind (comes_after config) [] log

    drawn : s.drawn.conns ≡ count
    drawn = run_counts config [] log (empty_orderly config taken.before.within.settings.journal.1) taken.before.run ∙ none_more count

    number : coming_number s ≡ suc count
    number =
        next s.drawn.conns (room_left s orderly (not_full s (record { moment = moment; act = Dialed slot linked }) taken.defined))
        ∙ ap suc drawn

    by : TakesHold linked slot s ⊎ TakesNone linked slot s →
        held_through linked slot s ≡ opens config log (record { moment = moment; act = Dialed slot linked })
    by (inl takes) =
        takes.number ∙ ap Some number
        ∙ sym (ap (λ (comer : Option ℕ). if is_some comer then Some (suc count) else None) takes.number)
    by (inr takes) =
        takes.none ∙ sym (ap (λ (comer : Option ℕ). if is_some comer then Some (suc count) else None) takes.none)
