-- How steps of a play follow one another, and what entering an act does.
use Rattle.std.proofs.Common.{◌≡◌, ◌≢◌, ℕ, ◌+◌, ◌-◌, ◌^◌, ◌≤◌, min, Bool, true, false, cond, List, [], ◌∷◌, ◌++◌, length, Option, None, Some}
use Rattle.std.proofs.Common.{Result, Ok, Err, refl, sym, ap, ◌∙◌, subst, append-nil, length-append, arith}
use Rattle.std.specs.List.{concat}
use Rattle.std.proofs.lemmas.List.Folds.{concat-append}
use Rattle.fs_state.specs.Switch.{empty, is_full}
use Rattle.fs_machine.specs.declared.entry.Entry.{Entry}
use Rattle.fs_machine.specs.declared.entry.Act.{Act}
use Rattle.fs_machine.specs.declared.entry.Act.TheVariants.{Command}
use Rattle.fs_machine.specs.declared.reply.Reply.{Reply}
use Rattle.fs_machine.specs.declared.refusal.Refusal.{Refusal}
use Rattle.fs_machine.specs.declared.refusal.Refusal.TheVariants as refusal
use Rattle.fs_machine.specs.Entries.{cost_of}
use Rattle.fs_machine.specs.Questions.{owes}
use Rattle.fs_machine.specs.Step.{step, refusal_of, refused_where}
use Rattle.fs_machine.specs.Runs.{View, state_of}
use Rattle.fs_machine.specs.Frames.{handed_in, handed_from}
use Rattle.fs_machine.proofs.FrameLemmas.{some_cost, handed_more, command_refused}
use Rattle.fs_conn.specs.declared.end.End.{End}
use Rattle.fs_conn.specs.declared.stop.Stop.{Stop}
use Rattle.fs_conn.specs.declared.stop.Stop.TheVariants.{Over, OutOfMemory, WriteFault}
use Rattle.fs_conn.specs.Play.{Play, switch_of, output_of, is_over, after_judging, after_trying_act, reads_on}
use Rattle.fs_conn.specs.Steps.{spent, IsPlayFront, Halts, Does, entry_of, Accepts, Rejects, Enters, Works}
use Rattle.fs_conn.specs.Playing.{Playing, play_of, so_far}
use Rattle.fs_conn.proofs.PlayLemmas.{begins_trans, Goes, goes_entered}
use Rattle.fs_machine.specs.declared.note.LoadNote.{LoadNote}

-- ---- one step after another

-- what halted stays so, whatever was to follow
pub halts_on : (g : Play → Play) → Goes g → (stop : Stop) (p mid : Play) → Halts stop p mid → Halts stop p (g mid)
halts_on g goes (Over end) p mid halts = (halts.0, ap g halts.1 ∙ goes.over (record p { end = Some end }) refl)
halts_on g goes OutOfMemory p mid halts = begins_trans p mid (g mid) halts (goes.begins mid)
halts_on g goes WriteFault p mid halts = begins_trans p mid (g mid) halts (goes.begins mid)

-- a step behind another
pub does_then : {A : Type 0} → (step : Play → Play) (mid whole new : Play) (result : Result A Stop) → mid ≡ whole →
    Does step mid new result → Does step whole new result
does_then step mid whole new result is does = subst (λ (p : Play). Does step p new result) is does

-- one step that comes to the same as another
pub does_both : {A : Type 0} → (f g : Play → Play) (mid old new : Play) (result : Result A Stop) → f mid ≡ g old →
    Does f mid new result → Does g old new result
does_both f g mid old new (Ok done) same does = does ∙ same
does_both f g mid old new (Err stop) same does = subst (λ (p : Play). Halts stop new p) same does

-- ---- entering

-- the play that a machine has come to at a moment
abbrev pub play_at : List LoadNote → View → ℕ → Play
play_at notes machine clock = record { config = machine.config; notes = notes; journal = machine.journal; clock = clock; end = None }

-- an act that is not refused is entered
pub accepts : (notes : List LoadNote) (old new : View) (clock : ℕ) (act : Act) (reply : Reply) → new.config ≡ old.config →
    new.journal ≡ old.journal ++ entry_of act (play_at notes old clock) ∷ [] →
    refusal_of (state_of old) (entry_of act (play_at notes old clock)) ≡ None →
    reply ≡ (step (state_of old) (entry_of act (play_at notes old clock))).reply →
    (state_of new).cost ≡ min ((state_of old).cost + cost_of act) (2 ^ 64 - 1) →
    (state_of old).cost + 65600 ≤ min old.config.settings.journal_limit (2 ^ 64 - 1) →
    Accepts act (play_at notes old clock) (play_at notes new clock) reply
accepts notes old new clock act reply config journal defined reply_is cost free =
    let entry = entry_of act (play_at notes old clock) in
    let some = some_cost act in record {
      defined = defined;
      does = rw (config, journal) refl;
      reply_is = reply_is;
      hands =
          rw (config, journal)
          (ap concat (handed_more 1 (empty old.config) old.journal entry)
          ∙ concat-append (handed_from 1 (empty old.config) old.journal) (handed_in 1 act (state_of old)));
      costs = record { more = omega (arith, cost, some, free); free = omega (arith, free) };
    }

-- whatever entering did, the step of the definition was done or halted
pub does_accepts : (act : Act) (old new : Play) (reply : Reply) → Accepts act old new reply → is_over old ≡ false →
    new ≡ after_trying_act act old
does_accepts act old new reply accepts goes_on =
    accepts.does ∙ sym (ap (λ over. cond over old (after_judging (refusal_of (switch_of old) (entry_of act old)) (entry_of act old) old))
    goes_on ∙ ap (λ cause. after_judging cause (entry_of act old) old) accepts.defined)

pub does_enters : (act : Act) (old new : Play) (result : Result (Option Reply) Stop) → is_over old ≡ false → Enters act old new result →
    Does (after_trying_act act) old new result
does_enters act old new (Ok None) goes_on enters = enters.does
does_enters act old new (Ok (Some reply)) goes_on enters = does_accepts act old new reply enters goes_on
does_enters act old new (Err (Over end)) goes_on enters = enters.1
does_enters act old new (Err OutOfMemory) goes_on enters =
    subst (λ (p : Play). IsPlayFront p (after_trying_act act old)) (sym enters) ((goes_entered act).begins old)
does_enters act old new (Err WriteFault) goes_on enters = absurd enters

-- ---- whatever loads are to come

judged_with : (notes : List LoadNote) (cause : Option Refusal) (entry : Entry) (p : Play) →
    after_judging cause entry (record p { notes = notes }) ≡ record (after_judging cause entry p) { notes = notes }
judged_with notes None entry p = refl
judged_with notes (Some (refusal.JournalFull cost limit)) entry p = refl
judged_with notes (Some _) entry p = refl

tried_with : (notes : List LoadNote) (act : Act) (s : Playing) →
    after_trying_act act (play_of notes s) ≡ record (after_trying_act act (so_far s)) { notes = notes }
tried_with notes act s = judged_with notes (refusal_of (switch_of (so_far s)) (entry_of act (so_far s))) (entry_of act (so_far s)) (so_far s)

-- what entering did is so whatever they are
pub enters_with : (notes : List LoadNote) (act : Act) (old new : Playing) (result : Result (Option Reply) Stop) →
    Enters act (so_far old) (so_far new) result → Enters act (play_of notes old) (play_of notes new) result
enters_with notes act old new (Ok None) h = record {
  does = ap (λ (p : Play). record p { notes = notes }) h.does ∙ sym (tried_with notes act old);
  same = ap (λ (p : Play). record p { notes = notes }) h.same;
}
enters_with notes act old new (Ok (Some reply)) h = record {
  defined = h.defined;
  does = ap (λ (p : Play). record p { notes = notes }) h.does;
  reply_is = h.reply_is;
  hands = h.hands;
  costs = record { more = h.costs.more; free = h.costs.free };
}
enters_with notes act old new (Err (Over end)) h = (
  ap (λ (p : Play). record p { notes = notes }) h.0,
  (h.1.0, tried_with notes act old ∙ ap (λ (p : Play). record p { notes = notes }) h.1.1),
)
enters_with notes act old new (Err OutOfMemory) h = ap (λ (p : Play). record p { notes = notes }) h
enters_with notes act old new (Err WriteFault) h = absurd h

pub does_with : (notes : List LoadNote) (act : Act) (old new : Playing) (result : Result (Option Reply) Stop) →
    Enters act (so_far old) (so_far new) result → Does (after_trying_act act) (play_of notes old) (play_of notes new) result
does_with notes act old new result h =
    does_enters act (play_of notes old) (play_of notes new) result refl (enters_with notes act old new result h)

-- entering does not stop by a write
pub enters_unwritten : (act : Act) (old new : Play) (stop : Stop) → Enters act old new (Err stop) → stop ≢ WriteFault
enters_unwritten act old new (Over end) enters = λ same. cc
enters_unwritten act old new OutOfMemory enters = λ same. cc
enters_unwritten act old new WriteFault enters = absurd enters

pub works_same : (old new : Play) → new ≡ old → Works old new
works_same old new same = record { output = ap output_of same; spent = let e = ap spent same in omega (arith, e) }

pub works_then : (old mid new : Play) → Works old mid → Works mid new → Works old new
works_then old mid new first then = record { output = then.output ∙ first.output; spent = omega (arith, first.spent, then.spent) }

-- whatever the clock said
pub works_at : (old new : Play) (moment : ℕ) → Works (record old { clock = moment }) new → Works old new
works_at old new moment works = record { output = works.output; spent = works.spent }

-- an act that hands out no frame works
pub works_enters : (act : Act) (old new : Play) (result : Result (Option Reply) Stop) → handed_in 1 act (switch_of old) ≡ [] →
    Enters act old new result → Works old new
works_enters act old new (Ok None) none enters = works_same old new enters.same
works_enters act old new (Ok (Some reply)) none enters = record {
  output = enters.hands ∙ ap (λ frames. output_of old ++ concat frames) none ∙ append-nil (output_of old);
  spent = omega (arith, enters.costs.more);
}
works_enters act old new (Err (Over end)) none enters = works_same old new enters.0
works_enters act old new (Err OutOfMemory) none enters = works_same old new enters
works_enters act old new (Err WriteFault) none enters = absurd enters

-- an entry makes a journal longer
pub longer : (p : Play) (entry : Entry) → p ≡ record p { journal = p.journal ++ entry ∷ [] } → ⊥
longer p entry same =
    let long = ap (λ (q : Play). length q.journal) same in
    let more = length-append p.journal (entry ∷ []) in omega (arith, long, more)

-- a play that goes on is not over
never_over : (end : End) → None ≡ Some end → ⊥
never_over end same = cc

-- a connection that reads commands and is owed no reply gives one
pub never_rejects : (s : Playing) (new : Play) (block : List ℕ) → reads_on (so_far s) ≡ true →
    owes (switch_of (so_far s)) 1 ≡ false → Rejects (Command 1 block) (so_far s) new → ⊥
never_rejects s new block is_reading owes_none refused =
    let switch = switch_of (so_far s) in
    by (is_full switch)
    (sym refused.same ∙ refused.does
    ∙ ap (λ cause. after_judging cause (entry_of (Command 1 block) (so_far s)) (so_far s))
    (command_refused switch s.clock 1 block is_reading owes_none))
  where
    by : (full : Bool) → so_far s
        ≡ after_judging (refused_where full (refusal.JournalFull (spent (so_far s)) (switch_of (so_far s)).settings.journal_limit)
        None) (entry_of (Command 1 block) (so_far s)) (so_far s) → ⊥
    by true same = absurd (never_over _ (ap (λ (q : Play). q.end) same))
    by false same = longer (so_far s) (entry_of (Command 1 block) (so_far s)) same
