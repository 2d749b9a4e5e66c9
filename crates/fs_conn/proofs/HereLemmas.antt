-- Between commands the connection is there, its input has not ended, and it is owed nothing.
use Rattle.std.proofs.Common.{◌≡◌, ℕ, Bool, true, false, cond, List, [], ◌∷◌, ◌++◌, length, Option, None, Some, Result, Ok, Err, refl, sym}
use Rattle.std.proofs.Common.{ap, ◌∙◌, subst}
use Rattle.std.specs.Prelude.{OnOk}
use Rattle.fs_doc.specs.Limits.{IsWithin}
use Rattle.fs_state.specs.Switch.{Switch, empty, waiting_for}
use Rattle.fs_machine.specs.declared.entry.Entry.{Entry}
use Rattle.fs_machine.specs.declared.entry.Act.{Act}
use Rattle.fs_machine.specs.declared.entry.Act.TheVariants.{Arrive, Command, Take}
use Rattle.fs_machine.specs.declared.refusal.Refusal.{Refusal}
use Rattle.fs_machine.specs.declared.refusal.Refusal.TheVariants as refusal
use Rattle.fs_machine.specs.declared.reply.Reply.{Reply}
use Rattle.fs_machine.specs.Questions.{owes}
use Rattle.fs_machine.specs.Here.{IsHere}
use Rattle.fs_machine.specs.Step.{refusal_of}
use Rattle.fs_machine.specs.Runs.{run_from}
use Rattle.fs_machine.proofs.RunLemmas.{run_more}
use Rattle.fs_machine.proofs.FrameLemmas.{take_owes}
use Rattle.fs_machine.proofs.HereLemmas.{ClosesNone, here_step, arrival_accepted, arrival_here}
use Rattle.fs_conn.specs.declared.stop.Stop.{Stop}
use Rattle.fs_conn.specs.Play.{Play, switch_of, is_over, after_judging, after_trying_act, repeated, after_taking_all, after_following}
use Rattle.fs_conn.specs.Play.{after_taking_all_as}
use Rattle.fs_conn.specs.Steps.{entry_of, Does, Accepts, Rejects}
use Rattle.fs_conn.specs.Playing.{Playing, so_far}
use Rattle.fs_conn.proofs.StepLemmas.{longer}
use Rattle.fs_conn.proofs.KeepLemmas.{Keeps, by_each, kept_repeated, kept_followed, kept_acted}

-- ---- it is there

abbrev pub Here : Play → Type 0
Here p = is_over p ≡ false → IsHere 1 (switch_of p)

here_judged : (cause : Option Refusal) (entry : Entry) (p : Play) → ClosesNone entry.act → IsHere 1 (switch_of p) →
    Here (after_judging cause entry p)
here_judged None entry p such here goes_on =
    subst (IsHere 1) (sym (run_more (empty p.config) p.journal entry)) (here_step 1 (switch_of p) entry such here)
here_judged (Some (refusal.JournalFull cost limit)) entry p such here goes_on = absurd (cc)
here_judged (Some _) entry p such here goes_on = here

here_entered : (act : Act) → ClosesNone act → (p : Play) → Here p → Here (after_trying_act act p)
here_entered act such p here = by (is_over p) refl
  where
    by : (over : Bool) → is_over p ≡ over →
        Here (cond over p (after_judging (refusal_of (switch_of p) (entry_of act p)) (entry_of act p) p))
    by true over = here
    by false goes_on = here_judged (refusal_of (switch_of p) (entry_of act p)) (entry_of act p) p such (here goes_on)

pub keeps_here : Keeps ClosesNone Here
keeps_here = by_each ClosesNone Here (record {
  works = λ slot. tt;
  dials = λ slot. tt;
  jobs = λ number. tt;
  loads = λ number note. tt;
  takes = tt;
  enters = here_entered;
  ends =
      λ end early p here. elim (is_over p) as (λ b. Here (cond b p (record p { end = Some end }))) [
        | true ↦ here
        | false ↦ λ goes_on. absurd (cc)
      ];
  goes_on = λ moment p here. here;
})

-- what comes of an act leaves it there
pub here_followed : (mid new : Play) → IsHere 1 (switch_of mid) → new ≡ after_following mid → is_over new ≡ false → IsHere 1 (switch_of new)
here_followed mid new here is goes_on = subst Here (sym is) (kept_followed ClosesNone Here keeps_here mid (λ still. here)) goes_on

-- a command with all that comes of it too
pub here_commanded : (old mid new : Play) (block : List ℕ) → IsHere 1 (switch_of old) → mid ≡ after_trying_act (Command 1 block) old →
    new ≡ after_following mid → is_over new ≡ false → IsHere 1 (switch_of new)
here_commanded old mid new block here mid_is new_is goes_on =
    subst Here (sym (new_is ∙ ap after_following mid_is)) (kept_acted ClosesNone Here keeps_here (Command 1 block) tt old (λ still. here))
    goes_on

-- ---- it comes

-- nothing speaks against its coming
pub never_turned_away : (s : Playing) (new : Play) → s.journal ≡ [] → IsWithin s.config → Rejects Arrive (so_far s) new → ⊥
never_turned_away s new begun within refused =
    let p = so_far s in
    let none : refusal_of (switch_of p) (entry_of Arrive p) ≡ None =
    ap (λ (entries : List Entry). refusal_of (run_from (empty s.config) entries) (entry_of Arrive p)) begun
    ∙ arrival_accepted s.config s.clock within in
    longer p (entry_of Arrive p) (sym refused.same ∙ refused.does ∙ ap (λ cause. after_judging cause (entry_of Arrive p) p) none)

-- and then it is there
pub here_arrived : (s : Playing) (new : Play) (reply : Reply) → s.journal ≡ [] → IsWithin s.config → Accepts Arrive (so_far s) new reply →
    IsHere 1 (switch_of new)
here_arrived s new reply begun within accepts =
    let entry = entry_of Arrive (so_far s) in
    subst (λ (p : Play). IsHere 1 (switch_of p)) (sym accepts.does)
    (subst (λ (entries : List Entry). IsHere 1 (run_from (empty s.config) (entries ++ entry ∷ []))) (sym begun)
    (arrival_here s.config s.clock within))

-- ---- it is owed nothing

abbrev pub Free : Play → Type 0
Free p = owes (switch_of p) 1 ≡ false

free_judged : (cause : Option Refusal) (p : Play) → Free p → Free (after_judging cause (entry_of (Take 1) p) p)
free_judged None p free =
    ap (λ (s : Switch). owes s 1) (run_more (empty p.config) p.journal (entry_of (Take 1) p)) ∙ take_owes (switch_of p) p.clock 1 1 ∙ free
free_judged (Some (refusal.JournalFull cost limit)) p free = free
free_judged (Some _) p free = free

free_entered : (p : Play) → Free p → Free (after_trying_act (Take 1) p)
free_entered p free =
    elim (is_over p) as (λ b. Free (cond b p (after_judging (refusal_of (switch_of p) (entry_of (Take 1) p)) (entry_of (Take 1) p) p))) [
      | true ↦ free
      | false ↦ free_judged (refusal_of (switch_of p) (entry_of (Take 1) p)) p free
    ]

free_repeated : (n : ℕ) (p : Play) → Free p → Free (repeated n (after_trying_act (Take 1)) p)
free_repeated n p free = kept_repeated Free n (after_trying_act (Take 1)) free_entered p free

pub free_taken : (p : Play) → Free p → Free (after_taking_all p)
unfolding after_taking_all_as
free_taken p free = free_repeated (length (waiting_for (switch_of p) 1)) p free

-- taking frames leaves it so
pub free_sent : {A : Type 0} → (mid new : Play) (result : Result A Stop) → Does after_taking_all mid new result →
    owes (switch_of mid) 1 ≡ false → OnOk result (owes (switch_of new) 1 ≡ false)
free_sent mid new (Ok done) does free = ap (λ (p : Play). owes (switch_of p) 1) does ∙ free_taken mid free
free_sent mid new (Err stop) does free = tt
