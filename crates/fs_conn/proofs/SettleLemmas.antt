-- How what is due is worked, and how a reply that is owed is waited for.
use Rattle.std.proofs.Common.{◌≡◌, ℕ, suc, ◌+◌, ◌-◌, ◌^◌, ◌<◌, ◌≤◌, true, false, not, ◌&&◌, cond, Option, None, Some}
use Rattle.std.proofs.Common.{refl, sym, ap, ◌∙◌, subst, arith}
use Rattle.fs_machine.specs.declared.due.DueActor.{DueActor}
use Rattle.fs_machine.specs.declared.due.DueActor.TheVariants as due
use Rattle.fs_machine.specs.Questions.{owes}
use Rattle.fs_machine.specs.Owed.{AreOwed}
use Rattle.fs_machine.proofs.OwedLaws as owed_laws
use Rattle.fs_conn.specs.declared.end.End.TheVariants.{Runaway}
use Rattle.fs_conn.specs.declared.stop.Stop.{Stop}
use Rattle.fs_conn.specs.declared.stop.Stop.TheVariants.{Over}
use Rattle.fs_conn.specs.Play.{Play, switch_of, is_over, with_end, repeated, next_actor, after_due_step}
use Rattle.fs_conn.specs.Play.{with_runaway_end_by, with_runaway_end, after_settling, after_waiting_until, after_waiting_once}
use Rattle.fs_conn.specs.Play.{after_waiting, after_settling_as, after_waiting_as}
use Rattle.fs_conn.specs.Steps.{Halts, is_due}
use Rattle.fs_conn.proofs.PlayLemmas.{goes_stopped, goes_worked_once, goes_all_waited, worked_none}
use Rattle.fs_conn.proofs.StepLemmas.{halts_on}
use Rattle.fs_conn.proofs.RoundLemmas.{repeated_none, repeated_more, round_stops, round_stops_at}

-- ---- what is due

stopped_none : (who : DueActor) (p : Play) → is_due who ≡ false → with_runaway_end_by who p ≡ p
stopped_none (due.Slot slot) p is = absurd (cc is)
stopped_none (due.Dial slot) p is = absurd (cc is)
stopped_none (due.Job number) p is = absurd (cc is)
stopped_none (due.Load number) p is = absurd (cc is)
stopped_none (due.Later moment) p is = refl
stopped_none due.Never p is = refl

stopped_due : (who : DueActor) (p : Play) → is_due who ≡ true → with_runaway_end_by who p ≡ with_end (Runaway 100000) p
stopped_due (due.Slot slot) p is = refl
stopped_due (due.Dial slot) p is = refl
stopped_due (due.Job number) p is = refl
stopped_due (due.Load number) p is = refl
stopped_due (due.Later moment) p is = absurd (cc is)
stopped_due due.Never p is = absurd (cc is)

-- an option that is nothing else
pub is_none : {A : Type 0} → (o : Option A) → ((a : A) → o ≡ Some a → ⊥) → o ≡ None
is_none None not_some = refl
is_none (Some a) not_some = absurd (not_some a refl)

-- nothing is due any more
pub settled_rest : (left : ℕ) (start now : Play) → is_due (next_actor now) ≡ false →
    repeated left after_due_step now ≡ repeated 100000 after_due_step start → now ≡ after_settling start
unfolding after_settling_as
settled_rest left start now none reaches =
    sym (ap with_runaway_end (sym reaches) ∙ ap with_runaway_end
    (repeated_none left after_due_step now (worked_none (next_actor now) now none)) ∙ stopped_none (next_actor now) now none)

-- something is due still
pub settled_runs : (start now : Play) → is_over now ≡ false → is_due (next_actor now) ≡ true →
    now ≡ repeated 100000 after_due_step start → Halts (Over (Runaway 100000)) now (after_settling start)
unfolding after_settling_as
settled_runs start now goes_on is reaches = (
  refl,
  ap with_runaway_end (sym reaches) ∙ stopped_due (next_actor now) now is
      ∙ ap (λ b. cond b now (record now { end = Some (Runaway 100000) })) goes_on,
)

-- what was due was not done
pub settled_stops : (done : ℕ) (start now next : Play) (stop : Stop) → done < 100000 →
    repeated (100000 - done) after_due_step now ≡ repeated 100000 after_due_step start → Halts stop next (after_due_step now) →
    Halts stop next (after_settling start)
unfolding after_settling_as
settled_stops done start now next stop some reaches halts =
    halts_on with_runaway_end goes_stopped stop next (repeated 100000 after_due_step start)
    (round_stops_at 100000 done after_due_step goes_worked_once now next (repeated 100000 after_due_step start) stop some reaches halts)

-- ---- replies that are owed

-- the clock's moments that are left, and the play that is reached in them
pub record Awaits (start now : Play) : Type 0 where
  pub rounds : ℕ
  pub enough : 2 ^ 64 ≤ now.clock + rounds
  pub reaches : repeated rounds after_waiting_once now ≡ after_waiting start

pub awaits_first : (start : Play) → Awaits start start
unfolding after_waiting_as
awaits_first start = record { rounds = 2 ^ 64; enough = omega arith; reaches = refl }

waited_by : (p : Play) → is_over p ≡ false → owes (switch_of p) 1 ≡ true → after_waiting_once p ≡ after_waiting_until (next_actor p) p
waited_by p goes_on owed =
    ap (λ b. cond (not b && owes (switch_of p) 1) (after_waiting_until (next_actor p) p) p) goes_on
    ∙ ap (λ b. cond b (after_waiting_until (next_actor p) p) p) owed

-- nothing is owed
pub waited_rest : (start now : Play) → Awaits start now → is_over now ≡ false → owes (switch_of now) 1 ≡ false → now ≡ after_waiting start
waited_rest start now awaits goes_on owed =
    let same =
    ap (λ b. cond (not b && owes (switch_of now) 1) (after_waiting_until (next_actor now) now) now) goes_on
    ∙ ap (λ b. cond b (after_waiting_until (next_actor now) now) now) owed in
    sym (repeated_none awaits.rounds after_waiting_once now same) ∙ awaits.reaches

-- somebody has something to do while a reply is owed, and where nobody has it now it is later
pub never_stuck : (now : Play) → AreOwed (switch_of now) → owes (switch_of now) 1 ≡ true → is_due (next_actor now) ≡ false →
    ((moment : ℕ) → next_actor now ≡ due.Later moment → ⊥) → ⊥
never_stuck now sound owed idle never = by (next_actor now) refl
  where
    by : (actor : DueActor) → next_actor now ≡ actor → ⊥
    by (due.Slot slot) is = let none : is_due (due.Slot slot) ≡ false = ap is_due (sym is) ∙ idle in cc
    by (due.Dial slot) is = let none : is_due (due.Dial slot) ≡ false = ap is_due (sym is) ∙ idle in cc
    by (due.Job number) is = let none : is_due (due.Job number) ≡ false = ap is_due (sym is) ∙ idle in cc
    by (due.Load number) is = let none : is_due (due.Load number) ≡ false = ap is_due (sym is) ∙ idle in cc
    by (due.Later moment) is = never moment is
    by due.Never is = owed_laws.goes_on (switch_of now) 1 now.clock sound owed is

-- the clock went on
waited_later : (now : Play) (moment : ℕ) → is_over now ≡ false → owes (switch_of now) 1 ≡ true → next_actor now ≡ due.Later moment →
    after_waiting_once now ≡ after_settling (record now { clock = moment })
waited_later now moment goes_on owed later = waited_by now goes_on owed ∙ ap (λ actor. after_waiting_until actor now) later

one_less : (rounds : ℕ) → 0 < rounds → rounds ≡ suc (rounds - 1)
one_less rounds some = omega (arith, some)

pub awaits_on : (start now next : Play) (moment : ℕ) → Awaits start now → is_over now ≡ false → owes (switch_of now) 1 ≡ true →
    next_actor now ≡ due.Later moment →
    now.clock < moment → now.clock < 2 ^ 64 → next.clock ≡ moment → next ≡ after_settling (record now { clock = moment }) → Awaits start
    next
awaits_on start now next moment awaits goes_on owed later comes within clock next_is =
    let some : 0 < awaits.rounds = omega (arith, awaits.enough, comes, within) in record {
      rounds = awaits.rounds - 1;
      enough = omega (arith, awaits.enough, comes, clock, some);
      reaches =
          ap (repeated (awaits.rounds - 1) after_waiting_once) (next_is ∙ sym (waited_later now moment goes_on owed later))
          ∙ sym (repeated_more (awaits.rounds - 1) after_waiting_once now)
          ∙ sym (ap (λ n. repeated n after_waiting_once now) (one_less awaits.rounds some)) ∙ awaits.reaches;
    }

-- what came to be due then was not all worked
pub waited_stops : (start now next : Play) (moment : ℕ) (stop : Stop) → Awaits start now → is_over now ≡ false →
    owes (switch_of now) 1 ≡ true → next_actor now ≡ due.Later moment →
    now.clock < moment → now.clock < 2 ^ 64 → Halts stop next (after_settling (record now { clock = moment })) → Halts stop next
    (after_waiting start)
waited_stops start now next moment stop awaits goes_on owed later comes within halts =
    let some : 0 < awaits.rounds = omega (arith, awaits.enough, comes, within) in
    let once = subst (λ (p : Play). Halts stop next p) (sym (waited_later now moment goes_on owed later)) halts in
    round_stops (awaits.rounds - 1) after_waiting_once (goes_all_waited (awaits.rounds - 1)) now next (after_waiting start) stop
    (sym (ap (λ n. repeated n after_waiting_once now) (one_less awaits.rounds some)) ∙ awaits.reaches) once
