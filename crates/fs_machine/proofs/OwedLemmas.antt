-- How the facts on connections, on jobs and on originations go through single changes of their tables.
use Rattle.std.proofs.Common.{◌≡◌, ◌≢◌, ℕ, ◌+◌, ◌<◌, ◌≤◌, List, ◌∷◌, length, Option, None, Some, refl, sym, ap, subst, ◌∙◌, inl, inr, arith}
use Rattle.std.proofs.Common.{[]}
use Rattle.std.proofs.lemmas.List.{length-set}
use Rattle.std.proofs.lemmas.List.Sums.{sum_by-cons, sum_by-set}
use Rattle.std.proofs.lemmas.Option.{none-some, same_Some}
use Rattle.fs_seats.specs.declared.numbered.Numbered.{Numbered}
use Rattle.fs_seats.specs.Seats.{held_in, with_held}
use Rattle.fs_seats.proofs.HeldLemmas.{held_here, held_within}
use Rattle.fs_seats.proofs.TableLemmas.{IsWrittenOrKept, written_or_kept, kept_without, still_there, not_free, one_there, one_if, taken_in}
use Rattle.fs_seats.proofs.TableLemmas.{taken_more, taken_less}
use Rattle.fs_seats.proofs.NumberLemmas.{Numbers, numbers_changed, numbers_gone, numbers_come, numbers_more}
use Rattle.fs_state.specs.declared.conn.Conn.{Conn}
use Rattle.fs_state.specs.declared.job.Asker.{Asker}
use Rattle.fs_state.specs.declared.job.Asker.TheVariants as asker
use Rattle.fs_state.specs.declared.job.Background.{Background}
use Rattle.fs_state.specs.declared.job.Job.{Job}
use Rattle.fs_machine.specs.Owed.{Parts}
use Rattle.fs_machine.proofs.OwedBooks.{Conns, Jobs, PartEach, HasJob, Owes, Linked, tried_by, tried_in, tries, trying_in, HasNumber, Tries}

-- ---- who is told the answer of a job

-- the connection that is owed it, if one is
abbrev told_to : Asker → Option ℕ
told_to (asker.Conn conn) = Some conn
told_to (asker.Background job) = None

pub same_conn : (a b : ℕ) → asker.Conn a ≡ asker.Conn b → a ≡ b
same_conn a b e = same_Some a b (ap told_to e)

-- a job in the background owes it to none
pub no_conn : (job : Background) (conn : ℕ) → asker.Background job ≢ asker.Conn conn
no_conn job conn e = none-some conn (ap told_to e)

-- ---- phases

parts_put : (conns : Conns) (p : ℕ) (new : Numbered Conn) → Parts new.held → PartEach conns → PartEach (with_held conns p (Some new))
parts_put conns p new parts each q x e = by (written_or_kept conns p (Some new) q x e)
  where
    by : IsWrittenOrKept conns p (Some new) q x → Parts x.held
    by (inl here) = subst (λ (y : Numbered Conn). Parts y.held) (same_Some new x here.1) parts
    by (inr kept) = each q x kept.1

parts_gone : (conns : Conns) (p : ℕ) → PartEach conns → PartEach (with_held conns p None)
parts_gone conns p each q x e = each q x (kept_without conns p q x e).1

-- ---- numbers

-- a thing comes, of a number that was drawn and that nothing has
pub numbers_back : {T : Type 0} → (rows : List (Option (Numbered T))) (drawn p : ℕ) (new : Numbered T) → new.number ≤ drawn →
    ((q : ℕ) (x : Numbered T) → held_in rows q ≡ Some x → x.number ≢ new.number) → Numbers rows drawn →
    Numbers (with_held rows p (Some new)) drawn
numbers_back {T} rows drawn p new most none h = record {
  apart = λ q r x z ex ez e. apart q r x z (written_or_kept rows p (Some new) q x ex) (written_or_kept rows p (Some new) r z ez) e;
  within = λ q x e. within q x (written_or_kept rows p (Some new) q x e);
}
  where
    number_of : (x : Numbered T) → Some new ≡ Some x → new.number ≡ x.number
    number_of x e = ap (λ (y : Numbered T). y.number) (same_Some new x e)

    apart : (q r : ℕ) (x z : Numbered T) → IsWrittenOrKept rows p (Some new) q x →
        IsWrittenOrKept rows p (Some new) r z → x.number ≡ z.number → q ≡ r
    apart q r x z (inl one) (inl two) e = one.0 ∙ sym two.0
    apart q r x z (inl one) (inr two) e = absurd (none r z two.1 (sym (number_of x one.1 ∙ e)))
    apart q r x z (inr one) (inl two) e = absurd (none q x one.1 (e ∙ sym (number_of z two.1)))
    apart q r x z (inr one) (inr two) e = h.apart q r x z one.1 two.1 e

    within : (q : ℕ) (x : Numbered T) → IsWrittenOrKept rows p (Some new) q x → x.number ≤ drawn
    within q x (inl here) = let is : new.number ≡ x.number = number_of x here.1 in omega (arith, is, most)
    within q x (inr kept) = h.within q x kept.1

-- a thing is gone: its number was drawn, and nothing has it any more
pub number_left : {T : Type 0} → (rows : List (Option (Numbered T))) (drawn p : ℕ) (old : Numbered T) → held_in rows p ≡ Some old →
    Numbers rows drawn → (q : ℕ) (x : Numbered T) → held_in (with_held rows p None) q ≡ Some x → x.number ≢ old.number
number_left rows drawn p old there h q x e same =
    let kept : (q ≢ p) × (held_in rows q ≡ Some x) = kept_without rows p q x e in
    kept.0 (h.apart q p x old kept.1 there same)

-- ---- replies that are owed

-- a connection is changed that is owed what it was owed before
owes_changed : (conns : Conns) (jobs : Jobs) (drawn p : ℕ) (old new : Numbered Conn) → held_in conns p ≡ Some old →
    new.number ≡ old.number → new.held.owed ≡ old.held.owed →
    Owes conns jobs drawn → Owes (with_held conns p (Some new)) jobs drawn
owes_changed conns jobs drawn p old new there same same_owed h = record {
  owed = λ q x since e o. subst (λ (n : ℕ). HasJob jobs n) (was q x e).2 (h.owed q (was q x e).0 since (was q x e).1 ((was q x e).3 ∙ o));
  owes = λ r job q x ej e is none. h.owes r job q (was q x e).0 ej (was q x e).1 (is ∙ ap asker.Conn (sym (was q x e).2))
      ((was q x e).3 ∙ none);
  alone = h.alone;
  within = h.within;
}
  where
    by : (q : ℕ) (x : Numbered Conn) → IsWrittenOrKept conns p (Some new) q x →
        (y : Numbered Conn) × (held_in conns q ≡ Some y) × (y.number ≡ x.number) × (y.held.owed ≡ x.held.owed)
    by q x (inl here) =
        let is : new ≡ x = same_Some new x here.1 in (
          old,
          ap (λ (k : ℕ). held_in conns k) here.0 ∙ there,
          sym same ∙ ap (λ (y : Numbered Conn). y.number) is,
          sym same_owed
              ∙ ap (λ (y : Numbered Conn). y.held.owed) is,
        )
    by q x (inr kept) = (x, kept.1, refl, refl)

    was : (q : ℕ) (x : Numbered Conn) → held_in (with_held conns p (Some new)) q ≡ Some x →
        (y : Numbered Conn) × (held_in conns q ≡ Some y) × (y.number ≡ x.number) × (y.held.owed ≡ x.held.owed)
    was q x e = by q x (written_or_kept conns p (Some new) q x e)

owes_gone : (conns : Conns) (jobs : Jobs) (drawn p : ℕ) → Owes conns jobs drawn → Owes (with_held conns p None) jobs drawn
owes_gone conns jobs drawn p h = record {
  owed = λ q x since e o. h.owed q x since (kept_without conns p q x e).1 o;
  owes = λ r job q x ej e is none. h.owes r job q x ej (kept_without conns p q x e).1 is none;
  alone = h.alone;
  within = h.within;
}

-- a connection comes, which is owed nothing; no job is for it yet
owes_come : (conns : Conns) (jobs : Jobs) (drawn p : ℕ) (new : Numbered Conn) → new.number ≡ drawn + 1 → new.held.owed ≡ None →
    Owes conns jobs drawn → Owes (with_held conns p (Some new)) jobs (drawn + 1)
owes_come conns jobs drawn p new fresh none h = record {
  owed = λ q x since e o. owed q x since (written_or_kept conns p (Some new) q x e) o;
  owes = λ r job q x ej e is. owes r job q x ej (written_or_kept conns p (Some new) q x e) is;
  alone = h.alone;
  within = λ q job conn e for. let is : conn ≤ drawn = h.within q job conn e for in omega (arith, is);
}
  where
    owed : (q : ℕ) (x : Numbered Conn) (since : ℕ) → IsWrittenOrKept conns p (Some new) q x → x.held.owed ≡ Some since →
        HasJob jobs x.number
    owed q x since (inl here) o =
        absurd (none-some since (sym none ∙ (ap (λ (y : Numbered Conn). y.held.owed) (same_Some new x here.1) ∙ o)))
    owed q x since (inr kept) o = h.owed q x since kept.1 o

    owes : (r : ℕ) (job : Numbered Job) (q : ℕ) (x : Numbered Conn) → held_in jobs r ≡ Some job → IsWrittenOrKept conns p (Some new) q x →
        job.held.asker ≡ asker.Conn x.number → x.held.owed ≢ None
    owes r job q x ej (inl here) is =
        let number : new.number ≡ x.number = ap (λ (y : Numbered Conn). y.number) (same_Some new x here.1) in
        let drawn_before : x.number ≤ drawn = h.within r job x.number ej is in
        absurd (omega (arith, number, drawn_before, fresh))
    owes r job q x ej (inr kept) is = h.owes r job q x ej kept.1 is

owes_more : (conns : Conns) (jobs : Jobs) (drawn : ℕ) → Owes conns jobs drawn → Owes conns jobs (drawn + 1)
owes_more conns jobs drawn h = record {
  owed = h.owed;
  owes = h.owes;
  alone = h.alone;
  within = λ q job conn e for. let is : conn ≤ drawn = h.within q job conn e for in omega (arith, is);
}

-- a job begins for a connection that was owed nothing, and now is
owes_begun : (conns : Conns) (jobs : Jobs) (drawn p q : ℕ) (old new : Numbered Conn) (job : Numbered Job) →
    held_in conns p ≡ Some old → old.held.owed ≡ None → new.number ≡ old.number → new.held.owed ≢ None →
    q < length jobs → held_in jobs q ≡ None → job.held.asker ≡ asker.Conn old.number →
    Numbers conns drawn → Owes conns jobs drawn → Owes (with_held conns p (Some new)) (with_held jobs q (Some job)) drawn
owes_begun conns jobs drawn p q old new job there none same now within free for n h = record {
  owed = λ k x since e o. owed k x since (written_or_kept conns p (Some new) k x e) o;
  owes = λ r j k x ej e is. owes r j k x (written_or_kept jobs q (Some job) r j ej) (written_or_kept conns p (Some new) k x e) is;
  alone = λ r t x z conn ex ez one two. alone r t x z conn (written_or_kept jobs q (Some job) r x ex)
      (written_or_kept jobs q (Some job) t z ez) one two;
  within = λ r j conn e is. drawn_for r j conn (written_or_kept jobs q (Some job) r j e) is;
}
  where
    for_it : (j : Numbered Job) → Some job ≡ Some j → j.held.asker ≡ asker.Conn old.number
    for_it j e = sym (ap (λ (y : Numbered Job). y.held.asker) (same_Some job j e)) ∙ for

    number_of : (x : Numbered Conn) → Some new ≡ Some x → x.number ≡ old.number
    number_of x e = sym (ap (λ (y : Numbered Conn). y.number) (same_Some new x e)) ∙ same

    -- no job was for it
    no_job : (r : ℕ) (j : Numbered Job) → held_in jobs r ≡ Some j → j.held.asker ≡ asker.Conn old.number → ⊥
    no_job r j e is = h.owes r j p old e there is none

    owed : (k : ℕ) (x : Numbered Conn) (since : ℕ) → IsWrittenOrKept conns p (Some new) k x → x.held.owed ≡ Some since →
        HasJob (with_held jobs q (Some job)) x.number
    owed k x since (inl here) o = (q, job, held_here jobs q (Some job) within, for ∙ ap asker.Conn (sym (number_of x here.1)))
    owed k x since (inr kept) o =
        let had : HasJob jobs x.number = h.owed k x since kept.1 o in
        (had.0, had.1, still_there jobs q (Some job) had.0 had.1 (not_free jobs q had.0 had.1 free had.2) had.2, had.3)

    owes : (r : ℕ) (j : Numbered Job) (k : ℕ) (x : Numbered Conn) → IsWrittenOrKept jobs q (Some job) r j →
        IsWrittenOrKept conns p (Some new) k x → j.held.asker ≡ asker.Conn x.number → x.held.owed ≢ None
    owes r j k x of_job (inl here) is = subst (λ (y : Numbered Conn). y.held.owed ≢ None) (same_Some new x here.1) now
    owes r j k x (inl begun) (inr kept) is =
        absurd (kept.0 (n.apart k p x old kept.1 there (same_conn x.number old.number (sym is ∙ for_it j begun.1))))
    owes r j k x (inr before) (inr kept) is = h.owes r j k x before.1 kept.1 is

    alone : (r t : ℕ) (x z : Numbered Job) (conn : ℕ) → IsWrittenOrKept jobs q (Some job) r x →
        IsWrittenOrKept jobs q (Some job) t z → x.held.asker ≡ asker.Conn conn → z.held.asker ≡ asker.Conn conn → r ≡ t
    alone r t x z conn (inl one) (inl two) is too = one.0 ∙ sym two.0
    alone r t x z conn (inl one) (inr two) is too = absurd (no_job t z two.1 (too ∙ (sym is ∙ for_it x one.1)))
    alone r t x z conn (inr one) (inl two) is too = absurd (no_job r x one.1 (is ∙ (sym too ∙ for_it z two.1)))
    alone r t x z conn (inr one) (inr two) is too = h.alone r t x z conn one.1 two.1 is too

    drawn_for : (r : ℕ) (j : Numbered Job) (conn : ℕ) → IsWrittenOrKept jobs q (Some job) r j → j.held.asker ≡ asker.Conn conn →
        conn ≤ drawn
    drawn_for r j conn (inl begun) is =
        let same_number : conn ≡ old.number = same_conn conn old.number (sym is ∙ for_it j begun.1) in
        let most : old.number ≤ drawn = n.within p old there in
        omega (arith, same_number, most)
    drawn_for r j conn (inr before) is = h.within r j conn before.1 is

-- a job begins that is for no connection
owes_apart : (conns : Conns) (jobs : Jobs) (drawn q : ℕ) (job : Numbered Job) → held_in jobs q ≡ None →
    ((conn : ℕ) → job.held.asker ≢ asker.Conn conn) → Owes conns jobs drawn → Owes conns (with_held jobs q (Some job)) drawn
owes_apart conns jobs drawn q job free apart h = record {
  owed = λ k x since e o. owed k x since e o;
  owes = λ r j k x ej e is. owes r j k x (written_or_kept jobs q (Some job) r j ej) e is;
  alone = λ r t x z conn ex ez one two. alone r t x z conn (written_or_kept jobs q (Some job) r x ex)
      (written_or_kept jobs q (Some job) t z ez) one two;
  within = λ r j conn e is. drawn_for r j conn (written_or_kept jobs q (Some job) r j e) is;
}
  where
    for_none : (j : Numbered Job) (conn : ℕ) → Some job ≡ Some j → j.held.asker ≡ asker.Conn conn → ⊥
    for_none j conn e is = apart conn (ap (λ (y : Numbered Job). y.held.asker) (same_Some job j e) ∙ is)

    owed : (k : ℕ) (x : Numbered Conn) (since : ℕ) → held_in conns k ≡ Some x → x.held.owed ≡ Some since →
        HasJob (with_held jobs q (Some job)) x.number
    owed k x since e o =
        let had : HasJob jobs x.number = h.owed k x since e o in
        (had.0, had.1, still_there jobs q (Some job) had.0 had.1 (not_free jobs q had.0 had.1 free had.2) had.2, had.3)

    owes : (r : ℕ) (j : Numbered Job) (k : ℕ) (x : Numbered Conn) → IsWrittenOrKept jobs q (Some job) r j →
        held_in conns k ≡ Some x → j.held.asker ≡ asker.Conn x.number → x.held.owed ≢ None
    owes r j k x (inl begun) e is = absurd (for_none j x.number begun.1 is)
    owes r j k x (inr before) e is = h.owes r j k x before.1 e is

    alone : (r t : ℕ) (x z : Numbered Job) (conn : ℕ) → IsWrittenOrKept jobs q (Some job) r x →
        IsWrittenOrKept jobs q (Some job) t z → x.held.asker ≡ asker.Conn conn → z.held.asker ≡ asker.Conn conn → r ≡ t
    alone r t x z conn (inl one) two is too = absurd (for_none x conn one.1 is)
    alone r t x z conn (inr one) (inl two) is too = absurd (for_none z conn two.1 too)
    alone r t x z conn (inr one) (inr two) is too = h.alone r t x z conn one.1 two.1 is too

    drawn_for : (r : ℕ) (j : Numbered Job) (conn : ℕ) → IsWrittenOrKept jobs q (Some job) r j → j.held.asker ≡ asker.Conn conn →
        conn ≤ drawn
    drawn_for r j conn (inl begun) is = absurd (for_none j conn begun.1 is)
    drawn_for r j conn (inr before) is = h.within r j conn before.1 is

-- a job ends, and its connection is owed nothing any more
owes_ended : (conns : Conns) (jobs : Jobs) (drawn p q : ℕ) (old new : Numbered Conn) (job : Numbered Job) →
    held_in jobs q ≡ Some job → held_in conns p ≡ Some old → job.held.asker ≡ asker.Conn old.number → new.number ≡ old.number →
    new.held.owed ≡ None →
    Numbers conns drawn → Owes conns jobs drawn → Owes (with_held conns p (Some new)) (with_held jobs q None) drawn
owes_ended conns jobs drawn p q old new job stands there for same none n h = record {
  owed = λ k x since e o. owed k x since (written_or_kept conns p (Some new) k x e) o;
  owes = λ r j k x ej e is. owes r j k x (kept_without jobs q r j ej) (written_or_kept conns p (Some new) k x e) is;
  alone = λ r t x z conn ex ez one two. h.alone r t x z conn (kept_without jobs q r x ex).1 (kept_without jobs q t z ez).1 one two;
  within = λ r j conn e is. h.within r j conn (kept_without jobs q r j e).1 is;
}
  where
    number_of : (x : Numbered Conn) → Some new ≡ Some x → x.number ≡ old.number
    number_of x e = sym (ap (λ (y : Numbered Conn). y.number) (same_Some new x e)) ∙ same

    owed : (k : ℕ) (x : Numbered Conn) (since : ℕ) → IsWrittenOrKept conns p (Some new) k x → x.held.owed ≡ Some since →
        HasJob (with_held jobs q None) x.number
    owed k x since (inl here) o =
        absurd (none-some since (sym none ∙ (ap (λ (y : Numbered Conn). y.held.owed) (same_Some new x here.1) ∙ o)))
    owed k x since (inr kept) o =
        let had : HasJob jobs x.number = h.owed k x since kept.1 o in
        let is : had.0 ≡ q → job ≡ had.1 = λ at. one_there jobs q had.0 job had.1 stands had.2 at in
        let number : had.0 ≡ q → x.number ≡ old.number = λ at. same_conn x.number old.number
        (sym had.3 ∙ (sym (ap (λ (j : Numbered Job). j.held.asker) (is at)) ∙ for)) in
        let other : had.0 ≢ q = λ at. kept.0 (n.apart k p x old kept.1 there (number at)) in
        (had.0, had.1, still_there jobs q None had.0 had.1 other had.2, had.3)

    owes : (r : ℕ) (j : Numbered Job) (k : ℕ) (x : Numbered Conn) → (r ≢ q) × (held_in jobs r ≡ Some j) →
        IsWrittenOrKept conns p (Some new) k x → j.held.asker ≡ asker.Conn x.number → x.held.owed ≢ None
    owes r j k x before (inl here) is =
        absurd (before.0 (h.alone r q j job old.number before.1 stands (is ∙ ap asker.Conn (number_of x here.1)) for))
    owes r j k x before (inr kept) is = h.owes r j k x before.1 kept.1 is

-- a job ends that is for no connection that is there
owes_dropped : (conns : Conns) (jobs : Jobs) (drawn q : ℕ) (job : Numbered Job) →
    held_in jobs q ≡ Some job → ((p : ℕ) (a : Numbered Conn) → held_in conns p ≡ Some a → job.held.asker ≢ asker.Conn a.number) →
    Owes conns jobs drawn → Owes conns (with_held jobs q None) drawn
owes_dropped conns jobs drawn q job stands gone h = record {
  owed = λ k x since e o. owed k x since e o;
  owes = λ r j k x ej e is none. h.owes r j k x (kept_without jobs q r j ej).1 e is none;
  alone = λ r t x z conn ex ez one two. h.alone r t x z conn (kept_without jobs q r x ex).1 (kept_without jobs q t z ez).1 one two;
  within = λ r j conn e is. h.within r j conn (kept_without jobs q r j e).1 is;
}
  where
    owed : (k : ℕ) (x : Numbered Conn) (since : ℕ) → held_in conns k ≡ Some x → x.held.owed ≡ Some since →
        HasJob (with_held jobs q None) x.number
    owed k x since e o =
        let had : HasJob jobs x.number = h.owed k x since e o in
        let is : had.0 ≡ q → job ≡ had.1 = λ at. one_there jobs q had.0 job had.1 stands had.2 at in
        let other : had.0 ≢ q = λ at. gone k x e (ap (λ (j : Numbered Job). j.held.asker) (is at) ∙ had.3) in
        (had.0, had.1, still_there jobs q None had.0 had.1 other had.2, had.3)

-- ---- connections and jobs

-- a connection is changed that is owed what it was owed before
pub linked_changed : (conns : Conns) (jobs : Jobs) (drawn jobs_drawn p : ℕ) (old new : Numbered Conn) → held_in conns p ≡ Some old →
    new.number ≡ old.number →
    new.held.owed ≡ old.held.owed → Parts new.held → Linked conns jobs drawn jobs_drawn →
    Linked (with_held conns p (Some new)) jobs drawn jobs_drawn
linked_changed conns jobs drawn jobs_drawn p old new there same owed parts h = record {
  numbers = numbers_changed conns drawn p old new there same h.numbers;
  parts = parts_put conns p new parts h.parts;
  job_numbers = h.job_numbers;
  owes = owes_changed conns jobs drawn p old new there same owed h.owes;
}

-- a connection is gone
pub linked_gone : (conns : Conns) (jobs : Jobs) (drawn jobs_drawn p : ℕ) → Linked conns jobs drawn jobs_drawn →
    Linked (with_held conns p None) jobs drawn jobs_drawn
linked_gone conns jobs drawn jobs_drawn p h = record {
  numbers = numbers_gone conns drawn p h.numbers;
  parts = parts_gone conns p h.parts;
  job_numbers = h.job_numbers;
  owes = owes_gone conns jobs drawn p h.owes;
}

-- a connection comes that is owed nothing
pub linked_come : (conns : Conns) (jobs : Jobs) (drawn jobs_drawn p : ℕ) (new : Numbered Conn) → new.number ≡ drawn + 1 →
    new.held.owed ≡ None → Parts new.held →
    Linked conns jobs drawn jobs_drawn → Linked (with_held conns p (Some new)) jobs (drawn + 1) jobs_drawn
linked_come conns jobs drawn jobs_drawn p new fresh none parts h = record {
  numbers = numbers_come conns drawn p new fresh h.numbers;
  parts = parts_put conns p new parts h.parts;
  job_numbers = h.job_numbers;
  owes = owes_come conns jobs drawn p new fresh none h.owes;
}

-- there was no seat for it
pub linked_more : (conns : Conns) (jobs : Jobs) (drawn jobs_drawn : ℕ) → Linked conns jobs drawn jobs_drawn →
    Linked conns jobs (drawn + 1) jobs_drawn
linked_more conns jobs drawn jobs_drawn h = record {
  numbers = numbers_more conns drawn h.numbers;
  parts = h.parts;
  job_numbers = h.job_numbers;
  owes = owes_more conns jobs drawn h.owes;
}

-- a job begins for a connection that was owed nothing, and now is
pub linked_begun : (conns : Conns) (jobs : Jobs) (drawn jobs_drawn p q : ℕ) (old new : Numbered Conn) (job : Numbered Job) →
    held_in conns p ≡ Some old → old.held.owed ≡ None → new.number ≡ old.number → new.held.owed ≢ None → Parts new.held →
    q < length jobs → held_in jobs q ≡ None → job.held.asker ≡ asker.Conn old.number → job.number ≡ jobs_drawn + 1 →
    Linked conns jobs drawn jobs_drawn → Linked (with_held conns p (Some new)) (with_held jobs q (Some job)) drawn (jobs_drawn + 1)
linked_begun conns jobs drawn jobs_drawn p q old new job there none same now parts within free for fresh h = record {
  numbers = numbers_changed conns drawn p old new there same h.numbers;
  parts = parts_put conns p new parts h.parts;
  job_numbers = numbers_come jobs jobs_drawn q job fresh h.job_numbers;
  owes = owes_begun conns jobs drawn p q old new job there none same now within free for h.numbers h.owes;
}

-- a job begins that is for no connection
pub linked_apart : (conns : Conns) (jobs : Jobs) (drawn jobs_drawn more q : ℕ) (job : Numbered Job) → held_in jobs q ≡ None →
    ((conn : ℕ) → job.held.asker ≢ asker.Conn conn) → Numbers (with_held jobs q (Some job)) more → Linked conns jobs drawn jobs_drawn →
    Linked conns (with_held jobs q (Some job)) drawn more
linked_apart conns jobs drawn jobs_drawn more q job free apart numbers h = record {
  numbers = h.numbers;
  parts = h.parts;
  job_numbers = numbers;
  owes = owes_apart conns jobs drawn q job free apart h.owes;
}

-- a job ends, and its connection is owed nothing any more
pub linked_ended : (conns : Conns) (jobs : Jobs) (drawn jobs_drawn p q : ℕ) (old new : Numbered Conn) (job : Numbered Job) →
    held_in jobs q ≡ Some job → held_in conns p ≡ Some old → job.held.asker ≡ asker.Conn old.number → new.number ≡ old.number →
    new.held.owed ≡ None →
    Parts new.held →
    Linked conns jobs drawn jobs_drawn → Linked (with_held conns p (Some new)) (with_held jobs q None) drawn jobs_drawn
linked_ended conns jobs drawn jobs_drawn p q old new job stands there for same none parts h = record {
  numbers = numbers_changed conns drawn p old new there same h.numbers;
  parts = parts_put conns p new parts h.parts;
  job_numbers = numbers_gone jobs jobs_drawn q h.job_numbers;
  owes = owes_ended conns jobs drawn p q old new job stands there for same none h.numbers h.owes;
}

-- a job ends that is for no connection that is there
pub linked_dropped : (conns : Conns) (jobs : Jobs) (drawn jobs_drawn q : ℕ) (job : Numbered Job) →
    held_in jobs q ≡ Some job → ((p : ℕ) (a : Numbered Conn) → held_in conns p ≡ Some a → job.held.asker ≢ asker.Conn a.number) →
    Linked conns jobs drawn jobs_drawn → Linked conns (with_held jobs q None) drawn jobs_drawn
linked_dropped conns jobs drawn jobs_drawn q job stands gone h = record {
  numbers = h.numbers;
  parts = h.parts;
  job_numbers = numbers_gone jobs jobs_drawn q h.job_numbers;
  owes = owes_dropped conns jobs drawn q job stands gone h.owes;
}

-- ---- originations that are tried

-- how many are tried where a job begins, and where it ends
pub trying_begun : (jobs : Jobs) (q : ℕ) (job : Numbered Job) → q < length jobs → held_in jobs q ≡ None →
    trying_in (with_held jobs q (Some job)) ≡ trying_in jobs + tries (Some job)
trying_begun jobs q job within free =
    let sums : trying_in (with_held jobs q (Some job)) + tries (held_in jobs q) ≡ trying_in jobs + tries (Some job) =
    sum_by-set tries jobs q (Some job) None within in
    let none : tries (held_in jobs q) ≡ 0 = ap tries free in
    omega (arith, sums, none)

trying_ended : (jobs : Jobs) (q : ℕ) (job : Numbered Job) → held_in jobs q ≡ Some job →
    trying_in (with_held jobs q None) + tries (Some job) ≡ trying_in jobs
trying_ended jobs q job stands =
    let sums : trying_in (with_held jobs q None) + tries (held_in jobs q) ≡ trying_in jobs + tries None =
    sum_by-set tries jobs q None None (held_within jobs q job stands) in
    let one : tries (held_in jobs q) ≡ tries (Some job) = ap tries stands in
    let zero_more : tries None ≡ 0 = refl in
    omega (arith, sums, one, zero_more)

-- a job begins that tries nothing
pub tries_slept : (jobs : Jobs) (origs : List (Option ℕ)) (drawn q : ℕ) (job : Numbered Job) → q < length jobs → held_in jobs q ≡ None →
    tried_by job.held.work ≡ None →
    Tries jobs origs drawn → Tries (with_held jobs q (Some job)) origs drawn
tries_slept jobs origs drawn q job within free none h = record {
  there = λ r j number e t. there r j number (written_or_kept jobs q (Some job) r j e) t;
  alone = λ r t x z number ex ez tx tz. alone r t x z number (written_or_kept jobs q (Some job) r x ex)
      (written_or_kept jobs q (Some job) t z ez) tx tz;
  within = h.within;
  fewer = fewer;
  job_seats = length-set jobs q (Some job) ∙ h.job_seats;
  orig_seats = h.orig_seats;
}
  where
    no_number : (j : Numbered Job) (number : ℕ) → Some job ≡ Some j → tried_by j.held.work ≡ Some number → ⊥
    no_number j number e t = none-some number (sym none ∙ (ap (λ (y : Numbered Job). tried_by y.held.work) (same_Some job j e) ∙ t))

    there : (r : ℕ) (j : Numbered Job) (number : ℕ) → IsWrittenOrKept jobs q (Some job) r j → tried_by j.held.work ≡ Some number →
        HasNumber origs number
    there r j number (inl begun) t = absurd (no_number j number begun.1 t)
    there r j number (inr before) t = h.there r j number before.1 t

    alone : (r t : ℕ) (x z : Numbered Job) (number : ℕ) → IsWrittenOrKept jobs q (Some job) r x →
        IsWrittenOrKept jobs q (Some job) t z → tried_by x.held.work ≡ Some number → tried_by z.held.work ≡ Some number → r ≡ t
    alone r t x z number (inl one) two tx tz = absurd (no_number x number one.1 tx)
    alone r t x z number (inr one) (inl two) tx tz = absurd (no_number z number two.1 tz)
    alone r t x z number (inr one) (inr two) tx tz = h.alone r t x z number one.1 two.1 tx tz

    fewer : taken_in origs ≤ trying_in (with_held jobs q (Some job))
    fewer =
        let more : trying_in (with_held jobs q (Some job)) ≡ trying_in jobs + tries (Some job) = trying_begun jobs q job within free in
        let before : taken_in origs ≤ trying_in jobs = h.fewer in
        omega (arith, more, before)

-- a job begins that tries a new origination
pub tries_begun : (jobs : Jobs) (origs : List (Option ℕ)) (drawn q p : ℕ) (job : Numbered Job) → q < length jobs → held_in jobs q ≡ None →
    p < length origs → held_in origs p ≡ None → tried_by job.held.work ≡ Some (drawn + 1) →
    Tries jobs origs drawn → Tries (with_held jobs q (Some job)) (with_held origs p (Some (drawn + 1))) (drawn + 1)
tries_begun jobs origs drawn q p job within free orig_within orig_free new h = record {
  there = λ r j number e t. there r j number (written_or_kept jobs q (Some job) r j e) t;
  alone = λ r t x z number ex ez tx tz. alone r t x z number (written_or_kept jobs q (Some job) r x ex)
      (written_or_kept jobs q (Some job) t z ez) tx tz;
  within = λ k number e. most k number (written_or_kept origs p (Some (drawn + 1)) k number e);
  fewer = fewer;
  job_seats = length-set jobs q (Some job) ∙ h.job_seats;
  orig_seats = length-set origs p (Some (drawn + 1)) ∙ h.orig_seats;
}
  where
    number_of : (j : Numbered Job) (number : ℕ) → Some job ≡ Some j → tried_by j.held.work ≡ Some number → number ≡ drawn + 1
    number_of j number e t =
        same_Some number (drawn + 1) (sym t ∙ (sym (ap (λ (y : Numbered Job). tried_by y.held.work) (same_Some job j e)) ∙ new))

    -- what was tried before was drawn before
    drawn_before : (r : ℕ) (j : Numbered Job) (number : ℕ) → held_in jobs r ≡ Some j → tried_by j.held.work ≡ Some number → number ≤ drawn
    drawn_before r j number e t = let had : HasNumber origs number = h.there r j number e t in h.within had.0 number had.1

    there : (r : ℕ) (j : Numbered Job) (number : ℕ) → IsWrittenOrKept jobs q (Some job) r j → tried_by j.held.work ≡ Some number →
        HasNumber (with_held origs p (Some (drawn + 1))) number
    there r j number (inl begun) t = (p, held_here origs p (Some (drawn + 1)) orig_within ∙ ap Some (sym (number_of j number begun.1 t)))
    there r j number (inr before) t =
        let had : HasNumber origs number = h.there r j number before.1 t in
        (had.0, still_there origs p (Some (drawn + 1)) had.0 number (not_free origs p had.0 number orig_free had.1) had.1)

    alone : (r t : ℕ) (x z : Numbered Job) (number : ℕ) → IsWrittenOrKept jobs q (Some job) r x →
        IsWrittenOrKept jobs q (Some job) t z → tried_by x.held.work ≡ Some number → tried_by z.held.work ≡ Some number → r ≡ t
    alone r t x z number (inl one) (inl two) tx tz = one.0 ∙ sym two.0
    alone r t x z number (inl one) (inr two) tx tz =
        let is : number ≡ drawn + 1 = number_of x number one.1 tx in
        let isnt : number ≤ drawn = drawn_before t z number two.1 tz in
        absurd (omega (arith, is, isnt))
    alone r t x z number (inr one) (inl two) tx tz =
        let is : number ≡ drawn + 1 = number_of z number two.1 tz in
        let isnt : number ≤ drawn = drawn_before r x number one.1 tx in
        absurd (omega (arith, is, isnt))
    alone r t x z number (inr one) (inr two) tx tz = h.alone r t x z number one.1 two.1 tx tz

    most : (k number : ℕ) → IsWrittenOrKept origs p (Some (drawn + 1)) k number → number ≤ drawn + 1
    most k number (inl here) = let is : drawn + 1 ≡ number = same_Some (drawn + 1) number here.1 in omega (arith, is)
    most k number (inr kept) = let is : number ≤ drawn = h.within k number kept.1 in omega (arith, is)

    fewer : taken_in (with_held origs p (Some (drawn + 1))) ≤ trying_in (with_held jobs q (Some job))
    fewer =
        let more : trying_in (with_held jobs q (Some job)) ≡ trying_in jobs + tries (Some job) = trying_begun jobs q job within free in
        let one : tries (Some job) ≡ 1 = ap one_if new in
        let taken : taken_in (with_held origs p (Some (drawn + 1))) ≡ taken_in origs + 1 =
        taken_more origs p (drawn + 1) orig_within orig_free in
        let before : taken_in origs ≤ trying_in jobs = h.fewer in
        omega (arith, more, one, taken, before)

-- a job ends that tried nothing
pub tries_woken : (jobs : Jobs) (origs : List (Option ℕ)) (drawn q : ℕ) (job : Numbered Job) → held_in jobs q ≡ Some job →
    tried_by job.held.work ≡ None →
    Tries jobs origs drawn → Tries (with_held jobs q None) origs drawn
tries_woken jobs origs drawn q job stands none h = record {
  there = λ r j number e t. h.there r j number (kept_without jobs q r j e).1 t;
  alone = λ r t x z number ex ez tx tz. h.alone r t x z number (kept_without jobs q r x ex).1 (kept_without jobs q t z ez).1 tx tz;
  within = h.within;
  fewer = fewer;
  job_seats = length-set jobs q None ∙ h.job_seats;
  orig_seats = h.orig_seats;
}
  where
    fewer : taken_in origs ≤ trying_in (with_held jobs q None)
    fewer =
        let less : trying_in (with_held jobs q None) + tries (Some job) ≡ trying_in jobs = trying_ended jobs q job stands in
        let zero_less : tries (Some job) ≡ 0 = ap one_if none in
        let before : taken_in origs ≤ trying_in jobs = h.fewer in
        omega (arith, less, zero_less, before)

-- a job ends with the origination that it tried
pub tries_ended : (jobs : Jobs) (origs : List (Option ℕ)) (drawn q p number : ℕ) (job : Numbered Job) → held_in jobs q ≡ Some job →
    tried_by job.held.work ≡ Some number →
    held_in origs p ≡ Some number → Tries jobs origs drawn → Tries (with_held jobs q None) (with_held origs p None) drawn
tries_ended jobs origs drawn q p number job stands tried orig_stands h = record {
  there = λ r j other e t. there r j other (kept_without jobs q r j e) t;
  alone = λ r t x z other ex ez tx tz. h.alone r t x z other (kept_without jobs q r x ex).1 (kept_without jobs q t z ez).1 tx tz;
  within = λ k other e. h.within k other (kept_without origs p k other e).1;
  fewer = fewer;
  job_seats = length-set jobs q None ∙ h.job_seats;
  orig_seats = length-set origs p None ∙ h.orig_seats;
}
  where
    there : (r : ℕ) (j : Numbered Job) (other : ℕ) → (r ≢ q) × (held_in jobs r ≡ Some j) → tried_by j.held.work ≡ Some other →
        HasNumber (with_held origs p None) other
    there r j other before t =
        let had : HasNumber origs other = h.there r j other before.1 t in
        let is : had.0 ≡ p → number ≡ other = λ at. one_there origs p had.0 number other orig_stands had.1 at in
        let elsewhere : had.0 ≢ p = λ at. before.0 (h.alone r q j job number before.1 stands (t ∙ ap Some (sym (is at))) tried) in
        (had.0, still_there origs p None had.0 other elsewhere had.1)

    fewer : taken_in (with_held origs p None) ≤ trying_in (with_held jobs q None)
    fewer =
        let less : trying_in (with_held jobs q None) + tries (Some job) ≡ trying_in jobs = trying_ended jobs q job stands in
        let one : tries (Some job) ≡ 1 = ap one_if tried in
        let taken : taken_in (with_held origs p None) + 1 ≡ taken_in origs = taken_less origs p number orig_stands in
        let before : taken_in origs ≤ trying_in jobs = h.fewer in
        omega (arith, less, one, taken, before)

-- no more jobs try something than there are seats
pub trying_most : (jobs : Jobs) → trying_in jobs ≤ length jobs
trying_most [] = omega arith
trying_most (held ∷ more) =
    let rest : trying_in more ≤ length more = trying_most more in
    let all : trying_in (held ∷ more) ≡ tries held + trying_in more = sum_by-cons tries held more in
    let one : tries held ≤ 1 = at_most (tried_in held) in
    omega (arith, rest, all, one)
  where
    at_most : (number : Option ℕ) → one_if number ≤ 1
    at_most None = omega arith
    at_most (Some number) = omega arith
