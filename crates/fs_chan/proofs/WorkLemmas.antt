-- When a channel has something to do, seen at different moments.
use Rattle.std.proofs.Common.{◌≡◌, ℕ, ◌<◌, ◌≤◌, Bool, true, false, cond, List, [], ◌∷◌, None, Some, is_some, refl, subst, ap, arith, leb}
use Rattle.std.proofs.Common.{sym, ◌∙◌}
use Rattle.std.proofs.lemmas.Bool.{leb-true, leb-false, le-leb}
use Rattle.fs_text.specs.declared.states.State.{State}
use Rattle.fs_text.specs.declared.states.State.TheVariants.{CsExecute, CsPark}
use Rattle.fs_chan.specs.declared.action.Action.{Action}
use Rattle.fs_chan.specs.declared.chan.Chan.{Chan}
use Rattle.fs_chan.specs.declared.due.Due.TheVariants.{Now, At}
use Rattle.fs_chan.specs.declared.wait.Wait.{Wait}
use Rattle.fs_chan.specs.declared.wait.Wait.TheVariants.{Ready, Sleep, Parked, Socket}
use Rattle.fs_chan.specs.Work.{due_at, due_in_wait, due_in, due_of, runs_actions, pending_in, next_action, first_of}

-- ---- a moment that is slept to

pub to_come_at : (now until told : ℕ) → due_at now until ≡ At told → now < told
to_come_at now until told h = by_test (leb until now) refl h
  where
    by_test : (past : Bool) → leb until now ≡ past → cond past Now (At until) ≡ At told → now < told
    by_test true is h = absurd (cc)
    by_test false is h = let same : until ≡ told = cc in subst (λ t. now < t) same (leb-false until now is)

pub has_come_at : (now until told : ℕ) → due_at now until ≡ At told → due_at told until ≡ Now
has_come_at now until told h = by_test (leb until now) refl h
  where
    by_test : (past : Bool) → leb until now ≡ past → cond past Now (At until) ≡ At told → due_at told until ≡ Now
    by_test true is h = absurd (cc)
    by_test false is h = let same : until ≡ told = cc in rw (le-leb until told (omega (arith, same))) refl

-- at its own moment a thing is due
pub due_now : (moment : ℕ) → due_at moment moment ≡ Now
due_now moment = ap (λ b. cond b Now (At moment)) (le-leb moment moment (omega arith))

-- where it is due at once, it is not later
pub never_later : (now moment : ℕ) → due_at now now ≡ At moment → ⊥
never_later now moment is = let e : Now ≡ At moment = sym (due_now now) ∙ is in cc e

stays_at : (now later until : ℕ) → now ≤ later → due_at now until ≡ Now → due_at later until ≡ Now
stays_at now later until more h = by_test (leb until now) refl h
  where
    by_test : (past : Bool) → leb until now ≡ past → cond past Now (At until) ≡ Now → due_at later until ≡ Now
    by_test true is h = rw (le-leb until later (omega (arith, more, leb-true until now is))) refl
    by_test false is h = absurd (cc)

-- ---- what is waited for

ready_told : (runs : Bool) (told : ℕ) → cond runs (Some Now) None ≡ Some (At told) → ⊥
ready_told true told h = absurd (cc)
ready_told false told h = absurd (cc)

to_come_wait : (now told : ℕ) (state : State) (wait : Wait) (messages : List Action) →
    due_in_wait now state wait messages ≡ Some (At told) → now < told
to_come_wait now told state Ready messages h = absurd (ready_told (runs_actions state Ready) told h)
to_come_wait now told state (Sleep until) messages h = to_come_at now until told (cc)
to_come_wait now told state Parked [] h = absurd (cc)
to_come_wait now told state Parked (message ∷ messages) h = absurd (cc)
to_come_wait now told state (Socket conn) [] h = absurd (cc)
to_come_wait now told state (Socket conn) (message ∷ messages) h = absurd (cc)
to_come_wait now told state _ messages h = absurd (cc)

has_come_wait : (now told : ℕ) (state : State) (wait : Wait) (messages : List Action) →
    due_in_wait now state wait messages ≡ Some (At told) → due_in_wait told state wait messages ≡ Some Now
has_come_wait now told state Ready messages h = absurd (ready_told (runs_actions state Ready) told h)
has_come_wait now told state (Sleep until) messages h = ap Some (has_come_at now until told (cc))
has_come_wait now told state Parked [] h = absurd (cc)
has_come_wait now told state Parked (message ∷ messages) h = absurd (cc)
has_come_wait now told state (Socket conn) [] h = absurd (cc)
has_come_wait now told state (Socket conn) (message ∷ messages) h = absurd (cc)
has_come_wait now told state _ messages h = absurd (cc)

stays_wait : (now later : ℕ) (state : State) (wait : Wait) (messages : List Action) → now ≤ later →
    due_in_wait now state wait messages ≡ Some Now → due_in_wait later state wait messages ≡ Some Now
stays_wait now later state (Sleep until) messages more h = ap Some (stays_at now later until more (cc))
stays_wait now later state _ messages more h = h

-- ---- a channel

to_come_in : (now told : ℕ) (state : State) (wait : Wait) (messages : List Action) → due_in now state wait messages ≡ Some (At told) →
    now < told
to_come_in now told CsExecute wait messages h = to_come_wait now told CsExecute wait messages h
to_come_in now told CsPark wait messages h = to_come_wait now told CsPark wait messages h
to_come_in now told _ wait messages h = absurd (cc)

has_come_in : (now told : ℕ) (state : State) (wait : Wait) (messages : List Action) → due_in now state wait messages ≡ Some (At told) →
    due_in told state wait messages ≡ Some Now
has_come_in now told CsExecute wait messages h = has_come_wait now told CsExecute wait messages h
has_come_in now told CsPark wait messages h = has_come_wait now told CsPark wait messages h
has_come_in now told _ wait messages h = absurd (cc)

stays_in : (now later : ℕ) (state : State) (wait : Wait) (messages : List Action) → now ≤ later →
    due_in now state wait messages ≡ Some Now → due_in later state wait messages ≡ Some Now
stays_in now later CsExecute wait messages more h = stays_wait now later CsExecute wait messages more h
stays_in now later CsPark wait messages more h = stays_wait now later CsPark wait messages more h
stays_in now later _ wait messages more h = h

next_in : (now : ℕ) (state : State) (wait : Wait) (messages actions : List Action) →
    is_some (first_of (pending_in state wait messages actions)) ≡ true → due_in now state wait messages ≡ Some Now
next_in now CsExecute Ready messages actions h = refl
next_in now CsExecute Parked [] actions h = absurd (cc)
next_in now CsExecute Parked (message ∷ messages) actions h = refl
next_in now CsExecute (Socket conn) [] actions h = absurd (cc)
next_in now CsExecute (Socket conn) (message ∷ messages) actions h = refl
next_in now CsPark Parked [] actions h = absurd (cc)
next_in now CsPark Parked (message ∷ messages) actions h = refl
next_in now CsPark (Socket conn) [] actions h = absurd (cc)
next_in now CsPark (Socket conn) (message ∷ messages) actions h = refl
next_in now _ _ messages actions h = absurd (cc)

-- a moment that is told is still to come
pub is_to_come : (now until : ℕ) (c : Chan) → due_of now c ≡ Some (At until) → now < until
is_to_come now until c h = to_come_in now until c.state c.wait c.messages h

-- once it has come, there is something to do
pub has_come : (now until : ℕ) (c : Chan) → due_of now c ≡ Some (At until) → due_of until c ≡ Some Now
has_come now until c h = has_come_in now until c.state c.wait c.messages h

-- what is to be done stays so
pub stays_due : (now later : ℕ) (c : Chan) → now ≤ later → due_of now c ≡ Some Now → due_of later c ≡ Some Now
stays_due now later c more h = stays_in now later c.state c.wait c.messages more h

-- what is run next is to be run at once
pub next_is_due : (now : ℕ) (c : Chan) → is_some (next_action c) ≡ true → due_of now c ≡ Some Now
next_is_due now c h = next_in now c.state c.wait c.messages c.actions h
