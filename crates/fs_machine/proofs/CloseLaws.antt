-- When a connection is ending, and can be closed.
use Rattle.std.proofs.Common.{◌≡◌, ◌≢◌, ℕ, ◌==◌, Bool, true, false, not, ◌||◌, List, [], length, Option, None, Some, is_some, refl, sym, ap}
use Rattle.std.proofs.Common.{◌⊎◌, inl, inr, subst, ◌∙◌}
use Rattle.std.specs.Option.{option_and_then}
use Rattle.std.proofs.lemmas.Option.{none-some}
use Rattle.fs_seats.specs.Rows.{seat_of, row_of, with_row}
use Rattle.fs_seats.proofs.RowLemmas.{row_none, row_of-with_row_same}
use Rattle.fs_state.specs.declared.conn.Conn.{Conn}
use Rattle.fs_state.specs.declared.conn.Phase.{Phase}
use Rattle.fs_state.specs.declared.conn.Phase.TheVariants.{Fresh, Ready, Ending, Closed}
use Rattle.fs_state.specs.declared.conn.Parting.TheVariants as parting
use Rattle.fs_text.specs.Texts.{Text}
use Rattle.fs_state.specs.Switch.{Switch, conn_of, waiting_for, at_moment}
use Rattle.fs_machine.specs.declared.entry.Act.TheVariants.{Take, Close}
use Rattle.fs_machine.specs.declared.entry.Closing.TheVariants.{EndOfInput, Sent}
use Rattle.fs_machine.specs.declared.refusal.Refusal.TheVariants as refusal
use Rattle.fs_machine.specs.Connections.{phase_of, phase_at, parted, conn_changed, conn_changed_from}
use Rattle.fs_machine.specs.Controlling.{after_letting_go, after_leavings}
use Rattle.fs_machine.specs.Questions.{owed_of, owes}
use Rattle.fs_machine.specs.Owed.{PartsIn, Parts, AreOwed}
use Rattle.fs_machine.specs.Step.{Acted, step, reads, is_closed, is_ending, refused_where, refused_act}
use Rattle.fs_machine.proofs.ControlLemmas.{behind_owed}
use Rattle.fs_machine.proofs.KeepLemmas.{Sockets, IsLeft, IsStopped, left_settles, freed_sockets}
use Rattle.fs_machine.proofs.LeftLemmas.{NoneLeft, take_done}

-- one that is there and reads no commands is ending
ending_in : (c : Conn) → Parts c → reads c.phase ≡ false → c.phase ≡ Ending
ending_in c parts none = by c.phase refl
  where
    by : (now : Phase) → c.phase ≡ now → now ≡ Ending
    by Fresh is = let reading : reads Fresh ≡ false = ap reads (sym is) ∙ none in absurd (cc reading)
    by Ready is = let reading : reads Ready ≡ false = ap reads (sym is) ∙ none in absurd (cc reading)
    by Ending is = refl
    by Closed is = absurd (subst (λ (now : Phase). PartsIn now c.parting) is parts)

pub ending_at : (s : Switch) (conn : ℕ) → AreOwed s → conn_of s conn ≢ None → reads (phase_at s conn) ≡ false → phase_at s conn ≡ Ending
ending_at s conn owed there none = by (conn_of s conn) refl
  where
    by : (found : Option Conn) → conn_of s conn ≡ found → phase_at s conn ≡ Ending
    by None is = absurd (there is)
    by (Some c) is =
        ap phase_of is ∙ ending_in c (owed.parted conn c is) (sym (ap (λ (found : Option Conn). reads (phase_of found)) is) ∙ none)

-- a connection that is there is changed
changed_at : (s : Switch) (conn : ℕ) (c d : Conn) → conn_of s conn ≡ Some c → row_of (with_row s.conns conn d) conn ≡ Some d
changed_at s conn c d is = by (seat_of s.conns conn) refl
  where
    by : (found : Option ℕ) → seat_of s.conns conn ≡ found → row_of (with_row s.conns conn d) conn ≡ Some d
    by None none = absurd (none-some c (sym (row_none s.conns conn none) ∙ is))
    by (Some seat) there = row_of-with_row_same s.conns conn seat d there

abbrev owed_in : Option Conn → Bool
owed_in found = is_some (option_and_then owed_of found)

-- one that is ending is so where others part
ending_stays : (s : Switch) (conn : ℕ) → phase_at s conn ≡ Ending → phase_at (after_leavings s) conn ≡ Ending
ending_stays s conn ending = by (left_settles s conn).way
  where
    by : IsLeft (conn_of s conn) (conn_of (after_leavings s) conn) ⊎ IsStopped (conn_of s conn) (conn_of (after_leavings s) conn) →
        phase_at (after_leavings s) conn ≡ Ending
    by (inl stays) = stays.phase ∙ ending
    by (inr stops) = stops.ending

-- the end of its input parts one that reads commands, and changes nothing in what it is owed
pub end_parts : (s : Switch) (moment conn : ℕ) → reads (phase_at s conn) ≡ true → owes s conn ≡ false →
    (phase_at (step s (record { moment = moment; act = Close conn EndOfInput })).state conn ≡ Ending) × (owes
    (step s (record { moment = moment; act = Close conn EndOfInput })).state conn ≡ false)
unfolding step
end_parts s moment conn reading owes_none =
    (ending_stays silent conn parts.0, ap is_some (behind_owed silent conn) ∙ parts.1)
  where
    free : Switch
    free = after_letting_go conn (at_moment moment s)

    silent : Switch
    silent = conn_changed (parted parting.EndOfInput) conn free

    same : conn_of free conn ≡ conn_of s conn
    same = ap (λ (x : Sockets). row_of x.conns conn) (freed_sockets conn (at_moment moment s))

    by : (found : Option Conn) → conn_of free conn ≡ found →
        (phase_at (conn_changed_from (parted parting.EndOfInput) conn found free) conn ≡ Ending)
        × (owes (conn_changed_from (parted parting.EndOfInput) conn found free) conn ≡ false)
    by None is =
        let closed : reads Closed ≡ true =
        ap (λ (found : Option Conn). reads (phase_of found)) (sym is ∙ same) ∙ reading in absurd (cc closed)
    by (Some c) is = let there = changed_at free conn c (parted parting.EndOfInput c) is in
        (ap phase_of there, ap owed_in there ∙ ap owed_in (sym is ∙ same) ∙ owes_none)

    parts : (phase_at silent conn ≡ Ending) × (owes silent conn ≡ false)
    parts = by (conn_of free conn) refl

-- taking a frame leaves the phase, where no connection stands whose channel has left it
pub take_leaves_phase : (s : Switch) (moment conn : ℕ) → NoneLeft s →
    phase_at (step s (record { moment = moment; act = Take conn })).state conn ≡ phase_at s conn
unfolding step
take_leaves_phase s moment conn none = ap (λ (done : Acted). phase_at done.state conn) (take_done conn (at_moment moment s) none)

-- something is still to be sent, or it may give commands
abbrev unsent_in : Phase → ℕ → Bool → Bool
unsent_in now queued owed = not (is_ending now) || (not (queued == 0) || owed)

-- one that is ending, for which nothing waits and that is owed nothing can be closed
pub sent_accepted : (s : Switch) (conn : ℕ) → phase_at s conn ≡ Ending → waiting_for s conn ≡ [] → owes s conn ≡ false →
    refused_act (Close conn Sent) s ≡ None
sent_accepted s conn ending nothing free =
    ap (λ (now : Phase). refused_where (is_closed now) refusal.Gone
    (refused_where (unsent_in now (length (waiting_for s conn)) (owes s conn))
    (refusal.Unsent (length (waiting_for s conn)) (owes s conn)) None)) ending
    ∙ ap (λ (texts : List Text). refused_where (unsent_in Ending (length texts) (owes s conn))
    (refusal.Unsent (length texts) (owes s conn)) None) nothing
    ∙ ap (λ (owed : Bool). refused_where (unsent_in Ending 0 owed) (refusal.Unsent 0 owed) None) free
