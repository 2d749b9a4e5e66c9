-- Which entries are refused since the journal is full.
use Rattle.std.proofs.Common.{◌≡◌, ◌≢◌, ℕ, ◌==◌, Bool, true, false, not, length, Option, None, Some, is_some, is_none, refl, sym, ap, ◌∙◌, if◌then◌else◌, true≢false}
use Rattle.fs_chan.specs.declared.due.Due.{Due}
use Rattle.fs_chan.specs.declared.due.Due.TheVariants.{Now, At}
use Rattle.fs_state.specs.Switch.{Switch, waiting_for, is_full_of_conns, at_moment, is_full, is_full_for_load}
use Rattle.fs_machine.specs.declared.entry.Entry.{Entry}
use Rattle.fs_machine.specs.declared.entry.Act.{Act}
use Rattle.fs_machine.specs.declared.entry.Act.TheVariants.{Arrive, Command, Take, Close, Dialed, Work, Job, Loaded, Halt}
use Rattle.fs_machine.specs.declared.entry.Closing.{Closing}
use Rattle.fs_machine.specs.declared.entry.Closing.TheVariants.{EndOfInput, Sent, Failed}
use Rattle.fs_machine.specs.declared.refusal.Refusal.{Refusal}
use Rattle.fs_machine.specs.declared.refusal.Refusal.TheVariants as refusal
use Rattle.fs_machine.specs.Loading.{waits_for_load}
use Rattle.fs_machine.specs.Entries.{is_load}
use Rattle.fs_machine.specs.Connections.{phase_at}
use Rattle.fs_machine.specs.Questions.{owed_to}
use Rattle.fs_machine.specs.Controlling.{dial_at}
use Rattle.fs_machine.specs.Due.{slot_due, job_due}
use Rattle.fs_machine.specs.Step.{reads, is_closed, is_unsent, refusal_of, refused_where, refused_act, refused_close, seats_for_conns}
use Rattle.fs_machine.specs.Step.{not_due, busy, is_full_for, full_journal}
use Rattle.fs_machine.proofs.OrderLemmas.{room_for_load}

-- no other test refuses so
not_full : (test : Bool) (other : Refusal) (otherwise : Option Refusal) (cost limit : ℕ) → other ≢ refusal.JournalFull cost limit →
    otherwise ≢ Some (refusal.JournalFull cost limit) →
    refused_where test other otherwise ≢ Some (refusal.JournalFull cost limit)
not_full true other otherwise cost limit not_other not_then is = let same : other ≡ refusal.JournalFull cost limit = cc in not_other same
not_full false other otherwise cost limit not_other not_then is = not_then is

not_busy : (since : Option ℕ) (cost limit : ℕ) → busy since ≢ Some (refusal.JournalFull cost limit)
not_busy None cost limit is = cc
not_busy (Some seat) cost limit is = cc

not_yet : (due : Option Due) (cost limit : ℕ) → not_due due ≢ Some (refusal.JournalFull cost limit)
not_yet None cost limit is = cc
not_yet (Some Now) cost limit is = cc
not_yet (Some (At moment)) cost limit is = cc

-- other refusals are not this one
gone : (cost limit : ℕ) → refusal.Gone ≢ refusal.JournalFull cost limit
gone cost limit is = cc

vacant : (cost limit : ℕ) → refusal.Empty ≢ refusal.JournalFull cost limit
vacant cost limit is = cc

many : (there cost limit : ℕ) → refusal.TooMany there ≢ refusal.JournalFull cost limit
many there cost limit is = cc

undue : (cost limit : ℕ) → refusal.NotDue None ≢ refusal.JournalFull cost limit
undue cost limit is = cc

unsent : (queued : ℕ) (owed : Bool) (cost limit : ℕ) → refusal.Unsent queued owed ≢ refusal.JournalFull cost limit
unsent queued owed cost limit is = cc

nothing : (cost limit : ℕ) → None ≢ Some (refusal.JournalFull cost limit)
nothing cost limit is = cc

not_closing : (conn : ℕ) (how : Closing) (s : Switch) (cost limit : ℕ) → refused_close conn how s ≢ Some (refusal.JournalFull cost limit)
not_closing conn EndOfInput s cost limit =
    not_full (not (reads (phase_at s conn))) refusal.Gone None cost limit (gone cost limit) (nothing cost limit)
not_closing conn Sent s cost limit =
    let queued = length (waiting_for s conn) in
    let owed = is_some (owed_to s conn) in
    not_full (is_closed (phase_at s conn)) refusal.Gone (refused_where (is_unsent s conn) (refusal.Unsent queued owed) None) cost limit
    (gone cost limit)
    (not_full (is_unsent s conn) (refusal.Unsent queued owed) None cost limit (unsent queued owed cost limit) (nothing cost limit))
not_closing conn Failed s cost limit =
    not_full (is_closed (phase_at s conn)) refusal.Gone None cost limit (gone cost limit) (nothing cost limit)

not_acting : (act : Act) (s : Switch) (cost limit : ℕ) → refused_act act s ≢ Some (refusal.JournalFull cost limit)
not_acting Arrive s cost limit =
    not_full (is_some s.stopping) refusal.Gone (refused_where (is_full_of_conns s) (refusal.TooMany (seats_for_conns s)) None) cost limit
    (gone cost limit)
    (not_full (is_full_of_conns s) (refusal.TooMany (seats_for_conns s)) None cost limit (many (seats_for_conns s) cost limit)
    (nothing cost limit))
not_acting (Command conn block) s cost limit =
    not_full (not (reads (phase_at s conn))) refusal.Gone (busy (owed_to s conn)) cost limit (gone cost limit)
    (not_busy (owed_to s conn) cost limit)
not_acting (Take conn) s cost limit =
    not_full (is_closed (phase_at s conn)) refusal.Gone (refused_where (length (waiting_for s conn) == 0) refusal.Empty None) cost limit
    (gone cost limit)
    (not_full (length (waiting_for s conn) == 0) refusal.Empty None cost limit (vacant cost limit) (nothing cost limit))
not_acting (Close conn how) s cost limit = not_closing conn how s cost limit
not_acting (Dialed slot linked) s cost limit =
    not_full (is_none (dial_at s slot)) (refusal.NotDue None) None cost limit (undue cost limit) (nothing cost limit)
not_acting (Work slot) s cost limit = not_yet (slot_due slot s) cost limit
not_acting (Job number) s cost limit =
    not_full (waits_for_load number s) (refusal.NotDue None) (not_due (job_due number s)) cost limit (undue cost limit)
    (not_yet (job_due number s) cost limit)
not_acting (Loaded number note) s cost limit =
    not_full (not (waits_for_load number s)) (refusal.NotDue None) None cost limit (undue cost limit) (nothing cost limit)
not_acting Halt s cost limit = not_full (is_some s.stopping) refusal.Gone None cost limit (gone cost limit) (nothing cost limit)

-- that is where it has none for the largest of all but loads, if the entry is none
pub full_but_load : (act : Act) (s : Switch) → is_load act ≡ false → is_full_for act s ≡ true → is_full s ≡ true
full_but_load act s none full = sym (ap (λ (load : Bool). if load then is_full_for_load s else is_full s) none) ∙ full

-- and then it has none for a load
pub full_for_load : (act : Act) (s : Switch) → is_full_for act s ≡ true → is_full_for_load s ≡ true
full_for_load act s full = by (is_load act) full
  where
    more : (none : Bool) → is_full_for_load s ≡ none → is_full s ≡ true → none ≡ true
    more true is full = refl
    more false is full = absurd (true≢false (sym full ∙ room_for_load s is))

    by : (load : Bool) → (if load then is_full_for_load s else is_full s) ≡ true → is_full_for_load s ≡ true
    by true full = full
    by false full = more (is_full_for_load s) refl full

-- an entry that is refused so comes where the journal has no room for one of its kind
pub full_refused : (s : Switch) (entry : Entry) (cost limit : ℕ) → refusal_of s entry ≡ Some (refusal.JournalFull cost limit) →
    (is_full_for entry.act s ≡ true) × (cost ≡ s.cost) × (limit ≡ s.settings.journal_limit)
unfolding refusal_of
full_refused s entry cost limit is = by (is_full_for entry.act s) refl is
  where
    by : (full : Bool) → is_full_for entry.act s ≡ full →
        refused_where full (full_journal s) (refused_act entry.act (at_moment entry.moment s)) ≡ Some (refusal.JournalFull cost limit) →
        (is_full_for entry.act s ≡ true) × (cost ≡ s.cost) × (limit ≡ s.settings.journal_limit)
    by true full e = (full, cc, cc)
    by false full e = absurd (not_acting entry.act (at_moment entry.moment s) cost limit e)
