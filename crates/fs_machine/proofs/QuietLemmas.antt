-- What a run leaves of a connection where it goes on without naming it, and what an entry of its own does to it.
use Rattle.std.proofs.Common.{◌≡◌, ℕ, suc, ◌-◌, ◌^◌, ◌<◌, ◌≤◌, ◌==◌, ◌||◌, Bool, true, false, not, if◌then◌else◌, List, [], ◌∷◌}
use Rattle.std.proofs.Common.{◌++◌, length, take, slice_get, Option, None, Some, is_some, unwrap_or, ◌⊎◌, inl, inr, refl, sym, ap, subst}
use Rattle.std.proofs.Common.{◌∙◌, arith}
use Rattle.std.proofs.Common.{append_assoc, append-nil}
use Rattle.std.proofs.lemmas.Bool.{both_ways, ne_eqb, eq-eqb, cases_eq}
use Rattle.std.proofs.lemmas.Option.{same_Some, none-some}
use Rattle.fs_text.specs.Texts.{Text}
use Rattle.fs_doc.specs.Reading.{Configuration}
use Rattle.fs_seats.specs.Rows.{seat_of}
use Rattle.fs_state.specs.Switch.{Switch, empty, at_moment, waiting_for}
use Rattle.fs_book.specs.Opened.{OpensAt, OwnsNumber, NoneNames, Quiet}
use Rattle.fs_book.specs.Numbered.{counted_where, count_behind}
use Rattle.fs_machine.specs.declared.entry.Entry.{Entry}
use Rattle.fs_machine.specs.declared.entry.Act.{Act}
use Rattle.fs_machine.specs.declared.entry.Act.TheVariants.{Arrive, Command, Take, Close, Dialed, Work, Job, Loaded, Halt}
use Rattle.fs_machine.specs.declared.entry.Closing.TheVariants.{EndOfInput, Sent, Failed}
use Rattle.fs_machine.specs.declared.refusal.Refusal.TheVariants as refusal
use Rattle.fs_machine.specs.declared.reply.Reply.{Reply}
use Rattle.fs_machine.specs.declared.reply.Reply.TheVariants as reply
use Rattle.fs_machine.specs.Connections.{phase_at}
use Rattle.fs_machine.specs.Questions.{owed_to}
use Rattle.fs_machine.specs.Step.{is_closed, refused_where, refusal_of, act_done, step}
use Rattle.fs_machine.specs.Runs.{run_from, IsRunFrom}
use Rattle.fs_machine.specs.Frames.{given_by, frames_from, handed_in, handed_from, command_in, commands_of}
use Rattle.fs_machine.specs.Controlling.{coming_number}
use Rattle.fs_machine.specs.Concerns.{actor_of, comer_of, first_phase, KeepsOrParts, IsOthers}
use Rattle.fs_machine.specs.Laws.{state_after, given_to, handed_to}
use Rattle.fs_machine.specs.Turned.{IsJournal, Answers, opens, names, comes_by, comes_after}
use Rattle.fs_machine.specs.Carried.{closes_sent, is_sent, shuts, HasCome, Carries, Does, Begins}
use Rattle.fs_machine.proofs.KeepLemmas.{Keeps, act_keeps}
use Rattle.fs_machine.proofs.WaitingLemmas.{none_closed, some_open, keeps_seat}
use Rattle.fs_machine.proofs.OrderLemmas.{Orderly, gone_seat, acted_drawn, none_refused, not_full, not_refused}
use Rattle.fs_machine.proofs.OrderLemmas.{room_left, advanced_orderly}
use Rattle.fs_machine.proofs.OrderLemmas.{entry_orderly, run_orderly, empty_orderly}
use Rattle.fs_machine.proofs.RunLemmas.{run_more, is_run_more, run_behind, runs_both}
use Rattle.fs_machine.proofs.FrameLemmas.{handed_more}
use Rattle.fs_machine.proofs.FramesLaws.{frames_more}
use Rattle.fs_machine.proofs.ConcernLemmas.{comer_number, comer_handed, others, own, comes, closed_gives_none, reads_open}
use Rattle.fs_machine.proofs.BehindLemmas.{counted_at}
use Rattle.fs_machine.proofs.PartLemmas.{take_keeps}
use Rattle.fs_machine.proofs.ArrivalLemmas.{entry_counts, run_counts, none_more}

-- ---- one list behind another

pub frames_append : (conn : ℕ) (s : Switch) (xs ys : List Entry) →
    frames_from conn s (xs ++ ys) ≡ frames_from conn s xs ++ frames_from conn (run_from s xs) ys
frames_append conn s [] ys = refl
frames_append conn s (x ∷ xs) ys =
    ap (λ fs. given_by conn s x ++ fs) (frames_append conn (step s x).state xs ys)
    ∙ sym (append_assoc (given_by conn s x) (frames_from conn (step s x).state xs) (frames_from conn (run_from (step s x).state xs) ys))

pub handed_append : (conn : ℕ) (s : Switch) (xs ys : List Entry) →
    handed_from conn s (xs ++ ys) ≡ handed_from conn s xs ++ handed_from conn (run_from s xs) ys
handed_append conn s [] ys = refl
handed_append conn s (x ∷ xs) ys =
    ap (λ fs. handed_in conn x.act s ++ fs) (handed_append conn (step s x).state xs ys)
    ∙ sym (append_assoc (handed_in conn x.act s) (handed_from conn (step s x).state xs)
    (handed_from conn (run_from (step s x).state xs) ys))

pub commands_append : (conn : ℕ) (xs ys : List Entry) → commands_of conn (xs ++ ys) ≡ commands_of conn xs ++ commands_of conn ys
commands_append conn [] ys = refl
commands_append conn (x ∷ xs) ys =
    ap (λ bs. command_in conn x.act ++ bs) (commands_append conn xs ys)
    ∙ sym (append_assoc (command_in conn x.act) (commands_of conn xs) (commands_of conn ys))

or_assoc : (a b c : Bool) → (a || (b || c)) ≡ ((a || b) || c)
or_assoc true b c = refl
or_assoc false b c = refl

or_false : (b : Bool) → (b || false) ≡ b
or_false true = refl
or_false false = refl

pub sent_append : (conn : ℕ) (xs ys : List Entry) → is_sent conn (xs ++ ys) ≡ (is_sent conn xs || is_sent conn ys)
sent_append conn [] ys = refl
sent_append conn (x ∷ xs) ys =
    ap (λ b. closes_sent conn x.act || b) (sent_append conn xs ys)
    ∙ or_assoc (closes_sent conn x.act) (is_sent conn xs) (is_sent conn ys)

-- ---- an entry that does not name a connection

-- one that has come is not the one that comes
apart : (conn : ℕ) (act : Act) (s : Switch) → s.drawn.conns < 2 ^ 32 - 1 → HasCome conn s → comer_of act s ≡ Some conn → ⊥
apart conn act s room come is = let n = comer_number act s conn is in omega (arith, room, come, n)

pub others_of : (conn : ℕ) (s : Switch) (entry : Entry) → Orderly s → refusal_of s entry ≡ None → HasCome conn s →
    (names entry ≡ Some conn → ⊥) → IsOthers conn s entry
others_of conn s entry orderly none come differs =
    others conn s entry orderly none differs (apart conn entry.act s (room_left s orderly (not_full s entry none)) come)

-- one that has come has come for good
pub come_on : (conn : ℕ) (s : Switch) (entry : Entry) → Orderly s → refusal_of s entry ≡ None → HasCome conn s →
    HasCome conn (step s entry).state
unfolding step
come_on conn s entry orderly none come =
    omega (arith, come, (acted_drawn entry.act (at_moment entry.moment s) (room_left s orderly (not_full s entry none))).0)

-- what others make of a connection does not close it
shut_still : (conn : ℕ) (s t : Switch) → KeepsOrParts conn s t → is_closed (phase_at t conn) ≡ is_closed (phase_at s conn)
shut_still conn s t (inl keeps) = ap is_closed keeps.phase
shut_still conn s t (inr parts) = ap is_closed parts.ending ∙ sym (reads_open (phase_at s conn) (ap not parts.read))

no_command : (conn : ℕ) (act : Act) → (actor_of act ≡ Some conn → ⊥) → command_in conn act ≡ []
no_command conn (Command giver block) differs = ap (λ b. if b then block ∷ [] else []) (ne_eqb giver conn (λ same. differs (ap Some same)))
no_command conn _ differs = refl

no_send : (conn : ℕ) (act : Act) → (actor_of act ≡ Some conn → ⊥) → closes_sent conn act ≡ false
no_send conn (Close closer Sent) differs = ne_eqb closer conn (λ same. differs (ap Some same))
no_send conn _ differs = refl

-- what entries that do not name a connection leave of it
record Leaves (conn : ℕ) (s : Switch) (entries : List Entry) : Type 0 where
  come : HasCome conn (run_from s entries)
  shut : is_closed (phase_at (run_from s entries) conn) ≡ is_closed (phase_at s conn)
  owed : owed_to s conn ≡ None → owed_to (run_from s entries) conn ≡ None
  handed : handed_from conn s entries ≡ []
  silent : is_closed (phase_at s conn) ≡ true → frames_from conn s entries ≡ []
  commands : commands_of conn entries ≡ []
  unsent : is_sent conn entries ≡ false

leaves : (conn : ℕ) (s : Switch) (entries : List Entry) → Orderly s → IsRunFrom s entries → HasCome conn s →
    NoneNames names conn entries → Leaves conn s entries
leaves conn s [] orderly run come none = record {
  come = come;
  shut = refl;
  owed = λ h. h;
  handed = refl;
  silent = λ h. refl;
  commands = refl;
  unsent = refl;
}
leaves conn s (entry ∷ entries) orderly run come none =
    let one = others_of conn s entry orderly run.0 come none.0 in
    let still = shut_still conn s (step s entry).state one.phase in
    let all = leaves conn (step s entry).state entries (entry_orderly s entry orderly run.0) run.1 (come_on conn s entry orderly run.0 come)
    none.1 in
    record {
      come = all.come;
      shut = all.shut ∙ still;
      owed = λ h. all.owed (one.owed h);
      handed = ap (λ fs. fs ++ handed_from conn (step s entry).state entries) one.handed ∙ all.handed;
      silent = λ h.
          ap (λ fs. fs ++ frames_from conn (step s entry).state entries) (closed_gives_none conn s entry (still ∙ h))
          ∙ all.silent (still ∙ h);
      commands = ap (λ bs. bs ++ commands_of conn entries) (no_command conn entry.act none.0) ∙ all.commands;
      unsent = ap (λ b. b || is_sent conn entries) (no_send conn entry.act none.0) ∙ all.unsent;
    }

orderly_after : (config : Configuration) (log : List Entry) → IsJournal config log → Orderly (state_after config log)
orderly_after config log journal = run_orderly (empty config) log (empty_orderly config journal.within.settings.journal.1) journal.run

-- a run's front is one
pub journal_front : (config : Configuration) (xs ys : List Entry) → IsJournal config (xs ++ ys) → IsJournal config xs
journal_front config xs ys journal = record { within = journal.within; run = (runs_both (empty config) xs ys journal.run).0 }

carries_more : (conn : ℕ) (config : Configuration) (old more : List Entry) → IsJournal config (old ++ more) →
    HasCome conn (state_after config old) → NoneNames names conn more → Carries conn config old (old ++ more)
carries_more conn config old more journal come none =
    let run = runs_both (empty config) old more journal.run in
    let all = leaves conn (state_after config old) more (orderly_after config old (journal_front config old more journal)) run.1 come none in
    let went : state_after config (old ++ more) ≡ run_from (state_after config old) more = run_behind (empty config) old more in
    record {
      run = journal;
      come = subst (HasCome conn) (sym went) all.come;
      shut = ap (λ (s : Switch). is_closed (phase_at s conn)) went ∙ all.shut;
      owed = λ h. ap (λ (s : Switch). owed_to s conn) went ∙ all.owed h;
      handed =
          handed_append conn (empty config) old more
          ∙ ap (λ fs. handed_to conn config old ++ fs) all.handed ∙ append-nil (handed_to conn config old);
      more = frames_from conn (state_after config old) more;
      given = frames_append conn (empty config) old more;
      silent = λ h.
          frames_append conn (empty config) old more
          ∙ ap (λ fs. given_to conn config old ++ fs) (all.silent h) ∙ append-nil (given_to conn config old);
      commands =
          commands_append conn old more ∙ ap (λ bs. commands_of conn old ++ bs) all.commands ∙ append-nil (commands_of conn old);
      sent = sent_append conn old more ∙ ap (λ b. is_sent conn old || b) all.unsent ∙ or_false (is_sent conn old);
    }

pub carries : (conn : ℕ) (config : Configuration) (old new : List Entry) → IsJournal config new → HasCome conn (state_after config old) →
    Quiet names conn old new → Carries conn config old new
carries conn config old new journal come quiet =
    subst (Carries conn config old) quiet.split
    (carries_more conn config old quiet.more (subst (IsJournal config) (sym quiet.split) journal) come quiet.none)

-- ---- an entry of its own

-- it stays open where its act does not close it
kept_open : {who : Option ℕ} {may_end : Bool} → (conn : ℕ) (s t u : Switch) → Keeps who may_end s t → u.conns ≡ t.conns → Orderly u →
    is_closed (phase_at s conn) ≡ false → is_closed (phase_at u conn) ≡ false
kept_open conn s t u keeps same orderly is_open = by (seat_of s.conns conn) refl
  where
    by : (found : Option ℕ) → seat_of s.conns conn ≡ found → is_closed (phase_at u conn) ≡ false
    by None is = absurd (both_ways (is_closed (phase_at s conn)) is_open (none_closed s conn is))
    by (Some seat) is =
        some_open u conn seat orderly.ordered.opened (ap (λ rows. seat_of rows conn) same ∙ keeps_seat s t keeps conn ∙ is)

-- one that is closed is gone
gone_shut : (conn : ℕ) (s u : Switch) → u.conns ≡ s.conns → seat_of s.conns conn ≡ None → is_closed (phase_at u conn) ≡ true
gone_shut conn s u same none = none_closed u conn (ap (λ rows. seat_of rows conn) same ∙ none)

own_shut : (conn moment : ℕ) (act : Act) (s : Switch) → Orderly s → refusal_of s (record { moment = moment; act = act }) ≡ None →
    actor_of act ≡ Some conn → is_closed (phase_at s conn) ≡ false →
    is_closed (phase_at (step s (record { moment = moment; act = act })).state conn) ≡ shuts act
unfolding step
own_shut conn moment Arrive s orderly none actor is_open = absurd (none-some conn actor)
own_shut conn moment (Command giver block) s orderly none actor is_open =
    kept_open conn (at_moment moment s) (act_done (Command giver block) (at_moment moment s)).state
    (step s (record { moment = moment; act = Command giver block })).state
    (act_keeps (Command giver block) (at_moment moment s)) refl
    (entry_orderly s (record { moment = moment; act = Command giver block }) orderly none) is_open
own_shut conn moment (Take taker) s orderly none actor is_open =
    ap is_closed (take_keeps conn moment taker s orderly.settled).phase ∙ is_open
own_shut conn moment (Close closer EndOfInput) s orderly none actor is_open =
    kept_open conn (at_moment moment s) (act_done (Close closer EndOfInput) (at_moment moment s)).state
    (step s (record { moment = moment; act = Close closer EndOfInput })).state
    (act_keeps (Close closer EndOfInput) (at_moment moment s)) refl
    (entry_orderly s (record { moment = moment; act = Close closer EndOfInput }) orderly none) is_open
own_shut conn moment (Close closer Sent) s orderly none actor is_open =
    gone_shut conn (act_done (Close closer Sent) (at_moment moment s)).state
    (step s (record { moment = moment; act = Close closer Sent })).state refl
    (subst (λ n. seat_of (act_done (Close closer Sent) (at_moment moment s)).state.conns n ≡ None) (same_Some closer conn actor)
    (gone_seat closer (at_moment moment s) (advanced_orderly moment s orderly).ordered))
own_shut conn moment (Close closer Failed) s orderly none actor is_open =
    gone_shut conn (act_done (Close closer Failed) (at_moment moment s)).state
    (step s (record { moment = moment; act = Close closer Failed })).state refl
    (subst (λ n. seat_of (act_done (Close closer Failed) (at_moment moment s)).state.conns n ≡ None) (same_Some closer conn actor)
    (gone_seat closer (at_moment moment s) (advanced_orderly moment s orderly).ordered))
own_shut conn moment (Dialed slot linked) s orderly none actor is_open = absurd (none-some conn actor)
own_shut conn moment (Work slot) s orderly none actor is_open = absurd (none-some conn actor)
own_shut conn moment (Job number) s orderly none actor is_open = absurd (none-some conn actor)
own_shut conn moment (Loaded number note) s orderly none actor is_open = absurd (none-some conn actor)
own_shut conn moment Halt s orderly none actor is_open = absurd (none-some conn actor)

pub does : (conn : ℕ) (config : Configuration) (before : List Entry) (entry : Entry) (reply : Reply) → Answers config before entry reply →
    HasCome conn (state_after config before) → names entry ≡ Some conn → Does conn config before entry
does conn config before entry reply answers come named =
    let s : Switch = state_after config before in
    let orderly : Orderly s = orderly_after config before answers.before in
    let its = own conn s entry orderly answers.defined named in
    let went : state_after config (before ++ entry ∷ []) ≡ (step s entry).state = run_more (empty config) before entry in
    record {
      run = record {
        within = answers.before.within;
        run = is_run_more (empty config) before entry answers.before.run answers.defined;
      };
      come = subst (HasCome conn) (sym went) (come_on conn s entry orderly answers.defined come);
      was_open = its.was_open;
      shut =
          ap (λ (t : Switch). is_closed (phase_at t conn)) went
          ∙ own_shut conn entry.moment entry.act s orderly answers.defined named its.was_open;
      handed = handed_more conn (empty config) before entry;
      more = given_by conn s entry;
      given = frames_more conn (empty config) before entry;
      commands =
          commands_append conn before (entry ∷ []) ∙ ap (λ bs. commands_of conn before ++ bs) (append-nil (command_in conn entry.act));
      sent = sent_append conn before (entry ∷ []) ∙ ap (λ b. is_sent conn before || b) (or_false (closes_sent conn entry.act));
    }

-- the frame that a Take hands out is the first that waits
first_of : (waiting : List Text) (frame : Text) → (length waiting == 0) ≡ false →
    reply.Frame frame ≡ reply.Frame (unwrap_or (slice_get waiting 0) []) → take 1 waiting ≡ frame ∷ []
first_of [] frame some is = absurd (cc)
first_of (first ∷ waiting) frame some is = let same : frame ≡ first = cc is in ap (λ x. x ∷ []) (sym same)

taken_first : (conn moment : ℕ) (s : Switch) (frame : Text) → refusal_of s (record { moment = moment; act = Take conn }) ≡ None →
    reply.Frame frame ≡ (step s (record { moment = moment; act = Take conn })).reply → take 1 (waiting_for s conn) ≡ frame ∷ []
unfolding step
taken_first conn moment s frame none is =
    let parts =
    none_refused (is_closed (phase_at s conn)) refusal.Gone (refused_where (length (waiting_for s conn) == 0) refusal.Empty None)
    (not_refused s (record { moment = moment; act = Take conn }) none) in
    first_of (waiting_for s conn) frame (none_refused (length (waiting_for s conn) == 0) refusal.Empty None parts.1).0 is

pub takes : (conn moment : ℕ) (config : Configuration) (before : List Entry) (frame : Text) →
    Answers config before (record { moment = moment; act = Take conn }) (reply.Frame frame) →
    handed_in conn (Take conn) (state_after config before) ≡ frame ∷ []
takes conn moment config before frame answers =
    ap (λ b. if b then take 1 (waiting_for (state_after config before) conn) else []) (eq-eqb conn conn refl)
    ∙ taken_first conn moment (state_after config before) frame answers.defined answers.reply_is

-- a Take is answered by a frame
pub takes_frame : (conn moment : ℕ) (config : Configuration) (before : List Entry) (answer : Reply) →
    Answers config before (record { moment = moment; act = Take conn }) answer → (frame : Text) × (answer ≡ reply.Frame frame)
unfolding step
takes_frame conn moment config before answer answers =
    (unwrap_or (slice_get (waiting_for (state_after config before) conn) 0) [], answers.reply_is)

-- ---- a connection that no entry names yet

record Begun (conn : ℕ) (s : Switch) (entries : List Entry) : Type 0 where
  live : (HasCome conn s → is_closed (phase_at s conn) ≡ false) → HasCome conn (run_from s entries) →
      is_closed (phase_at (run_from s entries) conn) ≡ false
  handed : handed_from conn s entries ≡ []
  commands : commands_of conn entries ≡ []
  unsent : is_sent conn entries ≡ false

-- one entry
record BeginsBy (conn : ℕ) (s : Switch) (entry : Entry) : Type 0 where
  live : (HasCome conn s → is_closed (phase_at s conn) ≡ false) → HasCome conn (step s entry).state →
      is_closed (phase_at (step s entry).state conn) ≡ false
  handed : handed_in conn entry.act s ≡ []

-- no number is drawn but by a connection that comes
come_before : (b : Bool) (conn drawn later : ℕ) → b ≡ false → later ≡ counted_where b drawn → conn ≤ later → conn ≤ drawn
come_before true conn drawn later is counts come = absurd (cc)
come_before false conn drawn later is counts come = omega (arith, counts, come)

come_below : (conn drawn later : ℕ) → later ≡ suc drawn → (later ≡ conn → ⊥) → conn ≤ later → conn ≤ drawn
come_below conn drawn later counts differ come = by (cases_eq later conn)
  where
    by : (later ≡ conn) ⊎ (later ≡ conn → ⊥) → conn ≤ drawn
    by (inl same) = absurd (differ same)
    by (inr apart) = grind (arith, counts, apart, come)

others_begin : (conn : ℕ) (s : Switch) (entry : Entry) → IsOthers conn s entry →
    (HasCome conn (step s entry).state → HasCome conn s) → BeginsBy conn s entry
others_begin conn s entry one before = record {
  live = λ was come. shut_still conn s (step s entry).state one.phase ∙ was (before come);
  handed = one.handed;
}

-- one is counted just where one comes
comer_comes : (act : Act) (s : Switch) → is_some (comer_of act s) ≡ comes_by act s
comer_comes (Dialed slot linked) s = refl
comer_comes _ s = refl

-- one that comes is open
first_open : (act : Act) → is_closed (first_phase act) ≡ false
first_open Arrive = refl
first_open _ = refl

begins_by : (conn moment : ℕ) (act : Act) (s : Switch) → Orderly s → refusal_of s (record { moment = moment; act = act }) ≡ None →
    (actor_of act ≡ Some conn → ⊥) → BeginsBy conn s (record { moment = moment; act = act })
begins_by conn moment act s orderly none differs = by (comer_of act s) refl
  where
    entry : Entry
    entry = record { moment = moment; act = act }

    room : s.drawn.conns < 2 ^ 32 - 1
    room = room_left s orderly (not_full s entry none)

    next : coming_number s ≡ suc s.drawn.conns
    next = omega (arith, room)

    counts : (b : Bool) → is_some (comer_of act s) ≡ b → (step s entry).state.drawn.conns ≡ counted_where b s.drawn.conns
    counts b is =
        entry_counts s entry orderly none ∙ ap (λ b. counted_where b s.drawn.conns) (sym (comer_comes act s) ∙ is)

    comes_now : (number : ℕ) → comer_of act s ≡ Some number → (number ≡ conn) ⊎ (number ≡ conn → ⊥) → BeginsBy conn s entry
    comes_now number is (inl same) = record {
      live = λ was come. ap is_closed (comes conn moment act s orderly none (is ∙ ap Some same)).after ∙ first_open act;
      handed = comer_handed act s s conn number is;
    }
    comes_now number is (inr apart) =
        others_begin conn s entry (others conn s entry orderly none differs (λ its. apart (same_Some number conn (sym is ∙ its))))
        (come_below conn s.drawn.conns (step s entry).state.drawn.conns (counts true (ap is_some is))
        (λ its. apart (sym (comer_number act s number is) ∙ (next ∙ (sym (counts true (ap is_some is)) ∙ its)))))

    by : (comer : Option ℕ) → comer_of act s ≡ comer → BeginsBy conn s entry
    by None is =
        others_begin conn s entry (others conn s entry orderly none differs (λ its. none-some conn (sym is ∙ its)))
        (come_before false conn s.drawn.conns (step s entry).state.drawn.conns refl (counts false (ap is_some is)))
    by (Some number) is = comes_now number is (cases_eq number conn)

begun : (conn : ℕ) (s : Switch) (entries : List Entry) → Orderly s → IsRunFrom s entries → NoneNames names conn entries →
    Begun conn s entries
begun conn s [] orderly run none = record { live = λ was come. was come; handed = refl; commands = refl; unsent = refl }
begun conn s (entry ∷ entries) orderly run none =
    let one = begins_by conn entry.moment entry.act s orderly run.0 none.0 in
    let all = begun conn (step s entry).state entries (entry_orderly s entry orderly run.0) run.1 none.1 in
    record {
      live = λ was come. all.live (one.live was) come;
      handed = ap (λ fs. fs ++ handed_from conn (step s entry).state entries) one.handed ∙ all.handed;
      commands = ap (λ bs. bs ++ commands_of conn entries) (no_command conn entry.act none.0) ∙ all.commands;
      unsent = ap (λ b. b || is_sent conn entries) (no_send conn entry.act none.0) ∙ all.unsent;
    }

-- ---- what is owned has come

next_opened : (b : Bool) (count number : ℕ) → ◌≡◌ {A = Option ℕ} (if b then Some (suc count) else None) (Some number) →
    (b ≡ true) × (suc count ≡ number)
next_opened true count number is = (refl, cc is)
next_opened false count number is = absurd (cc is)

pub has_come : (conn p : ℕ) (config : Configuration) (log : List Entry) → IsJournal config log → OpensAt opens config log p conn →
    HasCome conn (state_after config log)
has_come conn p config log journal opened =
    let test : List Entry → Entry → Bool = comes_after config in
    let next = next_opened (test (take p log) opened.0) (count_behind test [] (take p log)) conn opened.2 in
    let counted = counted_at test [] log p opened.0 opened.1 next.0 in
    let drawn : (state_after config log).drawn.conns ≡ count_behind test [] log =
    run_counts config [] log (empty_orderly config journal.within.settings.journal.1) journal.run
    ∙ none_more (count_behind test [] log) in
    omega (arith, next.1, counted, drawn)

pub begins : (conn : ℕ) (config : Configuration) (log : List Entry) (mine : List ℕ) → IsJournal config log →
    OwnsNumber opens config conn log mine → NoneNames names conn log → Begins conn config log
begins conn config log mine journal owns none =
    let come = has_come conn owns.0 config log journal owns.2 in
    let all = begun conn (empty config) log (empty_orderly config journal.within.settings.journal.1) journal.run none in
    let test : List Entry → Entry → Bool = comes_after config in
    let next = next_opened (test (take owns.0 log) owns.2.0) (count_behind test [] (take owns.0 log)) conn owns.2.2 in
    record {
      come = come;
      open_yet = all.live (λ (early : conn ≤ 0). absurd (omega (arith, early, next.1))) come;
      handed = all.handed;
      commands = all.commands;
      unsent = all.unsent;
    }
