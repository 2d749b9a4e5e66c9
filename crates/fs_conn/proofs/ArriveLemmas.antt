-- A connection that has just come has made no entry.
use Rattle.std.proofs.Common.{◌≡◌, ◌≢◌, ℕ, suc, ◌<◌, Bool, true, false, if◌then◌else◌, List, [], ◌∷◌, ◌++◌, length, Option, None, Some, refl, sym, ap, subst, ◌∙◌, arith}
use mathlib.Core.List.{IsPrefix}
use Rattle.std.proofs.lemmas.Bool.{both_ways}
use Rattle.std.proofs.lemmas.Option.{none-some}
use Rattle.fs_doc.specs.Reading.{Configuration}
use Rattle.fs_seats.specs.Rows.{seat_of}
use Rattle.fs_seats.proofs.RowLemmas.{seat_stands}
use Rattle.fs_state.specs.Switch.{Switch, empty}
use Rattle.fs_book.specs.Opened.{NoneNames}
use Rattle.fs_book.specs.Numbered.{count_behind}
use Rattle.fs_book.proofs.Opening.{own_new}
use Rattle.fs_machine.specs.declared.entry.Entry.{Entry}
use Rattle.fs_machine.specs.declared.entry.Act.TheVariants.{Arrive}
use Rattle.fs_machine.specs.declared.reply.Reply.{Reply}
use Rattle.fs_machine.specs.declared.reply.Reply.TheVariants as reply
use Rattle.fs_machine.specs.Connections.{phase_at}
use Rattle.fs_machine.specs.Step.{is_closed, refusal_of, step}
use Rattle.fs_machine.specs.Runs.{run_from, IsRunFrom}
use Rattle.fs_machine.specs.Laws.{state_after}
use Rattle.fs_machine.specs.Turned.{IsJournal, Answers, comes_after, opens, names}
use Rattle.fs_machine.specs.Carried.{HasCome}
use Rattle.fs_machine.proofs.WaitingLemmas.{none_closed}
use Rattle.fs_machine.proofs.OrderLemmas.{Orderly, entry_orderly, empty_orderly}
use Rattle.fs_machine.proofs.RunLemmas.{is_run_more}
use Rattle.fs_machine.proofs.ConcernLemmas.{own}
use Rattle.fs_machine.proofs.ArrivalLemmas.{run_counts, none_more, arrived_opens}
use Rattle.fs_machine.proofs.QuietLemmas.{come_on}
use Rattle.fs_conn.specs.Owning.{OwnsConn, entry_at, Welcomed}

-- one that is open has come
pub open_come : (conn : ℕ) (s : Switch) → Orderly s → is_closed (phase_at s conn) ≡ false → HasCome conn s
open_come conn s orderly is_open = by (seat_of s.conns conn) refl
  where
    by : (found : Option ℕ) → seat_of s.conns conn ≡ found → HasCome conn s
    by None is = absurd (both_ways (is_closed (phase_at s conn)) is_open (none_closed s conn is))
    by (Some seat) is = orderly.ordered.within conn seat (seat_stands s.conns conn seat is)

come_all : (conn : ℕ) (s : Switch) (entries : List Entry) → Orderly s → IsRunFrom s entries → HasCome conn s →
    HasCome conn (run_from s entries)
come_all conn s [] orderly run come = come
come_all conn s (entry ∷ entries) orderly run come =
    come_all conn (step s entry).state entries (entry_orderly s entry orderly run.0) run.1 (come_on conn s entry orderly run.0 come)

-- no entry of a run names a connection that has not come
unnamed : (conn : ℕ) (s : Switch) (entries : List Entry) → Orderly s → IsRunFrom s entries → (run_from s entries).drawn.conns < conn →
    NoneNames names conn entries
unnamed conn s [] orderly run above = tt
unnamed conn s (entry ∷ entries) orderly run above = (
  λ named.
      let come = come_all conn s (entry ∷ entries) orderly run
      (open_come conn s orderly (own conn s entry orderly run.0 named).was_open) in
      omega (arith, above, come),
  unnamed conn (step s entry).state entries (entry_orderly s entry orderly run.0) run.1 above,
)

none_push : (conn : ℕ) (entries : List Entry) (entry : Entry) → NoneNames names conn entries → names entry ≢ Some conn →
    NoneNames names conn (entries ++ entry ∷ [])
none_push conn [] entry none not = (not, tt)
none_push conn (first ∷ entries) entry none not = (none.0, none_push conn entries entry none.1 not)

-- a connection that has come is owned, and has made no entry
pub record Came (config : Configuration) (entry : Entry) (before seen : List Entry) (mine : List ℕ) (conn : ℕ) : Type 0 where
  pub run : IsJournal config seen
  pub opened : opens config before entry ≡ Some conn
  pub owns : OwnsConn config conn seen mine
  pub fresh : NoneNames names conn seen

number_of : (b : Bool) (count number : ℕ) → ◌≡◌ {A = Option ℕ} (if b then Some (suc count) else None) (Some number) → suc count ≡ number
number_of true count number is = cc is
number_of false count number is = absurd (cc is)

-- whichever entry it comes by
pub came_by : (config : Configuration) (before : List Entry) (mine : List ℕ) (entry : Entry) (number : ℕ) → IsJournal config before →
    refusal_of (state_after config before) entry ≡ None → names entry ≡ None → opens config before entry ≡ Some number →
    Came config entry before (before ++ entry ∷ []) (mine ++ length before ∷ []) number
came_by config before mine entry number run taken unnamed_is opened =
    let orderly = empty_orderly config run.within.settings.journal.1 in
    let count : ℕ = count_behind (comes_after config) [] before in
    let drawn : (state_after config before).drawn.conns ≡ count = run_counts config [] before orderly run.run ∙ none_more count in
    let number_is : suc count ≡ number = number_of (comes_after config before entry) count number opened in
    record {
      run = record { within = run.within; run = is_run_more (empty config) before entry run.run taken };
      opened = opened;
      owns = own_new opens config number before entry mine opened;
      fresh =
          none_push number before entry (unnamed number (empty config) before orderly run.run (omega (arith, drawn, number_is)))
          (λ same. none-some number (sym unnamed_is ∙ same));
    }

pub came : (config : Configuration) (before : List Entry) (mine : List ℕ) (moment : ℕ) (answer : Reply) →
    Answers config before (entry_at moment Arrive) answer →
    (number : ℕ) × (answer ≡ reply.Arrived number)
    × Came config (entry_at moment Arrive) before (before ++ entry_at moment Arrive ∷ []) (mine ++ length before ∷ []) number
came config before mine moment answer taken =
    let arrived = arrived_opens config before moment answer taken in (
      arrived.0,
      arrived.1,
      came_by config before mine (entry_at moment Arrive) arrived.0 taken.before taken.defined refl arrived.2,
    )

pub came_as : (config : Configuration) (before seen' : List Entry) (mine mine' : List ℕ) (place moment conn : ℕ) (answer : Reply) →
    seen' ≡ before ++ entry_at moment Arrive ∷ [] → place ≡ length before → mine' ≡ mine ++ place ∷ [] →
    Answers config before (entry_at moment Arrive) answer → answer ≡ reply.Arrived conn →
    Came config (entry_at moment Arrive) before seen' mine' conn
came_as config before seen' mine mine' place moment conn answer sees at more taken is =
    let w = came config before mine moment answer taken in
    let arrived : reply.Arrived w.0 ≡ reply.Arrived conn = sym w.1 ∙ is in
    let same : w.0 ≡ conn = cc arrived in
    let gained : mine ++ length before ∷ [] ≡ mine' = sym (more ∙ ap (λ (p : ℕ). mine ++ p ∷ []) at) in
    let all : Came config (entry_at moment Arrive) before (before ++ entry_at moment Arrive ∷ []) (mine ++ length before ∷ []) conn =
    subst
    (λ (n : ℕ). Came config (entry_at moment Arrive) before (before ++ entry_at moment Arrive ∷ []) (mine ++ length before ∷ []) n)
    same w.2 in
    subst (λ (ps : List ℕ). Came config (entry_at moment Arrive) before seen' ps conn) gained
    (subst (λ (log : List Entry). Came config (entry_at moment Arrive) before log (mine ++ length before ∷ []) conn) (sym sees) all)

-- the same, as it is told of an entry that was made
pub welcomed : (may : ℕ → Type 0) (config : Configuration) (seen before seen' : List Entry) (mine mine' : List ℕ)
    (place moment conn : ℕ) (answer : Reply) → may moment → IsPrefix seen before →
    seen' ≡ before ++ entry_at moment Arrive ∷ [] → place ≡ length before → mine' ≡ mine ++ place ∷ [] →
    Answers config before (entry_at moment Arrive) answer → answer ≡ reply.Arrived conn →
    Welcomed may config seen mine seen' mine' conn
welcomed may config seen before seen' mine mine' place moment conn answer told front sees at more taken is =
    let new = came_as config before seen' mine mine' place moment conn answer sees at more taken is in record {
      moment = moment;
      told = told;
      before = before;
      front = front;
      sees = sees;
      more = more ∙ ap (λ (p : ℕ). mine ++ p ∷ []) at;
      run = new.run;
      opened = new.opened;
      owns = new.owns;
      fresh = new.fresh;
    }
