-- What the one at the door counts and enters.
use Rattle.std.proofs.Common.{◌≡◌, ℕ, ◌<◌, ◌⊎◌, inl, inr, List, [], ◌∷◌, ◌++◌, length, Option, None, Some, refl, sym, ap, subst, ◌∙◌, arith}
use Rattle.std.proofs.lemmas.Option.{none-some}
use mathlib.Core.List.{IsPrefix}
use mathlib.Core.Logic.{dite}
use mathlib.Core.Option.{some}
use lib.ListN.{get_elem?}
use native.Mathlib.Decide.{dec_lt}
use Rattle.fs_doc.specs.Reading.{Configuration}
use Rattle.fs_ports.specs.Counts.{raised}
use Rattle.fs_ports.specs.Ports.{Input, Output}
use Rattle.fs_book.specs.Counts.{times}
use Rattle.fs_book.specs.Opened.{Owned}
use Rattle.fs_state.specs.Switch.{empty}
use Rattle.fs_machine.specs.declared.entry.Entry.{Entry}
use Rattle.fs_machine.specs.declared.entry.Act.TheVariants.{Halt}
use Rattle.fs_machine.specs.declared.reply.Reply.{Reply}
use Rattle.fs_machine.specs.Turned.{IsJournal, Answers, opens, names}
use Rattle.fs_machine.proofs.RunLemmas.{is_run_more}
use Rattle.fs_conn.specs.Owning.{entry_at}
use Rattle.fs_top.specs.declared.conns.Conn.{Conn}
use Rattle.fs_top.specs.Doors.{Rose, Halts}
use Rattle.fs_top.specs.Lanes.{Enters, Keeps}
use Rattle.fs_top.proofs.LaneLemmas.{keeps_looked, keeps_entered, keeps_may}

rose_or : (old new : ℕ) → (new < 18446744073709551615 → old < new) → Rose old new
rose_or old new rises =
    dite (dec_lt new 18446744073709551615) (λ below. inl (rises below)) (λ whole. inr (omega (arith, whole)))

rose_further : (old now new : ℕ) → new ≡ raised now → Rose old now → Rose old new
rose_further old now new is (inl more) = rose_or old new (λ below. omega arith)
rose_further old now new is (inr whole) = rose_or old new (λ below. omega arith)

-- a count that was raised has risen
pub rose_raised : (old now new : ℕ) → new ≡ raised now → (now ≡ old) ⊎ Rose old now → Rose old new
rose_raised old now new is (inl same) = rose_or old new (λ below. omega arith)
rose_raised old now new is (inr rose) = rose_further old now new is rose

-- an entry that was taken halted the switch
pub halted : (may : ℕ → Type 0) (config : Configuration) (seen before seen' : List Entry) (mine mine' : List ℕ) (place moment : ℕ)
    (reply : Reply) → may moment → IsPrefix seen before → seen' ≡ before ++ entry_at moment Halt ∷ [] → place ≡ length before
    → mine' ≡ mine ++ place ∷ [] → Answers config before (entry_at moment Halt) reply → Halts may config seen mine seen' mine'
halted may config seen before seen' mine mine' place moment reply told front sees at more answers =
    inl (record {
      moment = moment;
      told = told;
      before = before;
      front = front;
      sees = sees;
      more = more ∙ ap (λ (p : ℕ). mine ++ p ∷ []) at;
      run =
          subst (λ (log : List Entry). IsJournal config log) (sym sees) (record {
            within = answers.before.within;
            run = is_run_more (empty config) before (entry_at moment Halt) answers.before.run answers.defined;
          });
    })

-- whoever halted the switch, where that may be, keeps what it kept
module _ {L : Type 0} (input : L → Input) (output : L → Output) (may : ℕ → Type 0) (rose : Type 0) (config : Configuration)
    (start : Option Configuration) (seen seen' : List Entry) (mine mine' : List ℕ) (met met' : List (List ℕ)) (conns : List (Conn L))
    (is : start ≡ Some config) (has : rose) (met_is : met' ≡ met)
    (below : (k : ℕ) (l : List ℕ) → get_elem? (mine ∷ met) k ≡ some l → (p : ℕ) → 0 < times p l → p < length seen)
    (owned : Owned opens names start (mine' ∷ met') seen')
    (keeps : Keeps input output (Enters may rose None) config seen (mine ∷ met) conns) where
  pub keeps_halts : Halts may config seen mine seen' mine' → Keeps input output (Enters may rose None) config seen' (mine' ∷ met') conns
  keeps_halts (inl h) =
      subst (λ (ms : List (List ℕ)). Keeps input output (Enters may rose None) config seen' (mine' ∷ ms) conns) (sym met_is)
      (keeps_entered input output (Enters may rose None) config start seen h.before seen' mine mine' met conns (length h.before)
      (entry_at h.moment Halt) is h.front h.sees refl h.more refl (λ n opened. none-some n opened)
      ((h.told, λ _. has, tt), λ slot linked dialed. absurd (cc dialed), λ job note loaded. absurd (cc loaded)) h.run below
      (subst (λ (ms : List (List ℕ)). Owned opens names start (mine' ∷ ms) seen') met_is owned) keeps)
  keeps_halts (inr h) =
      keeps_looked input output (Enters may rose None) config start seen seen' mine mine' met met' conns is h.front h.same met_is below owned
      h.run keeps

-- once the count has risen, the one at the door may halt the switch
pub may_halt : {L : Type 0} (input : L → Input) (output : L → Output) (may : ℕ → Type 0) (config : Configuration) (seen : List Entry)
    (lists : List (List ℕ)) (conns : List (Conn L)) (old now new : ℕ) → (Rose old now → Rose old new)
    → Keeps input output (Enters may (Rose old now) None) config seen lists conns
    → Keeps input output (Enters may (Rose old new) None) config seen lists conns
may_halt input output may config seen lists conns old now new rose keeps =
    keeps_may input output (Enters may (Rose old now) None) (Enters may (Rose old new) None) config seen lists conns
    (λ entry told. ((told.0.0, λ is. rose (told.0.1 is), told.0.2), told.1, told.2)) keeps
