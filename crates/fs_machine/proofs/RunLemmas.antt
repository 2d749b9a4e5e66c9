-- The run of a journal with one more entry.
use Rattle.std.proofs.Common.{◌≡◌, ◌+◌, ◌-◌, ◌^◌, min, List, [], ◌∷◌, ◌++◌, None, refl, sym, ap, ◌∙◌}
use Rattle.fs_doc.specs.Reading.{Configuration}
use Rattle.fs_state.specs.Switch.{Switch, empty, after_entry}
use Rattle.fs_state.specs.Drafts.{after}
use Rattle.fs_state.specs.declared.delta.Delta.{Delta}
use Rattle.fs_machine.specs.declared.entry.Entry.{Entry}
use Rattle.fs_machine.specs.declared.reply.Reply.{Reply}
use Rattle.fs_machine.specs.Entries.{cost_of}
use Rattle.fs_machine.specs.Step.{Acted, step, refusal_of}
use Rattle.fs_machine.specs.Runs.{run_from, IsRunFrom, StandsFor, IsPrepared}

pub run_more : (s : Switch) (entries : List Entry) (entry : Entry) →
    run_from s (entries ++ entry ∷ []) ≡ (step (run_from s entries) entry).state
run_more s [] entry = refl
run_more s (first ∷ entries) entry = run_more (step s first).state entries entry

pub is_run_more : (s : Switch) (entries : List Entry) (entry : Entry) → IsRunFrom s entries → refusal_of (run_from s entries) entry ≡ None →
    IsRunFrom s (entries ++ entry ∷ [])
is_run_more s [] entry run defined = (defined, tt)
is_run_more s (first ∷ entries) entry run defined = (run.0, is_run_more (step s first).state entries entry run.1 defined)

-- the state behind entries and more of them, and the run of them
pub run_behind : (s : Switch) (entries more : List Entry) → run_from s (entries ++ more) ≡ run_from (run_from s entries) more
run_behind s [] more = refl
run_behind s (entry ∷ entries) more = run_behind (step s entry).state entries more

pub runs_both : (s : Switch) (entries more : List Entry) → IsRunFrom s (entries ++ more) → IsRunFrom s entries × IsRunFrom (run_from s entries) more
runs_both s [] more run = (tt, run)
runs_both s (entry ∷ entries) more run =
    let both = runs_both (step s entry).state entries more run.1 in
    ((run.0, both.0), both.1)

-- what was prepared from the state that a journal makes is the state that the longer one makes
pub stands_more : (config : Configuration) (kept : Switch) (journal : List Entry) (entry : Entry) (delta : Delta) (reply : Reply) →
    StandsFor config kept journal →
    IsPrepared (run_from (empty config) journal) entry delta reply →
    StandsFor config (after_entry (cost_of entry.act) (after kept delta)) (journal ++ entry ∷ [])
stands_more config kept journal entry delta reply stands prepared = record {
  state =
      ap (λ s. after_entry (cost_of entry.act) (after s delta)) stands.state
      ∙ sym (run_more (empty config) journal entry ∙ ap (λ (t : Acted). t.state) prepared.steps);
  defined = is_run_more (empty config) journal entry stands.defined prepared.defined;
}

-- what was prepared costs what its act does
pub cost_more : (s : Switch) (journal : List Entry) (entry : Entry) (delta : Delta) (reply : Reply) →
    IsPrepared (run_from s journal) entry delta reply →
    (run_from s (journal ++ entry ∷ [])).cost ≡ min ((run_from s journal).cost + cost_of entry.act) (2 ^ 64 - 1)
cost_more s journal entry delta reply prepared =
    ap (λ (t : Switch). t.cost) (run_more s journal entry) ∙ ap (λ (t : Acted). t.state.cost) prepared.steps
