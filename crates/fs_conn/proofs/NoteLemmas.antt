-- What a play loads, step by step.
use Rattle.std.proofs.Common.{◌≡◌, ℕ, zero, suc, ◌+◌, false, List, [], ◌∷◌, ◌++◌, length, Some, Result, Ok, Err, ◌⊎◌, inl, inr}
use Rattle.std.proofs.Common.{refl, sym, ap, ◌∙◌, subst, append_assoc, append-nil, length-append, arith}
use Rattle.std.specs.Prelude.{slice_get}
use Rattle.std.proofs.lemmas.Option.{none-some, same_Some}
use mathlib.Core.List.{IsPrefix}
use Rattle.fs_ports.specs.Loads.{LoadCounts}
use Rattle.fs_book.proofs.Lists.{prefix_trans, prefix_get}
use Rattle.fs_machine.specs.declared.entry.Entry.{Entry}
use Rattle.fs_machine.specs.declared.entry.Act.{Act}
use Rattle.fs_machine.specs.declared.entry.Act.TheVariants.{Arrive, Command, Take, Close, Dialed, Work, Job, Loaded, Halt}
use Rattle.fs_machine.specs.declared.loading.NewPlan.{NewPlan}
use Rattle.fs_machine.specs.declared.note.LoadNote.{LoadNote}
use Rattle.fs_machine.specs.Concerns.{actor_of}
use Rattle.fs_machine.specs.Entries.{is_load}
use Rattle.fs_machine.specs.Loading.{IsNoteOf, IsBuiltAsNoted, CountsLoad}
use Rattle.fs_conn.specs.declared.end.End.{End}
use Rattle.fs_conn.specs.declared.end.End.TheVariants as ends
use Rattle.fs_conn.specs.declared.stop.Stop.{Stop}
use Rattle.fs_conn.specs.declared.stop.Stop.TheVariants.{Over, OutOfMemory, WriteFault}
use Rattle.fs_conn.specs.Play.{note_in, noted}
use Rattle.fs_conn.specs.Filed.{FileView}
use Rattle.fs_conn.specs.Loads as spec
use Rattle.fs_conn.specs.Loads.{MovesBy, CountsOne, CountsAll, HasLoaded, HasLoadedOrBegun, MayHaveLoaded, Begun, LoadsBy}
use Rattle.fs_conn.specs.Playing.{Playing, AreNotes, Adds, AddsOrBegins, LoadsStopped, LoadsEnded, Loads}

-- ---- notes

pub noted_append : (entries more : List Entry) → noted (entries ++ more) ≡ noted entries ++ noted more
noted_append [] more = refl
noted_append (entry ∷ entries) more =
    ap (λ notes. note_in entry.act ++ notes) (noted_append entries more) ∙ sym (append_assoc (note_in entry.act) (noted entries) (noted more))

-- an act that is no load notes none
pub none_noted : (act : Act) → is_load act ≡ false → note_in act ≡ []
none_noted Arrive other = refl
none_noted (Command conn block) other = refl
none_noted (Take conn) other = refl
none_noted (Close conn how) other = refl
none_noted (Dialed slot linked) other = refl
none_noted (Work slot) other = refl
none_noted (Job number) other = refl
none_noted (Loaded number note) other = absurd (cc other)
none_noted Halt other = refl

-- what a connection enters notes none
pub owned_other : (act : Act) (conn : ℕ) → actor_of act ≡ Some conn → is_load act ≡ false
owned_other Arrive conn named = refl
owned_other (Command giver block) conn named = refl
owned_other (Take taker) conn named = refl
owned_other (Close gone how) conn named = refl
owned_other (Dialed slot linked) conn named = refl
owned_other (Work slot) conn named = refl
owned_other (Job number) conn named = refl
owned_other (Loaded number note) conn named = absurd (none-some conn named)
owned_other Halt conn named = refl

pub noted_more : (entries : List Entry) (entry : Entry) → is_load entry.act ≡ false → noted (entries ++ entry ∷ []) ≡ noted entries
noted_more entries entry other =
    noted_append entries (entry ∷ []) ∙ ap (λ notes. noted entries ++ (notes ++ [])) (none_noted entry.act other) ∙ append-nil (noted entries)

-- the notes of a play are those of all that stands before it too
pub notes_before : (old new : Playing) (entries : List Entry) (notes : List LoadNote) → new.journal ≡ old.journal ++ entries →
    AreNotes new notes → AreNotes old notes
notes_before old new entries notes more are =
    prefix_trans (noted old.journal) (noted new.journal) notes
    (noted entries, sym (ap noted more ∙ noted_append old.journal entries)) are

pub notes_still : (old new : Playing) (notes : List LoadNote) → noted new.journal ≡ noted old.journal → AreNotes new notes →
    AreNotes old notes
notes_still old new notes same are = subst (λ (front : List LoadNote). IsPrefix front notes) same are

-- the one behind a list stands at its length
at_seam : (xs : List LoadNote) (x : LoadNote) → slice_get (xs ++ x ∷ []) (length xs) ≡ Some x
at_seam [] x = refl
at_seam (y ∷ xs) x = at_seam xs x

pub note_next : (journal : List Entry) (moment number : ℕ) (note : LoadNote) (notes : List LoadNote) →
    IsPrefix (noted (journal ++ record { moment = moment; act = Loaded number note } ∷ [])) notes →
    slice_get notes (length (noted journal)) ≡ Some note
note_next journal moment number note notes are =
    prefix_get (noted journal ++ note ∷ []) notes (length (noted journal)) note
    (subst (λ (front : List LoadNote). IsPrefix front notes)
    (noted_append journal (record { moment = moment; act = Loaded number note } ∷ [])) are) (at_seam (noted journal) note)

-- ---- the file

-- the place of what stands in two lists
get_append : (xs ys : List LoadNote) (k : ℕ) (x : LoadNote) → slice_get (xs ++ ys) k ≡ Some x →
    (slice_get xs k ≡ Some x) ⊎ ((j : ℕ) × (j + length xs ≡ k) × (slice_get ys j ≡ Some x))
get_append [] ys k x is = inr (k, omega arith, is)
get_append (y ∷ xs) ys zero x is = inl is
get_append (y ∷ xs) ys (suc k) x is = by (get_append xs ys k x is)
  where
    by : (slice_get xs k ≡ Some x) ⊎ ((j : ℕ) × (j + length xs ≡ k) × (slice_get ys j ≡ Some x)) →
        (slice_get xs k ≡ Some x) ⊎ ((j : ℕ) × (j + suc (length xs) ≡ suc k) × (slice_get ys j ≡ Some x))
    by (inl here) = inl here
    by (inr there) = let at = there.1 in inr (there.0, omega (arith, at), there.2)

counts_from : (notes : List LoadNote) (old mid new : FileView) → mid.counts ≡ old.counts → mid.sizes ≡ old.sizes → CountsAll notes mid new →
    CountsAll notes old new
counts_from [] old mid new counts sizes same = (same.0 ∙ counts, same.1 ∙ sizes)
counts_from (note ∷ notes) old mid new counts sizes all = (
  all.0,
  subst (λ (c : LoadCounts). CountsLoad note c all.0.counts old.sizes all.0.sizes) counts
      (subst (λ (n : ℕ). CountsLoad note mid.counts all.0.counts n all.0.sizes) sizes all.1),
  all.2,
)

counts_then : (notes more : List LoadNote) (old mid new : FileView) → CountsAll notes old mid → CountsAll more mid new →
    CountsAll (notes ++ more) old new
counts_then [] more old mid new first then = counts_from more old mid new first.0 first.1 then
counts_then (note ∷ notes) more old mid new first then = (first.0, first.1, counts_then notes more first.0 mid new first.2 then)

pub loaded_none : (file : FileView) → HasLoaded file file []
loaded_none file = record {
  each = λ k note is. absurd (none-some note is);
  rest = λ k. ap file.loads (same k);
  counts = (refl, refl);
}
  where
    same : (k : ℕ) → k ≡ k + 0
    same k = omega arith

pub loaded_then : (old mid new : FileView) (notes more : List LoadNote) → HasLoaded old mid notes → HasLoaded mid new more →
    HasLoaded old new (notes ++ more)
loaded_then old mid new notes more first then = record {
  each = λ k note is. by k note (get_append notes more k note is);
  rest = λ k. then.rest k ∙ first.rest (k + length more) ∙ ap old.loads (both k);
  counts = counts_then notes more old mid new first.counts then.counts;
}
  where
    both : (k : ℕ) → (k + length more) + length notes ≡ k + length (notes ++ more)
    both k = let long = length-append notes more in omega (arith, long)

    by : (k : ℕ) (note : LoadNote) → (slice_get notes k ≡ Some note) ⊎ ((j : ℕ) × (j + length notes ≡ k) × (slice_get more j ≡ Some note)) →
        IsNoteOf (old.loads k) note × IsBuiltAsNoted note
    by k note (inl here) = first.each k note here
    by k note (inr there) =
        let later = then.each there.0 note there.2 in (
          subst (λ answer. IsNoteOf answer note) (first.rest there.0 ∙ ap old.loads there.1) later.0,
          later.1,
        )

-- one load more
pub loaded_one : (old new : FileView) (load : NewPlan) → spec.Loaded old new load → HasLoaded old new (load.note ∷ [])
loaded_one old new load h = record { each = by; rest = h.rest; counts = (new, h.counts, (refl, refl)) }
  where
    by : (k : ℕ) (note : LoadNote) → slice_get (load.note ∷ []) k ≡ Some note → IsNoteOf (old.loads k) note × IsBuiltAsNoted note
    by zero note is =
        let same : load.note ≡ note = same_Some load.note note is in
        subst (λ (n : LoadNote). IsNoteOf (old.loads 0) n × IsBuiltAsNoted n) same (h.told, h.built)
    by (suc k) note is = absurd (none-some note is)

-- nothing more was begun
begun_none : (old new : FileView) (notes : List LoadNote) → HasLoaded old new notes → HasLoadedOrBegun old new notes
begun_none old new notes h = record {
  mid = new;
  noted = h;
  begun = record { rest = inl (λ k. refl); counts = inl (refl, refl) };
}

begun_then : (old mid new : FileView) (notes more : List LoadNote) → HasLoaded old mid notes → HasLoadedOrBegun mid new more →
    HasLoadedOrBegun old new (notes ++ more)
begun_then old mid new notes more first then = record {
  mid = then.mid;
  noted = loaded_then old mid then.mid notes more first then.noted;
  begun = then.begun;
}

-- ---- steps

pub adds_none : {file : FileView} → (old new : Playing) → new.journal ≡ old.journal → Adds file file old new
adds_none {file = file} old new journal = record {
  entries = [];
  more = journal ∙ sym (append-nil old.journal);
  loaded = loaded_none file;
}

-- an entry that notes no load
pub adds_other : {file : FileView} → (old new : Playing) (entry : Entry) → is_load entry.act ≡ false →
    new.journal ≡ old.journal ++ entry ∷ [] → Adds file file old new
adds_other {file = file} old new entry other journal = record {
  entries = entry ∷ [];
  more = journal;
  loaded =
      subst (λ (notes : List LoadNote). HasLoaded file file (notes ++ [])) (sym (none_noted entry.act other)) (loaded_none file);
}

-- one that notes one
pub adds_loaded : {file0 file1 : FileView} → (old new : Playing) (moment number : ℕ) (load : NewPlan) →
    new.journal ≡ old.journal ++ record { moment = moment; act = Loaded number load.note } ∷ [] → spec.Loaded file0 file1 load →
    Adds file0 file1 old new
adds_loaded {file0 = file0} {file1 = file1} old new moment number load journal loaded = record {
  entries = record { moment = moment; act = Loaded number load.note } ∷ [];
  more = journal;
  loaded = loaded_one file0 file1 load loaded;
}

-- one that was begun, and is not noted
pub adds_begun : {file0 file1 : FileView} → (old new : Playing) → new.journal ≡ old.journal → Begun file0 file1 →
    AddsOrBegins file0 file1 old new
adds_begun {file0 = file0} {file1 = file1} old new journal begun = record {
  entries = [];
  more = journal ∙ sym (append-nil old.journal);
  loaded = record {
    mid = file0;
    noted = loaded_none file0;
    begun = record { rest = begun.rest; counts = inl begun.counts };
  };
}

pub adds_unnoted : {file0 file1 : FileView} → (old new : Playing) (load : NewPlan) → new.journal ≡ old.journal →
    spec.Loaded file0 file1 load → AddsOrBegins file0 file1 old new
adds_unnoted {file0 = file0} {file1 = file1} old new load journal loaded = record {
  entries = [];
  more = journal ∙ sym (append-nil old.journal);
  loaded = record {
    mid = file0;
    noted = loaded_none file0;
    begun = record { rest = inr loaded.rest; counts = inr (load.note, loaded.counts) };
  };
}

both_more : (old mid new first then : List Entry) → mid ≡ old ++ first → new ≡ mid ++ then → new ≡ old ++ (first ++ then)
both_more old mid new first then one two = two ∙ ap (λ entries. entries ++ then) one ∙ append_assoc old first then

pub adds_then : {file0 file1 file2 : FileView} → (old mid new : Playing) → Adds file0 file1 old mid → Adds file1 file2 mid new →
    Adds file0 file2 old new
adds_then {file0 = file0} {file1 = file1} {file2 = file2} old mid new first then = record {
  entries = first.entries ++ then.entries;
  more = both_more old.journal mid.journal new.journal first.entries then.entries first.more then.more;
  loaded =
      subst (HasLoaded file0 file2) (sym (noted_append first.entries then.entries))
      (loaded_then file0 file1 file2 (noted first.entries) (noted then.entries) first.loaded then.loaded);
}

pub begins_then : {file0 file1 file2 : FileView} → (old mid new : Playing) → Adds file0 file1 old mid → AddsOrBegins file1 file2 mid new →
    AddsOrBegins file0 file2 old new
begins_then {file0 = file0} {file1 = file1} {file2 = file2} old mid new first then = record {
  entries = first.entries ++ then.entries;
  more = both_more old.journal mid.journal new.journal first.entries then.entries first.more then.more;
  loaded =
      subst (HasLoadedOrBegun file0 file2) (sym (noted_append first.entries then.entries))
      (begun_then file0 file1 file2 (noted first.entries) (noted then.entries) first.loaded then.loaded);
}

-- whatever the clock was before
pub adds_at : {file0 file1 : FileView} → (old new : Playing) (moment : ℕ) → Adds file0 file1 (record old { clock = moment }) new →
    Adds file0 file1 old new
adds_at old new moment h = record { entries = h.entries; more = h.more; loaded = h.loaded }

pub stopped_at : (file0 file1 : FileView) (stop : Stop) (old new : Playing) (moment : ℕ) →
    LoadsStopped stop file0 file1 (record old { clock = moment }) new → LoadsStopped stop file0 file1 old new
stopped_at file0 file1 (Over end) old new moment h = record { entries = h.entries; more = h.more; loaded = h.loaded }
stopped_at file0 file1 OutOfMemory old new moment h = record { entries = h.entries; more = h.more; loaded = h.loaded }
stopped_at file0 file1 WriteFault old new moment h = record { entries = h.entries; more = h.more; loaded = h.loaded }

-- and whatever was written
pub adds_same : {file0 file1 : FileView} → (old mid new : Playing) → new.journal ≡ mid.journal → Adds file0 file1 old mid →
    Adds file0 file1 old new
adds_same old mid new journal h = record { entries = h.entries; more = journal ∙ h.more; loaded = h.loaded }

pub begins_same : {file0 file1 : FileView} → (old mid new : Playing) → new.journal ≡ mid.journal → AddsOrBegins file0 file1 old mid →
    AddsOrBegins file0 file1 old new
begins_same old mid new journal h = record { entries = h.entries; more = journal ∙ h.more; loaded = h.loaded }

pub adds_or_begins : {file0 file1 : FileView} → (old new : Playing) → Adds file0 file1 old new → AddsOrBegins file0 file1 old new
adds_or_begins {file0 = file0} {file1 = file1} old new h = record {
  entries = h.entries;
  more = h.more;
  loaded = begun_none file0 file1 (noted h.entries) h.loaded;
}

pub stopped_adds : {file0 file1 : FileView} → (stop : Stop) (old new : Playing) → Adds file0 file1 old new →
    LoadsStopped stop file0 file1 old new
stopped_adds (Over end) old new h = h
stopped_adds OutOfMemory old new h = adds_or_begins old new h
stopped_adds WriteFault old new h = h

pub stopped_then : {file0 file1 : FileView} → (file2 : FileView) (stop : Stop) (old mid new : Playing) → Adds file0 file1 old mid →
    LoadsStopped stop file1 file2 mid new → LoadsStopped stop file0 file2 old new
stopped_then file2 (Over end) old mid new first then = adds_then old mid new first then
stopped_then file2 OutOfMemory old mid new first then = begins_then old mid new first then
stopped_then file2 WriteFault old mid new first then = adds_then old mid new first then

pub loads_adds : {A : Type 0} → {file0 file1 : FileView} → (old new : Playing) (result : Result A Stop) → Adds file0 file1 old new →
    Loads file0 file1 old new result
loads_adds old new (Ok done) h = h
loads_adds old new (Err stop) h = stopped_adds stop old new h

pub loads_then : {A : Type 0} → {file0 file1 : FileView} → (file2 : FileView) (old mid new : Playing) (result : Result A Stop) →
    Adds file0 file1 old mid → Loads file1 file2 mid new result → Loads file0 file2 old new result
loads_then file2 old mid new (Ok done) first then = adds_then old mid new first then
loads_then file2 old mid new (Err stop) first then = stopped_then file2 stop old mid new first then

-- the notes of what stands before a step are those of what stands behind it too
pub notes_stopped : (file0 file1 : FileView) (stop : Stop) (old new : Playing) (notes : List LoadNote) →
    LoadsStopped stop file0 file1 old new → AreNotes new notes → AreNotes old notes
notes_stopped file0 file1 (Over end) old new notes h are = notes_before old new h.entries notes h.more are
notes_stopped file0 file1 OutOfMemory old new notes h are = notes_before old new h.entries notes h.more are
notes_stopped file0 file1 WriteFault old new notes h are = notes_before old new h.entries notes h.more are

pub notes_then : {A : Type 0} → (file0 file1 : FileView) (old new : Playing) (result : Result A Stop) (notes : List LoadNote) →
    Loads file0 file1 old new result → AreNotes new notes → AreNotes old notes
notes_then file0 file1 old new (Ok done) notes h are = notes_before old new h.entries notes h.more are
notes_then file0 file1 old new (Err stop) notes h are = notes_stopped file0 file1 stop old new notes h are

-- ---- the end

-- an end for which memory was wanting has at most what any other has
pub ended_adds : {file0 file1 : FileView} → (end : End) (old new : Playing) → Adds file0 file1 old new → LoadsEnded end file0 file1 old new
ended_adds ends.Memory old new h = adds_or_begins old new h
ended_adds ends.Exit old new h = h
ended_adds ends.Eof old new h = h
ended_adds ends.AuthRefused old new h = h
ended_adds ends.Stopped old new h = h
ended_adds ends.ReadFault old new h = h
ended_adds ends.WriteFault old new h = h
ended_adds (ends.TooLong len) old new h = h
ended_adds ends.BadLength old new h = h
ended_adds (ends.JournalFull cost limit) old new h = h
ended_adds (ends.Runaway count) old new h = h

-- what was loaded since nothing was entered
all_loaded : (file0 file1 : FileView) (start now : Playing) → start.journal ≡ [] → Adds file0 file1 start now →
    HasLoaded file0 file1 (noted now.journal)
all_loaded file0 file1 start now begun h =
    subst (λ (entries : List Entry). HasLoaded file0 file1 (noted entries)) (sym (h.more ∙ ap (λ entries. entries ++ h.entries) begun))
    h.loaded

all_begun : (file0 file1 : FileView) (start now : Playing) → start.journal ≡ [] → AddsOrBegins file0 file1 start now →
    HasLoadedOrBegun file0 file1 (noted now.journal)
all_begun file0 file1 start now begun h =
    subst (λ (entries : List Entry). HasLoadedOrBegun file0 file1 (noted entries))
    (sym (h.more ∙ ap (λ entries. entries ++ h.entries) begun)) h.loaded

pub loads_by : (file0 file1 : FileView) (end : End) (start now : Playing) → start.journal ≡ [] → LoadsEnded end file0 file1 start now →
    LoadsBy end file0 file1 (noted now.journal)
unfolding LoadsBy
loads_by file0 file1 ends.Memory start now begun h = all_begun file0 file1 start now begun h
loads_by file0 file1 ends.Exit start now begun h = all_loaded file0 file1 start now begun h
loads_by file0 file1 ends.Eof start now begun h = all_loaded file0 file1 start now begun h
loads_by file0 file1 ends.AuthRefused start now begun h = all_loaded file0 file1 start now begun h
loads_by file0 file1 ends.Stopped start now begun h = all_loaded file0 file1 start now begun h
loads_by file0 file1 ends.ReadFault start now begun h = all_loaded file0 file1 start now begun h
loads_by file0 file1 ends.WriteFault start now begun h = all_loaded file0 file1 start now begun h
loads_by file0 file1 (ends.TooLong len) start now begun h = all_loaded file0 file1 start now begun h
loads_by file0 file1 ends.BadLength start now begun h = all_loaded file0 file1 start now begun h
loads_by file0 file1 (ends.JournalFull cost limit) start now begun h = all_loaded file0 file1 start now begun h
loads_by file0 file1 (ends.Runaway count) start now begun h = all_loaded file0 file1 start now begun h

-- nothing was entered or loaded
pub loads_first : (file : FileView) (journal : List Entry) → journal ≡ [] → LoadsBy ends.Memory file file (noted journal)
unfolding LoadsBy
loads_first file journal none =
    subst (λ (entries : List Entry). HasLoadedOrBegun file file (noted entries)) (sym none) (begun_none file file [] (loaded_none file))
