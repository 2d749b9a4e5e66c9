-- What a run does where its words and its file are in order and no count rises, and what a server does.
use Rattle.std.proofs.Common.{◌≡◌, ◌≢◌, ℕ, zero, suc, ◌<◌, Bool, true, false, List, [], ◌∷◌, ◌++◌, length, All, Option, None, Some, Result, Ok, Err, ◌⊎◌, refl}
use Rattle.std.proofs.Common.{sym, ap, ◌∙◌, subst, inl, inr, unwrap_or, slice_index_or, arith}
use Rattle.std.proofs.lemmas.List.{length-append}
use Rattle.std.proofs.Math.Seq.{get_or-append_seam}
use Rattle.std.proofs.lemmas.List.Elements.{All-get_or}
use Rattle.fs_ports.specs.Counts.{raised}
use Rattle.fs_ports.specs.Ports.{Input, Output}
use Rattle.fs_ports.specs.Loads.{LoadCounts, Tells, next}
use Rattle.fs_ports.specs.declared.files.Load.{Load as File}
use Rattle.fs_ports.specs.declared.files.Load.TheVariants.{Got, Absent, Failed}
use Rattle.fs_doc.specs.Reading.{Configuration, config_of}
use Rattle.fs_doc.specs.declared.fault.DocFault.{DocFault}
use Rattle.fs_plan.specs.Building.{NumberedPattern, IsNoPattern, IsPlanRefusal}
use Rattle.fs_plan.specs.declared.fault.PlanFault.{PlanFault}
use Rattle.fs_plan.specs.declared.fault.PlanFault.TheVariants.{PatternRefused, PatternTooLarge, Memory}
use Rattle.fs_machine.specs.declared.note.LoadNote.{LoadNote}
use Rattle.fs_conn.specs.Turns.{HasRead}
use Rattle.fs_conn.specs.Filed.{FileView}
use Rattle.fs_top.specs.Told.{Told, Asked, file_asked, told_words, told_read, told_asked}
use Rattle.fs_top.specs.Runs.{CarriesOut, completes, fails_to_write, lacks_memory, fails_for_memory, Completes, BreaksForMemory}
use Rattle.fs_top.specs.Doors.{Rose}
use Rattle.fs_top.specs.Serving.{IsReadAs, IsNoDocument, IsUnread, IsServable, NoneFailed, IsStatus, IsGoodStatus}
use Rattle.fs_top.specs.Runs.{RefusesPattern, IsPlayed, Gives, IsTold, IsBuilt, Ran, HasReadings, IsGiven, NoneRose, DoesAll}
use Rattle.fs_top.specs.Runs.{Library, view_in, view_for, name_of, Reloads, reloader_read, reloader_file, reloader_words}
use Rattle.fs_top.proofs.CauseLaws.{failed_read}

-- what holds of each element holds of the one behind a front
at_seam : {X : Type 0} (P : X → Type 0) (front : List X) (x : X) (back : List X) → All P (front ++ x ∷ back) → P x
at_seam P front x back all =
    subst P (get_or-append_seam front x back x)
    (All-get_or P (front ++ x ∷ back) (length front) x (omega (arith, length-append front (x ∷ back))) all)

-- no pattern is none
all_read : (c : Configuration) (extension condition : ℕ) → HasReadings c → IsPlanRefusal c.contexts (PatternRefused extension condition) → ⊥
all_read c extension condition readings refusal =
    let NoneIs : NumberedPattern → Type 0 = λ pattern. IsNoPattern pattern.text → ⊥ in
    at_seam NoneIs refusal.front refusal.first refusal.back (subst (All NoneIs) refusal.split readings) refusal.found.is

-- so none is refused, where the count of large patterns did not rise
refuses_none : (c : Configuration) (fault : PlanFault) (sizes0 sizes1 : ℕ) → HasReadings c → sizes1 ≢ raised sizes0 →
    RefusesPattern c.contexts fault sizes0 sizes1 → ⊥
refuses_none c (PatternRefused extension condition) sizes0 sizes1 readings rose refused =
    all_read c extension condition readings refused.refusal
refuses_none c (PatternTooLarge extension condition) sizes0 sizes1 readings rose refused = rose refused.sizes
refuses_none c Memory sizes0 sizes1 readings rose refused = refused.no_want refl

-- one reading of a document is the configuration
read_once : (bytes : List ℕ) (c d : Configuration) → config_of bytes ≡ Ok c → config_of bytes ≡ Ok d → d ≡ c
read_once bytes c d one other = ap given (sym other ∙ one)
  where
    given : Result Configuration DocFault → Configuration
    given (Ok e) = e
    given (Err fault) = c

-- nothing was loaded again where one was refused
refused_alone : (asked : Asked) (bytes : List ℕ) (c : Configuration) (fault : PlanFault) (status : ℕ) (store view : FileView)
    (notes : List LoadNote) → config_of bytes ≡ Ok c → Reloads (reloader_file asked (Got bytes) (Some fault)) status store view notes →
    view ≡ store
refused_alone asked bytes c fault status store view notes reads reloaded =
    let alone : Reloads (reloader_read asked (Ok c) (Some fault)) status store view notes =
    subst (λ (r : Result Configuration DocFault). Reloads (reloader_read asked r (Some fault)) status store view notes) reads reloaded in
    alone.1

built_none : (asked : Asked) (bytes : List ℕ) (c : Configuration) (built : Option PlanFault) (sizes0 status : ℕ) (store view : FileView)
    (notes : List LoadNote) → config_of bytes ≡ Ok c → HasReadings c → view.sizes ≢ raised sizes0 →
    IsBuilt (Got bytes) built sizes0 store.sizes → Reloads (reloader_file asked (Got bytes) built) status store view notes → built ≡ None
built_none asked bytes c None sizes0 status store view notes reads readings rose told reloaded = refl
built_none asked bytes c (Some fault) sizes0 status store view notes reads readings rose told reloaded =
    let same = refused_alone asked bytes c fault status store view notes reads reloaded in
    absurd (refuses_none c fault sizes0 store.sizes readings (λ e. rose (ap (λ (v : FileView). v.sizes) same ∙ e))
    (subst (λ (d : Configuration). RefusesPattern d.contexts fault sizes0 store.sizes) (read_once bytes c told.0 reads told.1) told.2))

-- no read failed
read_whole : (asked : Option Asked) (in0 in1 from to : Input) (input : List ℕ) (read_failed : Bool) → in1.faults ≢ raised in0.faults →
    IsPlayed asked in0 in1 from to → HasRead from to input read_failed → read_failed ≡ false
read_whole asked in0 in1 from to input true rose is_played has_read =
    absurd (rose (failed_read asked in0 in1 from to is_played has_read.faults))
read_whole asked in0 in1 from to input false rose is_played has_read = refl

-- an answer that is told is the one
tells_is : (told : Option File) (file : File) (bytes : List ℕ) → told ≡ Some (Got bytes) → Tells told file → file ≡ Got bytes
tells_is None file bytes is tells = absurd (cc)
tells_is (Some load) file bytes is tells = tells ∙ ap (λ (l : Option File). unwrap_or l load) is

-- what is told of a file is given
file_is : (next_load : List ℕ → Option File) (of : Option (List ℕ)) (file : File) (bytes : List ℕ) → IsTold next_load of bytes →
    Gives next_load of file → file ≡ Got bytes
file_is next_load None file bytes told gives = gives ∙ ap Got (sym told)
file_is next_load (Some name) file bytes told gives = tells_is (next_load name) file bytes told gives

-- no write failed
written_whole : (told : Told) (in1 : Input) (out0 out1 : Output) (line : List ℕ) (status : ℕ) → out1.faults ≢ raised out0.faults →
    CarriesOut told in1 out0 out1 line status →
    Completes told in1 out0 out1 line status ⊎ BreaksForMemory told out0 out1 line status
written_whole told in1 out0 out1 line status rose (completes h) = inl h
written_whole told in1 out0 out1 line status rose (fails_to_write h) = absurd (rose h.stopped.faults)
written_whole told in1 out0 out1 line status rose (lacks_memory h) = inr h
written_whole told in1 out0 out1 line status rose (fails_for_memory h) = absurd (rose h.stopped.faults)

-- what is told then
told_given : (asked : Option Asked) (of : Asked) (file : File) (bytes : List ℕ) (c : Configuration) (built : Option PlanFault)
    (notes : List LoadNote) (input : List ℕ) (read_failed : Bool) →
    asked ≡ Some of → file ≡ Got bytes → config_of bytes ≡ Ok c → built ≡ None → read_failed ≡ false →
    told_words asked file built notes input read_failed ≡ told_asked of c notes input false
told_given asked of file bytes c built notes input read_failed is_asked is_file reads is_built is_whole =
    rw (is_asked, is_file, is_built, is_whole) (ap (λ (read : Result Configuration DocFault). told_read of read None notes input false) reads)

-- what was loaded again, where the words ask for that
reloaded_given : (asked : Option Asked) (of : Asked) (file : File) (bytes : List ℕ) (built : Option PlanFault) (status : ℕ) (store : FileView)
    (files : Library) (notes : List LoadNote) → asked ≡ Some of → file ≡ Got bytes →
    Reloads (reloader_words asked file built) status store (view_for asked files) notes →
    Reloads (reloader_file of (Got bytes) built) status store (view_in files (name_of of)) notes
reloaded_given asked of file bytes built status store files notes is_asked is_file reloaded =
    let asks : Reloads (reloader_words (Some of) file built) status store (view_for (Some of) files) notes =
    subst (λ (a : Option Asked). Reloads (reloader_words a file built) status store (view_for a files) notes) is_asked reloaded in
    subst (λ (f : File). Reloads (reloader_file of f built) status store (view_in files (name_of of)) notes) is_file asks

-- all was done, or memory was wanting
pub complete : (asked : Option Asked) (files0 files1 : Library) (in0 in1 : Input) (out0 out1 err0 err1 : Output) (status : ℕ) →
    Ran asked files0 files1 in0 in1 out0 out1 err0 err1 status → (of : Asked) (c : Configuration) →
    IsGiven asked (next files0.loads) of c →
    NoneRose files0.sizes files1.sizes in0 in1 out0 out1 → DoesAll of c in0 in1 out0 out1 err0 err1 status
complete asked files0 files1 in0 in1 out0 out1 err0 err1 status ran of c given rose =
    let gives : Gives (next files0.loads) (file_asked of) ran.file = rw given.is_asked at ran.file_told in
    let file : ran.file ≡ Got given.bytes = file_is (next files0.loads) (file_asked of) ran.file given.bytes given.told gives in
    let reloaded =
    reloaded_given asked of ran.file given.bytes ran.built status ran.store files1 ran.notes given.is_asked file ran.reloaded in
    let built : ran.built ≡ None =
    built_none of given.bytes c ran.built files0.sizes status ran.store (view_in files1 (name_of of)) ran.notes given.reads given.readings
    rose.sizes (rw file at ran.built_told) reloaded in
    let whole : ran.read_failed ≡ false =
    read_whole asked in0 in1 ran.from ran.to ran.input ran.read_failed rose.reads ran.is_played ran.has_read in
    let told =
    told_given asked of ran.file given.bytes c ran.built ran.notes ran.input ran.read_failed given.is_asked file given.reads built whole in
    record {
      from = ran.from;
      to = ran.to;
      input = ran.input;
      line = ran.line;
      sent = ran.sent;
      is_played = rw given.is_asked at ran.is_played;
      has_read = rw whole at ran.has_read;
      notes = ran.notes;
      does =
          written_whole (told_asked of c ran.notes ran.input false) ran.to out0 out1 ran.line status rose.writes
          (subst (λ (t : Told). CarriesOut t ran.to out0 out1 ran.line status) told ran.does);
      said = ran.said;
    }

-- ---- servers

-- The statuses of a server that have another cause do not come.
module _ (next_load : List ℕ → Option File) (name : List ℕ) (counts0 counts1 : LoadCounts) (sizes0 sizes1 doors0 doors1 code : ℕ)
    (document : code ≡ 3 → IsNoDocument next_load name sizes0 sizes1) (unread : code ≡ 4 → IsUnread next_load name counts0 counts1)
    (door : code ≡ 7 → (d : Configuration) × IsReadAs next_load name d × Rose doors0 doors1) (c : Configuration) (servable : IsServable next_load name c)
    (none : NoneFailed sizes0 sizes1 doors0 doors1) where
  is_given : (file : File) → Tells (next_load name) file → file ≡ Got servable.bytes
  is_given file told = tells_is (next_load name) file servable.bytes servable.told told

  got_given : (bytes : List ℕ) → Tells (next_load name) (Got bytes) → bytes ≡ servable.bytes
  got_given bytes told = let e = is_given (Got bytes) told in cc e

  is_document : IsNoDocument next_load name sizes0 sizes1 → ⊥
  is_document (inl (fault, faulty)) =
      let read : config_of servable.bytes ≡ Err fault = ap config_of (sym (got_given faulty.bytes faulty.told)) ∙ faulty.reads in
      let both : Ok c ≡ Err fault = sym servable.reads ∙ read in
      absurd (cc both)
  is_document (inr (fault, unbuilt)) =
      let read : config_of servable.bytes ≡ Ok unbuilt.config =
      ap config_of (sym (got_given unbuilt.is.bytes unbuilt.is.told)) ∙ unbuilt.is.reads in
      refuses_none c fault sizes0 sizes1 servable.readings none.sizes
      (subst (λ (d : Configuration). RefusesPattern d.contexts fault sizes0 sizes1) (read_once servable.bytes c unbuilt.config servable.reads read)
      unbuilt.refused)

  is_read : IsUnread next_load name counts0 counts1 → ⊥
  is_read it = by it.other
    where
      by : (it.file ≡ Absent) ⊎ (it.file ≡ Failed) → ⊥
      by (inl absent) = let e : Absent ≡ Got servable.bytes = sym absent ∙ is_given it.file it.told in absurd (cc e)
      by (inr failed) = let e : Failed ≡ Got servable.bytes = sym failed ∙ is_given it.file it.told in absurd (cc e)

  pub serves_well : IsStatus code → IsGoodStatus code
  serves_well there = by there.0 there.1 there.2
    where
      by : (k : ℕ) → k < 6 → slice_index_or (0 ∷ 1 ∷ 3 ∷ 4 ∷ 7 ∷ 8 ∷ []) k code ≡ code → IsGoodStatus code
      by zero below is = (0, omega arith, is)
      by (suc zero) below is = (1, omega arith, is)
      by (suc (suc zero)) below is = absurd (is_document (document (sym is)))
      by (suc (suc (suc zero))) below is = absurd (is_read (unread (sym is)))
      by (suc (suc (suc (suc zero)))) below is = absurd (none.doors (door (sym is)).2)
      by (suc (suc (suc (suc (suc zero))))) below is = (2, omega arith, is)
      by (suc (suc (suc (suc (suc (suc k)))))) below is = absurd (omega (arith, below))
