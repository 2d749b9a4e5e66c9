-- What serving a file comes to: how a server ends, what its layers pass on, and what its statuses show.
use Rattle.std.proofs.Common.{◌≡◌, ℕ, zero, suc, ◌+◌, ◌<◌, ◌≤◌, min, ◌⊎◌, inl, inr, ◌||◌, ◌&&◌, ◌==◌, Bool, true, false, cond, List, [], ◌∷◌, ◌++◌}
use Rattle.std.proofs.Common.{Option, None, Some, Ok, Err, refl, sym, ap, subst, ◌∙◌, arith}
use Rattle.std.specs.Prelude.{is_some}
use Rattle.std.specs.List.{All, list_any}
use Rattle.std.proofs.lemmas.Bool.{cases_lt, or_parts, eqb-true}
use Rattle.std.proofs.lemmas.List.{get_or_past}
use Rattle.std.proofs.lemmas.List.Recursion.{is_count_by}
use Rattle.std.proofs.lemmas.Option.{none-some}
use Rattle.fs_ports.specs.Counts.{raised}
use Rattle.fs_ports.specs.Ports.{Input, Output, SendDid}
use Rattle.fs_ports.specs.declared.send.Sent.{Sent}
use Rattle.fs_ports.specs.Loads.{LoadCounts, Tells, Counted}
use Rattle.fs_ports.specs.declared.files.Load.{Load as File}
use Rattle.fs_ports.specs.declared.files.Load.TheVariants.{Absent, Failed}
use Rattle.fs_doc.specs.Reading.{Configuration, config_of}
use Rattle.fs_doc.specs.declared.fault.DocKind.TheVariants.{Memory}
use Rattle.fs_doc.specs.declared.fault.DocFault.{DocFault}
use Rattle.fs_plan.specs.Building.{IsPlanRefusal, sizes_after}
use Rattle.fs_plan.specs.declared.fault.PlanFault.{PlanFault}
use Rattle.fs_plan.specs.declared.fault.PlanFault.TheVariants.{PatternRefused, PatternTooLarge, Memory as NoMemory}
use Rattle.fs_seats.specs.Seats.{held_in}
use Rattle.fs_state.specs.Switch.{Switch, empty, is_full, chan_at}
use Rattle.fs_machine.specs.declared.entry.Entry.{Entry}
use Rattle.fs_machine.specs.declared.entry.Act.{Act}
use Rattle.fs_machine.specs.declared.entry.Act.TheVariants.{Arrive, Command, Take, Close, Dialed, Work, Job, Loaded, Halt}
use Rattle.fs_machine.specs.declared.refusal.Refusal.TheVariants as refusal
use Rattle.fs_machine.specs.Laws.{state_after}
use Rattle.fs_machine.specs.Questions.{live}
use Rattle.fs_machine.specs.Runs.{run_from, IsRunFrom}
use Rattle.fs_machine.specs.Step.{step, refused_as_full, refused_where}
use Rattle.fs_machine.specs.Turned.{IsJournal}
use Rattle.fs_machine.proofs.RunLemmas.{run_more}
use Rattle.fs_conn.specs.declared.end.End.TheVariants as ends
use Rattle.fs_conn.specs.Ends.{IsFullAt}
use Rattle.fs_top.specs.declared.conns.Conn.{Conn}
use Rattle.fs_top.specs.declared.course.Course.{Course}
use Rattle.fs_top.specs.declared.course.Course.TheVariants.{Run, DoorFault}
use Rattle.fs_top.specs.declared.outcome.Outcome.TheVariants.{Usage, CannotRead, BadDocument, BadPattern, Printed, Ended}
use Rattle.fs_top.specs.Doors.{Rose}
use Rattle.fs_top.specs.Headline.{Headline, IsHalted, IsShutDown, is_halt, status_behind}
use Rattle.fs_top.specs.Lanes.{Keeps, MayEnter, is_settled}
use Rattle.fs_top.specs.Runs.{is_memory, not_read, not_built}
use Rattle.fs_top.specs.Told.{cannot_read_line}
use Rattle.fs_top.proofs.ShutdownLaws.{shuts_down, halts_by}
use Rattle.fs_top.specs.Serving.{line_of_course, status_of_course, IsReadAs, IsUnread, IsNoDocument, Concludes, Ends, IsNothing, ServesConfig}
use Rattle.fs_top.specs.Serving.{ServesAs, no_machine}
use Rattle.fs_top.specs.Serving.{unheard, served, ServesBytes, no_config, faulty, unbuilt, configured, Serves, no_file, unread, read, IsStatus}

-- ---- the door

rose_least : (old new most : ℕ) → new ≡ min (old + 1) most → (old < new) ⊎ (most ≤ new)
rose_least old new most is =
    elim (cases_lt old most) [ inl below ↦ inl (omega (arith, is, below)) | inr above ↦ inr (omega (arith, is, above)) ]

-- a call of the door failed
pub rose_raised : (old new : ℕ) → new ≡ raised old → Rose old new
rose_raised old new is = rose_least old new 18446744073709551615 is

-- ---- entries that halt the switch

halt_is : (entry : Entry) → is_halt entry ≡ true → entry.act ≡ Halt
halt_is entry h = by entry.moment entry.act h
  where
    by : (moment : ℕ) (act : Act) → is_halt (record { moment = moment; act = act }) ≡ true → act ≡ Halt
    by moment Arrive h = absurd (cc)
    by moment (Command conn block) h = absurd (cc)
    by moment (Take conn) h = absurd (cc)
    by moment (Close conn how) h = absurd (cc)
    by moment (Dialed slot linked) h = absurd (cc)
    by moment (Work slot) h = absurd (cc)
    by moment (Job number) h = absurd (cc)
    by moment (Loaded number note) h = absurd (cc)
    by moment Halt h = refl

-- what holds where an entry halts the switch holds where one did
halt_among : (P : Type 0) (may : ℕ → Type 0) (journal : List Entry) → list_any is_halt journal ≡ true → All (MayEnter may P) journal → P
halt_among P may [] halts all = absurd (cc)
halt_among P may (entry ∷ journal) halts all =
    by (is_halt entry) refl halts
    (λ rest. halt_among P may journal rest (λ k d inside. all (suc k) d (omega (arith, inside))))
  where
    by : (test : Bool) → is_halt entry ≡ test → (test || list_any is_halt journal) ≡ true → (list_any is_halt journal ≡ true → P) → P
    by true is halts later = (all 0 entry (omega arith)).1 (halt_is entry is)
    by false is halts later = later halts

no_halt : (before : List Entry) (entry : Entry) (behind : List Entry) → list_any is_halt (before ++ entry ∷ behind) ≡ false →
    is_halt entry ≡ false
no_halt [] entry behind none = (or_parts (is_halt entry) (list_any is_halt behind) none).0
no_halt (first ∷ before) entry behind none =
    no_halt before entry behind (or_parts (is_halt first) (list_any is_halt (before ++ entry ∷ behind)) none).1

-- ---- how a server ends

-- the entry by which a switch came to its end
record Turning (s : Switch) (journal : List Entry) : Type 0 where
  before : List Entry
  entry : Entry
  behind : List Entry
  split : journal ≡ before ++ entry ∷ behind
  unstopped : (run_from s before).stopping ≡ None
  stopped : is_some (run_from s (before ++ entry ∷ [])).stopping ≡ true

turning : (s : Switch) (journal : List Entry) → s.stopping ≡ None → is_some (run_from s journal).stopping ≡ true → Turning s journal
turning s [] none over = let wrong : false ≡ true = sym (ap (λ (place : Option ℕ). is_some place) none) ∙ over in absurd (cc)
turning s (entry ∷ journal) none over = by (step s entry).state.stopping refl (turning (step s entry).state journal)
  where
    by : (stopping : Option ℕ) → (step s entry).state.stopping ≡ stopping
        → ((step s entry).state.stopping ≡ None → is_some (run_from (step s entry).state journal).stopping ≡ true
        → Turning (step s entry).state journal)
        → Turning s (entry ∷ journal)
    by None is later = let t = later is over in record {
      before = entry ∷ t.before;
      entry = t.entry;
      behind = t.behind;
      split = ap (λ (entries : List Entry). entry ∷ entries) t.split;
      unstopped = t.unstopped;
      stopped = t.stopped;
    }
    by (Some place) is later = record {
      before = [];
      entry = entry;
      behind = journal;
      split = refl;
      unstopped = none;
      stopped = ap (λ (place : Option ℕ). is_some place) is;
    }

-- how many seats are taken
abbrev taken : {T : Type 0} → List (Option T) → ℕ
taken [] = 0
taken (seat ∷ seats) = cond (is_some seat) (1 + taken seats) (taken seats)

none_taken : {T : Type 0} (seats : List (Option T)) → taken seats ≡ 0 → (seat : ℕ) → held_in seats seat ≡ None
none_taken [] none seat = get_or_past [] seat None (omega arith)
none_taken (None ∷ seats) none zero = refl
none_taken (None ∷ seats) none (suc seat) = none_taken seats none seat
none_taken (Some held ∷ seats) none seat = absurd (omega (arith, none))

-- no slot holds a channel
none_live : (s : Switch) → live s ≡ 0 → (slot : ℕ) → chan_at s slot ≡ None
none_live s none slot = none_taken s.channels (is_count_by taken is_some refl (λ seat seats. refl) s.channels ∙ none) slot

both_true : (full stopped none : Bool) → (full || (stopped && none)) ≡ true → full ≡ false → (stopped ≡ true) × (none ≡ true)
both_true true stopped none settled free = absurd (cc)
both_true false true true settled free = (refl, refl)
both_true false true false settled free = absurd (cc)
both_true false false none settled free = absurd (cc)

pub shut_down : (config : Configuration) (journal : List Entry) → is_settled (state_after config journal) ≡ true →
    is_full (state_after config journal) ≡ false → list_any is_halt journal ≡ false → IsShutDown config journal
shut_down config journal settled free unhalted =
    let s = state_after config journal in
    let both = both_true (is_full s) (is_some s.stopping) (live s == 0) settled free in
    let t = turning (empty config) journal refl both.0 in record {
      entry = t.entry;
      ended = record { before = t.before; behind = t.behind; split = t.split; unstopped = t.unstopped; stopped = t.stopped };
      shuts =
          shuts_down (state_after config t.before) t.entry t.unstopped
          (subst (λ (u : Switch). is_some u.stopping ≡ true) (run_more (empty config) t.before t.entry) t.stopped)
          (no_halt t.before t.entry t.behind (subst (λ (entries : List Entry). list_any is_halt entries ≡ false) t.split unhalted));
      empty = none_live s (eqb-true (live s) 0 both.1);
    }

-- where one of its entries halts the switch, the one that ended it does
pub halted_down : (config : Configuration) (journal : List Entry) → IsRunFrom (empty config) journal →
    is_settled (state_after config journal) ≡ true → is_full (state_after config journal) ≡ false → list_any is_halt journal ≡ true →
    IsHalted config journal
halted_down config journal run settled free halts =
    let s = state_after config journal in
    let both = both_true (is_full s) (is_some s.stopping) (live s == 0) settled free in
    let t = turning (empty config) journal refl both.0 in record {
      entry = t.entry;
      ended = record { before = t.before; behind = t.behind; split = t.split; unstopped = t.unstopped; stopped = t.stopped };
      halts =
          halts_by config t.before t.entry t.behind (subst (IsRunFrom (empty config)) t.split run) t.unstopped t.stopped
          (subst (λ (entries : List Entry). list_any is_halt entries ≡ true) t.split halts);
    }

-- its journal is full, where a machine says so
pub full_at : (s : Switch) (cost limit : ℕ) → refused_as_full s ≡ Some (refusal.JournalFull cost limit) → IsFullAt cost limit s
full_at s cost limit is = by (is_full s) refl is
  where
    by : (full : Bool) → is_full s ≡ full
        → refused_where full (refusal.JournalFull s.cost s.settings.journal_limit) None ≡ Some (refusal.JournalFull cost limit)
        → IsFullAt cost limit s
    by true full is = record { full = full; cost_is = cc; limit_is = cc }
    by false full is = absurd (cc)

-- and else it is not
pub not_full : (s : Switch) → ((cost limit : ℕ) → refused_as_full s ≡ Some (refusal.JournalFull cost limit) → ⊥) → is_full s ≡ false
not_full s other = by (is_full s) refl
  where
    by : (full : Bool) → is_full s ≡ full → is_full s ≡ false
    by true full =
        absurd
        (other s.cost s.settings.journal_limit
        (ap (λ (b : Bool). refused_where b (refusal.JournalFull s.cost s.settings.journal_limit) None) full))
    by false full = full

-- how it ended, by its status
data Concluded (config : Configuration) (journal : List Entry) (status : ℕ) : Type 0 where
  shut : status ≡ 0 → is_full (state_after config journal) ≡ false → list_any is_halt journal ≡ false → IsShutDown config journal
      → Concluded config journal status
  filled : status ≡ 8 → is_full (state_after config journal) ≡ true → Concluded config journal status
  halted : status ≡ 7 → is_full (state_after config journal) ≡ false → list_any is_halt journal ≡ true → Concluded config journal status

concluded : (config : Configuration) (journal : List Entry) (course : Course) → Concludes config journal course →
    Concluded config journal (status_of_course course)
concluded config journal (Run Usage) how = absurd how
concluded config journal (Run (CannotRead name)) how = absurd how
concluded config journal (Run (BadDocument fault)) how = absurd how
concluded config journal (Run (BadPattern fault)) how = absurd how
concluded config journal (Run Printed) how = shut refl how.0 how.1.0 how.1.1
concluded config journal (Run (Ended ends.Exit)) how = absurd how
concluded config journal (Run (Ended ends.Eof)) how = absurd how
concluded config journal (Run (Ended ends.AuthRefused)) how = absurd how
concluded config journal (Run (Ended ends.Stopped)) how = absurd how
concluded config journal (Run (Ended ends.ReadFault)) how = absurd how
concluded config journal (Run (Ended ends.WriteFault)) how = absurd how
concluded config journal (Run (Ended (ends.TooLong len))) how = absurd how
concluded config journal (Run (Ended ends.BadLength)) how = absurd how
concluded config journal (Run (Ended (ends.JournalFull cost limit))) how = filled refl how.full
concluded config journal (Run (Ended ends.Memory)) how = absurd how
concluded config journal (Run (Ended (ends.Runaway count))) how = absurd how
concluded config journal DoorFault how = halted refl how.0 how.1.0

abbrev status_for : Bool → Bool → ℕ
status_for full halts = cond full 8 (cond halts 7 0)

-- its status is the one behind its journal
status_is : (config : Configuration) (journal : List Entry) (status : ℕ) → Concluded config journal status →
    status ≡ status_behind config journal
status_is config journal status (shut nought free unhalted down) =
    nought
    ∙ sym (ap (λ (b : Bool). status_for b (list_any is_halt journal)) free ∙ ap (λ (b : Bool). status_for false b) unhalted)
status_is config journal status (filled eight full) = eight ∙ sym (ap (λ (b : Bool). status_for b (list_any is_halt journal)) full)
status_is config journal status (halted seven free halts) =
    seven
    ∙ sym (ap (λ (b : Bool). status_for b (list_any is_halt journal)) free ∙ ap (λ (b : Bool). status_for false b) halts)

-- ---- the book

keeps_nothing : {L : Type 0} (input : L → Input) (output : L → Output) (may : Entry → Type 0) (config : Configuration)
    (lists : List (List ℕ)) → IsJournal config [] → Keeps input output may config [] lists []
keeps_nothing input output may config lists run = record {
  run = run;
  served = λ k d inside. absurd (omega (arith, inside));
  all = λ k places there p number has opened. absurd (none-some opened.0 opened.1);
  once = λ p number opened. absurd (none-some opened.0 opened.1);
  allowed = λ k places there p entry has at. absurd (none-some entry at);
}

-- a pass that has seen nothing keeps no connection
pub keeps_none : {L : Type 0} (input : L → Input) (output : L → Output) (may : Entry → Type 0) (config : Configuration)
    (seen : List Entry) (lists : List (List ℕ)) → seen ≡ [] → IsJournal config [] → Keeps input output may config seen lists []
keeps_none input output may config seen lists none run =
    subst (λ (log : List Entry). Keeps input output may config log lists []) (sym none)
    (keeps_nothing input output may config lists run)

-- a book that was closed behind this leaves it
pub ends_closed : {L : Type 0} (input : L → Input) (output : L → Output) (may : ℕ → Type 0) (config started : Configuration)
    (doors0 doors1 : ℕ) (seen journal : List Entry) (conns : List (Conn L)) → started ≡ config → journal ≡ seen
    → Headline input output (MayEnter may (Rose doors0 doors1)) config seen conns → is_settled (state_after config seen) ≡ true
    → Ends input output may config doors0 doors1 started journal conns
ends_closed input output may config started doors0 doors1 seen journal conns same is headline settled = record {
  same = same;
  headline =
      subst (λ (log : List Entry). Headline input output (MayEnter may (Rose doors0 doors1)) config log conns) (sym is) headline;
  settled = subst (λ (log : List Entry). is_settled (state_after config log) ≡ true) (sym is) settled;
}

-- the machine that is left is settled
pub ends_settled : {L : Type 0} (input : L → Input) (output : L → Output) (may : ℕ → Type 0) (config started : Configuration)
    (doors0 doors1 : ℕ) (journal : List Entry) (conns : List (Conn L)) →
    Ends input output may config doors0 doors1 started journal conns → is_settled (state_after started journal) ≡ true
ends_settled input output may config started doors0 doors1 journal conns ended =
    subst (λ (c : Configuration). is_settled (state_after c journal) ≡ true) (sym ended.same) ended.settled

-- a switch that ran to its end was served
pub serves_ended : {L O : Type 0} (input : L → Input) (output : L → Output) (may : ℕ → Type 0) (config0 config started : Configuration)
    (doors0 doors1 : ℕ) (course : Course) (journal journal' : List Entry) (conns conns' : List (Conn L)) (dialers : List O) →
    Ends input output may config doors0 doors1 started journal conns → config ≡ config0 → Concludes started journal course
    → journal' ≡ journal → conns' ≡ conns → ServesConfig input output may config0 doors0 doors1 course journal' conns' dialers
serves_ended {L} {O} input output may config0 config started doors0 doors1 course journal journal' conns conns' dialers ended is how same alone =
    subst (λ (served_all : List (Conn L)). ServesConfig input output may config0 doors0 doors1 course journal' served_all dialers) (sym alone)
    (subst (λ (log : List Entry). ServesConfig input output may config0 doors0 doors1 course log conns dialers) (sym same)
    (subst (λ (c : Configuration). ServesConfig input output may c doors0 doors1 course journal conns dialers) is
    (served ended.headline (subst (λ (c : Configuration). Concludes c journal course) ended.same how))))

-- ---- what the layers pass on

-- nothing is handed back
pub is_nothing : {L O : Type 0} (journal : List Entry) (conns : List (Conn L)) (dialers : List O) → journal ≡ [] → conns ≡ []
    → dialers ≡ [] → IsNothing journal conns dialers
is_nothing journal conns dialers none alone undialed = record { no_entries = none; no_conns = alone; no_dialers = undialed }

-- the document was not read
pub serves_faulty : {L O : Type 0} (input : L → Input) (output : L → Output) (may : ℕ → Type 0) (bytes : List ℕ) (fault : DocFault)
    (sizes0 sizes1 doors0 doors1 : ℕ) (course : Course) (journal : List Entry) (conns : List (Conn L)) (dialers : List O) →
    (fault ≡ record { at = 0; kind = Memory }) ⊎ (config_of bytes ≡ Err fault) → course ≡ Run (not_read fault)
    → IsNothing journal conns dialers → ServesBytes input output may bytes sizes0 sizes1 doors0 doors1 course journal conns dialers
serves_faulty input output may bytes fault sizes0 sizes1 doors0 doors1 course journal conns dialers why is none =
    by (is_memory fault.kind) refl is
  where
    reads : is_memory fault.kind ≡ false → (fault ≡ record { at = 0; kind = Memory }) ⊎ (config_of bytes ≡ Err fault) →
        config_of bytes ≡ Err fault
    reads other (inl e) = let same : is_memory fault.kind ≡ true = ap (λ f. is_memory f.kind) e in absurd (cc)
    reads other (inr e) = e

    by : (memory : Bool) → is_memory fault.kind ≡ memory → course ≡ Run (cond memory (Ended ends.Memory) (BadDocument fault)) →
        ServesBytes input output may bytes sizes0 sizes1 doors0 doors1 course journal conns dialers
    by true kind is = no_config is none
    by false kind is = faulty fault (reads kind why) is none

-- its dialplan was not built
pub serves_unbuilt : {L O : Type 0} (input : L → Input) (output : L → Output) (may : ℕ → Type 0) (bytes : List ℕ)
    (config : Configuration) (fault : PlanFault) (sizes0 sizes1 doors0 doors1 : ℕ) (course : Course) (journal : List Entry)
    (conns : List (Conn L)) (dialers : List O) → config_of bytes ≡ Ok config → IsPlanRefusal config.contexts fault
    → sizes1 ≡ sizes_after fault sizes0 → course ≡ Run (not_built fault) → IsNothing journal conns dialers
    → ServesBytes input output may bytes sizes0 sizes1 doors0 doors1 course journal conns dialers
serves_unbuilt input output may bytes config NoMemory sizes0 sizes1 doors0 doors1 course journal conns dialers reads refusal sizes is none =
    no_config is none
serves_unbuilt input output may bytes config (PatternRefused extension condition) sizes0 sizes1 doors0 doors1 course journal conns dialers
    reads refusal sizes is none =
    unbuilt config (PatternRefused extension condition) reads
    (record { refusal = refusal; no_want = λ e. absurd (cc); sizes = sizes }) is none
serves_unbuilt input output may bytes config (PatternTooLarge extension condition) sizes0 sizes1 doors0 doors1 course journal conns dialers
    reads refusal sizes is none =
    unbuilt config (PatternTooLarge extension condition) reads
    (record { refusal = refusal; no_want = λ e. absurd (cc); sizes = sizes }) is none

-- the file was not there, or could not be read
pub serves_unread : {L O : Type 0} (input : L → Input) (output : L → Output) (may : ℕ → Type 0) (next_load : List ℕ → Option File)
    (name : List ℕ) (file : File) (counts0 counts1 : LoadCounts) (sizes0 sizes1 doors0 doors1 : ℕ) (course : Course)
    (journal : List Entry) (conns : List (Conn L)) (dialers : List O) → Tells (next_load name) file → Counted counts0 counts1 file
    → (file ≡ Absent) ⊎ (file ≡ Failed) → status_of_course course ≡ 4 → line_of_course course ≡ cannot_read_line name
    → IsNothing journal conns dialers
    → Serves input output may next_load name counts0 counts1 sizes0 sizes1 doors0 doors1 course journal conns dialers
serves_unread input output may next_load name file counts0 counts1 sizes0 sizes1 doors0 doors1 course journal conns dialers told counted
    other four line none =
    unread (record { file = file; told = told; loaded = counted; other = other }) (record { status = four; line = line }) none

-- ---- what the statuses show

-- what serving a file came to, by its status
data Comes {L : Type 0} (input : L → Input) (output : L → Output) (may : ℕ → Type 0) (next_load : List ℕ → Option File)
    (name : List ℕ) (counts0 counts1 : LoadCounts) (sizes0 sizes1 doors0 doors1 status : ℕ) (journal : List Entry)
    (conns : List (Conn L)) : Type 0 where
  wants : status ≡ 1 → journal ≡ [] → conns ≡ []
      → Comes input output may next_load name counts0 counts1 sizes0 sizes1 doors0 doors1 status journal conns
  reads_none : status ≡ 4 → IsUnread next_load name counts0 counts1 → journal ≡ [] → conns ≡ []
      → Comes input output may next_load name counts0 counts1 sizes0 sizes1 doors0 doors1 status journal conns
  has_none : status ≡ 3 → IsNoDocument next_load name sizes0 sizes1 → journal ≡ [] → conns ≡ []
      → Comes input output may next_load name counts0 counts1 sizes0 sizes1 doors0 doors1 status journal conns
  hears_none : (config : Configuration) → IsReadAs next_load name config → status ≡ 7 → Rose doors0 doors1 → journal ≡ [] → conns ≡ []
      → Comes input output may next_load name counts0 counts1 sizes0 sizes1 doors0 doors1 status journal conns
  serves_all : (config : Configuration) → IsReadAs next_load name config
      → Headline input output (MayEnter may (Rose doors0 doors1)) config journal conns → Concluded config journal status
      → Comes input output may next_load name counts0 counts1 sizes0 sizes1 doors0 doors1 status journal conns

module _ {L O : Type 0} (input : L → Input) (output : L → Output) (may : ℕ → Type 0) (next_load : List ℕ → Option File)
    (name : List ℕ) (counts0 counts1 : LoadCounts) (sizes0 sizes1 doors0 doors1 : ℕ) (journal : List Entry)
    (conns : List (Conn L)) (dialers : List O) where
  comes : (course : Course) →
      Serves input output may next_load name counts0 counts1 sizes0 sizes1 doors0 doors1 course journal conns dialers →
      Comes input output may next_load name counts0 counts1 sizes0 sizes1 doors0 doors1 (status_of_course course) journal conns
  comes course (no_file is none) = wants (ap status_of_course is) none.no_entries none.no_conns
  comes course (unread of tells none) = reads_none tells.status of none.no_entries none.no_conns
  comes course (read bytes told (no_config is none)) = wants (ap status_of_course is) none.no_entries none.no_conns
  comes course (read bytes told (faulty fault reads is none)) =
      has_none (ap status_of_course is) (inl (fault, record { bytes = bytes; told = told; reads = reads })) none.no_entries none.no_conns
  comes course (read bytes told (unbuilt config fault reads refused is none)) =
      has_none (ap status_of_course is)
      (inr (fault, record { config = config; is = record { bytes = bytes; told = told; reads = reads }; refused = refused }))
      none.no_entries none.no_conns
  comes course (read bytes told (configured config reads (no_machine is none))) =
      wants (ap status_of_course is) none.no_entries none.no_conns
  comes course (read bytes told (configured config reads (unheard is rose none))) =
      hears_none config (record { bytes = bytes; told = told; reads = reads }) (ap status_of_course is) rose none.no_entries none.no_conns
  comes course (read bytes told (configured config reads (served headline how))) =
      serves_all config (record { bytes = bytes; told = told; reads = reads }) headline (concluded config journal course how)

  headline_by : (status : ℕ) → Comes input output may next_load name counts0 counts1 sizes0 sizes1 doors0 doors1 status journal conns →
      ((journal ≡ []) × (conns ≡ [])) ⊎ ((c : Configuration) × IsReadAs next_load name c × (status ≡ status_behind c journal)
      × Headline input output (MayEnter may (Rose doors0 doors1)) c journal conns)
  headline_by status (wants is none alone) = inl (none, alone)
  headline_by status (reads_none is of none alone) = inl (none, alone)
  headline_by status (has_none is of none alone) = inl (none, alone)
  headline_by status (hears_none config read_as is rose none alone) = inl (none, alone)
  headline_by status (serves_all config is headline how) = inr (config, is, status_is config journal status how, headline)

  shut_how : (config : Configuration) (status : ℕ) → Concluded config journal status → status ≡ 0 → IsShutDown config journal
  shut_how config status (shut is free unhalted down) nought = down
  shut_how config status (filled is full) nought = absurd (omega (arith, is, nought))
  shut_how config status (halted is free halts) nought = absurd (omega (arith, is, nought))

  shut_by : (status : ℕ) → Comes input output may next_load name counts0 counts1 sizes0 sizes1 doors0 doors1 status journal conns →
      status ≡ 0 → (c : Configuration) × IsReadAs next_load name c × IsShutDown c journal
  shut_by status (wants is none alone) nought = absurd (omega (arith, is, nought))
  shut_by status (reads_none is of none alone) nought = absurd (omega (arith, is, nought))
  shut_by status (has_none is of none alone) nought = absurd (omega (arith, is, nought))
  shut_by status (hears_none config read_as is rose none alone) nought = absurd (omega (arith, is, nought))
  shut_by status (serves_all config is headline how) nought = (config, is, shut_how config status how nought)

  full_how : (config : Configuration) (status : ℕ) → Concluded config journal status → status ≡ 8 →
      is_full (state_after config journal) ≡ true
  full_how config status (shut is free unhalted down) eight = absurd (omega (arith, is, eight))
  full_how config status (filled is full) eight = full
  full_how config status (halted is free halts) eight = absurd (omega (arith, is, eight))

  full_by : (status : ℕ) → Comes input output may next_load name counts0 counts1 sizes0 sizes1 doors0 doors1 status journal conns →
      status ≡ 8 → (c : Configuration) × IsReadAs next_load name c × (is_full (state_after c journal) ≡ true)
  full_by status (wants is none alone) eight = absurd (omega (arith, is, eight))
  full_by status (reads_none is of none alone) eight = absurd (omega (arith, is, eight))
  full_by status (has_none is of none alone) eight = absurd (omega (arith, is, eight))
  full_by status (hears_none config read_as is rose none alone) eight = absurd (omega (arith, is, eight))
  full_by status (serves_all config is headline how) eight = (config, is, full_how config status how eight)

  not_three : (config : Configuration) (status : ℕ) → Concluded config journal status → status ≡ 3 → ⊥
  not_three config status (shut is free unhalted down) three = omega (arith, is, three)
  not_three config status (filled is full) three = omega (arith, is, three)
  not_three config status (halted is free halts) three = omega (arith, is, three)

  document_by : (status : ℕ) → Comes input output may next_load name counts0 counts1 sizes0 sizes1 doors0 doors1 status journal conns →
      status ≡ 3 → IsNoDocument next_load name sizes0 sizes1
  document_by status (wants is none alone) three = absurd (omega (arith, is, three))
  document_by status (reads_none is of none alone) three = absurd (omega (arith, is, three))
  document_by status (has_none is of none alone) three = of
  document_by status (hears_none config read_as is rose none alone) three = absurd (omega (arith, is, three))
  document_by status (serves_all config is headline how) three = absurd (not_three config status how three)

  not_four : (config : Configuration) (status : ℕ) → Concluded config journal status → status ≡ 4 → ⊥
  not_four config status (shut is free unhalted down) four = omega (arith, is, four)
  not_four config status (filled is full) four = omega (arith, is, four)
  not_four config status (halted is free halts) four = omega (arith, is, four)

  unread_by : (status : ℕ) → Comes input output may next_load name counts0 counts1 sizes0 sizes1 doors0 doors1 status journal conns →
      status ≡ 4 → IsUnread next_load name counts0 counts1
  unread_by status (wants is none alone) four = absurd (omega (arith, is, four))
  unread_by status (reads_none is of none alone) four = of
  unread_by status (has_none is of none alone) four = absurd (omega (arith, is, four))
  unread_by status (hears_none config read_as is rose none alone) four = absurd (omega (arith, is, four))
  unread_by status (serves_all config is headline how) four = absurd (not_four config status how four)

  halted_how : (config : Configuration) (status : ℕ) → Headline input output (MayEnter may (Rose doors0 doors1)) config journal conns →
      Concluded config journal status → status ≡ 7 → Rose doors0 doors1
  halted_how config status headline (shut is free unhalted down) seven = absurd (omega (arith, is, seven))
  halted_how config status headline (filled is full) seven = absurd (omega (arith, is, seven))
  halted_how config status headline (halted is free halts) seven = halt_among (Rose doors0 doors1) may journal halts headline.allowed

  door_by : (status : ℕ) → Comes input output may next_load name counts0 counts1 sizes0 sizes1 doors0 doors1 status journal conns →
      status ≡ 7 → (c : Configuration) × IsReadAs next_load name c × Rose doors0 doors1
  door_by status (wants is none alone) seven = absurd (omega (arith, is, seven))
  door_by status (reads_none is of none alone) seven = absurd (omega (arith, is, seven))
  door_by status (has_none is of none alone) seven = absurd (omega (arith, is, seven))
  door_by status (hears_none config read_as is rose none alone) seven = (config, read_as, rose)
  door_by status (serves_all config is headline how) seven = (config, is, halted_how config status headline how seven)

  codes_how : (config : Configuration) (status : ℕ) → Concluded config journal status → IsStatus status
  codes_how config status (shut is free unhalted down) = (0, omega arith, sym is)
  codes_how config status (filled is full) = (5, omega arith, sym is)
  codes_how config status (halted is free halts) = (4, omega arith, sym is)

  codes_by : (status : ℕ) → Comes input output may next_load name counts0 counts1 sizes0 sizes1 doors0 doors1 status journal conns →
      IsStatus status
  codes_by status (wants is none alone) = (1, omega arith, sym is)
  codes_by status (reads_none is of none alone) = (3, omega arith, sym is)
  codes_by status (has_none is of none alone) = (2, omega arith, sym is)
  codes_by status (hears_none config read_as is rose none alone) = (4, omega arith, sym is)
  codes_by status (serves_all config is headline how) = codes_how config status how

  module _ (course : Course)
      (serves : Serves input output may next_load name counts0 counts1 sizes0 sizes1 doors0 doors1 course journal conns dialers) where
    -- nothing was entered, or the headline holds
    pub serves_headline : ((journal ≡ []) × (conns ≡ [])) ⊎ ((c : Configuration) × IsReadAs next_load name c
        × (status_of_course course ≡ status_behind c journal)
        × Headline input output (MayEnter may (Rose doors0 doors1)) c journal conns)
    serves_headline = headline_by (status_of_course course) (comes course serves)

    -- status 0
    pub serves_shut : status_of_course course ≡ 0 → (c : Configuration) × IsReadAs next_load name c × IsShutDown c journal
    serves_shut nought = shut_by (status_of_course course) (comes course serves) nought

    -- status 3
    pub serves_document : status_of_course course ≡ 3 → IsNoDocument next_load name sizes0 sizes1
    serves_document three = document_by (status_of_course course) (comes course serves) three

    -- status 4
    pub serves_unread_file : status_of_course course ≡ 4 → IsUnread next_load name counts0 counts1
    serves_unread_file four = unread_by (status_of_course course) (comes course serves) four

    -- status 7
    pub serves_door : status_of_course course ≡ 7 → (c : Configuration) × IsReadAs next_load name c × Rose doors0 doors1
    serves_door seven = door_by (status_of_course course) (comes course serves) seven

    -- status 8
    pub serves_full : status_of_course course ≡ 8 → (c : Configuration) × IsReadAs next_load name c
        × (is_full (state_after c journal) ≡ true)
    serves_full eight = full_by (status_of_course course) (comes course serves) eight

    -- each status
    pub serves_codes : IsStatus (status_of_course course)
    serves_codes = codes_by (status_of_course course) (comes course serves)

-- all of it
pub serves_as : {L O : Type 0} (input : L → Input) (output : L → Output) (may : ℕ → Type 0) (next_load : List ℕ → Option File)
    (name : List ℕ) (counts0 counts1 : LoadCounts) (sizes0 sizes1 doors0 doors1 : ℕ) (err0 err1 : Output) (code : ℕ)
    (journal : List Entry) (conns : List (Conn L)) (dialers : List O) (course : Course) (sent : Sent) →
    Serves input output may next_load name counts0 counts1 sizes0 sizes1 doors0 doors1 course journal conns dialers
    → code ≡ status_of_course course → SendDid err0 err1 sent (line_of_course course)
    → ServesAs input output may next_load name counts0 counts1 sizes0 sizes1 doors0 doors1 err0 err1 code journal conns dialers
serves_as input output may next_load name counts0 counts1 sizes0 sizes1 doors0 doors1 err0 err1 code journal conns dialers course sent serves
    code_is said =
    record { course = course; sent = sent; serves = serves; code_is = code_is; said = said }
