-- For which of its commands the connection parts.
use Rattle.std.proofs.Common.{◌≡◌, ℕ, Bool, true, false, cond, List, [], ◌∷◌, ◌++◌, Option, None, Some, inl, inr, refl, sym, ap}
use Rattle.std.proofs.Common.{◌∙◌, subst, append_assoc, append-nil}
use Rattle.std.proofs.lemmas.Bool.{both_ways}
use Rattle.std.proofs.lemmas.Option.{none-some, same_Some}
use Rattle.fs_doc.specs.Reading.{Configuration}
use Rattle.fs_doc.specs.declared.settings.Settings.{Settings}
use Rattle.fs_frame.specs.Blocks.{blocks_of}
use Rattle.fs_text.specs.Texts.{Text}
use Rattle.fs_cmd.specs.Commands.{command_of}
use Rattle.fs_state.specs.declared.conn.Parting.{Parting}
use Rattle.fs_state.specs.declared.conn.Parting.TheVariants as parting
use Rattle.fs_state.specs.Switch.{Switch, empty, is_full}
use Rattle.fs_machine.specs.declared.entry.Entry.{Entry}
use Rattle.fs_machine.specs.declared.entry.Act.{Act}
use Rattle.fs_machine.specs.declared.entry.Act.TheVariants.{Arrive, Command, Take, Close, Dialed, Work, Job, Loaded, Halt}
use Rattle.fs_machine.specs.declared.refusal.Refusal.{Refusal}
use Rattle.fs_machine.specs.declared.refusal.Refusal.TheVariants as refusal
use Rattle.fs_machine.specs.Connections.{phase_at}
use Rattle.fs_machine.specs.Questions.{parting_at, owes}
use Rattle.fs_machine.specs.Step.{step, reads, refusal_of, refused_where}
use Rattle.fs_machine.specs.Frames.{command_in, commands_of}
use Rattle.fs_machine.specs.Concerns.{is_its_own, KeepsOrParts}
use Rattle.fs_machine.specs.Runs.{run_from, IsRunFrom}
use Rattle.fs_machine.proofs.RunLemmas.{is_run_more}
use Rattle.fs_machine.proofs.StoppedMoves.{parts_at_end, goes_while_read}
use Rattle.fs_machine.proofs.LeftLemmas.{NoneLeft}
use Rattle.fs_machine.proofs.FramesLaws.{settings_run}
use Rattle.fs_machine.proofs.FrameLemmas.{command_refused}
use Rattle.fs_machine.proofs.PartLemmas.{others_part, take_keeps, CommandParts, command_parts, none_parted, arrival_unparted}
use Rattle.fs_conn.specs.declared.end.End.{End}
use Rattle.fs_conn.specs.Play.{Play, switch_of, new_play, is_over, after_judging, after_trying_act, reads_on, takes_commands, after_act}
use Rattle.fs_conn.specs.Play.{after_command, after_commands, after_opening, after_conversing, after_closing}
use Rattle.fs_conn.specs.Steps.{entry_of}
use Rattle.fs_conn.specs.Ends.{PartsFor, command_at, IsPartedBy, EndsFor, IsPartedAside, IsStoppedBy}
use Rattle.fs_conn.proofs.KeepLemmas.{Keeps, by_each, kept_followed, kept_closed}
use Rattle.fs_conn.proofs.CloseLemmas.{longer_by, switch_longer, none_left_of}
use Rattle.fs_conn.proofs.CommandLemmas.{IsSilent, commands_more, commands_append, both_hold}
use Rattle.fs_machine.specs.declared.note.LoadNote.{LoadNote}

-- ---- a journal that grows

-- with an entry that is no command its last command stays
parted_longer : (why : Parting) (config : Configuration) (journal : List Entry) (entry : Entry) → command_in 1 entry.act ≡ [] →
    IsPartedBy why config journal → IsPartedBy why config (journal ++ entry ∷ [])
parted_longer why config journal entry silent h = record {
  command = record {
    before = h.command.before;
    moment = h.command.moment;
    block = h.command.block;
    behind = h.command.behind ++ entry ∷ [];
    split =
        ap (λ entries. entries ++ entry ∷ []) h.command.split
        ∙ append_assoc h.command.before (command_at h.command.moment h.command.block ∷ h.command.behind) (entry ∷ []);
    last =
        commands_more h.command.behind entry ∙ ap (λ blocks. commands_of 1 h.command.behind ++ blocks) silent
        ∙ append-nil (commands_of 1 h.command.behind) ∙ h.command.last;
  };
  is = h.is;
  unparted = h.unparted;
  parted = h.parted;
}

-- it parted by an entry of a journal, before which it read commands
pub record ReadUntil (why : Parting) (config : Configuration) (journal : List Entry) : Type 0 where
  pub at : IsPartedAside why config journal
  pub run : IsRunFrom (empty config) at.before
  pub reading : reads (phase_at (run_from (empty config) at.before) 1) ≡ true

-- nor does that entry change
until_longer : (why : Parting) (config : Configuration) (journal : List Entry) (entry : Entry) → command_in 1 entry.act ≡ [] →
    ReadUntil why config journal → ReadUntil why config (journal ++ entry ∷ [])
until_longer why config journal entry silent h = record {
  at = record {
    before = h.at.before;
    entry = h.at.entry;
    behind = h.at.behind ++ entry ∷ [];
    split = ap (λ entries. entries ++ entry ∷ []) h.at.split ∙ append_assoc h.at.before (h.at.entry ∷ h.at.behind) (entry ∷ []);
    last =
        commands_more h.at.behind entry ∙ ap (λ blocks. commands_of 1 h.at.behind ++ blocks) silent
        ∙ append-nil (commands_of 1 h.at.behind) ∙ h.at.last;
    unparted = h.at.unparted;
    parted = h.at.parted;
  };
  run = h.run;
  reading = h.reading;
}

-- where it parted for the end of the switch, that entry brought it
pub stopped_by_end : (config : Configuration) (journal : List Entry) → ReadUntil parting.Stopped config journal →
    IsStoppedBy config journal
stopped_by_end config journal h = record {
  at = h.at;
  unstopped = goes_while_read config h.at.before 1 h.run h.reading;
  stopped = parts_at_end config (h.at.before ++ h.at.entry ∷ []) 1 h.at.parted;
}

-- so an act that is no command leaves what is told of a journal
module _ (Told : Configuration → List Entry → Type 0)
    (longer : (config : Configuration) (journal : List Entry) (entry : Entry) → command_in 1 entry.act ≡ [] → Told config journal →
    Told config (journal ++ entry ∷ [])) where
  abbrev ToldOf : Play → Type 0
  ToldOf p = Told p.config p.journal

  told_judged : (cause : Option Refusal) (entry : Entry) (p : Play) → command_in 1 entry.act ≡ [] → ToldOf p →
      ToldOf (after_judging cause entry p)
  told_judged None entry p silent h = longer p.config p.journal entry silent h
  told_judged (Some (refusal.JournalFull cost limit)) entry p silent h = h
  told_judged (Some _) entry p silent h = h

  keeps_told : Keeps IsSilent ToldOf
  keeps_told = by_each IsSilent ToldOf (record {
    works = λ slot. refl;
    dials = λ slot. refl;
    jobs = λ number. refl;
    loads = λ number note. refl;
    takes = refl;
    enters =
        λ act such p h. elim (is_over p) as (λ b. ToldOf
        (cond b p (after_judging (refusal_of (switch_of p) (entry_of act p)) (entry_of act p) p))) [
          | true ↦ h
          | false ↦ told_judged (refusal_of (switch_of p) (entry_of act p)) (entry_of act p) p such h
        ];
    ends = λ end early p h. elim (is_over p) as (λ b. ToldOf (cond b p (record p { end = Some end }))) [ true ↦ h | false ↦ h ];
    goes_on = λ moment p h. h;
  })

  -- the closing of the connection leaves it too
  told_closed : (p : Play) → ToldOf p → ToldOf (after_closing p)
  told_closed p h = kept_closed IsSilent ToldOf keeps_told refl refl p h

abbrev pub Parted : Parting → Play → Type 0
Parted why p = IsPartedBy why p.config p.journal

pub parted_closed : (why : Parting) (p : Play) → Parted why p → Parted why (after_closing p)
parted_closed why p h = told_closed (IsPartedBy why) (parted_longer why) p h

abbrev pub Until : Parting → Play → Type 0
Until why p = ReadUntil why p.config p.journal

pub until_closed : (why : Parting) (p : Play) → Until why p → Until why (after_closing p)
until_closed why p h = told_closed (ReadUntil why) (until_longer why) p h

-- it ends the commands
pub parted_last : (why : Parting) (config : Configuration) (journal : List Entry) → IsPartedBy why config journal →
    EndsFor why config.settings.password (commands_of 1 journal)
parted_last why config journal h =
    let entry = command_at h.command.moment h.command.block in record {
      earlier = commands_of 1 h.command.before;
      block = h.command.block;
      split =
          ap (commands_of 1) h.command.split ∙ commands_append h.command.before (entry ∷ h.command.behind)
          ∙ ap (λ blocks. commands_of 1 h.command.before ++ h.command.block ∷ blocks) h.command.last;
      is = h.is;
    }

-- ---- what a connection parts for

-- The journal is a run. The connection has not parted while it reads commands, what it parted for by its own doing its last command tells,
-- and where it parted otherwise it read commands until the entry by which it did.
pub record Tells (p : Play) : Type 0 where
  pub run : IsRunFrom (empty p.config) p.journal
  pub here : reads_on p ≡ true → parting_at (switch_of p) 1 ≡ None
  pub parted : (why : Parting) → is_its_own why ≡ true → parting_at (switch_of p) 1 ≡ Some why → Parted why p
  pub aside : (why : Parting) → is_its_own why ≡ false → parting_at (switch_of p) 1 ≡ Some why → Until why p

-- an entry by which one parts that read commands
parts_now : (p : Play) (entry : Entry) (why : Parting) → Tells p → reads_on p ≡ true →
    parting_at (run_from (empty p.config) (p.journal ++ entry ∷ [])) 1 ≡ Some why → ReadUntil why p.config (p.journal ++ entry ∷ [])
parts_now p entry why h reading parts = record {
  at = record {
    before = p.journal;
    entry = entry;
    behind = [];
    split = refl;
    last = refl;
    unparted = h.here reading;
    parted = parts;
  };
  run = h.run;
  reading = reading;
}

-- acts that are none of its own and by which none comes, and Takes
abbrev IsAside : Act → Type 0
IsAside (Work slot) = Unit {0}
IsAside (Dialed slot linked) = linked ≡ false
IsAside (Job number) = Unit {0}
IsAside (Loaded number note) = Unit {0}
IsAside (Take taker) = Unit {0}
IsAside _ = ⊥

aside_silent : (act : Act) → IsAside act → command_in 1 act ≡ []
aside_silent (Work slot) such = refl
aside_silent (Dialed slot linked) such = refl
aside_silent (Job number) such = refl
aside_silent (Loaded number note) such = refl
aside_silent (Take taker) such = refl
aside_silent Halt such = absurd such
aside_silent Arrive such = absurd such
aside_silent (Command giver block) such = absurd such
aside_silent (Close gone how) such = absurd such

aside_keeps : (act : Act) (moment : ℕ) (s : Switch) → IsAside act → NoneLeft s →
    KeepsOrParts 1 s (step s (record { moment = moment; act = act })).state
aside_keeps (Work slot) moment s such none = others_part 1 moment (Work slot) s tt
aside_keeps (Dialed slot linked) moment s such none = others_part 1 moment (Dialed slot linked) s such
aside_keeps (Job number) moment s such none = others_part 1 moment (Job number) s tt
aside_keeps (Loaded number note) moment s such none = others_part 1 moment (Loaded number note) s tt
aside_keeps (Take taker) moment s such none = inl (take_keeps 1 moment taker s none)
aside_keeps Halt moment s such none = absurd such
aside_keeps Arrive moment s such none = absurd such
aside_keeps (Command giver block) moment s such none = absurd such
aside_keeps (Close gone how) moment s such none = absurd such

-- such an act was entered
tells_aside : (act : Act) (p : Play) (t : Switch) → IsAside act → refusal_of (switch_of p) (entry_of act p) ≡ None →
    switch_of (longer_by act p) ≡ t → KeepsOrParts 1 (switch_of p) t → Tells p → Tells (longer_by act p)
tells_aside act p t such accepted is (inl keeps) h = record {
  run = is_run_more (empty p.config) p.journal (entry_of act p) h.run accepted;
  here = λ reading. ap (λ (s : Switch). parting_at s 1) is
      ∙ (keeps.parting ∙ h.here (sym (ap reads keeps.phase) ∙ (sym (ap (λ (s : Switch). reads (phase_at s 1)) is) ∙ reading)));
  parted =
      λ why own same. parted_longer why p.config p.journal (entry_of act p) (aside_silent act such)
      (h.parted why own (sym keeps.parting ∙ (sym (ap (λ (s : Switch). parting_at s 1) is) ∙ same)));
  aside =
      λ why others same. until_longer why p.config p.journal (entry_of act p) (aside_silent act such)
      (h.aside why others (sym keeps.parting ∙ (sym (ap (λ (s : Switch). parting_at s 1) is) ∙ same)));
}
tells_aside act p t such accepted is (inr parts) h = record {
  run = is_run_more (empty p.config) p.journal (entry_of act p) h.run accepted;
  here = λ reading. let none : reads (phase_at t 1) ≡ true = sym (ap (λ (s : Switch). reads (phase_at s 1)) is) ∙ reading in
      absurd (both_ways (reads (phase_at t 1)) (ap reads parts.ending) none);
  parted =
      λ why own same.
      let one : parts.why ≡ why =
      same_Some parts.why why (sym parts.parting ∙ (sym (ap (λ (s : Switch). parting_at s 1) is) ∙ same)) in
      absurd (both_ways (is_its_own why) (sym (ap is_its_own one) ∙ parts.others) own);
  aside = λ why others same. parts_now p (entry_of act p) why h parts.read same;
}

-- the same of a play with another end
tells_same : (p : Play) (end : Option End) → Tells p → Tells (record p { end = end })
tells_same p end h = record { run = h.run; here = h.here; parted = h.parted; aside = h.aside }

tells_judged : (cause : Option Refusal) (act : Act) (p : Play) → IsAside act → refusal_of (switch_of p) (entry_of act p) ≡ cause → Tells p →
    Tells (after_judging cause (entry_of act p) p)
tells_judged None act p such judged h =
    tells_aside act p (step (switch_of p) (entry_of act p)).state such judged (switch_longer act p)
    (aside_keeps act p.clock (switch_of p) such (none_left_of p)) h
tells_judged (Some (refusal.JournalFull cost limit)) act p such judged h = tells_same p _ h
tells_judged (Some _) act p such judged h = h

keeps_tells : Keeps IsAside Tells
keeps_tells = by_each IsAside Tells (record {
  works = λ slot. tt;
  dials = λ slot. refl;
  jobs = λ number. tt;
  loads = λ number note. tt;
  takes = tt;
  enters =
      λ act such p h. elim (is_over p) as (λ b. Tells
      (cond b p (after_judging (refusal_of (switch_of p) (entry_of act p)) (entry_of act p) p))) [
        | true ↦ h
        | false ↦ tells_judged (refusal_of (switch_of p) (entry_of act p)) act p such refl h
      ];
  ends =
      λ end early p h. elim (is_over p) as (λ b. Tells (cond b p (record p { end = Some end }))) [
        | true ↦ h
        | false ↦ tells_same p (Some end) h
      ];
  goes_on = λ moment p h. record { run = h.run; here = h.here; parted = h.parted; aside = h.aside };
})

-- ---- its commands

-- the reason that a command is for what it brings
pub reason : (conn : ℕ) (why : Parting) (config : Configuration) (block : Text) (s t : Switch) → s.settings ≡ config.settings →
    CommandParts conn (command_of block) s t → parting_at t conn ≡ Some why → is_its_own why ≡ true → PartsFor why config.settings.password
    (command_of block)
reason conn parting.Exit config block s t kept made is own = made.exit is
reason conn parting.AuthRefused config block s t kept made is own =
    let told = made.refused is in
    (told.0, told.1, λ same. told.2 (same ∙ ap (λ (settings : Settings). settings.password) (sym kept)))
reason conn parting.EndOfInput config block s t kept made is own = absurd (made.hears is)
reason conn parting.Stopped config block s t kept made is own = absurd (cc)
reason conn parting.ChannelLeft config block s t kept made is own = absurd (cc)

tells_command : (block : Text) (p : Play) (t : Switch) → reads_on p ≡ true →
    refusal_of (switch_of p) (entry_of (Command 1 block) p) ≡ None → switch_of (longer_by (Command 1 block) p) ≡ t →
    CommandParts 1 (command_of block) (switch_of p) t → Tells p → Tells (longer_by (Command 1 block) p)
tells_command block p t reading accepted is made h = record {
  run = is_run_more (empty p.config) p.journal (entry_of (Command 1 block) p) h.run accepted;
  here = λ still.
      ap (λ (s : Switch). parting_at s 1) is ∙ made.reads_on (sym (ap (λ (s : Switch). reads (phase_at s 1)) is) ∙ still);
  parted = λ why own same. record {
    command = record { before = p.journal; moment = p.clock; block = block; behind = []; split = refl; last = refl };
    is =
        reason 1 why p.config block (switch_of p) t (settings_run (empty p.config) p.journal) made
        (sym (ap (λ (s : Switch). parting_at s 1) is) ∙ same) own;
    unparted = h.here reading;
    parted = same;
  };
  aside = λ why others same. parts_now p (entry_of (Command 1 block) p) why h reading same;
}

-- a command that is refused is so since the journal is full
tells_spoken : (block : Text) (p : Play) (full : Bool) → reads_on p ≡ true →
    refusal_of (switch_of p) (entry_of (Command 1 block) p)
    ≡ refused_where full (refusal.JournalFull (switch_of p).cost (switch_of p).settings.journal_limit) None → Tells p →
    Tells (after_judging (refused_where full
    (refusal.JournalFull (switch_of p).cost (switch_of p).settings.journal_limit) None) (entry_of (Command 1 block) p) p)
tells_spoken block p true reading judged h = tells_same p _ h
tells_spoken block p false reading judged h =
    tells_command block p (step (switch_of p) (entry_of (Command 1 block) p)).state reading judged (switch_longer (Command 1 block) p)
    (command_parts 1 p.clock block (switch_of p) reading (h.here reading)) h

tells_entered : (block : Text) (p : Play) → takes_commands p ≡ true → Tells p → Tells (after_trying_act (Command 1 block) p)
tells_entered block p takes h =
    elim (is_over p) as (λ b. Tells
    (cond b p (after_judging (refusal_of (switch_of p) (entry_of (Command 1 block) p)) (entry_of (Command 1 block) p) p))) [
      | true ↦ h
      | false ↦ let parts = both_hold (reads_on p) (owes (switch_of p) 1) takes in
          subst (λ (cause : Option Refusal). Tells (after_judging cause (entry_of (Command 1 block) p) p))
          (sym (command_refused (switch_of p) p.clock 1 block parts.0 parts.1))
          (tells_spoken block p (is_full (switch_of p)) parts.0 (command_refused (switch_of p) p.clock 1 block parts.0 parts.1) h)
    ]

tells_commanded : (block : Text) (p : Play) → Tells p → Tells (after_command p block)
tells_commanded block p h = by (takes_commands p) refl
  where
    by : (takes : Bool) → takes_commands p ≡ takes → Tells (cond takes (after_act (Command 1 block) p) p)
    by true takes = kept_followed IsAside Tells keeps_tells (after_trying_act (Command 1 block) p) (tells_entered block p takes h)
    by false takes = h

tells_all_commanded : (blocks : List Text) (p : Play) → Tells p → Tells (after_commands p blocks)
tells_all_commanded [] p h = h
tells_all_commanded (block ∷ blocks) p h = tells_all_commanded blocks (after_command p block) (tells_commanded block p h)

-- ---- its coming

tells_unparted : (p : Play) → IsRunFrom (empty p.config) p.journal → parting_at (switch_of p) 1 ≡ None → Tells p
tells_unparted p run none = record {
  run = run;
  here = λ reading. none;
  parted = λ why own same. absurd (none-some why (sym none ∙ same));
  aside = λ why others same. absurd (none-some why (sym none ∙ same));
}

tells_come : (cause : Option Refusal) (config : Configuration) (notes : List LoadNote) →
    refusal_of (empty config) (entry_of Arrive (new_play config notes)) ≡ cause →
    Tells (after_judging cause (entry_of Arrive (new_play config notes)) (new_play config notes))
tells_come None config notes judged =
    tells_unparted (longer_by Arrive (new_play config notes)) (judged, tt)
    (ap (λ (s : Switch). parting_at s 1) (switch_longer Arrive (new_play config notes)) ∙ arrival_unparted config 0)
tells_come (Some (refusal.JournalFull cost limit)) config notes judged = tells_unparted _ tt (none_parted config)
tells_come (Some _) config notes judged = tells_unparted (new_play config notes) tt (none_parted config)

pub tells_conversed : (config : Configuration) (input : List ℕ) (notes : List LoadNote) → Tells (after_conversing config input notes)
tells_conversed config input notes =
    tells_all_commanded (blocks_of input) (after_opening config notes)
    (kept_followed IsAside Tells keeps_tells (after_trying_act Arrive (new_play config notes))
    (tells_come (refusal_of (switch_of (new_play config notes)) (entry_of Arrive (new_play config notes))) config notes refl))
