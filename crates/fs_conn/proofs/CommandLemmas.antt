-- The commands of a play are the first blocks of its input, and all of them where it ends by its input.
use Rattle.std.proofs.Common.{◌≡◌, ℕ, Bool, true, false, cond, not, ◌&&◌, List, [], ◌∷◌, ◌++◌, Option, None, Some, ◌⊎◌, inl, inr, refl, sym}
use Rattle.std.proofs.Common.{ap}
use Rattle.std.proofs.Common.{◌∙◌, subst, append_assoc, append-nil}
use Rattle.std.proofs.lemmas.Bool.{both_ways}
use Rattle.std.proofs.lemmas.Option.{same_Some}
use Rattle.fs_doc.specs.Limits.{IsWithin}
use Rattle.fs_doc.specs.Reading.{Configuration}
use Rattle.fs_frame.specs.Block.{fault_of}
use Rattle.fs_frame.specs.Blocks.{blocks_of, rest_of}
use Rattle.fs_frame.specs.declared.fault.Fault.{Fault}
use Rattle.fs_state.specs.declared.conn.Parting.{Parting}
use Rattle.fs_state.specs.declared.conn.Parting.TheVariants as way
use Rattle.fs_machine.specs.declared.entry.Entry.{Entry}
use Rattle.fs_machine.specs.declared.entry.Act.{Act}
use Rattle.fs_machine.specs.declared.entry.Act.TheVariants.{Command}
use Rattle.fs_machine.specs.declared.refusal.Refusal.{Refusal}
use Rattle.fs_machine.specs.declared.refusal.Refusal.TheVariants as refusal
use Rattle.fs_state.specs.Switch.{is_full}
use Rattle.fs_machine.specs.Questions.{parting_at, owes}
use Rattle.fs_machine.specs.Step.{refusal_of, refused_where}
use Rattle.fs_machine.specs.Frames.{command_in, commands_of}
use Rattle.fs_machine.proofs.FrameLemmas.{command_refused}
use Rattle.fs_conn.specs.declared.end.End.{End}
use Rattle.fs_conn.specs.declared.end.End.TheVariants.{Exit, AuthRefused, Stopped, Eof, ReadFault, WriteFault, TooLong, BadLength}
use Rattle.fs_conn.specs.declared.end.End.TheVariants.{JournalFull}
use Rattle.fs_conn.specs.declared.end.End.TheVariants.{Memory, Runaway}
use Rattle.fs_conn.specs.Play.{Play, switch_of, is_over, with_end, after_judging, after_trying_act, after_following, after_act, reads_on}
use Rattle.fs_conn.specs.Play.{takes_commands, after_command, after_commands, after_opening, after_conversing, after_closing, end_by}
use Rattle.fs_conn.specs.Play.{farewell, end_behind, played, played_as}
use Rattle.fs_conn.specs.Steps.{is_early, entry_of}
use Rattle.fs_conn.specs.Ends.{is_by_input}
use Rattle.fs_conn.proofs.PlayLemmas.{goes_followed, goes_all_commanded, goes_closed}
use Rattle.fs_conn.proofs.TurnLemmas.{reads_still, after_commands-none}
use Rattle.fs_conn.proofs.KeepLemmas.{Keeps, by_each, kept_followed, kept_opened, kept_closed}
use Rattle.fs_conn.proofs.LawLemmas.{EndsEarly, Early, early_closed}
use Rattle.fs_conn.proofs.DrainLemmas.{run_conversed}
use Rattle.fs_conn.proofs.CloseLemmas.{owed_of_run, Rests, rests_conversed, here_conversed}
use Rattle.fs_machine.specs.declared.note.LoadNote.{LoadNote}

-- ---- what a play enters

-- an act that is no command
abbrev pub IsSilent : Act → Type 0
IsSilent act = command_in 1 act ≡ []

-- the commands so far
abbrev commands : Play → List (List ℕ)
commands p = commands_of 1 p.journal

abbrev Says : List (List ℕ) → Play → Type 0
Says blocks p = commands p ≡ blocks

pub commands_more : (entries : List Entry) (entry : Entry) →
    commands_of 1 (entries ++ entry ∷ []) ≡ commands_of 1 entries ++ command_in 1 entry.act
commands_more [] entry = append-nil (command_in 1 entry.act)
commands_more (first ∷ entries) entry =
    ap (λ blocks. command_in 1 first.act ++ blocks) (commands_more entries entry)
    ∙ sym (append_assoc (command_in 1 first.act) (commands_of 1 entries) (command_in 1 entry.act))

pub commands_append : (entries more : List Entry) → commands_of 1 (entries ++ more) ≡ commands_of 1 entries ++ commands_of 1 more
commands_append [] more = refl
commands_append (first ∷ entries) more =
    ap (λ blocks. command_in 1 first.act ++ blocks) (commands_append entries more)
    ∙ sym (append_assoc (command_in 1 first.act) (commands_of 1 entries) (commands_of 1 more))

says_judged : (blocks : List (List ℕ)) (cause : Option Refusal) (entry : Entry) (p : Play) → IsSilent entry.act → Says blocks p →
    Says blocks (after_judging cause entry p)
says_judged blocks None entry p silent h =
    commands_more p.journal entry ∙ ap (λ more. commands p ++ more) silent ∙ append-nil (commands p) ∙ h
says_judged blocks (Some (refusal.JournalFull cost limit)) entry p silent h = h
says_judged blocks (Some _) entry p silent h = h

keeps_says : (blocks : List (List ℕ)) → Keeps IsSilent (Says blocks)
keeps_says blocks = by_each IsSilent (Says blocks) (record {
  works = λ slot. refl;
  dials = λ slot. refl;
  jobs = λ number. refl;
  loads = λ number note. refl;
  takes = refl;
  enters =
      λ act such p h. elim (is_over p) as (λ b. Says blocks
      (cond b p (after_judging (refusal_of (switch_of p) (entry_of act p)) (entry_of act p) p))) [
        | true ↦ h
        | false ↦ says_judged blocks (refusal_of (switch_of p) (entry_of act p)) (entry_of act p) p such h
      ];
  ends = λ end early p h. elim (is_over p) as (λ b. Says blocks (cond b p (record p { end = Some end }))) [ true ↦ h | false ↦ h ];
  goes_on = λ moment p h. h;
})

-- ---- each block

-- no command comes any more: the play is over, or the connection takes none
abbrev Stops : Play → Type 0
Stops p = (is_over p ≡ true) ⊎ (takes_commands p ≡ false)

stops_still : (p : Play) (blocks : List (List ℕ)) → Stops p → after_commands p blocks ≡ p
stops_still p blocks (inl over) = (goes_all_commanded blocks).over p over
stops_still p blocks (inr none) = after_commands-none p blocks none

-- a block became a command, or none comes any more
abbrev Spoke : List ℕ → Play → Play → Type 0
Spoke block p q = (commands q ≡ commands p ++ block ∷ []) ⊎ ((commands q ≡ commands p) × Stops q)

-- a block became a command, or the play is over
abbrev Gives : List ℕ → Play → Play → Type 0
Gives block p q = (commands q ≡ commands p ++ block ∷ []) ⊎ ((commands q ≡ commands p) × (is_over q ≡ true))

-- what follows adds no command, and leaves a play that is over as it is
spoke_followed : (block : List ℕ) (p q : Play) → Gives block p q → Spoke block p (after_following q)
spoke_followed block p q (inl said) =
    inl (kept_followed IsSilent (Says (commands p ++ block ∷ [])) (keeps_says (commands p ++ block ∷ [])) q said)
spoke_followed block p q (inr (same, over)) =
    let still = goes_followed.over q over in inr (ap commands still ∙ same, inl (ap is_over still ∙ over))

-- a command that is refused is so since the journal is full
gives_judged : (block : List ℕ) (p : Play) (full : Bool) →
    Gives block p (after_judging (refused_where full
    (refusal.JournalFull (switch_of p).cost (switch_of p).settings.journal_limit) None) (entry_of (Command 1 block) p) p)
gives_judged block p true = inr (refl, refl)
gives_judged block p false = inl (commands_more p.journal (entry_of (Command 1 block) p))

-- both of these hold
pub both_hold : (a b : Bool) → (a && not b) ≡ true → (a ≡ true) × (b ≡ false)
both_hold true true e = absurd (cc)
both_hold true false e = (refl, refl)
both_hold false b e = absurd (cc)

-- a connection that takes commands gives one, unless the play is over
gives_entered : (block : List ℕ) (p : Play) → takes_commands p ≡ true → Gives block p (after_trying_act (Command 1 block) p)
gives_entered block p takes = by (is_over p) refl
  where
    by : (over : Bool) → is_over p ≡ over → Gives block p
        (cond over p (after_judging (refusal_of (switch_of p) (entry_of (Command 1 block) p)) (entry_of (Command 1 block) p) p))
    by true over = inr (refl, over)
    by false over =
        let parts = both_hold (reads_on p) (owes (switch_of p) 1) takes in
        subst (λ (cause : Option Refusal). Gives block p (after_judging cause (entry_of (Command 1 block) p) p))
        (sym (command_refused (switch_of p) p.clock 1 block parts.0 parts.1))
        (gives_judged block p (is_full (switch_of p)))

spoke : (block : List ℕ) (p : Play) → Spoke block p (after_command p block)
spoke block p = by (takes_commands p) refl
  where
    by : (takes : Bool) → takes_commands p ≡ takes → Spoke block p (cond takes (after_act (Command 1 block) p) p)
    by true takes = spoke_followed block p (after_trying_act (Command 1 block) p) (gives_entered block p takes)
    by false takes = inr (refl, inr takes)

-- so the commands are the first blocks
abbrev AreFirst : Play → List (List ℕ) → Play → Type 0
AreFirst p blocks q = (more : List (List ℕ)) × (commands p ++ blocks ≡ commands q ++ more)

commands_by : (block : List ℕ) (blocks : List (List ℕ)) (p q : Play) → Spoke block p q → AreFirst q blocks (after_commands q blocks) →
    AreFirst p (block ∷ blocks) (after_commands q blocks)
commands_by block blocks p q (inl said) rest =
    (rest.0, sym (append_assoc (commands p) (block ∷ []) blocks) ∙ ap (λ first. first ++ blocks) (sym said) ∙ rest.1)
commands_by block blocks p q (inr (same, stops)) rest =
    (block ∷ blocks, ap (λ first. first ++ block ∷ blocks) (sym same ∙ ap commands (sym (stops_still q blocks stops))))

commands_all : (p : Play) (blocks : List (List ℕ)) → AreFirst p blocks (after_commands p blocks)
commands_all p [] = ([], refl)
commands_all p (block ∷ blocks) =
    commands_by block blocks p (after_command p block) (spoke block p) (commands_all (after_command p block) blocks)

-- and all of them where the connection takes further ones
reads_further : (p : Play) → is_over p ≡ false → takes_commands p ≡ true → Stops p → ⊥
reads_further p goes_on takes (inl over) = both_ways (is_over p) goes_on over
reads_further p goes_on takes (inr none) = both_ways (takes_commands p) none takes

all_by : (block : List ℕ) (blocks : List (List ℕ)) (p q : Play) → Spoke block p q → is_over (after_commands q blocks) ≡ false →
    takes_commands (after_commands q blocks) ≡ true → commands (after_commands q blocks) ≡ commands q ++ blocks →
    commands (after_commands q blocks) ≡ commands p ++ block ∷ blocks
all_by block blocks p q (inl said) goes_on takes rest =
    rest ∙ (ap (λ first. first ++ blocks) said ∙ append_assoc (commands p) (block ∷ []) blocks)
all_by block blocks p q (inr (same, stops)) goes_on takes rest =
    absurd (reads_further (after_commands q blocks) goes_on takes (subst Stops (sym (stops_still q blocks stops)) stops))

all_spoken : (p : Play) (blocks : List (List ℕ)) → is_over (after_commands p blocks) ≡ false →
    takes_commands (after_commands p blocks) ≡ true → commands (after_commands p blocks) ≡ commands p ++ blocks
all_spoken p [] goes_on takes = sym (append-nil (commands p))
all_spoken p (block ∷ blocks) goes_on takes =
    all_by block blocks p (after_command p block) (spoke block p) goes_on takes
    (all_spoken (after_command p block) blocks goes_on takes)

-- ---- the whole play

says_ended : (blocks : List (List ℕ)) (end : End) (p : Play) → Says blocks p → Says blocks (with_end end p)
says_ended blocks end p h = elim (is_over p) as (λ b. Says blocks (cond b p (record p { end = Some end }))) [ true ↦ h | false ↦ h ]

-- what follows its last command adds none
commands_kept : (config : Configuration) (input : List ℕ) (read_failed : Bool) (notes : List LoadNote) →
    commands (played config input read_failed notes) ≡ commands (after_conversing config input notes)
unfolding played_as
commands_kept config input read_failed notes =
    let last = after_conversing config input notes in
    says_ended (commands last) (end_behind (farewell last) (fault_of (rest_of input)) read_failed) (after_closing last)
    (kept_closed IsSilent (Says (commands last)) (keeps_says (commands last)) refl refl last refl)

-- its coming is none
opened_none : (config : Configuration) (notes : List LoadNote) → commands (after_opening config notes) ≡ []
opened_none config notes = kept_opened IsSilent (Says []) (keeps_says []) refl config notes refl

pub commands_played : (config : Configuration) (input : List ℕ) (read_failed : Bool) (notes : List LoadNote) →
    (more : List (List ℕ)) × (blocks_of input ≡ commands_of 1 (played config input read_failed notes).journal ++ more)
commands_played config input read_failed notes =
    let all = commands_all (after_opening config notes) (blocks_of input) in (
      all.0,
      ap (λ blocks. blocks ++ blocks_of input) (sym (opened_none config notes)) ∙ all.1
          ∙ ap (λ blocks. blocks ++ all.0) (sym (commands_kept config input read_failed notes)),
    )

-- ---- an end by the input

input_late : (end : End) → is_by_input end ≡ true → is_early end ≡ false
input_late Eof is = refl
input_late ReadFault is = refl
input_late (TooLong len) is = refl
input_late BadLength is = refl
input_late Exit is = refl
input_late AuthRefused is = refl
input_late Stopped is = refl
input_late WriteFault is = refl
input_late (JournalFull cost limit) is = absurd (cc)
input_late Memory is = absurd (cc)
input_late (Runaway count) is = absurd (cc)

-- it says no farewell
farewell_none : (parting : Option Parting) (fault : Option Fault) (read_failed : Bool) →
    is_by_input (end_behind (end_by parting) fault read_failed) ≡ true → end_by parting ≡ None
farewell_none None fault read_failed is = refl
farewell_none (Some way.EndOfInput) fault read_failed is = refl
farewell_none (Some way.Exit) fault read_failed is = absurd (cc is)
farewell_none (Some way.AuthRefused) fault read_failed is = absurd (cc is)
farewell_none (Some way.Stopped) fault read_failed is = absurd (cc is)
farewell_none (Some way.ChannelLeft) fault read_failed is = absurd (cc is)

-- a play that ended so with its connection was not over before
ended_with : (how end : End) (p : Play) → Early p → (with_end how p).end ≡ Some end → is_early end ≡ false →
    (is_over p ≡ false) × (how ≡ end)
ended_with how end p early is late = by (is_over p) refl is
  where
    by : (over : Bool) → is_over p ≡ over → (cond over p (record p { end = Some how })).end ≡ Some end → (is_over p ≡ false) × (how ≡ end)
    by true over e = absurd (both_ways (is_early end) late (subst EndsEarly e early))
    by false goes_on e = (goes_on, same_Some how end e)

ended_behind : (config : Configuration) (input : List ℕ) (read_failed : Bool) (notes : List LoadNote) (end : End) →
    (played config input read_failed notes).end ≡ Some end → is_early end ≡ false →
    (is_over (after_closing (after_conversing config input notes)) ≡ false)
    × (end_behind (farewell (after_conversing config input notes)) (fault_of (rest_of input)) read_failed ≡ end)
unfolding played_as
ended_behind config input read_failed notes end is late =
    ended_with (end_behind (farewell (after_conversing config input notes)) (fault_of (rest_of input)) read_failed) end
    (after_closing (after_conversing config input notes)) (early_closed config input notes) is late

-- one that is not over was not before it was closed
still_open : (p : Play) → is_over (after_closing p) ≡ false → is_over p ≡ false
still_open p goes_on = by (is_over p) refl
  where
    by : (over : Bool) → is_over p ≡ over → over ≡ false
    by true over = sym (ap is_over (goes_closed.over p over) ∙ over) ∙ goes_on
    by false over = refl

-- it takes further commands
takes_further : (config : Configuration) (input : List ℕ) (notes : List LoadNote) → IsWithin config →
    is_over (after_conversing config input notes) ≡ false →
    farewell (after_conversing config input notes) ≡ None → takes_commands (after_conversing config input notes) ≡ true
takes_further config input notes within goes_on none = by (rests_conversed config input notes within)
  where
    reading : reads_on (after_conversing config input notes) ≡ true
    reading =
        reads_still (switch_of (after_conversing config input notes))
        (owed_of_run config (after_conversing config input notes) within (run_conversed config input notes))
        (here_conversed config input notes within goes_on) none

    by : Rests (after_conversing config input notes) → takes_commands (after_conversing config input notes) ≡ true
    by (inl over) = absurd (both_ways (is_over (after_conversing config input notes)) goes_on over)
    by (inr free) = ap (λ b. b && not (owes (switch_of (after_conversing config input notes)) 1)) reading ∙ ap not free

-- so all blocks are commands
pub all_commands : (config : Configuration) (input : List ℕ) (read_failed : Bool) (notes : List LoadNote) (end : End) → IsWithin config →
    (played config input read_failed notes).end ≡ Some end → is_by_input end ≡ true →
    commands_of 1 (played config input read_failed notes).journal ≡ blocks_of input
all_commands config input read_failed notes end within is by_input =
    let last = after_conversing config input notes in
    let ended = ended_behind config input read_failed notes end is (input_late end by_input) in
    let goes_on = still_open last ended.0 in
    let none =
    farewell_none (parting_at (switch_of last) 1) (fault_of (rest_of input)) read_failed (ap is_by_input ended.1 ∙ by_input) in
    let said =
    all_spoken (after_opening config notes) (blocks_of input) goes_on (takes_further config input notes within goes_on none) in
    commands_kept config input read_failed notes ∙ (said ∙ ap (λ blocks. blocks ++ blocks_of input) (opened_none config notes))
