-- A play, with the link over which it goes.
use Rattle.std.specs.Prelude.{◌≡◌, ℕ, ◌≤◌, List, [], ◌∷◌, ◌++◌, length, None, Result, Ok, Err, ◌⊎◌}
use Rattle.std.specs.Borrow.{GName}
use mathlib.Core.List.{IsPrefix}
use Rattle.fs_doc.specs.Reading.{Configuration}
use Rattle.fs_ports.specs.Ports.{Input, Output, Writes, Stopped}
use Rattle.fs_machine.specs.declared.entry.Entry.{Entry}
use Rattle.fs_machine.specs.declared.entry.Act.TheVariants.{Take}
use Rattle.fs_machine.specs.declared.note.LoadNote.{LoadNote}
use Rattle.fs_conn.specs.declared.end.End.{End}
use Rattle.fs_conn.specs.declared.end.End.TheVariants as ends
use Rattle.fs_conn.specs.declared.playing.Play.{Play as Stage}
use Rattle.fs_conn.specs.declared.stop.Stop.{Stop}
use Rattle.fs_conn.specs.declared.stop.Stop.TheVariants.{Over, OutOfMemory, WriteFault}
use Rattle.fs_conn.specs.Play.{Play, noted, output_of, after_input_end}
use Rattle.fs_conn.specs.Steps.{entry_of, Does}
use Rattle.fs_conn.specs.Filed.{FileView}
use Rattle.fs_conn.specs.Loads.{HasLoaded, HasLoadedOrBegun}

-- which machine, which link and which files are lent to a play, and by which name of a file it loads
pub record Lent : Type 0 where
  pub machine : GName
  pub link : GName
  pub files : GName
  pub name : List ℕ

-- a play that goes on, both sides of its link, and the bytes that it handed out and that are not written there yet
pub record Playing : Type 0 where
  pub config : Configuration
  pub journal : List Entry
  pub clock : ℕ
  pub input : Input
  pub output : Output
  pub unsent : List ℕ
  pub lent : Lent

-- what is seen of a play as the code has it
abbrev pub seen : {L F : Type 0} → Stage L F → Playing
seen p = record {
  config = p.machine.now.config;
  journal = p.machine.now.journal;
  clock = p.clock;
  input = p.wire.input;
  output = p.wire.output;
  unsent = p.wire.unsent;
  lent = record { machine = p.machine.ghost_name; link = p.wire.link; files = p.file.files.ghost_name; name = p.file.name.now };
}

-- the play alone, of which these are the notes of all loads, those to come too
abbrev pub play_of : List LoadNote → Playing → Play
play_of notes s = record { config = s.config; notes = notes; journal = s.journal; clock = s.clock; end = None }

-- the play so far, of whose loads to come nothing is said
abbrev pub so_far : Playing → Play
so_far s = play_of [] s

-- the notes of its loads are those that it has come to, and others behind them
abbrev pub AreNotes : Playing → List LoadNote → Type 0
AreNotes s notes = IsPrefix (noted s.journal) notes

-- what a step did to a play, or what stopped it, is that of the definition, whatever loads are still to come
abbrev pub DoesSo : {A : Type 0} → (Play → Play) → Playing → Playing → Result A Stop → Type 0
DoesSo step old new result = (notes : List LoadNote) → AreNotes new notes → Does step (play_of notes old) (play_of notes new) result

-- ---- loads

-- entries were made, and of the loads of the file in between they have the notes
pub record Adds (file0 file1 : FileView) (old new : Playing) : Type 0 where
  pub entries : List Entry
  pub more : new.journal ≡ old.journal ++ entries
  pub loaded : HasLoaded file0 file1 (noted entries)

-- of all loads but one that may have been begun
pub record AddsOrBegins (file0 file1 : FileView) (old new : Playing) : Type 0 where
  pub entries : List Entry
  pub more : new.journal ≡ old.journal ++ entries
  pub loaded : HasLoadedOrBegun file0 file1 (noted entries)

-- what a step that stopped loaded
abbrev pub LoadsStopped : Stop → FileView → FileView → Playing → Playing → Type 0
LoadsStopped (Over end) file0 file1 old new = Adds file0 file1 old new
LoadsStopped OutOfMemory file0 file1 old new = AddsOrBegins file0 file1 old new
LoadsStopped WriteFault file0 file1 old new = Adds file0 file1 old new

-- what a play loaded, by its end
abbrev pub LoadsEnded : End → FileView → FileView → Playing → Playing → Type 0
LoadsEnded ends.Memory file0 file1 old new = AddsOrBegins file0 file1 old new
LoadsEnded _ file0 file1 old new = Adds file0 file1 old new

-- what a step loaded
abbrev pub Loads : {A : Type 0} → FileView → FileView → Playing → Playing → Result A Stop → Type 0
Loads file0 file1 old new (Ok done) = Adds file0 file1 old new
Loads file0 file1 old new (Err stop) = LoadsStopped stop file0 file1 old new

-- nothing was done yet
pub record IsNew (s : Playing) : Type 0 where
  pub journal : s.journal ≡ []
  pub clock : s.clock ≡ 0
  pub unsent : s.unsent ≡ []

-- nothing was read, of the same link
pub record ReadsNothing (old new : Playing) : Type 0 where
  pub input : new.input ≡ old.input
  pub lent : new.lent ≡ old.lent

-- only the play went on: nothing was read or written either
pub record OnlyPlays (old new : Playing) : Type 0 where
  pub input : new.input ≡ old.input
  pub output : new.output ≡ old.output
  pub unsent : new.unsent ≡ old.unsent
  pub lent : new.lent ≡ old.lent

-- ---- frames

-- frames were handed out, and behind what was unsent before them they were written, but for what is unsent now
pub record Writing (old new : Playing) : Type 0 where
  pub frames : List ℕ
  pub hands : output_of (so_far new) ≡ output_of (so_far old) ++ frames
  pub sent : List ℕ
  pub split : old.unsent ++ frames ≡ sent ++ new.unsent
  pub written : Writes old.output new.output sent

-- the same play, of whose link this was written, and of whose bytes these are unsent
abbrev pub with_written : Output → List ℕ → Playing → Playing
with_written output unsent s = record s { output = output; unsent = unsent }

-- or what was unsent then was to be written, at such a point, and a write of it failed
pub record Fails (point : List ℕ → Playing → Type 0) (old new : Playing) : Type 0 where
  pub mid : Output
  pub unsent : List ℕ
  pub writing : Writing old (with_written mid unsent new)
  pub stopped : Stopped mid new.output unsent
  pub stands : point unsent new

-- what a step wrote
abbrev pub Sends : {A : Type 0} → (List ℕ → Playing → Type 0) → Playing → Playing → Result A Stop → Type 0
Sends point old new (Ok done) = Writing old new
Sends point old new (Err (Over end)) = Writing old new
Sends point old new (Err OutOfMemory) = Writing old new
Sends point old new (Err WriteFault) = Fails point old new

-- the last entry of a play took a frame at the clock's moment, with which at least 65,536 bytes are unsent
pub record HasFilled (unsent : List ℕ) (p : Play) : Type 0 where
  pub many : 65536 ≤ length unsent
  pub before : List Entry
  pub taken : p.journal ≡ before ++ entry_of (Take 1) p ∷ []

-- so it has as it is seen
abbrev pub HasFilledSo : List ℕ → Playing → Type 0
HasFilledSo unsent s = HasFilled unsent (so_far s)

-- or its input has ended and it is to be closed
abbrev pub MayClose : List LoadNote → Playing → List ℕ → Playing → Type 0
MayClose notes old unsent new = HasFilledSo unsent new ⊎ (play_of notes new ≡ after_input_end (play_of notes old))
