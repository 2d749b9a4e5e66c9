-- What is told of the two sides of a link, and what a read and a write do to them.
use Rattle.std.specs.Prelude.{◌≡◌, ℕ, ◌<◌, ◌≤◌, Bool, IsTrue, List, [], ◌++◌, length, take, Option, IfSome}
use Rattle.std.specs.Io.KnownBytes.{append_known, prepend_known, IsAtEnd}
use Rattle.fs_ports.specs.Counts.{raised}
use Rattle.fs_ports.specs.declared.port.Read.{Read}
use Rattle.fs_ports.specs.declared.port.Read.TheVariants.{Got, NotYet, End, Failed as read_failed}
use Rattle.fs_ports.specs.declared.port.Write.{Write}
use Rattle.fs_ports.specs.declared.port.Write.TheVariants.{Took, Failed as write_failed}
use Rattle.fs_ports.specs.declared.send.Sent.{Sent}
use Rattle.fs_ports.specs.declared.send.Sent.TheVariants.{All, Failed as sent_failed}

-- the side that is read: the bytes taken and those left, where they are told; the reads that failed; whether a read waits for its bytes
pub record Input : Type 0 where
  pub taken : Option (List ℕ)
  pub left : Option (List ℕ)
  pub faults : ℕ
  pub waits : Bool

-- the side that is written: the bytes written, where they are told; the writes that failed
pub record Output : Type 0 where
  pub written : Option (List ℕ)
  pub faults : ℕ

-- nothing was taken or written yet, where the link tells it, and no call failed
pub record IsNewLink (input : Input) (output : Output) : Type 0 where
  pub taken : IfSome input.taken (λ bytes. bytes ≡ [])
  pub written : IfSome output.written (λ bytes. bytes ≡ [])
  pub read_faults : input.faults ≡ 0
  pub write_faults : output.faults ≡ 0

-- these bytes went from those left to those taken
pub record Reads (old new : Input) (bytes : List ℕ) : Type 0 where
  pub taken : new.taken ≡ append_known old.taken bytes
  pub left : old.left ≡ prepend_known bytes new.left
  pub waits : new.waits ≡ old.waits

-- what a read with a buffer that is not empty did
abbrev pub ReadDid : Input → Input → Read → List ℕ → Type 0
ReadDid old new (Got n) buf = (0 < n) × (n ≤ length buf) × Reads old new (take n buf) × (new.faults ≡ old.faults)
ReadDid old new NotYet buf = (IsTrue old.waits → ⊥) × (new ≡ old)
ReadDid old new End buf = IsAtEnd new.left × (new ≡ old)
ReadDid old new read_failed buf = new ≡ record old { faults = raised old.faults }

-- these bytes were written after those before
pub record Writes (old new : Output) (bytes : List ℕ) : Type 0 where
  pub written : new.written ≡ append_known old.written bytes
  pub faults : new.faults ≡ old.faults

-- what a write of bytes did
abbrev pub WriteDid : Output → Output → Write → List ℕ → Type 0
WriteDid old new (Took n) bytes = (0 < n) × (n ≤ length bytes) × Writes old new (take n bytes)
WriteDid old new write_failed bytes = new ≡ record old { faults = raised old.faults }

-- a front of the bytes was written, and then one write failed
pub record Stopped (old new : Output) (bytes : List ℕ) : Type 0 where
  pub front : List ℕ
  pub back : List ℕ
  pub split : bytes ≡ front ++ back
  pub written : new.written ≡ append_known old.written front
  pub faults : new.faults ≡ raised old.faults

-- what sending bytes did
abbrev pub SendDid : Output → Output → Sent → List ℕ → Type 0
SendDid old new All bytes = Writes old new bytes
SendDid old new sent_failed bytes = Stopped old new bytes
