-- What listening, accepting and dialing do to the counts of faults, and of which links they give.
use Rattle.std.specs.Prelude.{◌≡◌, ℕ}
use Rattle.fs_ports.specs.Counts.{raised}
use Rattle.fs_ports.specs.declared.door.Listen.{Listen}
use Rattle.fs_ports.specs.declared.door.Listen.TheVariants.{Listening, Failed as listen_failed}
use Rattle.fs_ports.specs.declared.door.Accept.{Accept}
use Rattle.fs_ports.specs.declared.door.Accept.TheVariants.{Came, NotYet, Failed as accept_failed}
use Rattle.fs_ports.specs.declared.dialer.Dialed.{Dialed}
use Rattle.fs_ports.specs.declared.dialer.Dialed.TheVariants.{Link, Failed as dial_failed}

-- what listening did to the count, by its answer
abbrev pub ListenDid : ℕ → ℕ → Listen → Type 0
ListenDid old new Listening = new ≡ old
ListenDid old new listen_failed = new ≡ raised old

-- what an accept did to the count, by its answer; a link that came is new
abbrev pub AcceptDid : {L : Type 0} → (L → Type 0) → ℕ → ℕ → Accept L → Type 0
AcceptDid IsNew old new (Came link) = IsNew link × (new ≡ old)
AcceptDid IsNew old new NotYet = new ≡ old
AcceptDid IsNew old new accept_failed = new ≡ raised old

-- what a dial did to the count, by its answer; a link that it gave is new
abbrev pub DialDid : {L : Type 0} → (L → Type 0) → ℕ → ℕ → Dialed L → Type 0
DialDid IsNew old new (Link link) = IsNew link × (new ≡ old)
DialDid IsNew old new dial_failed = new ≡ raised old
