use Rattle.std.proofs.Common.{ap, refl, inl, inr}
use Rattle.fs_ports.specs.declared.files.Load.TheVariants.{Absent, Failed}
use Rattle.fs_top.specs.Serving.{no_file, read, line_of_course, status_of_course}
use Rattle.fs_top.proofs.ReloadLemmas.{reloads_from}
use Rattle.fs_top.proofs.ServeLaws.{is_nothing, serves_unread}
use Rattle.fs_top.proofs.serving.serve_file.Goals as goal

pub returns-clause-serves : goal.returns-clause-serves
returns-clause-serves g c =
    let loaded = rw c.in-Ok-Got.field-0-is at c.in-Ok-Got.ensures in
    read c.in-Ok-Got.bytes loaded.told (rw (c.as_bytes.ensures, c.load.ensures.sizes) at c.serve_bytes.ensures.serves)

pub returns-in-Ok-Absent-clause-serves : goal.returns-in-Ok-Absent-clause-serves
returns-in-Ok-Absent-clause-serves g c =
    let loaded = rw c.in-Ok-Absent.field-0-is at c.in-Ok-Absent.ensures in
    serves_unread _ _ _ _ _ Absent _ _ _ _ _ _ _ _ _ _ loaded.told loaded.counts (inl refl)
    (ap status_of_course c.nothing.ensures.course) (ap line_of_course c.nothing.ensures.course)
    (is_nothing _ _ _ c.nothing.ensures.journal c.nothing.ensures.conns c.nothing.ensures.dialers)

pub returns-in-Ok-Failed-clause-serves : goal.returns-in-Ok-Failed-clause-serves
returns-in-Ok-Failed-clause-serves g c =
    let loaded = rw c.in-Ok-Failed.field-0-is at c.in-Ok-Failed.ensures in
    let nothing = c.nothing-in-Ok-Failed.ensures in
    serves_unread _ _ _ _ _ Failed _ _ _ _ _ _ _ _ _ _ loaded.told loaded.counts (inr refl) (ap status_of_course nothing.course)
    (ap line_of_course nothing.course) (is_nothing _ _ _ nothing.journal nothing.conns nothing.dialers)

pub returns-in-Err-clause-serves : goal.returns-in-Err-clause-serves
returns-in-Err-clause-serves g c =
    no_file c.without_memory.ensures.course
    (is_nothing _ _ _ c.without_memory.ensures.journal c.without_memory.ensures.conns c.without_memory.ensures.dialers)

pub returns-clause-loads : goal.returns-clause-loads
returns-clause-loads g c =
    let loaded = rw c.in-Ok-Got.field-0-is at c.in-Ok-Got.ensures in
    elim c.serve_bytes.ensures.loads [
      | inl none ↦ inl none
      | inr reloads ↦
          inr (reloads_from _ _ _ _ (record { loads = loaded.rest; counts = loaded.counts.1; sizes = c.load.ensures.sizes }) reloads)
    ]

pub returns-in-Ok-Absent-clause-loads : goal.returns-in-Ok-Absent-clause-loads
returns-in-Ok-Absent-clause-loads g c = inl c.nothing.ensures.journal

pub returns-in-Ok-Failed-clause-loads : goal.returns-in-Ok-Failed-clause-loads
returns-in-Ok-Failed-clause-loads g c = inl c.nothing-in-Ok-Failed.ensures.journal

pub returns-in-Err-clause-loads : goal.returns-in-Err-clause-loads
returns-in-Err-clause-loads g c = inl c.without_memory.ensures.journal
