use Rattle.std.proofs.Common.{inl}
use Rattle.fs_top.specs.Serving.{no_machine, unheard}
use Rattle.fs_top.proofs.ServeLaws.{rose_raised, is_nothing}
use Rattle.fs_top.proofs.serving.serve_config.Goals as goal

pub returns-in-Failed-clause-serves : goal.returns-in-Failed-clause-serves
returns-in-Failed-clause-serves g c =
    unheard c.nothing.ensures.course (rose_raised _ _ c.in-Failed.ensures)
    (is_nothing _ _ _ c.nothing.ensures.journal c.nothing.ensures.conns c.nothing.ensures.dialers)

pub returns-in-Ok-clause-serves : goal.returns-in-Ok-clause-serves
returns-in-Ok-clause-serves g c = rw (c.in-Ok.ensures.config, c.in-Listening.ensures) at c.serve_machine.ensures.serves

pub returns-in-Err-clause-serves : goal.returns-in-Err-clause-serves
returns-in-Err-clause-serves g c =
    no_machine c.without_memory.ensures.course
    (is_nothing _ _ _ c.without_memory.ensures.journal c.without_memory.ensures.conns c.without_memory.ensures.dialers)

pub returns-in-Failed-clause-loads : goal.returns-in-Failed-clause-loads
returns-in-Failed-clause-loads g c = inl c.nothing.ensures.journal

pub returns-in-Err-clause-loads : goal.returns-in-Err-clause-loads
returns-in-Err-clause-loads g c = inl c.without_memory.ensures.journal
