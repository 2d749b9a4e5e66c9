use Rattle.std.proofs.Common.{ap, ◌∙◌, inl}
use Rattle.fs_top.specs.Serving.{configured}
use Rattle.fs_top.specs.declared.course.Course.TheVariants.{Run}
use Rattle.fs_top.proofs.ServeLaws.{is_nothing, serves_faulty, serves_unbuilt}
use Rattle.fs_top.proofs.serving.serve_bytes.Goals as goal

pub returns-in-Ok-build-clause-serves : goal.returns-in-Ok-build-clause-serves
returns-in-Ok-build-clause-serves g c = configured c.in-Ok.config c.in-Ok.ensures c.serve_config.ensures.serves

pub returns-in-Ok-clause-serves : goal.returns-in-Ok-clause-serves
returns-in-Ok-clause-serves g c =
    serves_unbuilt _ _ _ _ _ _ _ _ _ _ _ _ _ _ c.in-Ok.ensures c.in-Err-build.ensures.refused c.in-Err-build.ensures.sizes
    (c.nothing.ensures.course ∙ ap Run c.not_built.ensures)
    (is_nothing _ _ _ c.nothing.ensures.journal c.nothing.ensures.conns c.nothing.ensures.dialers)

pub returns-clause-serves : goal.returns-clause-serves
returns-clause-serves g c =
    serves_faulty _ _ _ _ _ _ _ _ _ _ _ _ _ c.in-Err.ensures (c.nothing-in-Err.ensures.course ∙ ap Run c.not_read.ensures)
    (is_nothing _ _ _ c.nothing-in-Err.ensures.journal c.nothing-in-Err.ensures.conns c.nothing-in-Err.ensures.dialers)

pub returns-in-Ok-build-clause-loads : goal.returns-in-Ok-build-clause-loads
returns-in-Ok-build-clause-loads g c =
    let built = c.in-Ok-build.ensures in
    rw (built.files.0, built.files.1, built.sizes) at c.serve_config.ensures.loads

pub returns-in-Ok-clause-loads : goal.returns-in-Ok-clause-loads
returns-in-Ok-clause-loads g c = inl c.nothing.ensures.journal

pub returns-clause-loads : goal.returns-clause-loads
returns-clause-loads g c = inl c.nothing-in-Err.ensures.journal
