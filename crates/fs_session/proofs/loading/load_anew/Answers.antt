use Rattle.std.proofs.Common.{inl, refl}
use Rattle.fs_book.proofs.Lists.{prefix_self}
use Rattle.fs_session.proofs.LoadLemmas.{loads_entered, loads_wanting}
use Rattle.fs_session.proofs.loading.load_anew.Goals as goal

pub returns-in-Ok-clause-loads : goal.returns-in-Ok-clause-loads
returns-in-Ok-clause-loads g c =
    loads_entered _ _ _ _ _ c.args.job _ _ c.in-Ok.load.note c.args.now c.note.result
    (record {
      told = c.in-Ok.ensures.told;
      built = c.in-Ok.ensures.built;
      behind = c.in-Ok.ensures.rest;
      counts = c.in-Ok.ensures.counts;
    }) c.note.ensures.enters

pub returns-in-Err-clause-loads : goal.returns-in-Err-clause-loads
returns-in-Err-clause-loads g c =
    loads_wanting _ _ _ _ _ c.args.job _ _ c.args.now (record { front = prefix_self _; same = refl; run = c.requires.run })
    (inl (record { counts = c.in-Err.ensures.counts.0; sizes = c.in-Err.ensures.counts.1; loads = c.in-Err.ensures.rest }))
