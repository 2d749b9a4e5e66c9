use Rattle.fs_session.proofs.LoadLemmas.{loads_full, loads_over, loads_on}
use Rattle.fs_session.proofs.loading.load_once.Goals as goal

pub returns-in-Full-clause-loads : goal.returns-in-Full-clause-loads
returns-in-Full-clause-loads g c =
    let answer = c.in-Ok.ensures.answer in
    loads_full _ _ _ _ _ (record { front = c.look.ensures.later; same = c.look.ensures.kept.0; run = answer.run }) c.args.job _ c.args.now
    c.in-Full.refusal (rw c.in-Full.is at answer.stands)

pub returns-in-Over-clause-loads : goal.returns-in-Over-clause-loads
returns-in-Over-clause-loads g c =
    let answer = c.in-Ok.ensures.answer in
    let stands = rw c.in-Over.is at answer.stands in
    loads_over _ _ _ _ _ (record { front = c.look.ensures.later; same = c.look.ensures.kept.0; run = answer.run }) c.args.job _ c.args.now
    stands.0 stands.1

pub returns-in-Waits-clause-loads : goal.returns-in-Waits-clause-loads
returns-in-Waits-clause-loads g c =
    loads_on _ _ _ _ _ _ _ c.look.ensures.later c.look.ensures.kept.0 c.args.job _ _ c.args.now c.load_anew.result
    c.load_anew.ensures.loads
