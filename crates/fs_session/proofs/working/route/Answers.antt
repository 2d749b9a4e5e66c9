use Rattle.std.proofs.Common.{refl}
use Rattle.fs_book.proofs.Lists.{prefix_self}
use Rattle.fs_session.proofs.working.route.Goals as goal

pub returns-in-Err-clause-tries : goal.returns-in-Err-clause-tries
returns-in-Err-clause-tries g c = record {
  stays = record { front = prefix_self _; same = refl; run = c.requires.run };
  cause = λ other. absurd (other refl);
}
