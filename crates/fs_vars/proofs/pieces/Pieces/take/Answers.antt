use Rattle.fs_vars.proofs.pieces.Pieces.take.Goals as goal

pub returns-clause-rest : goal.returns-clause-rest
returns-clause-rest c = rw (← c.self.view_is, c.split_at.ensures.back)
