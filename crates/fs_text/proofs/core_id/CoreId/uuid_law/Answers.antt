use Rattle.fs_text.proofs.IdLemmas.{uuid_tells, uuid_owned}
use Rattle.fs_text.proofs.core_id.CoreId.uuid_law.Goals as goal

pub returns-clause-tells : goal.returns-clause-tells
returns-clause-tells c = uuid_tells

pub returns-clause-owned : goal.returns-clause-owned
returns-clause-owned c = uuid_owned
