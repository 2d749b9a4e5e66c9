use Rattle.fs_conn.proofs.PartingLemmas.{parts_once}
use Rattle.fs_conn.proofs.ToldLemmas.{ends_sent_by, ends_parted, ends_faultless}
use Rattle.fs_conn.proofs.laws.ends_as_it_parted.Goals as goal

pub returns-clause-once : goal.returns-clause-once
returns-clause-once c = parts_once

pub returns-clause-sent : goal.returns-clause-sent
returns-clause-sent c = ends_sent_by

pub returns-clause-parted : goal.returns-clause-parted
returns-clause-parted c = ends_parted

pub returns-clause-faultless : goal.returns-clause-faultless
returns-clause-faultless c = ends_faultless
