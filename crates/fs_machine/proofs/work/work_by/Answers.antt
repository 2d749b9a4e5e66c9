use Rattle.fs_state.specs.Drafts.{drafted}
use Rattle.fs_machine.proofs.RouteLemmas.{routing_works}
use Rattle.fs_machine.proofs.work.work_by.Goals as goal

pub route_by-requires : goal.route_by-requires
route_by-requires c = rw c.requires.at c.requires.found

pub returns : goal.returns
returns c = rw (routing_works (drafted c.args.draft.now) c.args.slot c.args.hunt c.requires) c.route_by.ensures
