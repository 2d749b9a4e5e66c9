use Rattle.std.proofs.Common.{refl, ◌∙◌}
use Rattle.fs_book.specs.Passes.{seen, mine}
use Rattle.fs_frame.proofs.BlockLaws.{blocks_of-no_block}
use Rattle.fs_conn.specs.declared.end.End.TheVariants.{Eof, ReadFault}
use Rattle.fs_conn.proofs.ToldLemmas.{read_on, read_failed_on, turns_hung, turns_stopped, if_tried, lacks_none}
use Rattle.fs_conn.proofs.rounds.read_on.Goals as goal

pub returns-in-Ok-More-clause-none : goal.returns-in-Ok-More-clause-none
returns-in-Ok-More-clause-none g c = rw c.tried.ensures (lacks_none _ c.enter_read.result)

pub returns-in-Ok-More-clause-turns : goal.returns-in-Ok-More-clause-turns
returns-in-Ok-More-clause-turns g c = λ from h same.
    let read = rw c.in-Ok-More.field-0-is at c.in-Ok-More.ensures.gets in
    rw c.tried.ensures (if_tried _ _ _ from _ _ c.enter_read.result
    (c.enter_read.ensures.turns from
    (rw (read.3, c.get.ensures.output)
    (read_on _ _ _ from (seen c.args.pass.now) (mine c.args.pass.now) _ (g.L.Port.input c.get.new.link) _ c.args.blocks.now.rest read.0
    read.1 h)) (read.2 ∙ same)))

pub returns-in-Ok-NotYet-clause-none : goal.returns-in-Ok-NotYet-clause-none
returns-in-Ok-NotYet-clause-none g c =
    let read = rw c.in-Ok-NotYet.field-0-is at c.in-Ok-NotYet.ensures.gets in rw read.1 c.requires.none

pub returns-in-Ok-NotYet-clause-turns : goal.returns-in-Ok-NotYet-clause-turns
returns-in-Ok-NotYet-clause-turns g c = λ from h same.
    let read = rw c.in-Ok-NotYet.field-0-is at c.in-Ok-NotYet.ensures.gets in rw (read.0, read.1, c.get.ensures.output) (h, same)

pub returns-in-Ok-AtEnd-clause-none : goal.returns-in-Ok-AtEnd-clause-none
returns-in-Ok-AtEnd-clause-none g c = rw c.tried-in-Ok-AtEnd.ensures (lacks_none _ c.ended.result)

pub returns-in-Ok-AtEnd-clause-turns : goal.returns-in-Ok-AtEnd-clause-turns
returns-in-Ok-AtEnd-clause-turns g c = λ from h same.
    let read = rw c.in-Ok-AtEnd.field-0-is at c.in-Ok-AtEnd.ensures.gets in
    rw c.tried-in-Ok-AtEnd.ensures (if_tried _ _ _ from _ _ c.ended.result
    (turns_hung _ _ _ from _ c.args.blocks.now.rest _ Eof c.ended.result (
      blocks_of-no_block c.args.blocks.now.rest c.requires.none.0,
      c.requires.none.1,
      rw (c.ended.ensures.input, read.1, same) refl,
      rw c.ended.ensures.input read.0,
    )
    (c.ended.ensures.hung from c.args.blocks.now.rest (rw (read.1, c.get.ensures.output) h))))

pub returns-in-Ok-Failed-clause-none : goal.returns-in-Ok-Failed-clause-none
returns-in-Ok-Failed-clause-none g c = rw c.tried-in-Ok-Failed.ensures (lacks_none _ c.ended-in-Ok-Failed.result)

pub returns-in-Ok-Failed-clause-turns : goal.returns-in-Ok-Failed-clause-turns
returns-in-Ok-Failed-clause-turns g c = λ from h same.
    let read = rw c.in-Ok-Failed.field-0-is at c.in-Ok-Failed.ensures.gets in
    let last = c.ended-in-Ok-Failed in
    rw c.tried-in-Ok-Failed.ensures (if_tried _ _ _ from _ _ last.result
    (turns_hung _ _ _ from _ c.args.blocks.now.rest _ ReadFault last.result (
      blocks_of-no_block c.args.blocks.now.rest c.requires.none.0,
      c.requires.none.1,
      rw (last.ensures.input, read.0, same) refl,
    )
    (last.ensures.hung from c.args.blocks.now.rest
    (rw (read.0, c.get.ensures.output)
    (read_failed_on _ _ _ from (seen c.args.pass.now) (mine c.args.pass.now) _ _ c.args.blocks.now.rest h)))))

pub returns-in-Err-clause-turns : goal.returns-in-Err-clause-turns
returns-in-Err-clause-turns g c = λ from h same.
    let read = c.in-Err.ensures.gets in
    rw (read.0, c.get.ensures.output)
    (turns_stopped _ _ _ from (seen c.args.pass.now) (mine c.args.pass.now) _ (g.L.Port.input c.get.new.link) _ c.args.blocks.now.rest
    read.1.0 read.1.1 h)
