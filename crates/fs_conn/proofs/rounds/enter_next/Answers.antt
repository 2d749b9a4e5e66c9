use Rattle.std.proofs.Common.{◌≡◌, ◌++◌, sym, ap, subst, ◌∙◌, List, ℕ}
use Rattle.fs_ports.specs.Ports.{Input}
use Rattle.fs_book.specs.Passes.{seen, mine, opening_state}
use Rattle.fs_frame.specs.Stream.{Stream}
use Rattle.fs_frame.specs.Next.{HandsOut, bytes_of}
use Rattle.fs_frame.proofs.BlockLaws.{blocks_of-no_block}
use Rattle.fs_conn.specs.declared.end.End.TheVariants.{TooLong, BadLength}
use Rattle.fs_machine.specs.Turned.{configured}
use Rattle.fs_conn.specs.Talks.{point, Holds, NeedsMore}
use Rattle.fs_conn.proofs.ToldLemmas.{turns_handled, turns_hung, if_tried, lacks_none}
use Rattle.fs_conn.proofs.HeldLemmas.{held_behind, held_tried}
use Rattle.fs_conn.proofs.rounds.enter_next.Goals as goal

pub returns-in-Block-clause-none : goal.returns-in-Block-clause-none
returns-in-Block-clause-none g c = rw c.tried.ensures (lacks_none _ c.handle.result)

pub returns-in-Block-clause-turns : goal.returns-in-Block-clause-turns
returns-in-Block-clause-turns g c = λ from h same.
    let rest = c.args.blocks.now.rest in
    let behind = c.next_block.follows.lender-at-none.rest in
    let hands = subst (λ (s : Stream). HandsOut c.args.blocks.now s (bytes_of c.in-Block.block)) (sym c.next_block.follows.holds-at-none)
    c.in-Block.ensures.answer in
    let split : rest ≡ c.bytes-bytes.result.now ++ behind =
    hands.rest ∙ ap (λ (bs : List ℕ). bs ++ behind) (sym c.bytes-bytes.ensures) in
    rw c.tried.ensures (if_tried _ _ _ from _ _ c.handle.result
    (turns_handled _ _ _ from _ c.bytes-bytes.result.now behind c.handle.result
    (ap (λ (i : Input). i.faults) c.handle.ensures.input ∙ same)
    (c.handle.ensures.handles from behind
    (subst (λ (bs : List ℕ). Holds (g.C.Clock.tells c.args.clock.now) (configured (opening_state c.args.book.now)) c.args.conn from
    (point (seen c.args.pass.now) (mine c.args.pass.now) (g.L.Port.input c.args.link.now)
    (g.L.Port.output c.args.link.now)) bs) split h))))

pub returns-in-Block-clause-held : goal.returns-in-Block-clause-held
returns-in-Block-clause-held g c =
    let block = bytes_of c.in-Block.block in
    let behind = c.next_block.follows.lender-at-none in
    rw c.tried.ensures (held_tried behind c.handle.result
    (held_behind c.args.blocks.now behind block
    (subst (λ (s : Stream). HandsOut c.args.blocks.now s block) (sym c.next_block.follows.holds-at-none) c.in-Block.ensures.answer)
    c.requires.little))

pub returns-in-NeedMore-clause-none : goal.returns-in-NeedMore-clause-none
returns-in-NeedMore-clause-none g c =
    let now = c.next_block.follows.lender-at-none in
    let unchanged : c.args.blocks.now.rest ≡ now.rest =
    sym (ap (λ (s : Stream). s.rest) c.next_block.follows.holds-at-none ∙ c.in-NeedMore.ensures.answer.0.rest) in
    subst (λ (bs : List ℕ). NeedsMore bs) unchanged (c.in-NeedMore.ensures.answer.0.no_block, c.in-NeedMore.ensures.answer.1)

pub returns-in-NeedMore-clause-turns : goal.returns-in-NeedMore-clause-turns
returns-in-NeedMore-clause-turns g c = λ from h same.
    let now = c.next_block.follows.lender-at-none in
    let unchanged : c.args.blocks.now.rest ≡ now.rest =
    sym (ap (λ (s : Stream). s.rest) c.next_block.follows.holds-at-none ∙ c.in-NeedMore.ensures.answer.0.rest) in (
      subst (λ (bs : List ℕ). Holds (g.C.Clock.tells c.args.clock.now) (configured (opening_state c.args.book.now)) c.args.conn from
          (point (seen c.args.pass.now) (mine c.args.pass.now) (g.L.Port.input c.args.link.now)
          (g.L.Port.output c.args.link.now)) bs) unchanged h,
      same,
    )

pub returns-in-TooLong-clause-none : goal.returns-in-TooLong-clause-none
returns-in-TooLong-clause-none g c = rw c.tried-in-TooLong.ensures (lacks_none _ c.ended.result)

pub returns-in-TooLong-clause-turns : goal.returns-in-TooLong-clause-turns
returns-in-TooLong-clause-turns g c = λ from h same.
    let rest = c.args.blocks.now.rest in
    rw c.tried-in-TooLong.ensures (if_tried _ _ _ from _ _ c.ended.result
    (turns_hung _ _ _ from _ rest _ (TooLong c.in-TooLong.len) c.ended.result (
      blocks_of-no_block rest c.in-TooLong.ensures.answer.0.no_block,
      c.in-TooLong.ensures.answer.1,
      ap (λ (i : Input). i.faults) c.ended.ensures.input ∙ same,
    )
    (c.ended.ensures.hung from rest h)))

pub returns-in-BadLength-clause-none : goal.returns-in-BadLength-clause-none
returns-in-BadLength-clause-none g c = rw c.tried-in-BadLength.ensures (lacks_none _ c.ended-in-BadLength.result)

pub returns-in-BadLength-clause-turns : goal.returns-in-BadLength-clause-turns
returns-in-BadLength-clause-turns g c = λ from h same.
    let rest = c.args.blocks.now.rest in
    rw c.tried-in-BadLength.ensures (if_tried _ _ _ from _ _ c.ended-in-BadLength.result
    (turns_hung _ _ _ from _ rest _ BadLength c.ended-in-BadLength.result (
      blocks_of-no_block rest c.in-BadLength.ensures.answer.0.no_block,
      c.in-BadLength.ensures.answer.1,
      ap (λ (i : Input). i.faults) c.ended-in-BadLength.ensures.input ∙ same,
    )
    (c.ended-in-BadLength.ensures.hung from rest h)))
