use Rattle.fs_frame.proofs.FrontLaws.{IsLaidOut-fed}
use Rattle.fs_frame.proofs.blocks.Blocks.feed.Goals as goal

pub invariant_of-self-2 : goal.invariant_of-self-2
invariant_of-self-2 c =
    rw c.in_ok-extend_from_slice.ensures.items
    (IsLaidOut-fed c.self.inside.bytes.items c.args.piece.now c.self.inside.lent c.self.inside.start c.self.inside.front
    c.self.invariant)
