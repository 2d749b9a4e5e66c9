use Rattle.std.proofs.Common.{refl}
use Rattle.fs_frame.proofs.StreamLaws.{HasCommand-taken, IsNext-taken, few_held}
use Rattle.fs_frame.proofs.blocks.Blocks.next_block.Goals as goal

pub show-requires : goal.show-requires
show-requires c = rw c.advance-taken.ensures.after (HasCommand-taken c.args.self.now c.advance-taken.result c.advance-taken.ensures.taken)

pub returns : goal.returns
returns c = (
  (refl, λ _. tt, c.advance-taken.ensures.after),
  record {
    answer = IsNext-taken c.args.self.now c.advance-taken.result c.show.result c.advance-taken.ensures.taken
        (rw c.advance-taken.ensures.after at c.show.ensures);
    few = few_held c.args.self.now c.advance-taken.result c.show.result c.advance-taken.ensures.taken
        (rw c.advance-taken.ensures.after at c.show.ensures);
    after = tt;
  },
)
