use Rattle.std.proofs.Common.{◌∙◌}
use Rattle.fs_book.specs.Passes.{seen, mine, met}
use Rattle.fs_top.proofs.LaneLemmas.{keeps_looked, keeps_same}
use Rattle.fs_top.proofs.laning.serve_links.Goals as goal

pub returns-then-is_ending-clause-keeps : goal.returns-then-is_ending-clause-keeps
returns-then-is_ending-clause-keeps g c =
    let old = c.links.pass in
    let new = c.is_ending.new.pass in
    let kept = c.is_ending.ensures.kept in
    keeps_looked _ _ _ _ new.seat.me.0.start (seen old) (seen new) (mine old) (mine new) (met old) (met new) _ c.is_ending.ensures.book.1
    c.is_ending.ensures.later kept.0 kept.1 old.sound.places new.sound.owned c.is_ending.ensures.run c.links.invariant.keeps

pub serve_next-requires-clause-keeps : goal.serve_next-requires-clause-keeps
serve_next-requires-clause-keeps g c =
    let old = c.links.pass in
    let new = c.is_ending.new.pass in
    let kept = c.is_ending.ensures.kept in
    λ _ _.
    keeps_same _ _ _ _ _ _ c.links.conns.items _ c.reserve.ensures.items
    (keeps_looked _ _ _ _ new.seat.me.0.start (seen old) (seen new) (mine old) (mine new) (met old) (met new) _ c.is_ending.ensures.book.1
    c.is_ending.ensures.later kept.0 kept.1 old.sound.places new.sound.owned c.is_ending.ensures.run c.links.invariant.keeps)

pub links-preserved-then-is_err : goal.links-preserved-then-is_err
links-preserved-then-is_err g c =
    let old = c.links.pass in
    let new = c.is_ending.new.pass in
    let kept = c.is_ending.ensures.kept in record {
      book = c.is_ending.ensures.book;
      parts_kept = kept.2 ∙ c.links.invariant.parts_kept;
      keeps =
          keeps_same _ _ _ _ _ _ c.links.conns.items _ c.reserve.ensures.items
          (keeps_looked _ _ _ _ new.seat.me.0.start (seen old) (seen new) (mine old) (mine new) (met old) (met new) _
          c.is_ending.ensures.book.1 c.is_ending.ensures.later kept.0 kept.1 old.sound.places new.sound.owned c.is_ending.ensures.run
          c.links.invariant.keeps);
    }
