use Rattle.std.proofs.Common.{◌≡◌, true, false, take, ap, sym, ◌∙◌}
use Rattle.std.specs.Prelude.{option_map}
use Rattle.fs_state.specs.Drafts.{drafted}
use Rattle.fs_state.specs.Posting as spec
use Rattle.fs_state.proofs.PostLemmas.{told_wanted, told_unwanted, wanted_front}
use Rattle.fs_state.proofs.draft.Draft.tell_wanted.Goals as goal

pub returns-then-not-has_one : goal.returns-then-not-has_one
returns-then-not-has_one c =
    let base = c.args.self.now.base in
    let s = drafted c.args.self.now in
    let telling = spec.telling_of base s c.args.number c.args.event.now in
    let unwanted : spec.is_wanted base.conns telling ≡ false =
    sym (wanted_front telling c.args.seats base.conns c.requires.empty) ∙ sym (rw c.in_ok-takers.ensures at c.has_one.ensures)
    ∙ c.if-not-has_one.true in
    sym (ap (option_map (spec.post_of (take c.args.seats base.conns) c.args.number)) (told_unwanted base s c.args.number c.args.event.now unwanted))

pub returns : goal.returns
returns c =
    let base = c.args.self.now.base in
    let s = drafted c.args.self.now in
    let telling = spec.telling_of base s c.args.number c.args.event.now in
    let front = take c.args.seats base.conns in
    let wanted : spec.is_wanted base.conns telling ≡ true =
    sym (wanted_front telling c.args.seats base.conns c.requires.empty) ∙ sym (rw c.in_ok-takers.ensures at c.has_one.ensures)
    ∙ c.if-not-has_one.false in
    rw (c.in_ok-takers.ensures, c.in_ok-frame.ensures)
    (sym (ap (option_map (spec.post_of front c.args.number)) (told_wanted base s c.args.number c.args.event.now wanted)))
