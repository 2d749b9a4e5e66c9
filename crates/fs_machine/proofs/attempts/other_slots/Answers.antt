use Rattle.std.proofs.Common.{◌≡◌, ℕ, ◌+◌, List, ◌++◌, take, drop, ap, sym, ◌∙◌}
use Rattle.std.proofs.lemmas.List.{take_rest}
use Rattle.std.proofs.lemmas.List.Elements.{filter_map-append}
use Rattle.fs_orig.specs.declared.leg.OrigLeg.{OrigLeg}
use Rattle.fs_orig.specs.Legs.{living_slot, living_slots}
use Rattle.fs_machine.specs.Attempts.{others}
use Rattle.fs_machine.proofs.attempts.other_slots.Goals as goal

in_two : (position : ℕ) (legs : List OrigLeg) (first all : List ℕ) → first ≡ living_slots (take position legs) →
    all ≡ first ++ living_slots (drop (position + 1) legs) → all ≡ living_slots (others position legs)
in_two position legs first all before behind =
    behind ∙ ap (λ slots. slots ++ living_slots (drop (position + 1) legs)) before
    ∙ sym (filter_map-append living_slot (take position legs) (drop (position + 1) legs))

pub returns : goal.returns
returns c =
    let legs = c.as_slice-legs.result.now in
    let first =
    c.in_ok-add_living_slots.ensures
    ∙ ap (λ slots. slots ++ living_slots (take c.args.position legs)) c.new-slots.ensures.items in
    let rest = take_rest legs (c.args.position + 1) in
    let all = c.in_ok-add_living_slots-2.ensures ∙ ap (λ left. c.add_living_slots.new.slots.items ++ living_slots left) rest in
    in_two c.args.position legs c.add_living_slots.new.slots.items c.add_living_slots-2.new.slots.items first all
    ∙ ap (λ l. living_slots (others c.args.position l)) c.as_slice-legs.ensures.legs
