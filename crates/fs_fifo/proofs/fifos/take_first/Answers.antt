use Rattle.std.proofs.Common.{option_map, refl, sym, ap, ◌∙◌, Bool}
use Rattle.std.specs.Prelude.{remove, position}
use Rattle.std.proofs.lemmas.List.Quantifiers.{position-Some}
use Rattle.std.proofs.lemmas.Option.{slice_get_read}
use Rattle.fs_fifo.specs.declared.caller.QueuedCaller.{QueuedCaller}
use Rattle.fs_fifo.specs.Queues.{waits_in}
use Rattle.fs_fifo.proofs.PositionLemmas.{position_is, remove_first, found_at, none_found, none_taken}
use Rattle.fs_fifo.proofs.fifos.take_first.Goals as goal

pub returns-in-Some : goal.returns-in-Some
returns-in-Some c =
    let items = c.args.callers.now.items in
    let test : QueuedCaller → Bool = waits_in c.args.name.now in
    let at = sym (c.position_of_first.ensures ∙ ap (position test) c.deref.ensures.value) ∙ c.in-Some.is in
    let within = (position-Some test items c.in-Some.position c.remove.result at).0 in
    let there = slice_get_read items _ c.in-Some.position c.remove.result refl within c.remove.ensures.value in
    record {
      slot = sym (ap (option_map (λ caller. caller.slot)) (found_at test items c.in-Some.position at ∙ there));
      rest = c.remove.ensures.items ∙ ap (remove items) (position_is test items c.in-Some.position at) ∙ remove_first test items;
    }

pub returns-in-None : goal.returns-in-None
returns-in-None c =
    let items = c.args.callers.now.items in
    let test : QueuedCaller → Bool = waits_in c.args.name.now in
    let none = none_found test items (sym (c.position_of_first.ensures ∙ ap (position test) c.deref.ensures.value) ∙ c.in-None.is) in
    record {
      slot = sym (ap (option_map (λ caller. caller.slot)) none);
      rest = sym (none_taken test items none);
    }
