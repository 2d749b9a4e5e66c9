use Rattle.std.proofs.Common.{◌≡◌, ◌++◌, option_map, string_bytes, ◌∙◌, ap}
use Rattle.serde_json.specs.View.{members_view}
use Rattle.fs_json.specs.Texts.{strings_of}
use Rattle.fs_json.proofs.ReadLemmas.{string_turn}
use Rattle.fs_json.proofs.reading.strings_of.Goals as goal

pub loop-name-preserved : goal.loop-name-preserved
loop-name-preserved c =
    let l = c.loop-name in
    let name : c.in_ok-of.field-0 ≡ string_bytes c.in-Some.name.now = c.in_ok-of.ensures ∙ c.as_bytes.ensures.value in
    let value : c.in_ok-of-2.field-0 ≡ c.in-Some-as_str.value.now = c.in_ok-of-2.ensures ∙ c.as_bytes-in-loop-name.ensures.value in
    let left = ap (λ left. option_map (λ more. l.pairs ++ more) (strings_of (members_view left))) c.in-Some.ensures.steps in
    rw (c.in_ok-push.ensures.ok, name, value) (l.invariant ∙ left ∙ string_turn l.pairs _ _ _ _ c.in-Some-as_str.ensures)
