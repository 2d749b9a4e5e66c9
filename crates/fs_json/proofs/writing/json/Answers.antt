use Rattle.std.proofs.Common.{◌≡◌, ◌<◌, ◌≤◌, get_or, length, ◌∙◌, ap, sym, subst}
use Rattle.std.proofs.lemmas.List.Elements.{All-get_or}
use Rattle.std.specs.Str.{IsUtf8}
use Rattle.fs_text.specs.Texts.{Text}
use Rattle.fs_json.specs.Texts.{json}
use Rattle.fs_json.proofs.WrittenLemmas.{header_turn, all_fields}
use Rattle.fs_json.proofs.writing.json.Goals as goal

pub put_field-requires : goal.put_field-requires
put_field-requires c =
    let items = c.pairs-name-items in
    let inside : c.loop-name.name-index < length c.args.event.now.headers = rw items.ensures at c.loop-name-test.true in
    let at : c.loop-name-item.result ≡ get_or c.args.event.now.headers c.loop-name.name-index c.loop-name-item.result =
    rw items.ensures at c.loop-name-item.is in
    let is : IsUtf8 (get_or c.args.event.now.headers c.loop-name.name-index c.loop-name-item.result).0 =
    All-get_or (λ header. IsUtf8 header.0) c.args.event.now.headers c.loop-name.name-index c.loop-name-item.result inside c.requires.utf8 in
    subst IsUtf8 (ap (λ (h : Text × Text). h.0) (sym at) ∙ sym c.as_bytes.ensures) is

pub loop-name-preserved : goal.loop-name-preserved
loop-name-preserved c =
    let items = c.pairs-name-items in
    let inside : c.loop-name.name-index < length c.args.event.now.headers = rw items.ensures at c.loop-name-test.true in
    let at : c.loop-name-item.result ≡ get_or c.args.event.now.headers c.loop-name.name-index c.loop-name-item.result =
    rw items.ensures at c.loop-name-item.is in
    let turn = header_turn c.args.event.now.headers c.loop-name.name-index c.loop-name-item.result at inside in
    let put = c.in_ok-put_field.ensures _ c.loop-name.invariant in
    rw turn (rw (c.as_bytes.ensures, c.as_bytes-in-loop-name.ensures) at put)

pub returns : goal.returns
unfolding json
returns c =
    let end : length c.args.event.now.headers ≤ c.loop-name.name-index = rw c.pairs-name-items.ensures at c.loop-name-test.false in
    let put = c.in_ok-put_body.ensures _ c.loop-name.invariant in
    c.text_of.ensures _ (rw (c.as_bytes-2.ensures, all_fields c.args.event.now c.loop-name.name-index end) at put)
