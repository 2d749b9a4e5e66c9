use Rattle.fs_json.proofs.ShownLemmas.{text_read}
use Rattle.fs_json.proofs.WrittenLemmas.{put_is_with_field}
use Rattle.fs_json.proofs.writing.put_field.Goals as goal

pub returns : goal.returns
returns c = λ pairs has.
    let same = text_read c.args.name.now c.from_utf8.result c.unwrap-name.result _ c.unwrap-name.ensures c.from_utf8.ensures.cases in
    put_is_with_field c.args.name.now _ _ _ _ pairs c.in_ok-shown.ensures (rw same at c.in_ok-put.ensures.ok) has
