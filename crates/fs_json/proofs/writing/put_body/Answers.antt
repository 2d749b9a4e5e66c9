use Rattle.std.proofs.Common.{◌≡◌, ◌==◌, false, true, length, ◌∙◌, sym, ap, codes}
use Rattle.serde_json.specs.Data.{string}
use Rattle.fs_json.specs.Fields.{body_fields}
use Rattle.fs_json.proofs.WrittenLemmas.{put_is_with_field}
use Rattle.fs_json.proofs.writing.put_body.Goals as goal

pub returns-then-is_empty : goal.returns-then-is_empty
unfolding body_fields
returns-then-is_empty c =
    let none : (length c.args.body.now == 0) ≡ true = sym c.is_empty.ensures ∙ c.if-is_empty.true in
    λ pairs has. rw none has

pub returns : goal.returns
unfolding body_fields
returns c =
    let some : (length c.args.body.now == 0) ≡ false = sym c.is_empty.ensures ∙ c.if-is_empty.false in
    λ pairs has. rw some (
    put_is_with_field (codes "_body") _ _ _ _ _ c.in_ok-shown.ensures c.in_ok-put-2.ensures.ok
    (put_is_with_field (codes "Content-Length") _ _ _ _ pairs (c.in_ok-len.ensures ∙ ap string c.format.ensures.text) c.in_ok-put.ensures.ok has))
