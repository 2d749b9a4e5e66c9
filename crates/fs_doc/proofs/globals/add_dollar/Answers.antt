use Rattle.std.proofs.Common.{◌≡◌, ◌<◌, ◌≤◌, [], ◌∷◌, ◌++◌, false, length, drop, slice_index_or, append_assoc, ap, sym, arith, rules}
use Rattle.std.proofs.lemmas.List.{take_rest}
use Rattle.fs_text.specs.Texts.{Text}
use Rattle.fs_vars.specs.Pairs.{Pairs}
use Rattle.fs_doc.specs.Values.{begins_global, replaced}
use Rattle.fs_doc.proofs.GlobalLemmas.{replaced-nothing, replaced-other}
use Rattle.fs_doc.proofs.globals.add_dollar.Goals as goal

-- a text without bytes gives none
no_bytes : (globals : Pairs) (text : Text) → length text < 1 → [] ≡ replaced globals text
no_bytes globals [] h = sym (replaced-nothing globals)
no_bytes globals (b ∷ text) h = absurd (omega arith)

-- one byte in front that begins no `$${`, and then the others
one_byte : (globals : Pairs) (text : Text) → 1 ≤ length text → begins_global text ≡ false →
    slice_index_or text 0 0 ∷ replaced globals (drop 1 text) ≡ replaced globals text
one_byte globals [] h other = absurd (omega arith)
one_byte globals (b ∷ text) h other = sym (replaced-other globals b text other)

pub returns-in_default-clause-whole : goal.returns-in_default-clause-whole
returns-in_default-clause-whole c =
    ap (λ more. c.args.out.now.items ++ more) (no_bytes c.args.globals.now.pairs c.args.text.now c.in_default.len_below)

pub returns-clause-whole : goal.returns-clause-whole
returns-clause-whole c =
    let other : begins_global c.args.text.now ≡ false = search rules in
    rw (c.in_ok-push.ensures.items, take_rest c.args.text.now 1, append_assoc)
    (ap (λ more. c.args.out.now.items ++ more) (one_byte c.args.globals.now.pairs c.args.text.now c.in-len1-up.len_at_least other))
