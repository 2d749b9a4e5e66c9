use Rattle.std.proofs.Common.{◌≡◌, [], ◌++◌, IfOk, append_assoc, ap, subst, ◌∙◌}
use Rattle.std.specs.Fmt.{decimal}
use Rattle.fs_text.specs.Texts.{Text}
use Rattle.fs_machine.proofs.reloading.placed_text.Goals as goal

-- five texts behind one another
joined : (a b c d e f front first between second last : Text) → a ≡ [] → b ≡ a ++ front → c ≡ b ++ first → d ≡ c ++ between →
    e ≡ d ++ second → f ≡ e ++ last → f ≡ front ++ (first ++ (between ++ (second ++ last)))
joined a b c d e f front first between second last none is is_first is_between is_second is_last =
    rw (is_last, is_second, is_between, is_first, is, none) (simp append_assoc)

pub returns : goal.returns
returns c =
    let first = c.as_bytes-2.ensures ∙ (c.in_ok-decimal.ensures ∙ ap decimal c.from.ensures) in
    let second = c.as_bytes-4.ensures ∙ (c.in_ok-decimal-2.ensures ∙ ap decimal c.from-2.ensures) in
    subst (λ (bytes : Text). IfOk c.from_vec.result (λ t. t ≡ bytes))
    (joined _ _ _ _ _ _ c.args.front.now (decimal c.args.extension) _ (decimal c.args.condition) _ c.new-text.ensures.items
    c.in_ok-extend_from_slice.ensures.items
    (c.in_ok-extend_from_slice-2.ensures.items ∙ ap (λ (t : Text). c.extend_from_slice.new.self.items ++ t) first)
    c.in_ok-extend_from_slice-3.ensures.items
    (c.in_ok-extend_from_slice-4.ensures.items ∙ ap (λ (t : Text). c.extend_from_slice-3.new.self.items ++ t) second)
    c.in_ok-extend_from_slice-5.ensures.items) c.from_vec.ensures
