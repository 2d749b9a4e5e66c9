use Rattle.std.proofs.Common.{◌≡◌, ◌∷◌, [], map, sym, ap, ◌∙◌}
use Rattle.fs_text.specs.Headers.{taking, with_values, variable_header}
use Rattle.fs_text.specs.Texts.{Text}
use Rattle.fs_text.proofs.TakingLemmas.{taking_more}
use Rattle.fs_vars.specs.Pairs.{Pairs}
use Rattle.fs_machine.proofs.dumping.tell_variables.Goals as goal

-- one variable is told, of those that are left
told_next : {S : Type 0} (taken : Text × Text → S → S) (all told new : S) (left more : Pairs) (here : Text × Text) → left ≡ here ∷ more →
    new ≡ taking taken (with_values (variable_header here ∷ [])) told →
    taking taken (with_values (map variable_header left)) told ≡ all →
    taking taken (with_values (map variable_header more)) new ≡ all
told_next taken all told new left more here steps is kept =
    ap (taking taken (with_values (map variable_header more))) is
    ∙ sym (taking_more taken (variable_header here) (map variable_header more) told)
    ∙ sym (ap (λ (some : Pairs). taking taken (with_values (map variable_header some)) told) steps)
    ∙ kept

pub loop-name-preserved : goal.loop-name-preserved
loop-name-preserved g c =
    told_next g.S.HeaderSink.taken _ c.loop-name.sink c.give_variable.new.sink c.loop-name.name-iterator c.next.new.self
    (c.in-Some.name.now, c.in-Some.value.now) c.in-Some.ensures.steps
    (rw c.as_bytes.ensures at c.in_ok-give_variable.ensures) c.loop-name.invariant
