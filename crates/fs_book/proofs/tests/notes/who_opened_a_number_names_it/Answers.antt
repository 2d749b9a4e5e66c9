use Rattle.std.specs.Prelude.{None, false}
use Rattle.fs_book.specs.declared.tests.notes.Note.{Note}
use Rattle.std.proofs.Common.{◌≡◌, ℕ, ◌<◌, ◌∷◌, ◌++◌, [], List, length, take, Some, sym, ap, subst, ◌∙◌}
use Rattle.std.specs.List.{slice_get}
use Rattle.fs_book.specs.Passes.{mine, seen}
use Rattle.fs_book.specs.Counts.{times}
use Rattle.fs_book.proofs.Lists.{times_here, last_get, last_take}
use Rattle.fs_book.proofs.tests.notes.who_opened_a_number_names_it.Goals as goal

-- the note before has opened what is named, at its own place
pub submit-named-requires-clause-owns : goal.submit-named-requires-clause-owns
submit-named-requires-clause-owns g c number is =
    let ok = c.in-Ok-submit.ensures.ok in
    let before = ok.0 in
    let shown = ok.2 in
    let at = ok.3 in
    let own = ok.4 in
    let note : Note = record { about = None; heavy = false } in (
      c.in-Ok-submit.opened.place,
      subst (λ places. 0 < times c.in-Ok-submit.opened.place places) (sym own) (times_here c.in-Ok-submit.opened.place _),
      (
        note,
        subst (λ p. slice_get (seen c.submit.new.pass) p ≡ Some note) (sym at)
            (subst (λ log. slice_get log (length before) ≡ Some note) (sym shown) (last_get before note)),
        ap (λ n. Some n)
            (ap (λ p. length (take p (seen c.submit.new.pass))) at ∙ ap (λ log. length (take (length before) log)) shown
            ∙ ap length (last_take before note) ∙ sym at)
            ∙ is,
      ),
    )
