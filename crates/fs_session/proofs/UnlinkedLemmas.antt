-- No connection comes where there is no link to a controller.
use Rattle.std.proofs.Common.{◌≡◌, ◌≢◌, ℕ, suc, Bool, false, List, [], Option, None, Some, refl, sym, ap, ◌∙◌}
use Rattle.std.specs.Prelude.{if◌then◌else◌, is_some}
use Rattle.std.proofs.lemmas.Option.{none-some}
use Rattle.fs_doc.specs.Reading.{Configuration}
use Rattle.fs_text.specs.Texts.{Text}
use Rattle.fs_book.specs.Numbered.{count_behind}
use Rattle.fs_state.specs.Switch.{Switch}
use Rattle.fs_machine.specs.declared.entry.Entry.{Entry}
use Rattle.fs_machine.specs.declared.entry.Act.TheVariants.{Dialed}
use Rattle.fs_machine.specs.Controlling.{dial_at, number_of_hold}
use Rattle.fs_machine.specs.Laws.{state_after}
use Rattle.fs_machine.specs.Turned.{opens, comes_after}

abbrev opened_where : Configuration → Bool → List Entry → Option ℕ
opened_where config test log = if test then Some (suc (count_behind (comes_after config) [] log)) else None

pub unlinked_opens_none : (config : Configuration) (log : List Entry) (moment slot n : ℕ) →
    opens config log (record { moment = moment; act = Dialed slot false }) ≢ Some n
unlinked_opens_none config log moment slot n opened =
    let e : ◌≡◌ {A = Option ℕ} None (Some n) =
    sym (ap (λ (b : Bool). opened_where config b log) (no_number (dial_at (state_after config log) slot) (state_after config log)))
    ∙ opened in none-some n e
  where
    no_number : (text : Option Text) (s : Switch) → is_some (number_of_hold text false s) ≡ false
    no_number None s = refl
    no_number (Some text) s = refl
