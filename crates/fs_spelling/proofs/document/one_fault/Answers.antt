use Rattle.std.proofs.Common.{◌≡◌, ◌⊎◌, inl, inr, Result, Ok, Err, refl, sym, ◌∙◌}
use Rattle.fs_text.specs.Texts.{Text}
use Rattle.fs_doc.specs.declared.fault.DocFault.{DocFault}
use Rattle.fs_doc.specs.Reading.{Configuration, config_of}
use Rattle.fs_spelling.specs.Documents.{Spells}
use Rattle.fs_spelling.specs.Faults.{HasFault}
use Rattle.fs_spelling.proofs.Whole.{read_is_spelt, spelt_is_read}
use Rattle.fs_spelling.proofs.WholeFaults.{fault_is_had, had_is_told}
use Rattle.fs_spelling.proofs.document.one_fault.Goals as goal

abbrev failed : DocFault → Result Configuration DocFault
failed f = Err f

same_fault : (x y : DocFault) → failed x ≡ failed y → x ≡ y
same_fault x y e = cc

either_of : (bytes : Text) (r : Result Configuration DocFault) → config_of bytes ≡ r →
    ((c : Configuration) × Spells bytes c) ⊎ ((f : DocFault) × HasFault bytes f)
either_of bytes (Ok c) is = inl (c, read_is_spelt bytes c is)
either_of bytes (Err f) is = inr (f, fault_is_had bytes f is)

never_both : (bytes : Text) (c : Configuration) (f : DocFault) → Spells bytes c → HasFault bytes f → ⊥
never_both bytes c f spelt had =
    let both : Ok c ≡ Err f = sym (spelt_is_read bytes c spelt) ∙ had_is_told bytes f had in cc

pub returns : goal.returns
returns c = record {
  had = fault_is_had;
  told = had_is_told;
  one = λ bytes some other first second. same_fault some other (sym (had_is_told bytes some first) ∙ had_is_told bytes other second);
  either = λ bytes. (either_of bytes (config_of bytes) refl, never_both bytes);
}
