use Rattle.std.proofs.Common.{◌≡◌, Result, Ok, sym, ◌∙◌}
use Rattle.fs_doc.specs.declared.fault.DocFault.{DocFault}
use Rattle.fs_doc.specs.Reading.{Configuration}
use Rattle.fs_spelling.proofs.Whole.{read_is_spelt, spelt_is_read}
use Rattle.fs_spelling.proofs.document.one_document.Goals as goal

abbrev told : Configuration → Result Configuration DocFault
told c = Ok c

same_told : (x y : Configuration) → told x ≡ told y → x ≡ y
same_told x y e = cc

pub returns : goal.returns
returns c = record {
  read = read_is_spelt;
  spelt = spelt_is_read;
  one = λ bytes some other first second. same_told some other (sym (spelt_is_read bytes some first) ∙ spelt_is_read bytes other second);
}
