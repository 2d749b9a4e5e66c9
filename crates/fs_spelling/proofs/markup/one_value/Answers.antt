use Rattle.std.proofs.Common.{◌≡◌, Ok, sym, ◌∙◌}
use Rattle.fs_spelling.proofs.ValueLaws.{value_read, value_spelt}
use Rattle.fs_spelling.proofs.markup.one_value.Goals as goal

pub returns : goal.returns
returns c = record {
  read = value_read;
  said = value_spelt;
  one = λ raw value some other first second.
      let same : Ok some ≡ Ok other = sym (value_spelt raw 0 value some first) ∙ value_spelt raw 0 value other second in cc;
}
