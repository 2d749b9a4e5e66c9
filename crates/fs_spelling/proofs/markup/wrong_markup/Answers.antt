use Rattle.std.proofs.Common.{Some}
use Rattle.fs_spelling.proofs.NextLaws.{cut_found, cut_stops, bad_found, bad_stops}
use Rattle.fs_spelling.proofs.markup.wrong_markup.Goals as goal

pub returns : goal.returns
returns c = record {
  cut = λ end name text. (cut_found end name text, cut_stops end (Some name) text (λ none. absurd (cc)));
  bad = λ end name text. (bad_found end name text, bad_stops end (Some name) text (λ none. absurd (cc)));
}
