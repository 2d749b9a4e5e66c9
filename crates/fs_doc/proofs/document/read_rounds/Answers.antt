use Rattle.std.proofs.Common.{◌+◌, length, ap, arith}
use Rattle.fs_doc.specs.Reading.{read_within, document_of}
use Rattle.fs_doc.specs.Views.{reading_of, content_seen}
use Rattle.fs_doc.proofs.RoundLemmas.{stops_so, answers_so}
use Rattle.fs_doc.proofs.document.read_rounds.Goals as goal

pub rounds-init : goal.rounds-init
unfolding document_of
rounds-init c = record {
  within = c.requires;
  more = length c.args.text.now + 1;
  enough = omega arith;
  so_far = ap (λ r. read_within (length c.args.text.now + 1) c.args.end r c.args.text.now) c.in_ok-state.ensures;
}

pub returns-in_err-rest : goal.returns-in_err-rest
returns-in_err-rest c =
    let rounds = c.rounds.invariant in
    let stop = c.in_err-rest.field-0.0 in
    let stops =
    stops_so rounds.more c.args.end (reading_of c.rounds.state) c.rounds.left.now stop rounds.enough c.in_err-rest.ensures.read in
    answers_so _ stop _ content_seen c.from_residual-in_err-rest.ensures.1 (rw rounds.so_far at stops)
