-- What a round that stops says of the whole reading.
use Rattle.std.proofs.Common.{◌≡◌, ◌<◌, ℕ, zero, suc, length, Result, Ok, Err, IsErrAnd, ap, sym, subst, arith}
use Rattle.fs_text.specs.Texts.{Text}
use Rattle.fs_xml.specs.Results.{◌>>=◌}
use Rattle.fs_doc.specs.declared.fault.DocStop.{DocStop}
use Rattle.fs_doc.specs.declared.fault.DocStop.TheVariants as stop
use Rattle.fs_doc.specs.Faults.{DocStops, DocGives}
use Rattle.fs_doc.specs.declared.fault.DocFault.{DocFault}
use Rattle.fs_doc.specs.declared.content.Content.{Content}
use Rattle.fs_doc.specs.Reading.{ReadSoFar, round, read_within, with_round}

pub stops_so : (more end : ℕ) (r : ReadSoFar) (bytes : Text) (s : DocStop) → length bytes < more → DocStops s (round end r bytes) →
    DocStops s (read_within more end r bytes)
stops_so zero end r bytes s enough stops = absurd (omega arith)
stops_so (suc more) end r bytes stop.Memory enough stops = tt
stops_so (suc more) end r bytes (stop.Fault f) enough stops =
    ap (λ read. read >>= λ next. with_round (λ r rest. read_within more end r rest) next) stops

-- and of what is answered then
pub answers_so : {X : Type 0} (read : Result Content DocFault) (s : DocStop) (answer : Result X DocStop) (view : X → Content) →
    IsErrAnd answer (λ e. e ≡ s)
    → DocStops s read → DocGives view answer read
answers_so read s (Ok x) view is stops = absurd is
answers_so read s (Err e) view is stops = subst (λ e. DocStops e read) (sym is) stops
