-- How reads and writes follow one another.
use Rattle.std.proofs.Common.{◌≡◌, ◌-◌, ℕ, ◌+◌, List, [], ◌++◌, length, take, drop, sym, refl, ap, ◌∙◌, append_assoc, append-nil, arith}
use Rattle.std.proofs.Common.{Option, None, Some}
use Rattle.std.proofs.lemmas.List.{take-append-drop, take-take, drop-take, take_rest}
use Rattle.std.specs.Io.KnownBytes.{append_known, prepend_known}
use Rattle.fs_ports.specs.Counts.{raised}
use Rattle.fs_ports.specs.Ports.{Input, Output, Reads, Writes, Stopped}

pub append_known-append : (known : Option (List ℕ)) (xs ys : List ℕ) →
    append_known (append_known known xs) ys ≡ append_known known (xs ++ ys)
append_known-append None xs ys = refl
append_known-append (Some known) xs ys = ap Some (append_assoc known xs ys)

pub append_known-nil : (known : Option (List ℕ)) → append_known known [] ≡ known
append_known-nil None = refl
append_known-nil (Some known) = ap Some (append-nil known)

pub prepend_known-append : (known : Option (List ℕ)) (xs ys : List ℕ) →
    prepend_known xs (prepend_known ys known) ≡ prepend_known (xs ++ ys) known
prepend_known-append None xs ys = refl
prepend_known-append (Some known) xs ys = ap Some (sym (append_assoc xs ys known))

pub prepend_known-nil : (known : Option (List ℕ)) → known ≡ prepend_known [] known
prepend_known-nil None = refl
prepend_known-nil (Some known) = refl

-- nothing was written yet
pub writes_nothing : (now : Output) → Writes now now []
writes_nothing now = record { written = sym (append_known-nil now.written); faults = refl }

-- two writes are one of both texts
pub writes_both : (old mid new : Output) (xs ys : List ℕ) → Writes old mid xs → Writes mid new ys → Writes old new (xs ++ ys)
writes_both old mid new xs ys first then = record {
  written = then.written ∙ ap (λ k. append_known k ys) first.written ∙ append_known-append old.written xs ys;
  faults = then.faults ∙ first.faults;
}

-- a write, and then one that stopped
pub stopped_later : (old mid new : Output) (xs ys : List ℕ) → Writes old mid xs → Stopped mid new ys → Stopped old new (xs ++ ys)
stopped_later old mid new xs ys first then = record {
  front = xs ++ then.front;
  back = then.back;
  split = ap (λ zs. xs ++ zs) then.split ∙ sym (append_assoc xs then.front then.back);
  written = then.written ∙ ap (λ k. append_known k then.front) first.written ∙ append_known-append old.written xs then.front;
  faults = then.faults ∙ ap raised first.faults;
}

-- what is behind the front need not be known
pub stopped_sooner : (old new : Output) (xs ys : List ℕ) → Stopped old new xs → Stopped old new (xs ++ ys)
stopped_sooner old new xs ys h = record {
  front = h.front;
  back = h.back ++ ys;
  split = ap (λ zs. zs ++ ys) h.split ∙ append_assoc h.front h.back ys;
  written = h.written;
  faults = h.faults;
}

-- two reads are one of both texts
pub reads_both : (old mid new : Input) (xs ys : List ℕ) → Reads old mid xs → Reads mid new ys → Reads old new (xs ++ ys)
reads_both old mid new xs ys first then = record {
  taken = then.taken ∙ ap (λ k. append_known k ys) first.taken ∙ append_known-append old.taken xs ys;
  left = first.left ∙ ap (prepend_known xs) then.left ∙ prepend_known-append new.left xs ys;
  waits = then.waits ∙ first.waits;
}

-- nothing was read yet
pub reads_nothing : (now : Input) → Reads now now []
reads_nothing now = record { taken = sym (append_known-nil now.taken); left = prepend_known-nil now.left; waits = refl }

-- a front, and a front of the rest
pub take-add : (m n : ℕ) (xs : List ℕ) → take (m + n) xs ≡ take m xs ++ take n (drop m xs)
take-add m n xs =
    sym (take-append-drop m (take (m + n) xs)) ∙ ap (λ ys. ys ++ drop m (take (m + n) xs)) (take-take m (m + n) xs (omega arith))
    ∙ ap (λ ys. take m xs ++ ys) (drop-take m n xs)

-- a write of a front of what is left adds to the front that was written
pub writes_more : (old mid new : Output) (bytes : List ℕ) (done n : ℕ) →
    Writes old mid (take done bytes) → Writes mid new (take n (take (length bytes - done) (drop done bytes))) →
    Writes old new (take (done + n) bytes)
writes_more old mid new bytes done n first then =
    rw (take-add done n bytes) (writes_both old mid new _ _ first (rw (take_rest bytes done) at then))

-- a write that failed behind a front
pub stops_here : (old mid new : Output) (bytes : List ℕ) (done : ℕ) → Writes old mid (take done bytes) →
    new ≡ record mid { faults = raised mid.faults } → Stopped old new bytes
stops_here old mid new bytes done first failed = record {
  front = take done bytes;
  back = drop done bytes;
  split = sym (take-append-drop done bytes);
  written = ap (λ o. o.written) failed ∙ first.written;
  faults = ap (λ o. o.faults) failed ∙ ap raised first.faults;
}
