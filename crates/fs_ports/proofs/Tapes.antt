-- How a link in memory moves on.
use Rattle.std.proofs.Common.{◌≡◌, ◌≤◌, ℕ, ◌+◌, Bool, true, false, not, List, ◌++◌, take, drop, sym, refl, ap, ◌∙◌, Some}
use Rattle.std.proofs.lemmas.List.{take-append-drop, take-take, drop-drop}
use Rattle.std.specs.Io.KnownBytes.{prepend_known}
use Rattle.fs_ports.specs.Memory.{told_left}
use Rattle.fs_ports.specs.Ports.{Input, Reads}
use Rattle.fs_ports.proofs.Sides.{take-add}

-- the side that is read, at this place of the bytes
abbrev pub input_at : List ℕ → ℕ → ℕ → Bool → Input
input_at bytes at faults is_held = record {
  taken = Some (take at bytes);
  left = told_left is_held (drop at bytes);
  faults = faults;
  waits = not is_held;
}

-- a front of what is left is one of what is told to be left
told_front : (is_held : Bool) (xs front rest : List ℕ) → xs ≡ front ++ rest →
    told_left is_held xs ≡ prepend_known front (told_left is_held rest)
told_front false xs front rest split = ap Some split
told_front true xs front rest split = refl

-- a front of the next piece is read
pub reads_piece : (bytes buf : List ℕ) (at n len faults : ℕ) (old new : Bool) → new ≡ old → n ≤ len →
    take n buf ≡ take n (take len (drop at bytes)) →
    Reads (input_at bytes at faults old) (input_at bytes (at + n) faults new) (take n buf)
reads_piece bytes buf at n len faults old new same fits copied =
    let piece : take n buf ≡ take n (drop at bytes) = copied ∙ take-take n len (drop at bytes) fits in
    let split : drop at bytes ≡ take n buf ++ drop (at + n) bytes =
    sym (take-append-drop n (drop at bytes)) ∙ ap (λ xs. xs ++ drop n (drop at bytes)) (sym piece)
    ∙ ap (λ xs. take n buf ++ xs) (drop-drop n at bytes) in record {
      taken = ap Some (take-add at n bytes ∙ ap (λ xs. take at bytes ++ xs) (sym piece));
      left =
          told_front old (drop at bytes) (take n buf) (drop (at + n) bytes) split
          ∙ ap (λ is_held. prepend_known (take n buf) (told_left is_held (drop (at + n) bytes))) (sym same);
      waits = ap not same;
    }
