-- When an expanded text is too long.
use Rattle.std.proofs.Common.{◌≡◌, ℕ, ◌≤◌, length, sym, ap, ◌∙◌, Ok, Err}
use Rattle.std.proofs.lemmas.Bool.{le-leb, lt-leb}
use Rattle.fs_text.specs.Texts.{Text}
use Rattle.fs_vars.specs.Expansion.{expanded}
use Rattle.fs_vars.specs.Outputs.{IsTextRefusal}
use Rattle.fs_vars.specs.declared.profile.Profile.{Profile}
use Rattle.fs_vars.specs.declared.refused.Refused.{Refused}
use Rattle.fs_vars.specs.declared.refused.Refused.TheVariants.{Memory, TooLong}
use Rattle.fs_plan.specs.declared.hunt.Hunt.{Hunt}
use Rattle.fs_plan.specs.Hunting.{known, expanded_in}

pub within : (profile : Profile) (text : Text) (s : Hunt) (t : Text) → t ≡ expanded (known profile s) text → length t ≤ 65536 →
    expanded_in profile text s ≡ Ok t
unfolding expanded_in
within profile text s t is short =
    rw (le-leb (length (expanded (known profile s) text)) 65536 (rw is at short)) (ap Ok (sym is))

pub beyond : (profile : Profile) (text : Text) (s : Hunt) (refused : Refused) → IsTextRefusal (expanded (known profile s) text) refused →
    (len : ℕ) → refused ≡ TooLong len → expanded_in profile text s ≡ Err len
unfolding expanded_in
beyond profile text s Memory h len is = absurd cc
beyond profile text s (TooLong n) h len is =
    let same : n ≡ len = cc in rw (lt-leb (length (expanded (known profile s) text)) 65536 h.0) (ap Err (sym h.1 ∙ same))

-- for a function that gives an expanded text within its limit
pub ruleset limit_rules = (within, beyond)
