-- Variables that are set one after another.
use Rattle.std.proofs.Common.{◌≡◌, ℕ, ◌+◌, ◌<◌, ◌≤◌, Bool, true, false, List, length, drop, get_or, Option, None, Some, ap, ◌∙◌}
use Rattle.std.specs.Prelude.{if◌then◌else◌}
use Rattle.std.proofs.lemmas.List.{at_drop_more, at_drop_all}
use Rattle.fs_text.specs.Texts.{Text}
use Rattle.fs_vars.specs.Variables.{Variables, can_set, set_to}
use Rattle.fs_machine.specs.Originations.{set_all}

-- the pair at a seat is set
abbrev after_pair : List (Text × Text) → ℕ → Text × Text → Variables → Bool → Option Variables
after_pair pairs seat pair vars b = if b then set_all (drop (seat + 1) pairs) (set_to vars pair.0 pair.1) else None

pub set_next : (pairs : List (Text × Text)) (seat : ℕ) (default : Text × Text) (vars : Variables) → seat < length pairs →
    can_set vars (get_or pairs seat default).0 (get_or pairs seat default).1 ≡ true →
    set_all (drop seat pairs) vars
    ≡ set_all (drop (seat + 1) pairs) (set_to vars (get_or pairs seat default).0 (get_or pairs seat default).1)
set_next pairs seat default vars within can =
    at_drop_more (λ left. set_all left vars) pairs seat default within
    ∙ ap (after_pair pairs seat (get_or pairs seat default) vars) can

-- it is refused
pub set_refused : (pairs : List (Text × Text)) (seat : ℕ) (default : Text × Text) (vars : Variables) → seat < length pairs →
    can_set vars (get_or pairs seat default).0 (get_or pairs seat default).1 ≡ false →
    set_all (drop seat pairs) vars ≡ None
set_refused pairs seat default vars within cannot =
    at_drop_more (λ left. set_all left vars) pairs seat default within
    ∙ ap (after_pair pairs seat (get_or pairs seat default) vars) cannot

-- none is left
pub set_done : (pairs : List (Text × Text)) (seat : ℕ) (vars : Variables) → length pairs ≤ seat →
    set_all (drop seat pairs) vars ≡ Some vars
set_done pairs seat vars past = at_drop_all (λ left. set_all left vars) pairs seat past

-- all of them, a pair after another
pub ruleset set_rules = (set_next, set_refused, set_done)
