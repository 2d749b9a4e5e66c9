-- The lengths of parts.
use Rattle.std.proofs.Common.{ℕ, ◌≤◌, [], ◌∷◌, length}
use Rattle.fs_text.specs.Texts.{Text}
use Rattle.fs_orig.specs.Endpoints.{part_or}

pub part_or_short : (otherwise part : Text) (most : ℕ) → length otherwise ≤ most → length part ≤ most →
    length (part_or otherwise part) ≤ most
part_or_short otherwise [] most other own = other
part_or_short otherwise (byte ∷ bytes) most other own = own
