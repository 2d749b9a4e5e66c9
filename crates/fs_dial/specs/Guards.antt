-- Which bytes of a bracket are protected, and where its marks stand.
use Rattle.std.specs.Prelude.{◌==◌, ℕ, ◌-◌, Bool, ◌&&◌, ◌||◌, not, false, if◌then◌else◌, List, [], ◌∷◌, ◌++◌, length, take}
use Rattle.fs_dial.specs.declared.guard.Guard.{Guard}
use Rattle.fs_dial.specs.declared.guard.Guard.TheVariants.{Bare, Quoted, Behind}

-- a single quote or a backslash
unfoldable pub is_guard : ℕ → Bool
is_guard b = b == 39 || b == 92

-- how the byte behind one is protected: quotes protect each byte up to the next quote, a backslash the one behind it
unfoldable pub guard_after : Guard → ℕ → Guard
guard_after Bare b = if b == 39 then Quoted else if b == 92 then Behind else Bare
guard_after Quoted b = if b == 39 then Bare else Quoted
guard_after Behind b = Bare

-- the byte is this mark and not protected; a quote and a backslash are no marks
unfoldable pub is_mark : ℕ → Guard → ℕ → Bool
is_mark mark Bare b = not (is_guard b) && b == mark
is_mark mark Quoted b = false
is_mark mark Behind b = false

-- the bytes from the first such mark on
abbrev pub from_mark : ℕ → Guard → List ℕ → List ℕ
from_mark mark guard [] = []
from_mark mark guard (b ∷ bytes) = if is_mark mark guard b then b ∷ bytes else from_mark mark (guard_after guard b) bytes

-- what stands before the rest of some bytes
abbrev pub front_of : List ℕ → List ℕ → List ℕ
front_of bytes rest = take (length bytes - length rest) bytes

-- where bytes begin that stand at the end of so many
abbrev pub offset : ℕ → List ℕ → ℕ
offset end bytes = end - length bytes

-- ---- without quotes and backslashes

-- behind a backslash these stand for themselves: the separator, a quote, a backslash and a closing bracket
unfoldable pub is_escaped : ℕ → ℕ → Bool
is_escaped separator b = b == separator || is_guard b || b == 93 || b == 125

-- what is left of a byte; a backslash is left in front of any other
unfoldable pub bared : ℕ → Guard → ℕ → List ℕ
bared separator Bare b = if is_guard b then [] else b ∷ []
bared separator Quoted b = if b == 39 then [] else b ∷ []
bared separator Behind b = if is_escaped separator b then b ∷ [] else 92 ∷ b ∷ []

-- what is left at the end: a backslash with nothing behind it
unfoldable pub last_of : Guard → List ℕ
last_of Bare = []
last_of Quoted = []
last_of Behind = 92 ∷ []

-- what is left of a value
abbrev pub plain_of : ℕ → Guard → List ℕ → List ℕ
plain_of separator guard [] = last_of guard
plain_of separator guard (b ∷ bytes) = bared separator guard b ++ plain_of separator (guard_after guard b) bytes
