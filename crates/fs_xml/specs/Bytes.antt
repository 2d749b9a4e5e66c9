-- The bytes that markup is made of.
use Rattle.std.specs.Prelude.{◌==◌, ℕ, ◌-◌, Bool, ◌&&◌, ◌||◌, not, if◌then◌else◌, List, [], ◌∷◌, length}
use Rattle.std.specs.List.{take_while}

-- space, tab, CR and LF
unfoldable pub is_blank : ℕ → Bool
is_blank b = b == 32 || b == 9 || b == 13 || b == 10

-- the quotes that a value may stand in
unfoldable pub is_quote : ℕ → Bool
is_quote b = b == 34 || b == 39

-- `<`, `>`, `/` and `=`
unfoldable pub is_mark : ℕ → Bool
is_mark b = b == 60 || b == 62 || b == 47 || b == 61

-- what a name is made of: any byte but blanks, quotes and marks
unfoldable pub is_name_byte : ℕ → Bool
is_name_byte b = not (is_blank b || is_quote b || is_mark b)

-- what a name begins with: neither `!` nor `?`
unfoldable pub begins_name : ℕ → Bool
begins_name b = is_name_byte b && not (b == 33 || b == 63)

-- what follows the bytes in front that pass a test
abbrev pub past : (ℕ → Bool) → List ℕ → List ℕ
past p [] = []
past p (b ∷ bytes) = if p b then past p bytes else b ∷ bytes

-- the name in front
abbrev pub name_of : List ℕ → List ℕ
name_of bytes = take_while is_name_byte bytes

-- where bytes begin that stand at the end of so many
abbrev pub offset : ℕ → List ℕ → ℕ
offset end bytes = end - length bytes
