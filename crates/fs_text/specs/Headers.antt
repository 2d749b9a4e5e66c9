-- Headers: names with their values, the lines that tell them, and what takes them one by one.
use Rattle.std.specs.Prelude.{◌==◌, not, List, [], ◌∷◌, length, filter, ◌++◌, codes}
use Rattle.fs_text.specs.Escape.{escape}
use Rattle.fs_text.specs.Texts.{Text}

-- the line of a header
abbrev pub header_line : Text × Text → Text
header_line header = header.0 ++ codes ": " ++ header.1 ++ codes "\n"

-- those headers that have a value
abbrev pub with_values : List (Text × Text) → List (Text × Text)
with_values headers = filter (λ header. not (length header.1 == 0)) headers

-- ---- variables

-- the name of the header of a variable, whose own name is escaped
abbrev pub variable_name : Text → Text
variable_name name = codes "variable_" ++ escape name

-- the header of a variable
abbrev pub variable_header : Text × Text → Text × Text
variable_header pair = (variable_name pair.0, pair.1)

-- ---- what takes headers

-- what it is once it has taken these, in order, where the first argument says what it is once it has taken one
abbrev pub taking : {S : Type 0} → (Text × Text → S → S) → List (Text × Text) → S → S
taking taken [] sink = sink
taking taken (header ∷ headers) sink = taking taken headers (taken header sink)
