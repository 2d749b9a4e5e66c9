-- The headers of an event.
use Rattle.std.specs.Prelude.{List, find, Option}
use Rattle.std.specs.Option.{option_map}
use Rattle.std.specs.Str.{bytes_eq}
use Rattle.fs_text.specs.Texts.{Text}

-- the value of the first header of this name
unfoldable pub value_of : Text → List (Text × Text) → Option Text
value_of name headers = option_map (λ header. header.1) (find (λ header. bytes_eq header.0 name) headers)
