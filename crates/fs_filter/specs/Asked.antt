-- What the words of a subscription ask for.
use Rattle.std.specs.Prelude.{◌==◌, Bool, not, ◌||◌, List, [], ◌∷◌, filter, drop, map, length, codes, Option, None, Some, is_some}
use Rattle.std.specs.Prelude.{option_map}
use Rattle.std.specs.List.{slice_split, before_first, position_or_len, list_any}
use Rattle.std.specs.Str.{bytes_eq}
use Rattle.std.specs.Borrow.{Bor}
use Rattle.fs_text.specs.Texts.{Text}
use Rattle.fs_text.specs.Words.{is_byte}
use Rattle.fs_text.specs.EventName.{event_name, event_of_name}
use Rattle.fs_text.specs.declared.event_names.EventName.{EventName}

-- ---- words

-- what stands between spaces is a word, unless it is empty
abbrev pub is_word : Text → Bool
is_word text = not (length text == 0)

-- the words of a text, with spaces between them
abbrev pub words_in : Text → List Text
words_in text = filter is_word (slice_split (is_byte 32) text)

-- words that are lent
abbrev pub texts : List (Bor Text) → List Text
texts words = map (λ word. word.now) words

-- a text that is lent, if one is
abbrev pub lent : Option (Bor Text) → Option Text
lent text = option_map (λ t. t.now) text

-- the word asks for all events
unfoldable pub is_all : Text → Bool
is_all word = bytes_eq word (codes "ALL")

-- the word behind which subclasses stand
unfoldable pub is_custom : Text → Bool
is_custom word = bytes_eq word (codes "CUSTOM")

-- the word names events
abbrev pub is_known_word : Text → Bool
is_known_word word = is_all word || is_some (event_of_name word)

-- ---- what they ask for

-- what words ask for: names of events, and subclasses where `CUSTOM` stands among the words
pub record Asked : Type 0 where
  pub names : List Text
  pub subclasses : Option (List Text)

-- all words but the first, if there is one
abbrev pub behind_first : List Text → Option (List Text)
behind_first [] = None
behind_first (word ∷ words) = Some words

-- the words before the first `CUSTOM` are names, all behind it are subclasses
abbrev pub asked_of : List Text → Asked
asked_of words = record {
  names = before_first is_custom words;
  subclasses = behind_first (drop (position_or_len is_custom words) words);
}

-- what the words of a text ask for
abbrev pub asked_in : Text → Asked
asked_in text = asked_of (words_in text)

-- all names and all subclasses are asked for
abbrev pub asks_all : Asked → Bool
asks_all asked = list_any is_all asked.names

-- the events of this name are asked for, by themselves or among all
abbrev pub asks_name : Asked → EventName → Bool
asks_name asked name = list_any (λ word. is_all word || bytes_eq (event_name name) word) asked.names

-- a known name stands among the words; `CUSTOM` is one
abbrev pub is_known : Asked → Bool
is_known asked = is_some asked.subclasses || list_any is_known_word asked.names
