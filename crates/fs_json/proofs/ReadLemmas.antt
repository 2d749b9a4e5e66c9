-- What is read of a text.
use Rattle.std.proofs.Common.{◌≡◌, [], ◌∷◌, ◌++◌, Bool, true, false, cond, Option, Some, None, option_map, option_and_then, refl}
use Rattle.std.proofs.Common.{sym, ap, ◌∙◌, append_assoc}
use Rattle.std.proofs.lemmas.Str.{IsUtf8-from_is_utf8, is_utf8-from_IsUtf8}
use Rattle.std.specs.Str.{IsUtf8, is_utf8}
use Rattle.serde_json.specs.Data.{Data, null, boolean, number, string, array, object, Members, no_members, member}
use Rattle.serde_json.specs.Find.{as_str}
use Rattle.serde_json.specs.Read.{read}
use Rattle.serde_json.specs.Written.{has_float, compact_text}
use Rattle.fs_text.specs.Texts.{Text}
use Rattle.fs_json.specs.Fields.{Pairs}
use Rattle.fs_json.specs.Texts.{members, with_string, strings_in, strings_of, text_of, read_event}
use Rattle.fs_json.proofs.WrittenLemmas.{strings-members, no_floats}

-- ---- a text

pub value_is_read : (text : Text) (d : Data) → IsUtf8 text → read text ≡ Some d → read_event text ≡ strings_in d
unfolding read_event
value_is_read text d is value = rw (is_utf8-from_IsUtf8 text is, value) refl

pub nothing_is_read : (text : Text) → (IsUtf8 text → read text ≡ None) → read_event text ≡ None
unfolding read_event
nothing_is_read text none = by (is_utf8 text) refl
  where
    by : (b : Bool) → is_utf8 text ≡ b → cond b (option_and_then strings_in (read text)) None ≡ None
    by true is = rw (none (IsUtf8-from_is_utf8 text is)) refl
    by false is = refl

-- ---- the text of pairs

pub text_is : (pairs : Pairs) (d : Data) (text : Text) → d ≡ object (members pairs) → (has_float d ≡ false → text ≡ compact_text d) →
    text ≡ text_of pairs
text_is pairs d text is written = written (ap has_float is ∙ no_floats pairs) ∙ ap compact_text is

-- ---- members

string_is : (d : Data) (value : Text) → Some value ≡ as_str d → d ≡ string value
string_is null value is = absurd cc
string_is (boolean b) value is = absurd cc
string_is (number n) value is = absurd cc
string_is (string s) value is = cc
string_is (array ds) value is = absurd cc
string_is (object ms) value is = absurd cc

-- one more string behind those that are read
pub string_turn : (pairs : Pairs) (name value : Text) (d : Data) (rest : Option Pairs) → Some value ≡ as_str d
    → option_map (λ more. pairs ++ more) (with_string name d rest) ≡ option_map (λ more. (pairs ++ (name, value) ∷ []) ++ more) rest
string_turn pairs name value d (Some rest) is = rw (string_is d value is) (ap Some (sym (append_assoc pairs ((name, value) ∷ []) rest)))
string_turn pairs name value d None is = rw (string_is d value is) refl

-- ---- what is read, and of which texts

-- one more string before others
with_string_is : (name : Text) (d : Data) (more : Members) (rest : Option Pairs) (pairs : Pairs) →
    ((left : Pairs) → rest ≡ Some left → more ≡ members left)
    → with_string name d rest ≡ Some pairs → member name d more ≡ members pairs
with_string_is name (string value) more (Some left) pairs back is =
    let same : pairs ≡ (name, value) ∷ left = cc in rw (same, back left refl) refl
with_string_is name (string value) more None pairs back is = absurd cc
with_string_is name null more rest pairs back is = absurd cc
with_string_is name (boolean b) more rest pairs back is = absurd cc
with_string_is name (number n) more rest pairs back is = absurd cc
with_string_is name (array ds) more rest pairs back is = absurd cc
with_string_is name (object ms) more rest pairs back is = absurd cc

members_are : (found : Members) (pairs : Pairs) → strings_of found ≡ Some pairs → found ≡ members pairs
members_are no_members pairs is = let same : pairs ≡ [] = cc in rw same refl
members_are (member name d more) pairs is = with_string_is name d more (strings_of more) pairs (members_are more) is

value_is : (d : Data) (pairs : Pairs) → strings_in d ≡ Some pairs → d ≡ object (members pairs)
value_is (object found) pairs is = ap object (members_are found pairs is)
value_is null pairs is = absurd cc
value_is (boolean b) pairs is = absurd cc
value_is (number n) pairs is = absurd cc
value_is (string s) pairs is = absurd cc
value_is (array ds) pairs is = absurd cc

read_value : (r : Option Data) (pairs : Pairs) → option_and_then strings_in r ≡ Some pairs → r ≡ Some (object (members pairs))
read_value (Some d) pairs is = ap Some (value_is d pairs is)
read_value None pairs is = absurd cc

pub what_is_read : (text : Text) (pairs : Pairs) → read_event text ≡ Some pairs → IsUtf8 text × (read text ≡ Some (object (members pairs)))
unfolding read_event
what_is_read text pairs is = by (is_utf8 text) refl is
  where
    by : (b : Bool) → is_utf8 text ≡ b → cond b (option_and_then strings_in (read text)) None ≡ Some pairs →
        IsUtf8 text × (read text ≡ Some (object (members pairs)))
    by true utf8 is = (IsUtf8-from_is_utf8 text utf8, read_value (read text) pairs is)
    by false utf8 is = absurd cc

pub pairs_are_read : (text : Text) (pairs : Pairs) → IsUtf8 text → read text ≡ Some (object (members pairs)) → read_event text ≡ Some pairs
pairs_are_read text pairs utf8 is = value_is_read text (object (members pairs)) utf8 is ∙ strings-members pairs
