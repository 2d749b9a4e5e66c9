-- Objects of strings.
use Rattle.std.proofs.Common.{◌≡◌, ℕ, ◌+◌, ◌<◌, ◌≤◌, length, get_or, take, map, [], ◌∷◌, ◌++◌, Some, Ordering, Less, Equal}
use Rattle.std.proofs.Common.{Greater, false, refl, sym, ap, ◌∙◌}
use Rattle.std.proofs.lemmas.List.{map_more, take_all}
use Rattle.std.specs.Ordering.{match_ordering}
use Rattle.serde_json.specs.Data.{Data, Members, put, string}
use Rattle.serde_json.specs.Written.{members_have_float}
use Rattle.fs_text.specs.Texts.{Text}
use Rattle.fs_event.specs.declared.event.Event.{Event}
use Rattle.fs_json.specs.Fields.{Pairs, shown_header, body_fields, fields}
use Rattle.fs_json.specs.Order.{text_cmp, with_field, with_fields, by_name}
use Rattle.fs_json.specs.Texts.{members, strings_of}

members-match_ordering : (o : Ordering) (a b c : Pairs) →
    match_ordering o (members a) (members b) (members c) ≡ members (match_ordering o a b c)
members-match_ordering Less a b c = refl
members-match_ordering Equal a b c = refl
members-match_ordering Greater a b c = refl

-- a field is put among the pairs as a member is among the members
pub members-with_field : (name value : Text) (pairs : Pairs) →
    put name (string value) (members pairs) ≡ members (with_field (name, value) pairs)
members-with_field name value [] = refl
members-with_field name value (pair ∷ pairs) = rw (members-with_field name value pairs) (members-match_ordering (text_cmp name pair.0) _ _ _)

pub put_is_with_field : (name value : Text) (d : Data) (old new : Members) (pairs : Pairs) → d ≡ string value → new ≡ put name d old →
    old ≡ members pairs
    → new ≡ members (with_field (name, value) pairs)
put_is_with_field name value d old new pairs shown is has = is ∙ rw (shown, has) (members-with_field name value pairs)

pub with_fields-append : (some more pairs : Pairs) → with_fields (some ++ more) pairs ≡ with_fields more (with_fields some pairs)
with_fields-append [] more pairs = refl
with_fields-append (field ∷ some) more pairs = with_fields-append some more (with_field field pairs)

-- one more header, where its name puts it
pub header_turn : (headers : Pairs) (i : ℕ) (header : Text × Text) → header ≡ get_or headers i header → i < length headers
    → with_fields (map shown_header (take (i + 1) headers)) [] ≡ with_field (shown_header header) (with_fields (map shown_header (take i headers)) [])
header_turn headers i header is inside =
    ap (λ fields. with_fields fields []) (map_more shown_header headers i header inside)
    ∙ with_fields-append (map shown_header (take i headers)) (shown_header (get_or headers i header) ∷ []) []
    ∙ ap (λ (h : Text × Text). with_field (shown_header h) (with_fields (map shown_header (take i headers)) [])) (sym is)

-- what tells of the body, behind all headers
pub all_fields : (event : Event) (i : ℕ) → length event.headers ≤ i
    → with_fields (body_fields event.body) (with_fields (map shown_header (take i event.headers)) []) ≡ by_name (fields event)
unfolding by_name fields
all_fields event i all =
    rw (take_all i event.headers all) (sym (with_fields-append (map shown_header event.headers) (body_fields event.body) []))

pub strings-members : (pairs : Pairs) → strings_of (members pairs) ≡ Some pairs
strings-members [] = refl
strings-members (pair ∷ pairs) = rw (strings-members pairs) refl

pub no_floats : (pairs : Pairs) → members_have_float (members pairs) ≡ false
no_floats [] = refl
no_floats (pair ∷ pairs) = no_floats pairs
