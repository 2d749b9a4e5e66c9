-- The text of fields by name is read as these fields.
use Rattle.std.proofs.Common.{◌≡◌, ◌<◌, ◌^◌, ◌==◌, [], ◌∷◌, ◌++◌, Bool, true, false, cond, Less, Greater, Option, Some, None, Ok}
use Rattle.std.proofs.Common.{option_map, option_and_then, All, codes, decimal, length, map, refl, sym, ap, ◌∙◌, subst, arith}
use Rattle.std.proofs.Common.{append_assoc, append-nil}
use Rattle.std.proofs.lemmas.Cmp.{nat_list_cmp_total}
use Rattle.std.proofs.lemmas.Fmt.{IsAscii-decimal}
use Rattle.std.proofs.lemmas.List.Elements.{All-nil, All-cons, All-append, All-map, All-weaker, recursion_from_All}
use Rattle.std.proofs.lemmas.List.Sorted.{All-permutation}
use Rattle.std.proofs.lemmas.Str.{IsUtf8-append, IsUtf8-from_ascii, IsUtf8-from_is_utf8}
use Rattle.std.specs.List.{AllByRecursion}
use Rattle.std.specs.List.Sorted.{IsStrictlySortedBy}
use Rattle.std.specs.Map.{keys_of}
use Rattle.std.specs.Ordering.{ordering_reverse}
use Rattle.std.specs.Str.{IsUtf8, is_utf8}
use Rattle.json.specs.Json as json
use Rattle.json.specs.Print.{quoted, ArePrintable}
use Rattle.json.specs.Lex.{tokens}
use Rattle.json.specs.Tree as tree
use Rattle.json.proofs.Printed.Tokens.{tokens-print}
use Rattle.json.proofs.Printed.Trees.{value-json_tokens}
use Rattle.json.proofs.Printed.Utf8.{IsUtf8-quoted, IsUtf8-are_ascii}
use Rattle.serde_json.specs.Data.{Data, number, array, object, Members, no_members, put}
use Rattle.serde_json.specs.Read.{read, number_of, of_json, of_items, of_members, max_depth}
use Rattle.serde_json.specs.Written.{outline, members_outline, blank_members, members_text, comma_if}
use Rattle.serde_json.proofs.Texts.{print-outline}
use Rattle.fs_text.specs.Escape.{escape}
use Rattle.fs_text.specs.Texts.{Text}
use Rattle.fs_text.proofs.EscapeLemmas.{clean_from_escaped}
use Rattle.fs_event.specs.declared.event.Event.{Event}
use Rattle.fs_json.specs.Fields.{Pairs, IsObject, shown, shown_header, body_fields, fields}
use Rattle.fs_json.specs.Order.{text_cmp, with_field, with_fields, by_name}
use Rattle.fs_json.specs.Texts.{members, text_of, json, read_event}
use Rattle.fs_json.proofs.WrittenLemmas.{members-with_field}
use Rattle.fs_json.proofs.OrderLemmas.{Ascend, IsInOrder, names, names-members, ascend_put, each_once, by_name_is_in_order}
use Rattle.fs_json.proofs.ReadLemmas.{what_is_read, pairs_are_read}
use Rattle.fs_json.proofs.ShownLemmas.{clean_is_utf8}

-- ---- the kit's tree of the pairs

blank_is : (pairs : Pairs) → blank_members (members_outline (members pairs)) ≡ members_outline (members pairs)
blank_is [] = refl
blank_is (pair ∷ pairs) = rw (blank_is pairs) refl

depth_is : (pairs : Pairs) → tree.members_depth (members_outline (members pairs)) ≡ 0
depth_is [] = refl
depth_is (pair ∷ pairs) = rw (depth_is pairs) refl

are_printable : (pairs : Pairs) → ArePrintable (tree.members_tokens (members_outline (members pairs)))
unfolding ArePrintable
are_printable [] = (tt, tt)
are_printable (pair ∷ pairs) = (tt, (tt, are_printable pairs))

whole_is_printable : (pairs : Pairs) → ArePrintable (tree.json_tokens (outline (object (members pairs))))
unfolding ArePrintable
whole_is_printable pairs = (tt, are_printable pairs)

-- ---- members are read one after another

members_are_put : (pairs done : Pairs) →
    of_members (members_outline (members pairs)) (members done) ≡ Some (members (with_fields pairs done))
members_are_put [] done = refl
members_are_put (pair ∷ pairs) done = rw (members-with_field pair.0 pair.1 done) (members_are_put pairs (with_field pair done))

below_middle : (name : Text) (done : Pairs) (pair : Text × Text) (pairs : Pairs) →
    AllByRecursion (λ other. text_cmp name other ≡ Less) (keys_of (done ++ pair ∷ pairs)) → text_cmp name pair.0 ≡ Less
below_middle name [] pair pairs all = all.0
below_middle name (first ∷ done) pair pairs all = below_middle name done pair pairs all.1

goes_last : (done : Pairs) (pair : Text × Text) (pairs : Pairs) → IsInOrder (done ++ pair ∷ pairs) →
    with_field pair done ≡ done ++ pair ∷ []
unfolding IsStrictlySortedBy
goes_last [] pair pairs are = refl
goes_last (first ∷ done) pair pairs are =
    let above : text_cmp pair.0 first.0 ≡ Greater =
    nat_list_cmp_total.antisymm pair.0 first.0 ∙ ap ordering_reverse (below_middle first.0 done pair pairs are.0) in
    rw above (ap (λ more. first ∷ more) (goes_last done pair pairs are.1))

stay : (pairs done : Pairs) → IsInOrder (done ++ pairs) → with_fields pairs done ≡ done ++ pairs
stay [] done are = sym (append-nil done)
stay (pair ∷ pairs) done are =
    let seam : (done ++ pair ∷ []) ++ pairs ≡ done ++ pair ∷ pairs = append_assoc done (pair ∷ []) pairs in
    ap (with_fields pairs) (goes_last done pair pairs are) ∙ stay pairs (done ++ pair ∷ []) (subst IsInOrder (sym seam) are) ∙ seam

tokens_are : (pairs : Pairs) → tokens (text_of pairs) ≡ tree.json_tokens (outline (object (members pairs)))
tokens_are pairs = ap tokens (sym (print-outline (object (members pairs)))) ∙ tokens-print _ (whole_is_printable pairs)

pub read_is : (pairs : Pairs) → IsInOrder pairs → read (text_of pairs) ≡ Some (object (members pairs))
read_is pairs are =
    let j = outline (object (members pairs)) in
    let value =
    ap (json.value max_depth) (tokens_are pairs ∙ sym (append-nil (tree.json_tokens j)))
    ∙ value-json_tokens j max_depth [] (omega (arith, depth_is pairs)) in
    ap (λ read. option_and_then of_json (option_and_then (λ p. json.if_last p.0 p.1) read)) value
    ∙ ap (option_map object) (members_are_put pairs [] ∙ ap (λ p. Some (members p)) (stay pairs [] are))

-- ---- the text is UTF-8

abbrev pub IsPairUtf8 : Text × Text → Type 0
IsPairUtf8 pair = IsUtf8 pair.0 × IsUtf8 pair.1

comma_is_utf8 : (later : Bool) → IsUtf8 (comma_if later)
comma_is_utf8 true = IsUtf8-are_ascii (44 ∷ []) refl
comma_is_utf8 false = IsUtf8-are_ascii [] refl

members_are_utf8 : (later : Bool) (pairs : Pairs) → AllByRecursion IsPairUtf8 pairs → IsUtf8 (members_text later (members pairs))
members_are_utf8 later [] all = IsUtf8-are_ascii (125 ∷ []) refl
members_are_utf8 later (pair ∷ pairs) all =
    let value = IsUtf8-append (quoted pair.1) _ (IsUtf8-quoted pair.1 all.0.1) (members_are_utf8 true pairs all.1) in
    let behind_name = IsUtf8-append (58 ∷ []) _ (IsUtf8-are_ascii (58 ∷ []) refl) value in
    IsUtf8-append _ _ (comma_is_utf8 later) (IsUtf8-append _ _ (IsUtf8-quoted pair.0 all.0.0) behind_name)

pub text_is_utf8 : (pairs : Pairs) → All IsPairUtf8 pairs → IsUtf8 (text_of pairs)
text_is_utf8 pairs all =
    IsUtf8-append (123 ∷ []) _ (IsUtf8-are_ascii (123 ∷ []) refl)
    (members_are_utf8 false pairs (recursion_from_All IsPairUtf8 pairs all))

-- ---- the text of an event

shown_is_utf8 : (text : Text) → IsUtf8 (shown text)
unfolding shown
shown_is_utf8 text = by (is_utf8 text) refl
  where
    by : (b : Bool) → is_utf8 text ≡ b → IsUtf8 (cond b text (escape text))
    by true is = IsUtf8-from_is_utf8 text is
    by false is = clean_is_utf8 (escape text) (clean_from_escaped {E = ⊥} (Ok (escape text)) text refl)

fields_are_utf8 : (event : Event) → IsObject event → length event.body < 2 ^ 64 → All IsPairUtf8 (fields event)
unfolding fields body_fields
fields_are_utf8 event is small =
    All-append IsPairUtf8 (map shown_header event.headers) _
    (All-map IsPairUtf8 shown_header event.headers
    (All-weaker (λ (header : Text × Text). IsUtf8 header.0) (λ (header : Text × Text). IsPairUtf8 (shown_header header))
    (λ header utf8. (utf8, shown_is_utf8 header.1)) event.headers is.utf8))
    (by (length event.body == 0))
  where
    by : (b : Bool) →
        All IsPairUtf8 (cond b [] ((codes "Content-Length", decimal (length event.body)) ∷ (codes "_body", shown event.body) ∷ []))
    by true = All-nil IsPairUtf8
    by false =
        let len : IsPairUtf8 (codes "Content-Length", decimal (length event.body)) =
        (IsUtf8-are_ascii (codes "Content-Length") refl, IsUtf8-from_ascii _ (IsAscii-decimal (length event.body) small)) in
        let body : IsPairUtf8 (codes "_body", shown event.body) =
        (IsUtf8-are_ascii (codes "_body") refl, shown_is_utf8 event.body) in
        All-cons IsPairUtf8 (codes "Content-Length", decimal (length event.body)) ((codes "_body", shown event.body) ∷ []) len
        (All-cons IsPairUtf8 (codes "_body", shown event.body) [] body (All-nil IsPairUtf8))

pub json_is_read : (event : Event) → IsObject event → length event.body < 2 ^ 64 → read_event (json event) ≡ Some (by_name (fields event))
unfolding json
json_is_read event is small =
    let pairs = by_name (fields event) in
    let utf8 = All-permutation IsPairUtf8 (fields event) pairs (each_once event is) (fields_are_utf8 event is small) in
    pairs_are_read (text_of pairs) pairs (text_is_utf8 pairs utf8) (read_is pairs (by_name_is_in_order (fields event)))

-- ---- what is read ascends

ascend_put_all : (read : json.Members) (found last : Members) → Ascend (names found) → of_members read found ≡ Some last →
    Ascend (names last)
ascend_put_all json.no_members found last are is = let same : found ≡ last = cc in subst (λ ms. Ascend (names ms)) same are
ascend_put_all (json.member name j read) found last are is =
    by (of_json j) (λ d. ascend_put_all read (put name d found) last (ascend_put name d found are)) is
  where
    by : (r : Option Data) → ((d : Data) → of_members read (put name d found) ≡ Some last → Ascend (names last))
        → option_and_then (λ d. of_members read (put name d found)) r ≡ Some last → Ascend (names last)
    by (Some d) behind is = behind d is
    by None behind is = absurd cc

object_ascends : (r : Option Members) (found : Members) → ((last : Members) → r ≡ Some last → Ascend (names last)) →
    option_map object r ≡ Some (object found) → Ascend (names found)
object_ascends (Some last) found are is = let same : last ≡ found = cc in subst (λ ms. Ascend (names ms)) same (are last refl)
object_ascends None found are is = absurd cc

makes_none : {A : Type 0} (make : A → Data) (r : Option A) (found : Members) → ((a : A) → make a ≡ object found → ⊥) →
    option_map make r ≡ Some (object found) → ⊥
makes_none make (Some a) found other is = let same : make a ≡ object found = cc in other a same
makes_none make None found other is = absurd cc

value_ascends : (j : json.Json) (found : Members) → of_json j ≡ Some (object found) → Ascend (names found)
unfolding IsStrictlySortedBy
value_ascends json.null found is = absurd cc
value_ascends (json.boolean b) found is = absurd cc
value_ascends (json.number s) found is = absurd (makes_none number (number_of s) found (λ n e. cc) is)
value_ascends (json.string s) found is = absurd cc
value_ascends (json.array js) found is = absurd (makes_none array (of_items js) found (λ ds e. cc) is)
value_ascends (json.object ms) found is = object_ascends (of_members ms no_members) found (λ last. ascend_put_all ms no_members last tt) is

pub read_ascends : (text : Text) (found : Members) → read text ≡ Some (object found) → Ascend (names found)
read_ascends text found is = by (option_and_then (λ p. json.if_last p.0 p.1) (json.value max_depth (tokens text))) is
  where
    by : (r : Option json.Json) → option_and_then of_json r ≡ Some (object found) → Ascend (names found)
    by (Some j) is = value_ascends j found is
    by None is = absurd cc

pub pairs_ascend : (text : Text) (pairs : Pairs) → read_event text ≡ Some pairs → IsInOrder pairs
pairs_ascend text pairs is = subst Ascend (names-members pairs) (read_ascends text (members pairs) (what_is_read text pairs is).1)
