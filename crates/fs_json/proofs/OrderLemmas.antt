-- Fields by name: each once, and in order.
use Rattle.std.proofs.Common.{◌≡◌, List, [], ◌∷◌, ◌++◌, Bool, true, false, Ordering, Less, Equal, Greater, is_eq, refl, sym, ap}
use Rattle.std.proofs.Common.{◌∙◌, subst, append-nil, cond, codes, decimal, length, ◌==◌, map}
use Rattle.std.proofs.lemmas.Cmp.{nat_list_cmp_total}
use Rattle.std.proofs.lemmas.List.{map-append}
use Rattle.std.proofs.lemmas.List.Sorted.{IsPermutation-refl, IsPermutation-sym, IsPermutation-cons, IsPermutation-trans}
use Rattle.std.proofs.lemmas.List.Sorted.{IsPermutation-map, IsPermutation-append_right, IsPermutation-middle}
use Rattle.std.proofs.lemmas.List.Sorted.{IsPermutation-append_comm, IsPermutation-append_left}
use Rattle.std.proofs.lemmas.Map.Keys.{IsDistinct-IsPermutation, IsDistinct-head}
use Rattle.std.proofs.lemmas.Map.Text.{is_eq-slice_cmp}
use Rattle.std.specs.List.{AllByRecursion, IsDistinct}
use Rattle.std.specs.List.Sorted.{IsPermutation, IsStrictlySortedBy}
use Rattle.std.specs.Map.{keys_of}
use Rattle.std.specs.Ordering.{match_ordering, ordering_reverse}
use Rattle.std.specs.Str.{bytes_eq}
use Rattle.serde_json.specs.Data.{Data, string, Members, no_members, member, put}
use Rattle.fs_text.specs.Texts.{Text}
use Rattle.fs_event.specs.declared.event.Event.{Event}
use Rattle.fs_json.specs.Fields.{Pairs, IsObject, shown, shown_header, body_fields, fields}
use Rattle.fs_json.specs.Texts.{members}
use Rattle.fs_json.proofs.WrittenLemmas.{members-with_field}
use Rattle.fs_json.specs.Order.{text_cmp, with_field, with_fields, by_name}

-- ---- in order

-- the names of members
abbrev pub names : Members → List Text
names no_members = []
names (member name d more) = name ∷ names more

-- a text is below all names
abbrev IsBelow : Text → List Text → Type 0
IsBelow name others = AllByRecursion (λ other. text_cmp name other ≡ Less) others

abbrev pub Ascend : List Text → Type 0
Ascend others = IsStrictlySortedBy text_cmp others

abbrev pub IsInOrder : Pairs → Type 0
IsInOrder pairs = Ascend (keys_of pairs)

below_more : (name next : Text) (others : List Text) → text_cmp name next ≡ Less → IsBelow next others → IsBelow name others
below_more name next [] less all = tt
below_more name next (other ∷ others) less all = (nat_list_cmp_total.trans name next other less all.0, below_more name next others less all.1)

below_put : (low name : Text) (d : Data) (found : Members) → text_cmp low name ≡ Less → IsBelow low (names found) →
    IsBelow low (names (put name d found))
below_put low name d no_members here all = (here, tt)
below_put low name d (member other e more) here all = by (text_cmp name other) (below_put low name d more here all.1)
  where
    by : (o : Ordering) → IsBelow low (names (put name d more))
        → IsBelow low (names (match_ordering o (member name d (member other e more)) (member other d more) (member other e (put name d more))))
    by Less behind = (here, all)
    by Equal behind = all
    by Greater behind = (all.0, behind)

pub ascend_put : (name : Text) (d : Data) (found : Members) → Ascend (names found) → Ascend (names (put name d found))
unfolding IsStrictlySortedBy
ascend_put name d no_members are = (tt, tt)
ascend_put name d (member other e more) are = by (text_cmp name other) refl (ascend_put name d more are.1)
  where
    by : (o : Ordering) → text_cmp name other ≡ o → Ascend (names (put name d more))
        → Ascend (names (match_ordering o (member name d (member other e more)) (member other d more) (member other e (put name d more))))
    by Less is behind = ((is, below_more name other (names more) is are.0), are)
    by Equal is behind = are
    by Greater is behind =
        let above : text_cmp other name ≡ Less = nat_list_cmp_total.antisymm other name ∙ ap ordering_reverse is in
        (below_put other name d more above are.0, behind)

pub names-members : (pairs : Pairs) → names (members pairs) ≡ keys_of pairs
names-members [] = refl
names-members (pair ∷ pairs) = ap (λ others. pair.0 ∷ others) (names-members pairs)

order_with : (field : Text × Text) (pairs : Pairs) → IsInOrder pairs → IsInOrder (with_field field pairs)
order_with field pairs are =
    subst Ascend (ap names (members-with_field field.0 field.1 pairs) ∙ names-members (with_field field pairs))
    (ascend_put field.0 (string field.1) (members pairs) (subst Ascend (sym (names-members pairs)) are))

order_with_all : (fields pairs : Pairs) → IsInOrder pairs → IsInOrder (with_fields fields pairs)
order_with_all [] pairs are = are
order_with_all (field ∷ fields) pairs are = order_with_all fields (with_field field pairs) (order_with field pairs are)

pub by_name_is_in_order : (fields : Pairs) → IsInOrder (by_name fields)
unfolding by_name IsStrictlySortedBy
by_name_is_in_order fields = order_with_all fields [] tt

-- ---- each once

-- a text differs from all names
abbrev IsApart : Text → Pairs → Type 0
IsApart name pairs = AllByRecursion (λ other. bytes_eq name other ≡ false) (keys_of pairs)

abbrev AreApart : Pairs → Type 0
AreApart pairs = IsDistinct bytes_eq (keys_of pairs)

not_equal : (a b : Text) → bytes_eq a b ≡ false → text_cmp a b ≡ Equal → ⊥
not_equal a b apart equal = let same : true ≡ false = sym (ap is_eq equal) ∙ is_eq-slice_cmp a b ∙ apart in cc

pub with_field_moves : (field : Text × Text) (pairs : Pairs) → IsApart field.0 pairs →
    IsPermutation (field ∷ pairs) (with_field field pairs)
with_field_moves field [] apart = IsPermutation-refl _
with_field_moves field (other ∷ pairs) apart = by (text_cmp field.0 other.0) refl (with_field_moves field pairs apart.1)
  where
    by : (o : Ordering) → text_cmp field.0 other.0 ≡ o → IsPermutation (field ∷ pairs) (with_field field pairs)
        → IsPermutation (field ∷ other ∷ pairs) (match_ordering o (field ∷ other ∷ pairs) ((other.0, field.1) ∷ pairs) (other ∷ with_field field pairs))
    by Less is more = IsPermutation-refl _
    by Equal is more = absurd (not_equal field.0 other.0 apart.0 is)
    by Greater is more =
        let swapped =
        IsPermutation-append_left pairs (field ∷ other ∷ []) (other ∷ field ∷ []) (IsPermutation-append_comm (field ∷ []) (other ∷ [])) in
        IsPermutation-trans _ (other ∷ field ∷ pairs) _ swapped (IsPermutation-cons other _ _ more)

apart_behind : (name : Text) (some pairs : Pairs) → IsApart name (some ++ pairs) → IsApart name pairs
apart_behind name [] pairs apart = apart
apart_behind name (pair ∷ some) pairs apart = apart_behind name some pairs apart.1

is_eq-reverse : (o : Ordering) → is_eq (ordering_reverse o) ≡ is_eq o
is_eq-reverse Less = refl
is_eq-reverse Equal = refl
is_eq-reverse Greater = refl

bytes_eq_flips : (a b : Text) → bytes_eq a b ≡ bytes_eq b a
bytes_eq_flips a b =
    sym (is_eq-slice_cmp a b) ∙ ap is_eq (nat_list_cmp_total.antisymm a b) ∙ is_eq-reverse (text_cmp b a) ∙ is_eq-slice_cmp b a

with_fields_move : (fields pairs : Pairs) → AreApart (fields ++ pairs) → IsPermutation (fields ++ pairs) (with_fields fields pairs)
with_fields_move [] pairs apart = IsPermutation-refl pairs
with_fields_move (field ∷ fields) pairs apart =
    let head = apart_behind field.0 fields pairs (IsDistinct-head bytes_eq field.0 (keys_of (fields ++ pairs)) apart) in
    let middle = IsPermutation-sym _ _ (IsPermutation-middle fields field pairs) in
    let moved = IsPermutation-append_right fields _ _ (with_field_moves field pairs head) in
    let first = IsPermutation-trans _ _ _ middle moved in
    let names = IsPermutation-map (λ (pair : Text × Text). pair.0) _ _ first in
    IsPermutation-trans _ _ _ first
    (with_fields_move fields (with_field field pairs) (IsDistinct-IsPermutation bytes_eq bytes_eq_flips _ _ names apart))

-- ---- the fields of an event

names-shown : (headers : Pairs) → keys_of (map shown_header headers) ≡ keys_of headers
names-shown [] = refl
names-shown (header ∷ headers) = ap (λ names. header.0 ∷ names) (names-shown headers)

front_is_apart : (some more : List Text) → IsDistinct bytes_eq (some ++ more) → IsDistinct bytes_eq some
unfolding IsDistinct
front_is_apart [] more apart = tt
front_is_apart (name ∷ some) more apart = (front_below some more apart.0, front_is_apart some more apart.1)
  where
    front_below : (some more : List Text) → AllByRecursion (λ other. bytes_eq name other ≡ false) (some ++ more) →
        AllByRecursion (λ other. bytes_eq name other ≡ false) some
    front_below [] more all = tt
    front_below (other ∷ some) more all = (all.0, front_below some more all.1)

fields_are_apart : (event : Event) → IsObject event → AreApart (fields event)
unfolding fields body_fields
fields_are_apart event is =
    subst (IsDistinct bytes_eq)
    (sym (map-append (λ (pair : Text × Text). pair.0) (map shown_header event.headers) (body_fields event.body)))
    (by (length event.body == 0))
  where
    by : (b : Bool) →
        IsDistinct bytes_eq (keys_of (map shown_header event.headers) ++ keys_of (cond b [] ((codes "Content-Length", decimal (length event.body)) ∷ (codes "_body", shown event.body) ∷ [])))
    by true = rw (append-nil, names-shown event.headers) (front_is_apart (keys_of event.headers) _ is.distinct)
    by false = rw (names-shown event.headers) is.distinct

pub each_once : (event : Event) → IsObject event → IsPermutation (fields event) (by_name (fields event))
unfolding by_name
each_once event is =
    subst (λ pairs. IsPermutation pairs (by_name (fields event))) (append-nil (fields event))
    (with_fields_move (fields event) [] (subst AreApart (sym (append-nil (fields event))) (fields_are_apart event is)))
