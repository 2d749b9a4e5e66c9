-- The block in front of some bytes, and what is wrong with them.
use Rattle.std.proofs.Common.{◌≡◌, ℕ, suc, ◌≤◌, ◌<◌, ◌+◌, Bool, true, false, List, [], ◌∷◌, ◌++◌, length, take, drop, nat_le, nat_lt}
use Rattle.std.proofs.Common.{Option, None, Some, refl, sym, ◌∙◌, ap, append_assoc, arith, length-append}
use Rattle.std.proofs.lemmas.Bool.{le-leb, leb-true, leb-false, lt-ltb, ltb-true, ltb-false}
use Rattle.std.proofs.lemmas.List.{take_at, drop_at, take-append-drop, length-take-le}
use Rattle.std.specs.Option.{option_map_or}
use Rattle.fs_frame.specs.Headers.{headers_of, declared_by}
use Rattle.fs_frame.specs.Block.{IsBlock, line_of, body_of, head_in_front, front_with, front_by, front_of, fault_by}
use Rattle.fs_frame.specs.Block.{fault_with, fault_of}
use Rattle.fs_frame.specs.declared.length.Declared.{Declared}
use Rattle.fs_frame.specs.declared.length.Declared.TheVariants.{Length, Malformed}
use Rattle.fs_frame.specs.declared.fault.Fault.{Fault}
use Rattle.fs_frame.specs.declared.fault.Fault.TheVariants.{TooLong}
use Rattle.fs_frame.proofs.FormLaws.{first_text-head, line_of-head, headers_of-append, headers_of-head, head_of-head, ShortHead}
use Rattle.fs_frame.proofs.FormLaws.{head_in_front-no_head, head_in_front-append, head_in_front-stands, head_in_front-grown}
use Rattle.fs_frame.proofs.FormLaws.{head_in_front-take}

-- ---- the parts of a block

-- the line of a block is that of its head
pub line_of-block : (block : List ℕ) (is : IsBlock block) → line_of block ≡ line_of is.head
unfolding line_of
line_of-block block is =
    ap line_of is.spelling ∙ first_text-head is.head is.body is.is_head ∙ sym (line_of-head is.head is.is_head)

-- its headers too
pub headers_of-block : (block : List ℕ) (is : IsBlock block) → headers_of block ≡ headers_of is.head
headers_of-block block is =
    ap headers_of is.spelling ∙ headers_of-append is.head is.body is.is_head ∙ sym (headers_of-head is.head is.is_head)

-- and its body is what stands behind that
pub body_of-block : (block : List ℕ) (is : IsBlock block) → body_of block ≡ is.body
unfolding body_of
body_of-block block is =
    ap body_of is.spelling
    ∙ ap (λ (found : Option (List ℕ)). option_map_or (λ head. drop (length head) (is.head ++ is.body)) found [])
    (head_of-head is.head is.body is.is_head) ∙ drop_at is.head is.body (length is.head) refl

-- ---- the block in front

-- nothing stands in front of no bytes
pub front_of-none : front_of [] ≡ None
unfolding front_of
front_of-none = rw (head_in_front-no_head [] refl) refl

-- so many bytes are taken where they are there and no more than a block may have
pub front_with-fits : (len : ℕ) (bytes : List ℕ) → len ≤ length bytes → len ≤ 65536 → front_with len bytes ≡ Some (take len bytes)
front_with-fits len bytes there fits =
    let few : length (take len bytes) ≤ 65536 = omega (arith, length-take-le len bytes there) in
    rw (le-leb len (length bytes) there, le-leb (length (take len bytes)) 65536 few) refl

-- a block is found in front, whatever follows it
pub front_of-append : (block more : List ℕ) → IsBlock block → front_of (block ++ more) ≡ Some block
unfolding front_of
front_of-append block more is = rw (found, is.declares) (front_with-fits len (block ++ more) there (omega (arith, same, is.within)) ∙ taken)
  where
    len : ℕ
    len = length is.head + length is.body

    same : len ≡ length block
    same = omega (arith, ap length is.spelling, length-append is.head is.body)

    there : len ≤ length (block ++ more)
    there = omega (arith, same, length-append block more)

    found : head_in_front (block ++ more) ≡ Some is.head
    found =
        ap (λ (bs : List ℕ). head_in_front (bs ++ more)) is.spelling ∙ ap head_in_front (append_assoc is.head is.body more)
        ∙ head_in_front-append is.head (is.body ++ more) is.is_head (omega (arith, same, is.within))

    taken : Some (take len (block ++ more)) ≡ Some block
    taken = ap (λ (bs : List ℕ). Some bs) (take_at block more len (sym same))

-- a block stands in front of the bytes
pub record StandsInFront (block bytes : List ℕ) : Type 0 where
  pub is_block : IsBlock block
  pub more : List ℕ
  pub split : bytes ≡ block ++ more

record FrontWith (len : ℕ) (bytes block : List ℕ) : Type 0 where
  there : len ≤ length bytes
  within : length block ≤ 65536
  taken : block ≡ take len bytes

front_with-some : (len : ℕ) (bytes block : List ℕ) → front_with len bytes ≡ Some block → FrontWith len bytes block
front_with-some len bytes block found =
    by (nat_le len (length bytes)) refl (nat_le (length (take len bytes)) 65536) refl
  where
    by : (there : Bool) → nat_le len (length bytes) ≡ there → (fits : Bool) → nat_le (length (take len bytes)) 65536 ≡ fits →
        FrontWith len bytes block
    by false few fits is = let no : None ≡ Some block = rw few at found in cc
    by true there false over = let no : None ≡ Some block = rw (there, over) at found in cc
    by true there true fits =
        let here : Some (take len bytes) ≡ Some block = rw (there, fits) at found in
        let same : take len bytes ≡ block = cc in
        record {
          there = leb-true len (length bytes) there;
          within = rw (← same) (leb-true (length (take len bytes)) 65536 fits);
          taken = sym same;
        }

-- so many bytes behind a front
pub take_behind : (xs ys : List ℕ) (n : ℕ) → take (length xs + n) (xs ++ ys) ≡ xs ++ take n ys
take_behind [] ys n = ap (λ (k : ℕ). take k ys) (omega arith)
take_behind (x ∷ xs) ys n =
    let len : length (x ∷ xs) + n ≡ suc (length xs + n) = omega arith in
    rw len (ap (λ (bs : List ℕ). x ∷ bs) (take_behind xs ys n))

-- where its head stands in front and so many bytes are there
stands_with : (bytes head block : List ℕ) (body : ℕ) → ShortHead head bytes → declared_by head ≡ Length body →
    FrontWith (length head + body) bytes block → StandsInFront block bytes
stands_with bytes head block body short declares front = record {
  is_block = record {
    head = head;
    body = take body short.more;
    is_head = short.is_head;
    declares = declares ∙ ap (λ (n : ℕ). Length n) (sym (length-take-le body short.more enough));
    spelling = front.taken ∙ ap (take (length head + body)) short.split ∙ take_behind head short.more body;
    within = front.within;
  };
  more = drop (length head + body) bytes;
  split = sym (take-append-drop (length head + body) bytes)
      ∙ ap (λ (bs : List ℕ). bs ++ drop (length head + body) bytes) (sym front.taken);
}
  where
    enough : body ≤ length short.more
    enough = omega (arith, front.there, ap length short.split, length-append head short.more)

-- what is found in front is a block, and stands there
pub front_of-stands : (bytes block : List ℕ) → front_of bytes ≡ Some block → StandsInFront block bytes
unfolding front_of
front_of-stands bytes block found = step (head_in_front bytes) refl
  where
    by : (head : List ℕ) (declared : Declared) → head_in_front bytes ≡ Some head → declared_by head ≡ declared →
        front_by declared (length head) bytes ≡ Some block → StandsInFront block bytes
    by head (Length body) is declares here =
        stands_with bytes head block body (head_in_front-stands bytes head is) declares
        (front_with-some (length head + body) bytes block here)
    by head Malformed is declares here = cc

    step : (head : Option (List ℕ)) → head_in_front bytes ≡ head → StandsInFront block bytes
    step None is = let no : None ≡ Some block = rw is at found in cc
    step (Some head) is = by head (declared_by head) is refl (rw is at found)

-- ---- what is wrong with bytes

-- a head with a good length within the limit, of which not all is there
pub front_of-open : (bytes head : List ℕ) (body : ℕ) → head_in_front bytes ≡ Some head → declared_by head ≡ Length body →
    length bytes < length head + body → front_of bytes ≡ None
unfolding front_of
front_of-open bytes head body is declares few = rw (is, declares) (by (nat_le (length head + body) (length bytes)) refl)
  where
    by : (b : Bool) → nat_le (length head + body) (length bytes) ≡ b → front_with (length head + body) bytes ≡ None
    by true there = absurd (omega (arith, few, leb-true (length head + body) (length bytes) there))
    by false less = rw less refl

-- where one is found no block stands in front
long_front : (len : ℕ) (bytes : List ℕ) → 65536 < len → front_with len bytes ≡ None
long_front len bytes over = by (front_with len bytes) refl
  where
    by : (found : Option (List ℕ)) → front_with len bytes ≡ found → found ≡ None
    by None is = refl
    by (Some block) is =
        let front : FrontWith len bytes block = front_with-some len bytes block is in
        absurd (omega (arith, over, front.within, ap length front.taken, length-take-le len bytes front.there))

pub front_of-fault : (bytes : List ℕ) (fault : Fault) → fault_of bytes ≡ Some fault → front_of bytes ≡ None
unfolding front_of fault_of
front_of-fault bytes fault wrong = step (head_in_front bytes) refl
  where
    by_len : (body len : ℕ) (b : Bool) → nat_lt 65536 (len + body) ≡ b → fault_by (Length body) len ≡ Some fault →
        front_by (Length body) len bytes ≡ None
    by_len body len true over here = long_front (len + body) bytes (ltb-true 65536 (len + body) over)
    by_len body len false fits here = let no : None ≡ Some fault = rw fits at here in cc

    by : (declared : Declared) (len : ℕ) → fault_by declared len ≡ Some fault → front_by declared len bytes ≡ None
    by (Length body) len here = by_len body len (nat_lt 65536 (len + body)) refl here
    by Malformed len here = refl

    step : (head : Option (List ℕ)) → head_in_front bytes ≡ head → front_of bytes ≡ None
    step None is = rw is refl
    step (Some head) is = rw is (by (declared_by head) (length head) (rw is at wrong))

-- it stays, whatever follows
pub fault_of-append : (bytes more : List ℕ) (fault : Fault) → fault_of bytes ≡ Some fault → fault_of (bytes ++ more) ≡ Some fault
unfolding fault_of
fault_of-append bytes more fault wrong = step (head_in_front bytes) refl
  where
    by : (b : Bool) → nat_lt 65536 (length bytes) ≡ b → head_in_front bytes ≡ None → fault_with None bytes ≡ Some fault →
        fault_of (bytes ++ more) ≡ Some fault
    by false few is here = let no : None ≡ Some fault = rw few at here in cc
    by true many is here =
        let over : 65536 < length bytes = ltb-true 65536 (length bytes) many in
        let same : head_in_front bytes ≡ head_in_front (bytes ++ more) =
        ap head_in_front (sym (take_at bytes more (length bytes) refl))
        ∙ head_in_front-take (length bytes) (bytes ++ more) (omega (arith, over)) in
        let told : Some (TooLong 65537) ≡ Some fault = rw many at here in
        let more_still : nat_lt 65536 (length (bytes ++ more)) ≡ true =
        lt-ltb 65536 (length (bytes ++ more)) (omega (arith, over, length-append bytes more)) in
        rw (← same, is, more_still) told

    step : (head : Option (List ℕ)) → head_in_front bytes ≡ head → fault_of (bytes ++ more) ≡ Some fault
    step None is = by (nat_lt 65536 (length bytes)) refl is (rw is at wrong)
    step (Some head) is = rw (head_in_front-grown bytes more head is) (rw is at wrong)

-- bytes with no block in front with which nothing is wrong are no more than a block may have
pub short_rest : (bytes : List ℕ) → front_of bytes ≡ None → fault_of bytes ≡ None → length bytes ≤ 65536
unfolding front_of fault_of
short_rest bytes nothing well = step (head_in_front bytes) refl
  where
    by_bytes : (b : Bool) → nat_lt 65536 (length bytes) ≡ b → fault_with None bytes ≡ None → length bytes ≤ 65536
    by_bytes false few here = ltb-false 65536 (length bytes) few
    by_bytes true many here = let no : Some (TooLong 65537) ≡ None = rw many at here in cc

    by_there : (len : ℕ) (b : Bool) → nat_le len (length bytes) ≡ b → len ≤ 65536 → front_with len bytes ≡ None → length bytes ≤ 65536
    by_there len false less fits here = omega (arith, fits, leb-false len (length bytes) less)
    by_there len true there fits here =
        let found : front_with len bytes ≡ Some (take len bytes) =
        front_with-fits len bytes (leb-true len (length bytes) there) fits in cc

    by_len : (body len : ℕ) (b : Bool) → nat_lt 65536 (len + body) ≡ b → fault_by (Length body) len ≡ None →
        front_by (Length body) len bytes ≡ None → length bytes ≤ 65536
    by_len body len true over here none = let no : Some (TooLong (len + body)) ≡ None = rw over at here in cc
    by_len body len false fits here none =
        by_there (len + body) (nat_le (len + body) (length bytes)) refl (ltb-false 65536 (len + body) fits) none

    by : (declared : Declared) (len : ℕ) → fault_by declared len ≡ None → front_by declared len bytes ≡ None → length bytes ≤ 65536
    by (Length body) len here none = by_len body len (nat_lt 65536 (len + body)) refl here none
    by Malformed len here none = cc

    step : (head : Option (List ℕ)) → head_in_front bytes ≡ head → length bytes ≤ 65536
    step None is = by_bytes (nat_lt 65536 (length bytes)) refl (rw is at well)
    step (Some head) is = by (declared_by head) (length head) (rw is at well) (rw is at nothing)
