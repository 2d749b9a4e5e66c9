-- What a value says is what is read of it, and what is read of it is what it says.
use Rattle.std.proofs.Common.{◌≡◌, ℕ, zero, suc, ◌+◌, take, drop, ◌<◌, Bool, true, false, cond, ◌||◌, ◌⊎◌, inl, inr, ◌==◌, List, [], ◌∷◌}
use Rattle.std.proofs.Common.{◌++◌, length, Option, None, Some, Ok, Err, refl, sym, ap, ◌∙◌, subst, append_assoc, append-nil, encode_utf8}
use Rattle.std.proofs.Common.{arith, length-append}
use Rattle.std.specs.List.{position_or_len, list_any}
use Rattle.std.proofs.lemmas.Bool.{eqb-true}
use Rattle.fs_text.specs.Words.{is_byte, halves_of}
use Rattle.fs_text.proofs.Cuts.{cut_behind, halved}
use Rattle.fs_xml.specs.declared.stop.ValueFault.TheVariants.{Raw}
use Rattle.fs_xml.specs.Results.{◌>>=◌}
use Rattle.fs_xml.specs.Bytes.{offset}
use Rattle.fs_xml.specs.Entities.{entity, is_special, Decoded, character_added, entity_on, entity_at, special_at, value_step, Values}
use Rattle.fs_xml.specs.Entities.{value_on, value_within, value_text}
use Rattle.fs_spelling.specs.Values.{SpellsValue, Nothing, Plain, Mark, Entity}

-- ---- one step

-- a plain byte is the text so far's
pub plain_step : (raw : Bool) (end : ℕ) (so_far : List ℕ) (b : ℕ) (value : List ℕ) → is_special b ≡ false
    → value_step raw end so_far (b ∷ value) ≡ value_step raw end (so_far ++ b ∷ []) value
unfolding value_step
plain_step raw end so_far b value plain =
    let n = position_or_len is_special value in
    let offset_is : position_or_len is_special (b ∷ value) ≡ suc n = rw plain (omega arith) in
    ap (λ k. special_at raw end (so_far ++ take k (b ∷ value)) (drop k (b ∷ value))) offset_is
    ∙ ap (λ text. special_at raw end text (drop n value)) (sym (append_assoc so_far (b ∷ []) (take n value)))

-- `&` and `<` are read at once
pub special_step : (raw : Bool) (end : ℕ) (so_far : List ℕ) (b : ℕ) (value : List ℕ) → is_special b ≡ true
    → value_step raw end so_far (b ∷ value) ≡ special_at raw end so_far (b ∷ value)
unfolding value_step
special_step raw end so_far b value special =
    let offset_is : position_or_len is_special (b ∷ value) ≡ 0 = rw special refl in
    ap (λ k. special_at raw end (so_far ++ take k (b ∷ value)) (drop k (b ∷ value))) offset_is
    ∙ ap (λ text. special_at raw end text (b ∷ value)) (append-nil so_far)

-- nothing is left
pub last_step : (raw : Bool) (end : ℕ) (so_far : List ℕ) → value_step raw end so_far [] ≡ Ok (so_far ++ [], None)
unfolding value_step special_at
last_step raw end so_far = refl

-- ---- what a value says is read

pub followed : (more : ℕ) (raw : Bool) (end : ℕ) (so_far value : List ℕ) (step : Decoded) → value_step raw end so_far value ≡ step
    → value_within (suc more) raw end so_far value ≡ (step >>= λ x. value_on (λ next rest. value_within more raw end next rest) x)
followed more raw end so_far value step e = ap (λ s. s >>= λ x. value_on (λ next rest. value_within more raw end next rest) x) e

-- the text behind an entity
pub entity_step : (raw : Bool) (end : ℕ) (so_far name value : List ℕ) (c : ℕ) → list_any (is_byte 59) name ≡ false → entity name ≡ Some c
    → value_step raw end so_far (38 ∷ (name ++ (59 ∷ value))) ≡ Ok (so_far ++ encode_utf8 c, Some value)
unfolding special_at entity_at
entity_step raw end so_far name value c plain is =
    let at = offset end (38 ∷ (name ++ (59 ∷ value))) in
    special_step raw end so_far 38 (name ++ (59 ∷ value)) refl
    ∙ ap (entity_on so_far at) (cut_behind 59 name value plain)
    ∙ ap (λ found. character_added so_far at found value) is

pub spelt_value : (raw : Bool) (value text : List ℕ) → SpellsValue raw value text → (more end : ℕ) (so_far : List ℕ) → length value < more
    → value_within more raw end so_far value ≡ Ok (so_far ++ text)
unfolding special_at
spelt_value raw value text spelt zero end so_far enough = absurd (omega arith)
spelt_value raw value text (Nothing _) (suc more) end so_far enough =
    followed more raw end so_far [] (Ok (so_far ++ [], None)) (last_step raw end so_far)
spelt_value raw value text (Plain _ b rest more_text plain spelt) (suc more) end so_far enough =
    followed more raw end so_far (b ∷ rest) (value_step raw end (so_far ++ b ∷ []) rest) (plain_step raw end so_far b rest plain)
    ∙ spelt_value raw rest more_text spelt (suc more) end (so_far ++ b ∷ []) (omega arith)
    ∙ ap Ok (append_assoc so_far (b ∷ []) more_text)
spelt_value raw value text (Mark rest more_text spelt) (suc more) end so_far enough =
    followed more true end so_far (60 ∷ rest) (Ok (so_far ++ 60 ∷ [], Some rest)) (special_step true end so_far 60 rest refl)
    ∙ spelt_value true rest more_text spelt more end (so_far ++ 60 ∷ []) (omega arith)
    ∙ ap Ok (append_assoc so_far (60 ∷ []) more_text)
spelt_value raw value text (Entity _ name rest more_text c plain is spelt) (suc more) end so_far enough =
    followed more raw end so_far (38 ∷ (name ++ (59 ∷ rest))) (Ok (so_far ++ encode_utf8 c, Some rest))
    (entity_step raw end so_far name rest c plain is)
    ∙ spelt_value raw rest more_text spelt more end (so_far ++ encode_utf8 c) (omega (arith, length-append name (59 ∷ rest)))
    ∙ ap Ok (append_assoc so_far (encode_utf8 c) more_text)

-- ---- what is read is said by the value

-- the value says what stands behind the text so far
pub specials : (b : ℕ) → is_special b ≡ true → (b ≡ 38) ⊎ (b ≡ 60)
specials b special = by (b == 38) (b == 60) (eqb-true b 38) (eqb-true b 60) special
  where
    by : (s t : Bool) → (s ≡ true → b ≡ 38) → (t ≡ true → b ≡ 60) → (s || t) ≡ true → (b ≡ 38) ⊎ (b ≡ 60)
    by true t one other h = inl (one refl)
    by false true one other h = inr (other refl)
    by false false one other h = absurd (cc)

record Said (raw : Bool) (so_far value whole : List ℕ) : Type 0 where
  pub text : List ℕ
  pub whole_is : whole ≡ so_far ++ text
  pub spelt : SpellsValue raw value text

Reads : ℕ → Bool → ℕ → List ℕ → Type 0
Reads more raw end value = (so_far whole : List ℕ) → value_within more raw end so_far value ≡ Ok whole → Said raw so_far value whole

said_plain : (raw : Bool) (so_far : List ℕ) (b : ℕ) (value whole : List ℕ) → is_special b ≡ false →
    Said raw (so_far ++ b ∷ []) value whole → Said raw so_far (b ∷ value) whole
said_plain raw so_far b value whole plain said = record {
  text = b ∷ said.text;
  whole_is = said.whole_is ∙ append_assoc so_far (b ∷ []) said.text;
  spelt = Plain raw b value said.text plain said.spelt;
}

said_mark : (so_far value whole : List ℕ) → Said true (so_far ++ 60 ∷ []) value whole → Said true so_far (60 ∷ value) whole
said_mark so_far value whole said = record {
  text = 60 ∷ said.text;
  whole_is = said.whole_is ∙ append_assoc so_far (60 ∷ []) said.text;
  spelt = Mark value said.text said.spelt;
}

said_entity : (raw : Bool) (so_far name value whole : List ℕ) (c : ℕ) → list_any (is_byte 59) name ≡ false → entity name ≡ Some c
    → Said raw (so_far ++ encode_utf8 c) value whole → Said raw so_far (38 ∷ (name ++ (59 ∷ value))) whole
said_entity raw so_far name value whole c plain is said = record {
  text = encode_utf8 c ++ said.text;
  whole_is = said.whole_is ∙ append_assoc so_far (encode_utf8 c) said.text;
  spelt = Entity raw name value said.text c plain is said.spelt;
}

abbrev pub Onward : ℕ → Bool → ℕ → Decoded → Values
Onward more raw end step = step >>= λ x. value_on (λ next rest. value_within more raw end next rest) x

-- an `&` that is read is an entity
from_character : (more : ℕ) (raw : Bool) (end : ℕ) (so_far name value whole : List ℕ) (found : Option ℕ) → entity name ≡ found →
    list_any (is_byte 59) name ≡ false
    → ((rest : List ℕ) → Reads more raw end rest)
    → Onward more raw end (character_added so_far (offset end (38 ∷ (name ++ (59 ∷ value)))) found value) ≡ Ok whole
    → Said raw so_far (38 ∷ (name ++ (59 ∷ value))) whole
unfolding Reads
from_character more raw end so_far name value whole None is plain again e = absurd (cc)
from_character more raw end so_far name value whole (Some c) is plain again e =
    said_entity raw so_far name value whole c plain is (again value (so_far ++ encode_utf8 c) whole e)

from_halves : (more : ℕ) (raw : Bool) (end : ℕ) (so_far value whole : List ℕ) (found : Option (List ℕ × List ℕ)) →
    halves_of 59 value ≡ found
    → ((rest : List ℕ) → Reads more raw end rest) → Onward more raw end (entity_on so_far (offset end (38 ∷ value)) found) ≡ Ok whole
    → Said raw so_far (38 ∷ value) whole
from_halves more raw end so_far value whole None is again e = absurd (cc)
from_halves more raw end so_far value whole (Some x) is again e =
    let parts = halved 59 value x.0 x.1 is in
    let P : List ℕ → Type 0 = λ v. Onward more raw end (entity_on so_far (offset end (38 ∷ v)) (Some x)) ≡ Ok whole in
    let Q : List ℕ → Type 0 = λ v. Said raw so_far (38 ∷ v) whole in
    subst Q (sym parts.1) (from_character more raw end so_far x.0 x.1 whole (entity x.0) refl parts.0 again (subst P parts.1 e))

from_special : (more : ℕ) (raw : Bool) (end : ℕ) (so_far : List ℕ) (b : ℕ) (value whole : List ℕ) → is_special b ≡ true →
    ((rest : List ℕ) → Reads more raw end rest)
    → Onward more raw end (special_at raw end so_far (b ∷ value)) ≡ Ok whole → Said raw so_far (b ∷ value) whole
unfolding special_at entity_at Reads
from_special more raw end so_far b value whole special again e = by (specials b special)
  where
    by_mark : (r : Bool) → ((rest : List ℕ) → Reads more r end rest) →
        Onward more r end (cond r (Ok (so_far ++ 60 ∷ [], Some value)) (Err Raw)) ≡ Ok whole → Said r so_far (60 ∷ value) whole
    by_mark true again e = said_mark so_far value whole (again value (so_far ++ 60 ∷ []) whole e)
    by_mark false again e = absurd (cc)

    by : (b ≡ 38) ⊎ (b ≡ 60) → Said raw so_far (b ∷ value) whole
    by (inl is) =
        let P : ℕ → Type 0 = λ c. Onward more raw end (special_at raw end so_far (c ∷ value)) ≡ Ok whole in
        let Q : ℕ → Type 0 = λ c. Said raw so_far (c ∷ value) whole in
        subst Q (sym is) (from_halves more raw end so_far value whole (halves_of 59 value) refl again (subst P is e))
    by (inr is) =
        let P : ℕ → Type 0 = λ c. Onward more raw end (special_at raw end so_far (c ∷ value)) ≡ Ok whole in
        let Q : ℕ → Type 0 = λ c. Said raw so_far (c ∷ value) whole in
        subst Q (sym is) (by_mark raw again (subst P is e))

-- bytes up to the first special one, and that
said_on : (more : ℕ) (raw : Bool) (end : ℕ) → ((rest : List ℕ) → Reads more raw end rest) → (value : List ℕ) →
    Reads (suc more) raw end value
unfolding Reads
said_on more raw end again [] so_far whole e =
    let is : Ok (so_far ++ []) ≡ Ok whole =
    sym (followed more raw end so_far [] (Ok (so_far ++ [], None)) (last_step raw end so_far)) ∙ e in
    let same : so_far ++ [] ≡ whole = cc in
    record { text = []; whole_is = sym same; spelt = Nothing raw }
said_on more raw end again (b ∷ value) so_far whole e =
    by (is_special b) refl (λ more_so_far h. said_on more raw end again value more_so_far whole h)
  where
    by : (t : Bool) → is_special b ≡ t → ((next : List ℕ) → value_within (suc more) raw end next value ≡ Ok whole →
        Said raw next value whole) → Said raw so_far (b ∷ value) whole
    by false plain on =
        said_plain raw so_far b value whole plain
        (on (so_far ++ b ∷ []) (sym (followed more raw end so_far (b ∷ value) (value_step raw end (so_far ++ b ∷ []) value)
        (plain_step raw end so_far b value plain)) ∙ e))
    by true special on =
        from_special more raw end so_far b value whole special again
        (sym (followed more raw end so_far (b ∷ value) (special_at raw end so_far (b ∷ value))
        (special_step raw end so_far b value special)) ∙ e)

said_value : (more : ℕ) (raw : Bool) (end : ℕ) (value : List ℕ) → Reads more raw end value
unfolding Reads
said_value zero raw end value so_far whole e = absurd (cc)
said_value (suc more) raw end value so_far whole e = said_on more raw end (λ rest. said_value more raw end rest) value so_far whole e

-- ---- the two laws

pub value_read : (raw : Bool) (end : ℕ) (value text : List ℕ) → value_text raw end value ≡ Ok text → SpellsValue raw value text
unfolding value_text Reads
value_read raw end value text e =
    let said = said_value (length value + 1) raw end value [] text e in subst (SpellsValue raw value) (sym said.whole_is) said.spelt

pub value_spelt : (raw : Bool) (end : ℕ) (value text : List ℕ) → SpellsValue raw value text → value_text raw end value ≡ Ok text
unfolding value_text
value_spelt raw end value text spelt = spelt_value raw value text spelt (length value + 1) end [] (omega arith)
