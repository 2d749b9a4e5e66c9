-- A value with a raw `<` or without an entity behind an `&` is read as that, behind what says a text.
use Rattle.std.proofs.Common.{◌≡◌, ◌⊎◌, inl, inr, ℕ, zero, suc, ◌+◌, ◌<◌, Bool, true, false, List, [], ◌∷◌, ◌++◌, length, Option}
use Rattle.std.proofs.Common.{None, Some, Ok, Err, refl, sym, ap, ◌∙◌, subst, append_assoc, arith, encode_utf8}
use Rattle.std.specs.List.{list_any}
use Rattle.std.proofs.lemmas.List.{length-append}
use Rattle.fs_text.specs.Words.{is_byte, halves_of}
use Rattle.fs_text.proofs.Cuts.{cut_behind, halved}
use Rattle.fs_xml.specs.declared.stop.ValueFault.{ValueFault}
use Rattle.fs_xml.specs.declared.stop.ValueFault.TheVariants.{Raw, BadEntity}
use Rattle.fs_xml.specs.Bytes.{offset}
use Rattle.fs_xml.specs.Entities.{entity, is_special, character_added, entity_on, entity_at, special_at, value_step, Values}
use Rattle.fs_xml.specs.Entities.{value_within, value_text}
use Rattle.fs_spelling.specs.Values.{SpellsValue, Nothing, Plain, Mark, Entity}
use Rattle.fs_spelling.specs.Faults.{IsNoEntity}
use Rattle.fs_spelling.proofs.ValueLaws.{plain_step, special_step, last_step, followed, entity_step, specials, Onward}
use Rattle.fs_spelling.proofs.PartLaws.{no_half}

-- ---- what stops is told

-- a raw `<` behind what says a text
pub record StopsRaw (raw : Bool) (value : List ℕ) : Type 0 where
  pub front : List ℕ
  pub rest : List ℕ
  pub text : List ℕ
  pub strict : raw ≡ false
  pub whole : value ≡ front ++ (60 ∷ rest)
  pub spelt : SpellsValue raw front text

-- an `&` without an entity behind what says a text
pub record StopsAtAmp (raw : Bool) (end : ℕ) (value : List ℕ) (amp : ℕ) : Type 0 where
  pub front : List ℕ
  pub rest : List ℕ
  pub text : List ℕ
  pub whole : value ≡ front ++ (38 ∷ rest)
  pub spelt : SpellsValue raw front text
  pub none : IsNoEntity rest
  pub place : amp ≡ offset end (38 ∷ rest)

abbrev pub ValueIs : Bool → ℕ → List ℕ → Values → Type 0
ValueIs raw end value (Ok text) = Unit {0}
ValueIs raw end value (Err Raw) = StopsRaw raw value
ValueIs raw end value (Err (BadEntity amp)) = StopsAtAmp raw end value amp

-- behind a piece that says a text
later : (raw : Bool) (end : ℕ) (value piece rest said : List ℕ) (r : Values) → value ≡ piece ++ rest
    → ((front text : List ℕ) → SpellsValue raw front text → SpellsValue raw (piece ++ front) (said ++ text))
    → ValueIs raw end rest r → ValueIs raw end value r
later raw end value piece rest said (Ok text) whole spells is = tt
later raw end value piece rest said (Err Raw) whole spells is = record {
  front = piece ++ is.front;
  rest = is.rest;
  text = said ++ is.text;
  strict = is.strict;
  whole = whole ∙ ap (λ t. piece ++ t) is.whole ∙ sym (append_assoc piece is.front (60 ∷ is.rest));
  spelt = spells is.front is.text is.spelt;
}
later raw end value piece rest said (Err (BadEntity amp)) whole spells is = record {
  front = piece ++ is.front;
  rest = is.rest;
  text = said ++ is.text;
  whole = whole ∙ ap (λ t. piece ++ t) is.whole ∙ sym (append_assoc piece is.front (38 ∷ is.rest));
  spelt = spells is.front is.text is.spelt;
  none = is.none;
  place = is.place;
}

Told : ℕ → Bool → ℕ → Type 0
Told more raw end =
    (rest so_far : List ℕ) → length rest < more → ValueIs raw end rest (value_within more raw end so_far rest)

amp_told : (more : ℕ) (raw : Bool) (end : ℕ) (so_far value : List ℕ) → Told more raw end → length value < more →
    ValueIs raw end (38 ∷ value) (Onward more raw end (entity_at so_far (offset end (38 ∷ value)) value))
unfolding Told entity_at
amp_told more raw end so_far value again enough = by (halves_of 59 value) refl
  where
    at : ℕ
    at = offset end (38 ∷ value)

    known : (name behind : List ℕ) → list_any (is_byte 59) name ≡ false → value ≡ name ++ (59 ∷ behind) → (found : Option ℕ) →
        entity name ≡ found
        → ValueIs raw end (38 ∷ value) (Onward more raw end (character_added so_far at found behind))
    known name behind plain whole None is = record {
      front = [];
      rest = value;
      text = [];
      whole = refl;
      spelt = Nothing raw;
      none = inr (name, behind, whole, plain, is);
      place = refl;
    }
    known name behind plain whole (Some c) is =
        let piece : List ℕ = 38 ∷ (name ++ (59 ∷ [])) in
        let joined : (t : List ℕ) → piece ++ t ≡ 38 ∷ (name ++ (59 ∷ t)) =
        λ t. ap (λ u. 38 ∷ u) (append_assoc name (59 ∷ []) t) in
        let P : List ℕ → List ℕ → Type 0 = λ t u. SpellsValue raw t u in
        later raw end (38 ∷ value) piece behind (encode_utf8 c) (value_within more raw end (so_far ++ encode_utf8 c) behind)
        (ap (λ t. 38 ∷ t) whole ∙ sym (joined behind))
        (λ front text spelt. subst (λ t. P t (encode_utf8 c ++ text)) (sym (joined front)) (Entity raw name front text c plain is spelt))
        (again behind (so_far ++ encode_utf8 c) (omega (arith, ap length whole, length-append name (59 ∷ behind), enough)))

    by : (halves : Option (List ℕ × List ℕ)) → halves_of 59 value ≡ halves →
        ValueIs raw end (38 ∷ value) (Onward more raw end (entity_on so_far at halves))
    by None is = record {
      front = [];
      rest = value;
      text = [];
      whole = refl;
      spelt = Nothing raw;
      none = inl (no_half 59 value is);
      place = refl;
    }
    by (Some x) is = let parts = halved 59 value x.0 x.1 is in known x.0 x.1 parts.0 parts.1 (entity x.0) refl

mark_told : (more : ℕ) (raw : Bool) (end : ℕ) (so_far value : List ℕ) → Told more raw end → length value < more →
    ValueIs raw end (60 ∷ value) (Onward more raw end (special_at raw end so_far (60 ∷ value)))
unfolding Told special_at
mark_told more true end so_far value again enough =
    later true end (60 ∷ value) (60 ∷ []) value (60 ∷ []) (value_within more true end (so_far ++ 60 ∷ []) value) refl
    (λ front text spelt. Mark front text spelt) (again value (so_far ++ 60 ∷ []) enough)
mark_told more false end so_far value again enough =
    record { front = []; rest = value; text = []; strict = refl; whole = refl; spelt = Nothing false }

told_on : (more : ℕ) (raw : Bool) (end : ℕ) → Told more raw end → (value so_far : List ℕ) → length value < suc more →
    ValueIs raw end value (value_within (suc more) raw end so_far value)
unfolding Told special_at
told_on more raw end again [] so_far enough =
    let P : Values → Type 0 = λ r. ValueIs raw end [] r in
    subst P (sym (followed more raw end so_far [] (Ok (so_far ++ [], None)) (last_step raw end so_far))) tt
told_on more raw end again (b ∷ value) so_far enough =
    by (is_special b) refl (λ next few. told_on more raw end again value next few)
  where
    P : Values → Type 0
    P r = ValueIs raw end (b ∷ value) r

    special : (b ≡ 38) ⊎ (b ≡ 60) → P (Onward more raw end (special_at raw end so_far (b ∷ value)))
    special (inl is) =
        let Q : ℕ → Type 0 = λ c. ValueIs raw end (c ∷ value) (Onward more raw end (special_at raw end so_far (c ∷ value))) in
        subst Q (sym is) (amp_told more raw end so_far value again (omega (arith, enough)))
    special (inr is) =
        let Q : ℕ → Type 0 = λ c. ValueIs raw end (c ∷ value) (Onward more raw end (special_at raw end so_far (c ∷ value))) in
        subst Q (sym is) (mark_told more raw end so_far value again (omega (arith, enough)))

    by : (t : Bool) → is_special b ≡ t
        → ((next : List ℕ) → length value < suc more → ValueIs raw end value (value_within (suc more) raw end next value))
        → P (value_within (suc more) raw end so_far (b ∷ value))
    by false plain on =
        let read = value_within (suc more) raw end (so_far ++ b ∷ []) value in
        subst P (sym (followed more raw end so_far (b ∷ value) (value_step raw end (so_far ++ b ∷ []) value)
        (plain_step raw end so_far b value plain)))
        (later raw end (b ∷ value) (b ∷ []) value (b ∷ []) read refl (λ front text spelt. Plain raw b front text plain spelt)
        (on (so_far ++ b ∷ []) (omega (arith, enough))))
    by true is on =
        subst P (sym (followed more raw end so_far (b ∷ value) (special_at raw end so_far (b ∷ value))
        (special_step raw end so_far b value is))) (special (specials b is))

told : (more : ℕ) (raw : Bool) (end : ℕ) → Told more raw end
unfolding Told
told zero raw end rest so_far enough = absurd (omega arith)
told (suc more) raw end rest so_far enough = told_on more raw end (λ r s few. told more raw end r s few) rest so_far enough

pub value_is : (raw : Bool) (end : ℕ) (value : List ℕ) → ValueIs raw end value (value_text raw end value)
unfolding value_text Told
value_is raw end value = told (length value + 1) raw end value [] (omega arith)

-- ---- what is told stops

Stopped : Bool → ℕ → List ℕ → ValueFault → Type 0
Stopped raw end value f = (more : ℕ) (so_far : List ℕ) → length value < more → value_within more raw end so_far value ≡ Err f

behind_text : (raw : Bool) (end : ℕ) (front text tail : List ℕ) (f : ValueFault) → SpellsValue raw front text → Stopped raw end tail f →
    Stopped raw end (front ++ tail) f
unfolding Stopped special_at
behind_text raw end front text tail f spelt stops zero so_far enough = absurd (omega arith)
behind_text raw end front text tail f (Nothing _) stops (suc more) so_far enough = stops (suc more) so_far enough
behind_text raw end front text tail f (Plain _ b rest more_text plain spelt) stops (suc more) so_far enough =
    followed more raw end so_far (b ∷ (rest ++ tail)) (value_step raw end (so_far ++ b ∷ []) (rest ++ tail))
    (plain_step raw end so_far b (rest ++ tail) plain)
    ∙ behind_text raw end rest more_text tail f spelt stops (suc more) (so_far ++ b ∷ []) (omega arith)
behind_text raw end front text tail f (Mark rest more_text spelt) stops (suc more) so_far enough =
    followed more true end so_far (60 ∷ (rest ++ tail)) (Ok (so_far ++ 60 ∷ [], Some (rest ++ tail)))
    (special_step true end so_far 60 (rest ++ tail) refl)
    ∙ behind_text true end rest more_text tail f spelt stops more (so_far ++ 60 ∷ []) (omega arith)
behind_text raw end front text tail f (Entity _ name rest more_text c plain is spelt) stops (suc more) so_far enough =
    let split : (38 ∷ (name ++ (59 ∷ rest))) ++ tail ≡ 38 ∷ (name ++ (59 ∷ (rest ++ tail))) =
    ap (λ t. 38 ∷ t) (append_assoc name (59 ∷ rest) tail) in
    ap (value_within (suc more) raw end so_far) split
    ∙ followed more raw end so_far (38 ∷ (name ++ (59 ∷ (rest ++ tail)))) (Ok (so_far ++ encode_utf8 c, Some (rest ++ tail)))
    (entity_step raw end so_far name (rest ++ tail) c plain is)
    ∙ behind_text raw end rest more_text tail f spelt stops more (so_far ++ encode_utf8 c)
    (omega (arith, ap length split, length-append name (59 ∷ (rest ++ tail)), enough))

mark_stops : (end : ℕ) (rest : List ℕ) → Stopped false end (60 ∷ rest) Raw
unfolding Stopped special_at
mark_stops end rest zero so_far enough = absurd (omega arith)
mark_stops end rest (suc more) so_far enough =
    followed more false end so_far (60 ∷ rest) (Err Raw) (special_step false end so_far 60 rest refl)

no_entity : (so_far : List ℕ) (at : ℕ) (rest : List ℕ) → IsNoEntity rest → entity_at so_far at rest ≡ Err (BadEntity at)
unfolding entity_at halves_of
no_entity so_far at rest (inl none) = rw none refl
no_entity so_far at rest (inr (name, more, whole, plain, unknown)) =
    ap (λ t. entity_on so_far at (halves_of 59 t)) whole
    ∙ ap (entity_on so_far at) (cut_behind 59 name more plain)
    ∙ ap (λ found. character_added so_far at found more) unknown

amp_stops : (raw : Bool) (end : ℕ) (rest : List ℕ) → IsNoEntity rest → Stopped raw end (38 ∷ rest) (BadEntity (offset end (38 ∷ rest)))
unfolding Stopped special_at
amp_stops raw end rest none zero so_far enough = absurd (omega arith)
amp_stops raw end rest none (suc more) so_far enough =
    let at = offset end (38 ∷ rest) in
    followed more raw end so_far (38 ∷ rest) (Err (BadEntity at))
    (special_step raw end so_far 38 rest refl ∙ no_entity so_far at rest none)

pub raw_stops : (end : ℕ) (value front rest text : List ℕ) → value ≡ front ++ (60 ∷ rest) → SpellsValue false front text →
    value_text false end value ≡ Err Raw
unfolding value_text Stopped
raw_stops end value front rest text whole spelt =
    ap (λ v. value_within (length v + 1) false end [] v) whole
    ∙ behind_text false end front text (60 ∷ rest) Raw spelt (mark_stops end rest) (length (front ++ (60 ∷ rest)) + 1) [] (omega arith)

pub entity_stops : (raw : Bool) (end : ℕ) (value front rest text : List ℕ) → value ≡ front ++ (38 ∷ rest) → SpellsValue raw front text →
    IsNoEntity rest → value_text raw end value ≡ Err (BadEntity (offset end (38 ∷ rest)))
unfolding value_text Stopped
entity_stops raw end value front rest text whole spelt none =
    ap (λ v. value_within (length v + 1) raw end [] v) whole
    ∙ behind_text raw end front text (38 ∷ rest) (BadEntity (offset end (38 ∷ rest))) spelt (amp_stops raw end rest none)
    (length (front ++ (38 ∷ rest)) + 1) [] (omega arith)
