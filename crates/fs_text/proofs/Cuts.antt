-- Where the first byte of a kind stands, and what stands before and behind it.
use Rattle.std.proofs.Common.{◌≡◌, ℕ, suc, ◌+◌, ◌-◌, take, drop, ◌<◌, ◌≤◌, Bool, true, false, cond, not, ◌||◌, ltb, List, [], ◌∷◌, ◌++◌}
use Rattle.std.proofs.Common.{length, Option, None, Some, refl, sym, ap, ◌∙◌, arith}
use Rattle.std.specs.List.{position_or_len, list_any, before_first, after_first}
use Rattle.std.proofs.Math.ListN.{drop_of_length-le}
use Rattle.std.proofs.Math.Seq.{drop-append-add}
use Rattle.std.proofs.lemmas.List.{take_at, take_rest, drop-drop}
use Rattle.std.proofs.lemmas.List.Sums.{prefix_len-le-length}
use Rattle.std.proofs.lemmas.Bool.Decides.{nat_tests}
use Rattle.std.proofs.lemmas.Bool.{or_parts, lt-ltb, le-ltb, ltb-false}
use Rattle.fs_text.specs.Words.{is_byte, halves_of}

-- ---- its offset

-- the offset is within the text, or at its end
pub offset_within : (p : ℕ → Bool) (text : List ℕ) → position_or_len p text ≤ length text
offset_within p [] = omega arith
offset_within p (b ∷ text) = by (p b) (offset_within p text)
  where
    by : (t : Bool) → position_or_len p text ≤ length text → cond (not t) (1 + position_or_len p text) 0 ≤ length (b ∷ text)
    by true h = omega arith
    by false h = omega arith

-- where a byte passes the search is over
pub offset_here : (p : ℕ → Bool) (b : ℕ) (text : List ℕ) → p b ≡ true → position_or_len p (b ∷ text) ≡ 0
offset_here p b text passes = rw passes refl

-- and where it does not it goes on
pub offset_on : (p : ℕ → Bool) (b : ℕ) (text : List ℕ) → p b ≡ false → position_or_len p (b ∷ text) ≡ suc (position_or_len p text)
offset_on p b text fails = rw fails (omega arith)

-- an offset before the end is found exactly where a byte passes
pub found : (p : ℕ → Bool) (text : List ℕ) → list_any p text ≡ ltb (position_or_len p text) (length text)
found p [] = refl
found p (b ∷ text) = by (p b) (found p text)
  where
    by : (t : Bool) → list_any p text ≡ ltb (position_or_len p text) (length text) →
        (t || list_any p text) ≡ ltb (cond (not t) (1 + position_or_len p text) 0) (length (b ∷ text))
    by true h = sym (lt-ltb 0 (length (b ∷ text)) (omega arith))
    by false h = h ∙ grind (arith, nat_tests)

-- where the offset is the end, none passes
pub none_found : (p : ℕ → Bool) (text : List ℕ) (offset : ℕ) → offset ≡ position_or_len p text → length text ≤ offset → list_any p text ≡ false
none_found p text offset is h = found p text ∙ le-ltb _ _ (rw (← is) h)

-- where it is before the end, one passes
pub one_found : (p : ℕ → Bool) (text : List ℕ) (offset : ℕ) → offset ≡ position_or_len p text → offset < length text → list_any p text ≡ true
one_found p text offset is h = found p text ∙ lt-ltb _ _ (rw (← is) h)

-- the first that passes stands behind those that do not
pub first_behind : (p : ℕ → Bool) (front : List ℕ) (b : ℕ) (rest : List ℕ) → list_any p front ≡ false → p b ≡ true →
    position_or_len p (front ++ b ∷ rest) ≡ length front
first_behind p [] b rest none passes = rw passes refl
first_behind p (a ∷ front) b rest none passes =
    let parts = or_parts (p a) (list_any p front) none in
    rw (parts.0, first_behind p front b rest parts.1 passes) (omega arith)

-- so it is found
pub found_behind : (p : ℕ → Bool) (front : List ℕ) (b : ℕ) (rest : List ℕ) → p b ≡ true → list_any p (front ++ b ∷ rest) ≡ true
found_behind p [] b rest passes = rw passes refl
found_behind p (a ∷ front) b rest passes = by (p a) (found_behind p front b rest passes)
  where
    by : (t : Bool) → list_any p (front ++ b ∷ rest) ≡ true → (t || list_any p (front ++ b ∷ rest)) ≡ true
    by true h = refl
    by false h = h

-- ---- what stands before and behind it

-- what is behind one byte behind a front
pub behind_one : (n : ℕ) (text : List ℕ) → take (length (drop n text) - 1) (drop 1 (drop n text)) ≡ drop (n + 1) text
behind_one n text = take_rest (drop n text) 1 ∙ drop-drop 1 n text

-- what is behind the first of what begins at its offset
pub behind_is : (p : ℕ → Bool) (text : List ℕ) (offset : ℕ) (from : List ℕ) → offset ≡ position_or_len p text → from ≡ drop offset text →
    take (length from - 1) (drop 1 from) ≡ after_first p text
behind_is p text offset from is back =
    ap (λ rest. take (length rest - 1) (drop 1 rest)) back ∙ behind_one offset text ∙ ap (λ n. drop (n + 1) text) is

-- for a function that cuts a text at an offset that was found
pub ruleset word_rules = (behind_one, prefix_len-le-length)

-- none that passes stands before it
pub none_before : (p : ℕ → Bool) (text : List ℕ) → list_any p (before_first p text) ≡ false
none_before p [] = refl
none_before p (b ∷ text) = by (p b) refl (none_before p text)
  where
    by : (t : Bool) → p b ≡ t → list_any p (before_first p text) ≡ false → list_any p (before_first p (b ∷ text)) ≡ false
    by true passes more = ap (λ n. list_any p (take n (b ∷ text))) (offset_here p b text passes)
    by false fails more = ap (λ n. list_any p (take n (b ∷ text))) (offset_on p b text fails) ∙ rw (fails, more) refl

-- nothing stands behind it where none passes
pub nothing_after : (p : ℕ → Bool) (text : List ℕ) → list_any p text ≡ false → after_first p text ≡ []
nothing_after p text h = drop_of_length-le text (omega (arith, ltb-false _ _ (sym (found p text) ∙ h)))

-- where some bytes do not pass and one does, they stand before it
pub before_behind : (p : ℕ → Bool) (front : List ℕ) (b : ℕ) (rest : List ℕ) → list_any p front ≡ false → p b ≡ true →
    before_first p (front ++ b ∷ rest) ≡ front
before_behind p front b rest none passes = take_at front (b ∷ rest) _ (sym (first_behind p front b rest none passes))

-- and the rest behind it
pub after_behind : (p : ℕ → Bool) (front : List ℕ) (b : ℕ) (rest : List ℕ) → list_any p front ≡ false → p b ≡ true →
    after_first p (front ++ b ∷ rest) ≡ rest
after_behind p front b rest none passes =
    ap (λ n. drop (n + 1) (front ++ b ∷ rest)) (first_behind p front b rest none passes) ∙ drop-append-add front (b ∷ rest) 1

-- ---- its halves

-- there are none where the offset is the end
pub no_halves : (byte : ℕ) (text : List ℕ) (offset : ℕ) → offset ≡ position_or_len (is_byte byte) text → length text ≤ offset →
    None ≡ halves_of byte text
unfolding halves_of
no_halves byte text offset is end = rw (none_found (is_byte byte) text offset is end) refl

-- and where it is not, they are what stands before and behind it
pub halves_are : (byte : ℕ) (text : List ℕ) (offset : ℕ) (before from : List ℕ) → offset ≡ position_or_len (is_byte byte) text →
    offset < length text
    → before ≡ take offset text → from ≡ drop offset text → Some (before, take (length from - 1) (drop 1 from)) ≡ halves_of byte text
unfolding halves_of
halves_are byte text offset before from is below front back =
    let behind = behind_is (is_byte byte) text offset from is back in
    let ahead : before ≡ before_first (is_byte byte) text = front ∙ ap (λ n. take n text) is in
    rw (one_found (is_byte byte) text offset is below, behind, ahead) refl

same_byte : (byte : ℕ) → is_byte byte byte ≡ true
same_byte byte = grind (arith, nat_tests)

-- a text is cut behind bytes that are all other
pub cut_behind : (byte : ℕ) (before behind : List ℕ) → list_any (is_byte byte) before ≡ false →
    halves_of byte (before ++ byte ∷ behind) ≡ Some (before, behind)
unfolding halves_of
cut_behind byte before behind none =
    let is = same_byte byte in
    let front = before_behind (is_byte byte) before byte behind none is in
    let back = after_behind (is_byte byte) before byte behind none is in
    rw (found_behind (is_byte byte) before byte behind is, front, back) refl

-- a text that is not cut has no such byte
pub none_cut : (byte : ℕ) (text : List ℕ) → halves_of byte text ≡ None → list_any (is_byte byte) text ≡ false
unfolding halves_of
none_cut byte text whole = by (list_any (is_byte byte) text) whole
  where
    by : (t : Bool) → cond {A = Option (List ℕ × List ℕ)} t (Some (before_first (is_byte byte) text, after_first (is_byte byte) text)) None
        ≡ None → t ≡ false
    by true h = absurd (cc)
    by false h = refl

drop_one_more : (n b : ℕ) (text : List ℕ) → drop (suc n + 1) (b ∷ text) ≡ drop (n + 1) text
drop_one_more n b text = ap (λ k. drop k (b ∷ text)) {x = suc n + 1} {y = suc (n + 1)} (omega arith)

abbrev parted : ℕ → List ℕ → ℕ → List ℕ
parted byte text n = take n text ++ (byte ∷ drop (n + 1) text)

put_together : (byte : ℕ) (text : List ℕ) → list_any (is_byte byte) text ≡ true →
    text ≡ before_first (is_byte byte) text ++ (byte ∷ after_first (is_byte byte) text)
put_together byte [] some = absurd (cc)
put_together byte (b ∷ text) some = by (is_byte byte b) refl some (put_together byte text)
  where
    by : (t : Bool) → is_byte byte b ≡ t → (t || list_any (is_byte byte) text) ≡ true
        → (list_any (is_byte byte) text ≡ true → text ≡ before_first (is_byte byte) text ++ (byte ∷ after_first (is_byte byte) text))
        → b ∷ text ≡ before_first (is_byte byte) (b ∷ text) ++ (byte ∷ after_first (is_byte byte) (b ∷ text))
    by true passes h more =
        let same : b ≡ byte = grind (arith, nat_tests) in
        ap (λ c. c ∷ text) same ∙ sym (ap (parted byte (b ∷ text)) (offset_here (is_byte byte) b text passes))
    by false fails h more =
        let n = position_or_len (is_byte byte) text in
        ap (λ rest. b ∷ rest) (more h) ∙ ap (λ rest. b ∷ (take n text ++ (byte ∷ rest))) (sym (drop_one_more n b text))
        ∙ sym (ap (parted byte (b ∷ text)) (offset_on (is_byte byte) b text fails))

-- a text that is cut is put together of what stands before and behind the byte
pub halved : (byte : ℕ) (text before behind : List ℕ) → halves_of byte text ≡ Some (before, behind) →
    (list_any (is_byte byte) before ≡ false) × (text ≡ before ++ (byte ∷ behind))
unfolding halves_of
halved byte text before behind e = by (list_any (is_byte byte) text) refl e
  where
    by : (t : Bool) → list_any (is_byte byte) text ≡ t →
        cond {A = Option (List ℕ × List ℕ)} t (Some (before_first (is_byte byte) text, after_first (is_byte byte) text)) None
        ≡ Some (before, behind)
        → (list_any (is_byte byte) before ≡ false) × (text ≡ before ++ (byte ∷ behind))
    by true some is =
        let both : ◌≡◌ {A = List ℕ × List ℕ} (before_first (is_byte byte) text, after_first (is_byte byte) text) (before, behind) = cc in
        let front : before_first (is_byte byte) text ≡ before = ap (λ (x : List ℕ × List ℕ). x.0) both in
        let back : after_first (is_byte byte) text ≡ behind = ap (λ (x : List ℕ × List ℕ). x.1) both in
        rw (← front, ← back) (none_before (is_byte byte) text, put_together byte text some)
    by false none is = absurd (cc)
