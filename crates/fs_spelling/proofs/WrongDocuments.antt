-- A document's first fault is one that it has, and one that it has is its first.
use Rattle.std.proofs.Common.{◌≡◌, ◌⊎◌, inl, inr, ℕ, zero, suc, ◌-◌, ◌<◌, Bool, true, false, cond}
use Rattle.std.proofs.Common.{List, [], ◌∷◌, ◌++◌, length, Option, None, Some, Result, Ok, Err, refl, sym, ap, ◌∙◌, subst}
use Rattle.std.proofs.Common.{append_assoc, arith}
use Rattle.std.proofs.lemmas.List.{length-append}
use Rattle.fs_text.specs.Texts.{Text}
use Rattle.fs_xml.specs.Results.{◌>>=◌}
use Rattle.fs_xml.specs.Bytes.{offset}
use Rattle.fs_doc.specs.declared.fault.DocKind.TheVariants as kinds
use Rattle.fs_doc.specs.declared.fault.DocFault.{DocFault}
use Rattle.fs_doc.specs.declared.element.Level.{Level}
use Rattle.fs_doc.specs.declared.element.Level.TheVariants as level
use Rattle.fs_doc.specs.declared.content.Content.{Content}
use Rattle.fs_doc.specs.Faults.{fault}
use Rattle.fs_doc.specs.Contents.{new_content}
use Rattle.fs_doc.specs.Reading.{Opened, ReadSoFar, level_in, is_outside, text_at, mark_read, mark_entered, Next, Over, On, at_mark, round}
use Rattle.fs_doc.specs.Reading.{with_round, read_within}
use Rattle.fs_spelling.specs.Documents.{IsFiller, Inside}
use Rattle.fs_spelling.specs.Faults.{Wrong, Here, Deeper}
use Rattle.fs_spelling.proofs.Binds.{bind_ok, bind_err, stopped}
use Rattle.fs_spelling.proofs.MarkLaws.{taken_mark}
use Rattle.fs_spelling.proofs.TextLaws.{BeginsMark, text_taken}
use Rattle.fs_spelling.proofs.Again.{state, one_round, open_round, goes}
use Rattle.fs_spelling.proofs.Sound.{Reached, mark_stepped, mark_is_taken, next_read, same_next}
use Rattle.fs_spelling.proofs.NextLaws.{around_in, next_wrong, next_stops}

-- ---- what is read is wrong

-- what is wrong in the innermost element is wrong in the document
climb : (end : ℕ) (f : DocFault) (opened : List Opened) (c : Content) (text rest : Text) → Reached opened c text
    → ((a : Content) (t : Text) → Inside (level_in opened) a t c → Wrong end (level_in opened) (around_in opened) a (t ++ rest) f)
    → Wrong end level.Top None new_content (text ++ rest) f
climb end f [] c text rest reached wrong = wrong new_content text reached
climb end f (o ∷ opened) c text rest w wrong =
    let deeper : Text = w.filler ++ ((60 ∷ w.tag) ++ (w.held ++ rest)) in
    let split : text ++ rest ≡ w.front ++ deeper = ap (λ t. t ++ rest) w.whole ∙ seam_of w.front w.filler (60 ∷ w.tag) w.held in
    let P : Text → Type 0 = λ t. Wrong end level.Top None new_content t f in
    let inner = wrong w.begun_with w.held w.inside in
    subst P (sym split) (climb end f opened w.before_it w.front deeper w.reached
    (λ a t inside. Deeper (level_in opened) o.level (around_in opened) a w.before_it w.begun_with t w.filler w.tag (w.held ++ rest)
    o.name w.pairs f inside w.may w.is_tag w.begins inner))
  where
    seam_of : (front filler tag held : Text) → (front ++ (filler ++ (tag ++ held))) ++ rest ≡ front ++ (filler ++ (tag ++ (held ++ rest)))
    seam_of front filler tag held = simp append_assoc

-- a round that goes on
record GoesTo (text bytes rest : Text) (next : ReadSoFar) : Type 0 where
  pub front : Text
  pub whole : text ++ bytes ≡ front ++ rest
  pub reached : Reached next.opened next.content front
  pub shorter : length rest < length bytes

mark_goes : (end : ℕ) (opened : List Opened) (c : Content) (text before more rest : Text) (next : ReadSoFar) → Reached opened c text
    → IsFiller (level_in opened) before → at_mark end (state opened c) (60 ∷ more) ≡ Ok (On next rest)
    → GoesTo text (before ++ (60 ∷ more)) rest next
unfolding at_mark
mark_goes end opened c text before more rest next reached filler e =
    let at = offset end (60 ∷ more) in
    let first =
    bind_ok (mark_read c.done (is_outside opened) end at more)
    (λ x. mark_entered at x.0 (state opened c) >>= λ n. next_read (On n x.1)) (On next rest) e in
    let mark = first.0.0 in
    let behind = first.0.1 in
    let second = bind_ok (mark_entered at mark (state opened c)) (λ n. next_read (On n behind)) (On next rest) first.2 in
    let both = same_on second.0 next behind rest (same_next (On second.0 behind) (On next rest) second.2) in
    let takes = taken_mark end more mark behind (mark_is_taken c.done (is_outside opened) end at more (mark, behind) first.1) in
    let stepped = mark_stepped at opened c text before more behind mark second.0 reached filler takes second.1 in
    let P : ReadSoFar → Type 0 = λ n. Reached n.opened n.content (text ++ (before ++ (60 ∷ stepped.item))) in
    let whole : text ++ (before ++ (60 ∷ more)) ≡ (text ++ (before ++ (60 ∷ stepped.item))) ++ behind =
    ap (λ t. text ++ (before ++ (60 ∷ t))) stepped.whole ∙ simp append_assoc in
    record {
      front = text ++ (before ++ (60 ∷ stepped.item));
      whole = whole ∙ ap (λ t. (text ++ (before ++ (60 ∷ stepped.item))) ++ t) both.1;
      reached = subst P both.0 stepped.reached;
      shorter = omega (
        arith,
        ap length stepped.whole,
        ap length both.1,
        length-append stepped.item behind,
        length-append before (60 ∷ more),
      );
    }
  where
    same_on : (x y : ReadSoFar) (a b : Text) → On x a ≡ On y b → (x ≡ y) × (a ≡ b)
    same_on x y a b h = (cc, cc)

round_goes_on : (end : ℕ) (opened : List Opened) (c : Content) (text bytes rest : Text) (next : ReadSoFar) → Reached opened c text →
    round end (state opened c) bytes ≡ Ok (On next rest) → GoesTo text bytes rest next
unfolding round at_mark
round_goes_on end opened c text bytes rest next reached e =
    let went = bind_ok (text_at end (level_in opened) bytes) (λ t. at_mark end (state opened c) t) (On next rest) e in
    let taken = text_taken end (level_in opened) bytes went.0 went.1 in
    by taken.text went.0 taken.whole taken.filler taken.begins went.2
  where
    P : Text → Type 0
    P t = GoesTo text t rest next

    no_end : (os : List Opened) → at_mark end (state os c) [] ≡ Ok (On next rest) → ⊥
    no_end [] h = over c.done h
      where
        over : (t : Bool) → cond t (next_read (Over c)) (fault end kinds.Truncated) ≡ next_read (On next rest) → ⊥
        over true k = let same = same_next (Over c) (On next rest) k in cc
        over false k = cc
    no_end (o ∷ os) h = cc

    by : (before behind : Text) → bytes ≡ before ++ behind → IsFiller (level_in opened) before → BeginsMark behind
        → at_mark end (state opened c) behind ≡ Ok (On next rest) → P bytes
    by before [] whole filler begins h = absurd (no_end opened h)
    by before (b ∷ more) whole filler begins h =
        let Q : ℕ → Type 0 = λ n. at_mark end (state opened c) (n ∷ more) ≡ Ok (On next rest) in
        subst P (sym (whole ∙ ap (λ n. before ++ (n ∷ more)) begins))
        (mark_goes end opened c text before more rest next reached filler (subst Q begins h))

pub read_wrong : (fuel end : ℕ) (f : DocFault) (opened : List Opened) (c : Content) (text rest : Text) → Reached opened c text →
    length rest < fuel
    → read_within fuel end (state opened c) rest ≡ Err f → Wrong end level.Top None new_content (text ++ rest) f
read_wrong zero end f opened c text rest reached enough e = absurd (omega arith)
read_wrong (suc fuel) end f opened c text rest reached enough e =
    by (bind_err (round end (state opened c) rest) (λ n. with_round (λ s t. read_within fuel end s t) n) f e)
    (λ next front behind r few h. read_wrong fuel end f next.opened next.content front behind r few h)
  where
    P : Text → Type 0
    P t = Wrong end level.Top None new_content t f

    onward : (n : Next) → round end (state opened c) rest ≡ Ok n → with_round (λ s t. read_within fuel end s t) n ≡ stopped f
        → ((next : ReadSoFar) (front behind : Text) → Reached next.opened next.content front → length behind < fuel
        → read_within fuel end next behind ≡ Err f → P (front ++ behind)) → P (text ++ rest)
    onward (Over d) read h again = absurd (cc)
    onward (On next behind) read h again =
        let to = round_goes_on end opened c text rest behind next reached read in
        subst P (sym to.whole) (again next to.front behind to.reached (omega (arith, to.shorter, enough)) h)

    by : (round end (state opened c) rest ≡ Err f)
        ⊎ ((n : Next) × (round end (state opened c) rest ≡ Ok n) × (with_round (λ s t. read_within fuel end s t) n ≡ stopped f))
        → ((next : ReadSoFar) (front behind : Text) → Reached next.opened next.content front → length behind < fuel
        → read_within fuel end next behind ≡ Err f → P (front ++ behind)) → P (text ++ rest)
    by (inl stops) again =
        climb end f opened c text rest reached
        (λ a t inside. Here (level_in opened) (around_in opened) a c t rest f inside (next_wrong end opened c rest f stops))
    by (inr (n, read, h)) again = onward n read h again

-- ---- what is wrong is read

pub wrong_read : (end : ℕ) (outer : Level) (around : Option Text) (c : Content) (text : Text) (f : DocFault) → Wrong end outer around c text f →
    (opened : List Opened) → level_in opened ≡ outer → around_in opened ≡ around → (fuel : ℕ) → length text < fuel
    → read_within fuel end (state opened c) text ≡ Err f
wrong_read end outer around c text f (Here _ _ _ d front rest _ inside next) opened here named fuel enough =
    let on = goes end outer c front d inside opened here rest in
    let left = fuel - on.rounds - 1 in
    on.goes fuel (suc left) (omega (arith, on.within, enough, length-append front rest))
    ∙ ap (λ (n : Result Next DocFault). n >>= λ y. with_round (λ s t. read_within left end s t) y)
    (next_stops end opened outer around d rest f next here named)
wrong_read end outer around c text f (Deeper _ inner _ _ d e front before tag rest name pairs _ inside filler is begins wrong) opened here
    named fuel enough =
    let whole = before ++ ((60 ∷ tag) ++ rest) in
    let on = goes end outer c front d inside opened here whole in
    let left = fuel - on.rounds - 1 in
    let size_whole = length-append front whole in
    let size_rest = length-append before ((60 ∷ tag) ++ rest) in
    let size_tag = length-append (60 ∷ tag) rest in
    on.goes fuel (suc left) (omega (arith, on.within, enough, size_whole))
    ∙ one_round end (state opened d) whole (state (record { level = inner; name = name } ∷ opened) e) rest left
    (open_round end opened here before tag rest name pairs inner d e filler is begins)
    ∙ wrong_read end inner (Some name) e rest f wrong (record { level = inner; name = name } ∷ opened) refl refl left
    (omega (arith, on.within, enough, size_whole, size_rest, size_tag))
