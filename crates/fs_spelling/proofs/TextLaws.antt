-- The text in front of markup is read as what may stand there.
use Rattle.std.proofs.Common.{◌≡◌, ℕ, suc, Bool, true, false, cond, ◌==◌, [], ◌∷◌, ◌++◌, length, drop, Result, Ok, refl, sym, ap, ◌∙◌}
use Rattle.std.proofs.Common.{subst}
use Rattle.std.specs.List.{position_or_len, list_any, before_first, take_while}
use Rattle.std.proofs.lemmas.List.{take-append-drop}
use Rattle.std.proofs.Math.Seq.{drop-append_seam}
use Rattle.std.proofs.lemmas.Bool.{or_parts, eqb-true}
use Rattle.fs_text.specs.Words.{is_byte}
use Rattle.fs_text.specs.Texts.{Text}
use Rattle.fs_text.proofs.Cuts.{first_behind, none_before, offset_here, offset_on}
use Rattle.fs_xml.specs.Bytes.{is_blank, past, offset}
use Rattle.fs_xml.proofs.ByteLemmas.{run_past}
use Rattle.fs_doc.specs.declared.fault.DocFault.{DocFault}
use Rattle.fs_doc.specs.declared.element.Level.{Level}
use Rattle.fs_doc.specs.declared.element.Level.TheVariants as level
use Rattle.fs_doc.specs.Faults.{fault}
use Rattle.fs_doc.specs.Reading.{text_kind, blank_text, any_text, text_at}
use Rattle.fs_spelling.specs.Tags.{AreBlank, Stops}
use Rattle.fs_spelling.specs.Documents.{IsFiller}
use Rattle.fs_spelling.proofs.Runs.{past_run, run_passes}

-- markup begins with `<`
abbrev pub BeginsMark : Text → Type 0
BeginsMark [] = Unit {0}
BeginsMark (b ∷ bytes) = b ≡ 60

mark_stops : (rest : Text) → BeginsMark rest → Stops is_blank rest
unfolding is_blank
mark_stops [] begins = tt
mark_stops (b ∷ bytes) begins = rw begins refl

blank_read : (end : ℕ) (outer : Level) (text rest : Text) → AreBlank text → BeginsMark rest →
    blank_text end outer (past is_blank (text ++ rest)) ≡ Ok rest
blank_read end outer text rest blank begins =
    ap (blank_text end outer) (past_run is_blank text rest blank (mark_stops rest begins)) ∙ here rest begins
  where
    here : (r : Text) → BeginsMark r → blank_text end outer r ≡ Ok r
    here [] b = refl
    here (b ∷ r) is = rw is refl

none_offset : (p : ℕ → Bool) (text : Text) → list_any p text ≡ false → position_or_len p (text ++ []) ≡ length text
none_offset p [] none = refl
none_offset p (b ∷ text) none =
    let parts = or_parts (p b) (list_any p text) none in
    offset_on p b (text ++ []) parts.0 ∙ ap suc (none_offset p text parts.1)

any_read : (text rest : Text) → list_any (is_byte 60) text ≡ false → BeginsMark rest → any_text (text ++ rest) ≡ rest
any_read text [] none begins = ap (λ n. drop n (text ++ [])) (none_offset (is_byte 60) text none) ∙ drop-append_seam text []
any_read text (b ∷ rest) none begins =
    let offset_is = first_behind (is_byte 60) text b rest none (ap (λ c. c == 60) begins) in
    ap (λ n. drop n (text ++ (b ∷ rest))) offset_is ∙ drop-append_seam text (b ∷ rest)

pub text_read : (end : ℕ) (outer : Level) (text rest : Text) → IsFiller outer text → BeginsMark rest →
    text_at end outer (text ++ rest) ≡ Ok rest
unfolding text_at
text_read end level.Foreign text rest filler begins = ap Ok (any_read text rest filler begins)
text_read end level.Top text rest filler begins = blank_read end level.Top text rest filler begins
text_read end level.Document text rest filler begins = blank_read end level.Document text rest filler begins
text_read end level.Dialplan text rest filler begins = blank_read end level.Dialplan text rest filler begins
text_read end level.Configurations text rest filler begins = blank_read end level.Configurations text rest filler begins
text_read end (level.Configuration f) text rest filler begins = blank_read end (level.Configuration f) text rest filler begins
text_read end (level.Settings f) text rest filler begins = blank_read end (level.Settings f) text rest filler begins
text_read end level.Context text rest filler begins = blank_read end level.Context text rest filler begins
text_read end level.Extension text rest filler begins = blank_read end level.Extension text rest filler begins
text_read end level.Condition text rest filler begins = blank_read end level.Condition text rest filler begins
text_read end level.Cases text rest filler begins = blank_read end level.Cases text rest filler begins
text_read end level.Empty text rest filler begins = blank_read end level.Empty text rest filler begins

-- the text in front, and the markup behind it
pub record TakesText (outer : Level) (bytes rest : Text) : Type 0 where
  pub text : Text
  pub whole : bytes ≡ text ++ rest
  pub filler : IsFiller outer text
  pub begins : BeginsMark rest

abbrev texted : Text → Result Text DocFault
texted rest = Ok rest

same_text : (x y : Text) → texted x ≡ texted y → x ≡ y
same_text x y e = cc

record TakesBlank (bytes rest : Text) : Type 0 where
  pub text : Text
  pub whole : bytes ≡ text ++ rest
  pub blank : AreBlank text
  pub begins : BeginsMark rest

mark_taken : (end : ℕ) (outer : Level) (bytes rest : Text) → blank_text end outer bytes ≡ Ok rest → (bytes ≡ rest) × BeginsMark bytes
mark_taken end outer [] rest e = (same_text [] rest e, tt)
mark_taken end outer (b ∷ bytes) rest e = by (b == 60) refl e
  where
    by : (t : Bool) → (b == 60) ≡ t → cond t (texted (b ∷ bytes)) (fault (offset end (b ∷ bytes)) (text_kind outer)) ≡ texted rest →
        (b ∷ bytes ≡ rest) × (b ≡ 60)
    by true is h = (same_text (b ∷ bytes) rest h, eqb-true b 60 is)
    by false is h = absurd (cc)

blank_taken : (end : ℕ) (outer : Level) (bytes rest : Text) → blank_text end outer (past is_blank bytes) ≡ Ok rest → TakesBlank bytes rest
blank_taken end outer bytes rest e =
    let taken = mark_taken end outer (past is_blank bytes) rest e in
    record {
      text = take_while is_blank bytes;
      whole = sym (run_past is_blank bytes) ∙ ap (λ r. take_while is_blank bytes ++ r) taken.0;
      blank = run_passes is_blank bytes;
      begins = subst BeginsMark taken.0 taken.1;
    }

rest_begins : (bytes : Text) → BeginsMark (any_text bytes)
rest_begins [] = tt
rest_begins (b ∷ bytes) = by (is_byte 60 b) refl (rest_begins bytes)
  where
    by : (t : Bool) → is_byte 60 b ≡ t → BeginsMark (any_text bytes) → BeginsMark (any_text (b ∷ bytes))
    by true passes more =
        let P : ℕ → Type 0 =
        λ n. BeginsMark (drop n (b ∷ bytes)) in subst P (sym (offset_here (is_byte 60) b bytes passes)) (eqb-true b 60 passes)
    by false fails more =
        let P : ℕ → Type 0 = λ n. BeginsMark (drop n (b ∷ bytes)) in subst P (sym (offset_on (is_byte 60) b bytes fails)) more

pub text_taken : (end : ℕ) (outer : Level) (bytes rest : Text) → text_at end outer bytes ≡ Ok rest → TakesText outer bytes rest
unfolding text_at
text_taken end level.Foreign bytes rest e =
    let after : any_text bytes ≡ rest = same_text (any_text bytes) rest e in
    record {
      text = before_first (is_byte 60) bytes;
      whole = sym (take-append-drop (position_or_len (is_byte 60) bytes) bytes) ∙ ap (λ r. before_first (is_byte 60) bytes ++ r) after;
      filler = none_before (is_byte 60) bytes;
      begins = subst BeginsMark after (rest_begins bytes);
    }
text_taken end level.Top bytes rest e =
    let t = blank_taken end level.Top bytes rest e in record { text = t.text; whole = t.whole; filler = t.blank; begins = t.begins }
text_taken end level.Document bytes rest e =
    let t = blank_taken end level.Document bytes rest e in record { text = t.text; whole = t.whole; filler = t.blank; begins = t.begins }
text_taken end level.Dialplan bytes rest e =
    let t = blank_taken end level.Dialplan bytes rest e in record { text = t.text; whole = t.whole; filler = t.blank; begins = t.begins }
text_taken end level.Configurations bytes rest e = let t = blank_taken end level.Configurations bytes rest e in
    record { text = t.text; whole = t.whole; filler = t.blank; begins = t.begins }
text_taken end (level.Configuration f) bytes rest e = let t = blank_taken end (level.Configuration f) bytes rest e in
    record { text = t.text; whole = t.whole; filler = t.blank; begins = t.begins }
text_taken end (level.Settings f) bytes rest e = let t = blank_taken end (level.Settings f) bytes rest e in
    record { text = t.text; whole = t.whole; filler = t.blank; begins = t.begins }
text_taken end level.Context bytes rest e =
    let t = blank_taken end level.Context bytes rest e in record { text = t.text; whole = t.whole; filler = t.blank; begins = t.begins }
text_taken end level.Extension bytes rest e =
    let t = blank_taken end level.Extension bytes rest e in record { text = t.text; whole = t.whole; filler = t.blank; begins = t.begins }
text_taken end level.Condition bytes rest e =
    let t = blank_taken end level.Condition bytes rest e in record { text = t.text; whole = t.whole; filler = t.blank; begins = t.begins }
text_taken end level.Cases bytes rest e =
    let t = blank_taken end level.Cases bytes rest e in record { text = t.text; whole = t.whole; filler = t.blank; begins = t.begins }
text_taken end level.Empty bytes rest e =
    let t = blank_taken end level.Empty bytes rest e in record { text = t.text; whole = t.whole; filler = t.blank; begins = t.begins }
