-- What is noted of a load is read as it is written, and what is read is written so.
use Rattle.std.proofs.Common.{◌≡◌, inl, inr, ℕ, ◌<◌, ◌≤◌, ◌^◌, Bool, true, false, List, ◌∷◌, ◌++◌, length, drop}
use Rattle.std.proofs.Common.{None, Some, Ok, Err, cond, refl, sym, ap, ◌∙◌, codes, append_assoc}
use Rattle.fs_machine.specs.declared.note.LoadNote.{LoadNote}
use Rattle.fs_machine.specs.declared.note.LoadNote.TheVariants as note
use Rattle.fs_replay.specs.declared.fault.Fault.TheVariants.{Cut}
use Rattle.fs_replay.specs.declared.loads.Kind.{Kind}
use Rattle.fs_replay.specs.declared.loads.Kind.TheVariants.{Ready, DocRefused, PatternRefused, PatternTooLarge}
use Rattle.fs_replay.specs.declared.loads.Spot.{Spot}
use Rattle.fs_replay.specs.Texts.{field, block_text, note_words, note_block}
use Rattle.fs_replay.specs.Bounds.{IsFitNote}
use Rattle.fs_replay.specs.Faults.{HasText}
use Rattle.fs_replay.specs.Reading.{Read, Reads, begins, word_at, and_then, field_at, conn_at, block_at, spot_at, kind_at, noted, notice_at, of_text, of_notice, note_at}
use Rattle.fs_replay.proofs.Numbers.{one_read, one_of, follows, word_is, word_sound, field_complete, field_sound, conn_complete, conn_sound}
use Rattle.fs_replay.proofs.Blocks.{block_sound, block_complete, block_cut, cut_block}

-- ---- the words

-- the words for what is noted of a text
abbrev pub kind_words : Kind → List ℕ
kind_words Ready = codes " ready"
kind_words DocRefused = codes " doc"
kind_words (PatternRefused spot) = codes " pattern" ++ field spot.extension ++ field spot.condition
kind_words (PatternTooLarge spot) = codes " large" ++ field spot.extension ++ field spot.condition

abbrev pub IsFitKind : Kind → Type 0
IsFitKind Ready = Unit {0}
IsFitKind DocRefused = Unit {0}
IsFitKind (PatternRefused spot) = (spot.extension < 2 ^ 32) × (spot.condition < 2 ^ 32)
IsFitKind (PatternTooLarge spot) = (spot.extension < 2 ^ 32) × (spot.condition < 2 ^ 32)

pub noted_words : (kind : Kind) (text : List ℕ) → note_words (noted kind text) ≡ kind_words kind
noted_words Ready text = refl
noted_words DocRefused text = refl
noted_words (PatternRefused spot) text = refl
noted_words (PatternTooLarge spot) text = refl

noted_block : (kind : Kind) (text : List ℕ) → note_block (noted kind text) ≡ block_text text
noted_block Ready text = refl
noted_block DocRefused text = refl
noted_block (PatternRefused spot) text = refl
noted_block (PatternTooLarge spot) text = refl

pub noted_fits : (kind : Kind) (text : List ℕ) → IsFitKind kind → length text < 2 ^ 64 → IsFitNote (noted kind text)
noted_fits Ready text fit size = size
noted_fits DocRefused text fit size = size
noted_fits (PatternRefused spot) text fit size = (fit.0, (fit.1, size))
noted_fits (PatternTooLarge spot) text fit size = (fit.0, (fit.1, size))

pub noted_has_text : (kind : Kind) (text : List ℕ) → HasText (noted kind text)
noted_has_text Ready text = tt
noted_has_text DocRefused text = tt
noted_has_text (PatternRefused spot) text = tt
noted_has_text (PatternTooLarge spot) text = tt

-- these words stand in front
pub record IsKindAt (bytes : List ℕ) (kind : Kind) (left : List ℕ) : Type 0 where
  pub text : bytes ≡ kind_words kind ++ left
  pub fit : IsFitKind kind

spot_sound : (bytes left : List ℕ) (spot : Spot) → spot_at bytes ≡ Some (spot, left)
    → (bytes ≡ field spot.extension ++ (field spot.condition ++ left)) × ((spot.extension < 2 ^ 32) × (spot.condition < 2 ^ 32))
unfolding spot_at
spot_sound bytes left spot read =
    let parts = follows (conn_at bytes) (λ e mid. and_then (conn_at mid) (λ c behind. Some (record { extension = e; condition = c }, behind))) spot left read in
    let first = conn_sound parts.first bytes parts.mid parts.before in
    let next = follows (conn_at parts.mid) (λ c behind. Some (record { extension = parts.first; condition = c }, behind)) spot left parts.behind in
    let second = conn_sound next.first parts.mid next.mid next.before in
    let same = one_read (record { extension = parts.first; condition = next.first }) spot next.mid left next.behind in
    rw (← same.0) (first.0 ∙ ap (λ (l : List ℕ). field parts.first ++ l) (second.0 ∙ ap (λ (l : List ℕ). field next.first ++ l) same.1), (first.1, second.1))

bare_sound : (word : List ℕ) (given kind : Kind) (bytes left : List ℕ) → begins word bytes ≡ true → word ≡ kind_words given → IsFitKind given
    → ◌≡◌ {A = Read Kind} (Some (given, drop (length word) bytes)) (Some (kind, left)) → IsKindAt bytes kind left
bare_sound word given kind bytes left found says fit same =
    let parts = one_read given kind (drop (length word) bytes) left same in
    rw (← parts.0) (record {
      text = word_is word bytes found ∙ ap (λ (l : List ℕ). word ++ l) parts.1 ∙ ap (λ (w : List ℕ). w ++ left) says;
      fit = fit;
    })

pieces : (a b c d : List ℕ) → a ++ (b ++ (c ++ d)) ≡ (a ++ b ++ c) ++ d
pieces a b c d = simp append_assoc

placed_sound : (word : List ℕ) (make : Spot → Kind) (kind : Kind) (bytes left : List ℕ) → begins word bytes ≡ true
    → ((spot : Spot) → word ++ field spot.extension ++ field spot.condition ≡ kind_words (make spot))
    → ((spot : Spot) → (spot.extension < 2 ^ 32) × (spot.condition < 2 ^ 32) → IsFitKind (make spot))
    → and_then (spot_at (drop (length word) bytes)) (λ spot mid. Some (make spot, mid)) ≡ Some (kind, left) → IsKindAt bytes kind left
placed_sound word make kind bytes left found says fits read =
    let parts = follows (spot_at (drop (length word) bytes)) (λ spot mid. Some (make spot, mid)) kind left read in
    let spot = spot_sound (drop (length word) bytes) parts.mid parts.first parts.before in
    let same = one_read (make parts.first) kind parts.mid left parts.behind in
    rw (← same.0) (record {
      text = word_is word bytes found
          ∙ ap (λ (l : List ℕ). word ++ l) (spot.0 ∙ ap (λ (l : List ℕ). field parts.first.extension ++ (field parts.first.condition ++ l)) same.1)
          ∙ pieces word (field parts.first.extension) (field parts.first.condition) left ∙ ap (λ (w : List ℕ). w ++ left) (says parts.first);
      fit = fits parts.first spot.1;
    })

kind_sound : (bytes left : List ℕ) (kind : Kind) → kind_at bytes ≡ Some (kind, left) → IsKindAt bytes kind left
unfolding kind_at
kind_sound bytes left kind read =
    elim (one_of (begins (codes " ready") bytes) _ _ (kind, left) read) [
      | inl a ↦ bare_sound (codes " ready") Ready kind bytes left a.0 refl tt a.1
      | inr b ↦ elim (one_of (begins (codes " doc") bytes) _ _ (kind, left) b.1) [
        | inl a ↦ bare_sound (codes " doc") DocRefused kind bytes left a.0 refl tt a.1
        | inr b ↦ elim (one_of (begins (codes " pattern") bytes) _ _ (kind, left) b.1) [
          | inl a ↦ placed_sound (codes " pattern") (λ spot. PatternRefused spot) kind bytes left a.0 (λ spot. refl) (λ spot fit. fit) a.1
          | inr b ↦ elim (one_of (begins (codes " large") bytes) _ _ (kind, left) b.1) [
            | inl a ↦ placed_sound (codes " large") (λ spot. PatternTooLarge spot) kind bytes left a.0 (λ spot. refl) (λ spot fit. fit) a.1
            | inr b ↦ absurd (nothing b.1)
          ]
        ]
      ]
    ]
  where
    nothing : ◌≡◌ {A = Read Kind} None (Some (kind, left)) → ⊥
    nothing same = cc

-- ---- the text

notice_parts : (bytes mid late left : List ℕ) (given kind : Kind) (n len : ℕ) → IsKindAt bytes given mid → (mid ≡ field n ++ late) × (n < 2 ^ 64)
    → ◌≡◌ {A = Kind × ℕ} (kind, len) (given, n) → late ≡ 10 ∷ left
    → (bytes ≡ kind_words kind ++ (field len ++ (10 ∷ left))) × (IsFitKind kind × (len < 2 ^ 64))
notice_parts bytes mid late left given kind n len word size same back =
    let is_kind : kind ≡ given = ap (λ (p : Kind × ℕ). p.0) same in
    let is_len : len ≡ n = ap (λ (p : Kind × ℕ). p.1) same in
    rw (is_kind, is_len) (word.text ∙ ap (λ (l : List ℕ). kind_words given ++ l) (size.0 ∙ ap (λ (l : List ℕ). field n ++ l) back), (word.fit, size.1))

notice_sound : (bytes left : List ℕ) (kind : Kind) (len : ℕ) → notice_at bytes ≡ Some ((kind, len), left)
    → (bytes ≡ kind_words kind ++ (field len ++ (10 ∷ left))) × (IsFitKind kind × (len < 2 ^ 64))
unfolding notice_at
notice_sound bytes left kind len read =
    let parts = follows (kind_at bytes) (λ k mid. and_then (field_at mid) (λ n behind. word_at (codes "\n") (k, n) behind)) (kind, len) left read in
    let next = follows (field_at parts.mid) (λ n behind. word_at (codes "\n") (parts.first, n) behind) (kind, len) left parts.behind in
    let back = word_sound (codes "\n") (parts.first, next.first) (kind, len) next.mid left next.behind in
    notice_parts bytes parts.mid next.mid left parts.first kind next.first len (kind_sound bytes parts.mid parts.first parts.before)
    (field_sound next.first parts.mid next.mid next.before) back.0 back.1

note_shape : (words text left : List ℕ) → words ++ (field (length text) ++ (10 ∷ (text ++ (10 ∷ left)))) ≡ (words ++ block_text text) ++ left
note_shape words text left = simp append_assoc

-- what was read is what is written
pub record IsNoteAt (bytes : List ℕ) (note : LoadNote) (left : List ℕ) : Type 0 where
  pub text : bytes ≡ (note_words note ++ note_block note) ++ left
  pub fit : IsFitNote note

word_alone : (word : List ℕ) (given told : LoadNote) (bytes left : List ℕ) → begins word bytes ≡ true → word ≡ note_words given ++ note_block given → IsFitNote given
    → ◌≡◌ {A = Reads LoadNote} (Ok (given, drop (length word) bytes)) (Ok (told, left)) → IsNoteAt bytes told left
word_alone word given told bytes left found says fit same =
    let both : ◌≡◌ {A = LoadNote × List ℕ} (given, drop (length word) bytes) (told, left) = cc in
    let is : given ≡ told = ap (λ (p : LoadNote × List ℕ). p.0) both in
    let rest : drop (length word) bytes ≡ left = ap (λ (p : LoadNote × List ℕ). p.1) both in
    rw (← is) (record {
      text = word_is word bytes found ∙ ap (λ (l : List ℕ). word ++ l) rest ∙ ap (λ (w : List ℕ). w ++ left) says;
      fit = fit;
    })

pub note_sound : (bytes left : List ℕ) (told : LoadNote) → note_at bytes ≡ Ok (told, left) → IsNoteAt bytes told left
unfolding note_at
note_sound bytes left told read = first (begins (codes " absent\n") bytes) refl read
  where
    fourth : (kind : Kind) (len : ℕ) (mid : List ℕ) (r : Reads (List ℕ)) → notice_at bytes ≡ Some ((kind, len), mid) → block_at len mid ≡ r
        → of_text kind r ≡ Ok (told, left) → IsNoteAt bytes told left
    fourth kind len mid (Err fault) before here same = absurd (cc)
    fourth kind len mid (Ok r) before here same =
        let both : ◌≡◌ {A = LoadNote × List ℕ} (noted kind r.0, r.1) (told, left) = cc in
        let given : noted kind r.0 ≡ told = ap (λ (p : LoadNote × List ℕ). p.0) both in
        let rest : r.1 ≡ left = ap (λ (p : LoadNote × List ℕ). p.1) both in
        let line = notice_sound bytes mid kind len before in
        let block = block_sound len mid r.0 r.1 here in
        let size : length r.0 < 2 ^ 64 = rw block.size line.1.1 in
        let text = line.0 ∙ ap (λ (l : List ℕ). kind_words kind ++ (field len ++ (10 ∷ l))) (block.text ∙ ap (λ (l : List ℕ). r.0 ++ (10 ∷ l)) rest)
        ∙ ap (λ n. kind_words kind ++ (field n ++ (10 ∷ (r.0 ++ (10 ∷ left))))) (sym block.size) ∙ note_shape (kind_words kind) r.0 left
        ∙ ap (λ (w : List ℕ). (w ++ block_text r.0) ++ left) (sym (noted_words kind r.0))
        ∙ ap (λ (b : List ℕ). (note_words (noted kind r.0) ++ b) ++ left) (sym (noted_block kind r.0)) in
        rw (← given) (record { text = text; fit = noted_fits kind r.0 line.1.0 size })

    third : (r : Read (Kind × ℕ)) → notice_at bytes ≡ r → of_notice r ≡ Ok (told, left) → IsNoteAt bytes told left
    third None none same = absurd (cc)
    third (Some r) before same = fourth r.0.0 r.0.1 r.1 (block_at r.0.1 r.1) before refl same

    second : (t : Bool) → begins (codes " failed\n") bytes ≡ t
        → ◌≡◌ {A = Reads LoadNote} (cond t (Ok (note.Failed, drop 8 bytes)) (of_notice (notice_at bytes))) (Ok (told, left)) → IsNoteAt bytes told left
    second true here same = word_alone (codes " failed\n") note.Failed told bytes left here refl tt same
    second false none same = third (notice_at bytes) refl same

    first : (t : Bool) → begins (codes " absent\n") bytes ≡ t
        → ◌≡◌ {A = Reads LoadNote} (cond t (Ok (note.Absent, drop 8 bytes)) (cond (begins (codes " failed\n") bytes) (Ok (note.Failed, drop 8 bytes)) (of_notice (notice_at bytes)))) (Ok (told, left))
        → IsNoteAt bytes told left
    first true here same = word_alone (codes " absent\n") note.Absent told bytes left here refl tt same
    first false none same = second (begins (codes " failed\n") bytes) refl same

-- ---- as it is written

block_shape : (text rest : List ℕ) → block_text text ++ rest ≡ field (length text) ++ (10 ∷ (text ++ (10 ∷ rest)))
block_shape text rest = simp append_assoc

spot_shape : (a b c d : List ℕ) → ((a ++ b) ++ c) ++ d ≡ a ++ (b ++ (c ++ d))
spot_shape a b c d = simp append_assoc

pub note_complete : (told : LoadNote) (rest : List ℕ) → IsFitNote told → note_at ((note_words told ++ note_block told) ++ rest) ≡ Ok (told, rest)
unfolding note_at notice_at kind_at spot_at
note_complete (note.Ready text) rest fit = rw (block_shape text rest, field_complete (length text) 10 _ fit refl, block_complete text rest) refl
note_complete (note.DocRefused text) rest fit = rw (block_shape text rest, field_complete (length text) 10 _ fit refl, block_complete text rest) refl
note_complete (note.PatternRefused text extension condition) rest fit =
    rw (
      spot_shape (field extension) (field condition) (block_text text) rest,
      block_shape text rest,
      conn_complete extension 32 _ fit.0 refl,
      conn_complete condition 32 _ fit.1.0 refl,
      field_complete (length text) 10 _ fit.1.1 refl,
      block_complete text rest,
    ) refl
note_complete (note.PatternTooLarge text extension condition) rest fit =
    rw (
      spot_shape (field extension) (field condition) (block_text text) rest,
      block_shape text rest,
      conn_complete extension 32 _ fit.0 refl,
      conn_complete condition 32 _ fit.1.0 refl,
      field_complete (length text) 10 _ fit.1.1 refl,
      block_complete text rest,
    ) refl
note_complete note.Absent rest fit = refl
note_complete note.Failed rest fit = refl

-- it begins with a space
pub note_begins : (told : LoadNote) (rest : List ℕ) → (after : List ℕ) × ((note_words told ++ note_block told) ++ rest ≡ 32 ∷ after)
note_begins (note.Ready text) rest = (_, refl)
note_begins (note.DocRefused text) rest = (_, refl)
note_begins (note.PatternRefused text extension condition) rest = (_, refl)
note_begins (note.PatternTooLarge text extension condition) rest = (_, refl)
note_begins note.Absent rest = (_, refl)
note_begins note.Failed rest = (_, refl)

pub words_begin : (told : LoadNote) (rest : List ℕ) → (after : List ℕ) × (note_words told ++ rest ≡ 32 ∷ after)
words_begin (note.Ready text) rest = (_, refl)
words_begin (note.DocRefused text) rest = (_, refl)
words_begin (note.PatternRefused text extension condition) rest = (_, refl)
words_begin (note.PatternTooLarge text extension condition) rest = (_, refl)
words_begin note.Absent rest = (_, refl)
words_begin note.Failed rest = (_, refl)

-- ---- a text that is cut

pub note_cut : (told : LoadNote) (len : ℕ) (block : List ℕ) → HasText told → IsFitNote told → len < 2 ^ 64 → length block ≤ len
    → note_at (note_words told ++ (field len ++ (10 ∷ block))) ≡ Err Cut
unfolding note_at notice_at kind_at spot_at
note_cut (note.Ready text) len block has fit fits short = rw (field_complete len 10 _ fits refl, block_cut len block short) refl
note_cut (note.DocRefused text) len block has fit fits short = rw (field_complete len 10 _ fits refl, block_cut len block short) refl
note_cut (note.PatternRefused text extension condition) len block has fit fits short =
    rw (
      append_assoc (field extension) (field condition) (field len ++ (10 ∷ block)),
      conn_complete extension 32 _ fit.0 refl,
      conn_complete condition 32 _ fit.1.0 refl,
      field_complete len 10 _ fits refl,
      block_cut len block short,
    ) refl
note_cut (note.PatternTooLarge text extension condition) len block has fit fits short =
    rw (
      append_assoc (field extension) (field condition) (field len ++ (10 ∷ block)),
      conn_complete extension 32 _ fit.0 refl,
      conn_complete condition 32 _ fit.1.0 refl,
      field_complete len 10 _ fits refl,
      block_cut len block short,
    ) refl
note_cut note.Absent len block has fit fits short = absurd has
note_cut note.Failed len block has fit fits short = absurd has

-- the words, a length, and fewer bytes than that
pub record IsCutNote (bytes : List ℕ) : Type 0 where
  pub kind : Kind
  pub len : ℕ
  pub block : List ℕ
  pub is : bytes ≡ kind_words kind ++ (field len ++ (10 ∷ block))
  pub fit : IsFitKind kind
  pub len_fits : len < 2 ^ 64
  pub short : length block ≤ len

pub note_cut_sound : (bytes : List ℕ) → note_at bytes ≡ Err Cut → IsCutNote bytes
unfolding note_at
note_cut_sound bytes read = first (begins (codes " absent\n") bytes) refl read
  where
    fourth : (kind : Kind) (len : ℕ) (mid : List ℕ) (r : Reads (List ℕ)) → notice_at bytes ≡ Some ((kind, len), mid) → block_at len mid ≡ r
        → of_text kind r ≡ Err Cut → IsCutNote bytes
    fourth kind len mid (Ok r) before here same = absurd (cc)
    fourth kind len mid (Err fault) before here same =
        let cut : fault ≡ Cut = cc in
        let line = notice_sound bytes mid kind len before in
        record {
          kind = kind;
          len = len;
          block = mid;
          is = line.0;
          fit = line.1.0;
          len_fits = line.1.1;
          short = cut_block len mid (here ∙ ap (λ f. Err f) cut);
        }

    third : (r : Read (Kind × ℕ)) → notice_at bytes ≡ r → of_notice r ≡ Err Cut → IsCutNote bytes
    third None none same = absurd (cc)
    third (Some r) before same = fourth r.0.0 r.0.1 r.1 (block_at r.0.1 r.1) before refl same

    second : (t : Bool) → ◌≡◌ {A = Reads LoadNote} (cond t (Ok (note.Failed, drop 8 bytes)) (of_notice (notice_at bytes))) (Err Cut) → IsCutNote bytes
    second true same = absurd (cc)
    second false same = third (notice_at bytes) refl same

    first : (t : Bool) → begins (codes " absent\n") bytes ≡ t
        → ◌≡◌ {A = Reads LoadNote} (cond t (Ok (note.Absent, drop 8 bytes)) (cond (begins (codes " failed\n") bytes) (Ok (note.Failed, drop 8 bytes)) (of_notice (notice_at bytes)))) (Err Cut)
        → IsCutNote bytes
    first true here same = absurd (cc)
    first false none same = second (begins (codes " failed\n") bytes) same
