-- Where a reading stops, the bytes are bad.
use Rattle.std.proofs.Common.{◌≡◌, ◌≢◌, ◌⊎◌, inl, inr, ℕ, zero, suc, ◌-◌, ◌<◌, ◌^◌, Bool, true, false, List, [], ◌∷◌, ◌++◌, length, drop, get_or}
use Rattle.std.proofs.Common.{Some, Err, cond, refl, sym, ap, ◌∙◌, arith, codes, append_assoc}
use Rattle.std.specs.List.{list_any, All}
use Rattle.std.proofs.lemmas.List.{append-nil, length-append, flat_map_more}
use Rattle.std.proofs.lemmas.Slice.Eq.{starts_is}
use Rattle.std.proofs.lemmas.Bool.Decides.{Decides-eqb}
use Rattle.std.proofs.lemmas.List.Elements.{All-append}
use Rattle.fs_machine.specs.declared.entry.Entry.{Entry}
use Rattle.fs_machine.specs.declared.note.LoadNote.{LoadNote}
use Rattle.fs_replay.specs.declared.fault.Fault.{Fault}
use Rattle.fs_replay.specs.declared.fault.Fault.TheVariants.{Bad, Cut}
use Rattle.fs_replay.specs.declared.fault.JournalFault.{JournalFault}
use Rattle.fs_replay.specs.declared.fault.JournalFault.TheVariants as faults
use Rattle.fs_replay.specs.Texts.{field, act_text, entry_text, entries_text, first_line, last_line, lines_text, journal_text}
use Rattle.fs_replay.specs.Bounds.{IsFit, AreFit}
use Rattle.fs_replay.specs.Faults.{is_lf, IsCut, IsCutLine, CanFollow, IsBadAt, IsFront, Blames, place_of, command_line, load_line}
use Rattle.fs_replay.specs.Reading.{begins, entry_at, count_at}
use Rattle.fs_replay.proofs.Numbers.{word_is}
use Rattle.fs_replay.proofs.ActLines.{entry_complete}
use Rattle.fs_replay.proofs.Bad.{cut_complete, text_complete, cut_sound, count_complete, count_sound}
use Rattle.fs_replay.proofs.Lines.{no_z, no_journal}

-- the word stands in front of what it begins
begins_front : (word bytes rest : List ℕ) → bytes ≡ word ++ rest → begins word bytes ≡ true
begins_front word bytes rest is = (starts_is Decides-eqb bytes word (begins word bytes) refl).1 rest is

-- the offset of what is left
start_is : (bytes front left : List ℕ) → bytes ≡ front ++ left → length bytes - length left ≡ length front
start_is bytes front left is = omega (arith, ap length is, length-append front left)

-- the first line
pub first_is_bad : (bytes : List ℕ) → begins first_line bytes ≡ false → IsBadAt bytes (place_of bytes bytes)
first_is_bad bytes other = inl (record { none = none; place = place (list_any is_lf bytes) refl })
  where
    none : (line behind : List ℕ) → line ≡ first_line → bytes ≡ line ++ behind → ⊥
    none line behind is text =
        let found = begins_front first_line bytes behind (text ∙ ap (λ (l : List ℕ). l ++ behind) is) in cc

    place : (t : Bool) → list_any is_lf bytes ≡ t
        → (IsCut bytes × (cond t (length bytes - length bytes) (length bytes) ≡ length bytes)) ⊎ ((IsCut bytes → ⊥) × (cond t (length bytes - length bytes) (length bytes) ≡ 0))
    place false cut = inl (cut, refl)
    place true whole = inr (λ cut. absurd (cc), omega arith)

begins_last : (count : ℕ) (bytes rest : List ℕ) → bytes ≡ last_line count ++ rest → begins (codes "Z") bytes ≡ true
unfolding last_line
begins_last count bytes rest same = begins_front (codes "Z") bytes ((field count ++ codes "\n") ++ rest) same

-- what may stand in front of what begins otherwise than the last line
none_follows : (entries : List Entry) (left : List ℕ) (fault : Fault) → begins (codes "Z") left ≡ false → entry_at left ≡ Err fault
    → (line behind : List ℕ) → CanFollow entries line → left ≡ line ++ behind → ⊥
none_follows entries left fault other read line behind (inl entry) is =
    let text = is ∙ ap (λ (l : List ℕ). l ++ behind) entry.1.1 in
    let whole = sym read ∙ ap entry_at text ∙ entry_complete entry.0 behind entry.1.0 in
    cc
none_follows entries left fault other read line behind (inr last) is =
    let text = is ∙ ap (λ (l : List ℕ). l ++ behind) last in
    let found = begins_last (length entries) left behind text in
    cc

-- the line of an entry
pub next_is_bad : (bytes left : List ℕ) (entries : List Entry) → IsFront bytes entries left → begins (codes "Z") left ≡ false → entry_at left ≡ Err Bad
    → IsBadAt bytes (place_of bytes left)
next_is_bad bytes left entries front other read = inr (inl (record {
  entries = entries;
  left = left;
  fit = front.fit;
  front = front.front;
  fault = record { none = none_follows entries left Bad other read; place = place (list_any is_lf left) refl };
}))
  where
    not_cut : list_any is_lf left ≡ true → IsCutLine left → ⊥
    not_cut whole (inl cut) = cc
    not_cut whole (inr (inr text)) =
        let cut = sym read ∙ text_complete left text in
        cc
    not_cut whole (inr (inl block)) =
        let cut = sym read ∙ ap entry_at block.is ∙ cut_complete block.moment block.conn block.len block.block block.moment_fits block.conn_fits block.len_fits block.short in
        cc

    place : (t : Bool) → list_any is_lf left ≡ t
        → (IsCutLine left × (cond t (length bytes - length left) (length bytes) ≡ length bytes))
        ⊎ ((IsCutLine left → ⊥) × (cond t (length bytes - length left) (length bytes) ≡ length (lines_text entries)))
    place false cut = inl (inl cut, refl)
    place true whole = inr (not_cut whole, start_is bytes (lines_text entries) left front.front)

-- a block
pub block_is_cut : (bytes left : List ℕ) (entries : List Entry) → IsFront bytes entries left → begins (codes "Z") left ≡ false → entry_at left ≡ Err Cut
    → IsBadAt bytes (length bytes)
block_is_cut bytes left entries front other read = inr (inl (record {
  entries = entries;
  left = left;
  fit = front.fit;
  front = front.front;
  fault = record { none = none_follows entries left Cut other read; place = inl (inr (cut_sound left read), refl) };
}))

not_command : (left : List ℕ) (moment conn len : ℕ) (block : List ℕ) → begins (codes "Z") left ≡ true → left ≡ command_line moment conn len ++ block → ⊥
unfolding command_line
not_command left moment conn len block z is =
    let same = sym is ∙ word_is (codes "Z") left z in
    let heads : ◌≡◌ {A = ℕ} 67 90 = cc in
    absurd (omega (arith, heads))

not_load : (left : List ℕ) (moment job : ℕ) (told : LoadNote) (len : ℕ) (block : List ℕ) → begins (codes "Z") left ≡ true
    → left ≡ load_line moment job told len ++ block → ⊥
unfolding load_line
not_load left moment job told len block z is =
    let same = sym is ∙ word_is (codes "Z") left z in
    let heads : ◌≡◌ {A = ℕ} 76 90 = cc in
    absurd (omega (arith, heads))

-- the last line
pub last_is_bad : (bytes left : List ℕ) (entries : List Entry) → IsFront bytes entries left → begins (codes "Z") left ≡ true → length entries < 2 ^ 64
    → ((behind : List ℕ) → count_at left ≡ Some (length entries, behind) → ⊥) → IsBadAt bytes (place_of bytes left)
last_is_bad bytes left entries front z small other = inr (inl (record {
  entries = entries;
  left = left;
  fit = front.fit;
  front = front.front;
  fault = record { none = none; place = place (list_any is_lf left) refl };
}))
  where
    none : (line behind : List ℕ) → CanFollow entries line → left ≡ line ++ behind → ⊥
    none line behind (inl entry) is =
        no_z entry.0 behind (drop 1 left) (ap (λ (l : List ℕ). l ++ behind) (sym entry.1.1) ∙ sym is ∙ word_is (codes "Z") left z)
    none line behind (inr last) is =
        other behind (ap count_at (is ∙ ap (λ (l : List ℕ). l ++ behind) last) ∙ count_complete (length entries) behind small)

    not_cut : list_any is_lf left ≡ true → IsCutLine left → ⊥
    not_cut whole (inl cut) = cc
    not_cut whole (inr (inl block)) = not_command left block.moment block.conn block.len block.block z block.is
    not_cut whole (inr (inr text)) = not_load left text.moment text.job text.note text.len text.block z text.is

    place : (t : Bool) → list_any is_lf left ≡ t
        → (IsCutLine left × (cond t (length bytes - length left) (length bytes) ≡ length bytes))
        ⊎ ((IsCutLine left → ⊥) × (cond t (length bytes - length left) (length bytes) ≡ length (lines_text entries)))
    place false cut = inl (inl cut, refl)
    place true whole = inr (not_cut whole, start_is bytes (lines_text entries) left front.front)

-- the whole text, and what stands behind it
pub whole_is : (bytes left behind : List ℕ) (entries : List Entry) → IsFront bytes entries left → count_at left ≡ Some (length entries, behind)
    → bytes ≡ journal_text entries ++ behind
unfolding journal_text
whole_is bytes left behind entries front read =
    front.front ∙ ap (λ (l : List ℕ). lines_text entries ++ l) (count_sound (length entries) left behind read)
    ∙ sym (append_assoc (lines_text entries) (last_line (length entries)) behind)

pub behind_is_bad : (bytes left behind : List ℕ) (entries : List Entry) → IsFront bytes entries left → count_at left ≡ Some (length entries, behind)
    → behind ≢ [] → IsBadAt bytes (length bytes - length behind)
behind_is_bad bytes left behind entries front read some =
    let whole = whole_is bytes left behind entries front read in
    inr (inr (record {
      entries = entries;
      left = behind;
      fit = front.fit;
      front = whole;
      some = some;
      place = start_is bytes (journal_text entries) behind whole;
    }))

pub whole_alone : (bytes left behind : List ℕ) (entries : List Entry) → IsFront bytes entries left → count_at left ≡ Some (length entries, behind)
    → behind ≡ [] → bytes ≡ journal_text entries
whole_alone bytes left behind entries front read none =
    whole_is bytes left behind entries front read ∙ ap (λ (l : List ℕ). journal_text entries ++ l) none ∙ append-nil (journal_text entries)

-- one more entry in front
one_fit : (entry : Entry) → IsFit entry → All IsFit (entry ∷ [])
one_fit entry fit = by
  where
    by : (k : ℕ) (d : Entry) → k < length (entry ∷ []) → IsFit (get_or (entry ∷ []) k d)
    by zero d below = fit
    by (suc k) d below = absurd (omega arith)

pub more_front : (bytes left later : List ℕ) (entries : List Entry) (entry : Entry) → IsFront bytes entries left → left ≡ entry_text entry ++ later → IsFit entry
    → IsFront bytes (entries ++ entry ∷ []) later
unfolding lines_text entries_text
more_front bytes left later entries entry front is fit = record {
  fit = All-append IsFit entries (entry ∷ []) front.fit (one_fit entry fit);
  front = front.front ∙ ap (λ (l : List ℕ). lines_text entries ++ l) is ∙ sym (append_assoc (lines_text entries) (entry_text entry) later)
      ∙ ap (λ (l : List ℕ). l ++ later) (flat_map_more entry_text first_line entries entry);
}

-- no entry in front
pub no_front : (bytes left : List ℕ) → bytes ≡ first_line ++ left → IsFront bytes [] left
unfolding lines_text entries_text
no_front bytes left is = record {
  fit = λ k d below. absurd (omega arith);
  front = is;
}

-- an entry's line has bytes
pub shorter : (left later : List ℕ) (entry : Entry) → left ≡ entry_text entry ++ later → length later < length left
unfolding entry_text
shorter left later entry is = omega (arith, ap length is, length-append (field entry.moment ++ act_text entry.act) later)

-- of a journal's text only want of memory is told
pub only_memory : (bytes : List ℕ) (fault : JournalFault) (entries : List Entry) → Blames bytes fault → AreFit entries → bytes ≡ journal_text entries
    → fault ≡ faults.Memory
only_memory bytes (faults.BadLine at) entries blames fit is = absurd (no_journal bytes at entries blames fit is)
only_memory bytes faults.Memory entries blames fit is = refl
