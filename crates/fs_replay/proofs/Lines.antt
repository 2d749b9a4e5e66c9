-- What follows from the texts alone: they tell their entries, and where bytes are bad they are no journal's.
use Rattle.std.proofs.Common.{◌≡◌, inl, inr, ℕ, suc, List, [], ◌∷◌, ◌++◌, length, Ok, refl, sym, ap, ◌∙◌, arith, append_assoc}
use Rattle.std.specs.List.{All}
use Rattle.std.proofs.lemmas.List.{append-nil, append_cancel_left}
use Rattle.fs_machine.specs.declared.entry.Entry.{Entry}
use Rattle.fs_machine.specs.declared.entry.Act.{Act}
use Rattle.fs_machine.specs.declared.entry.Act.TheVariants.{Arrive, Command, Take, Close, Dialed, Work, Job, Loaded, Halt}
use Rattle.fs_replay.specs.Texts.{letter_of, entry_text, entries_text, first_line, last_line, lines_text, journal_text}
use Rattle.fs_replay.specs.Bounds.{IsFit, AreFit}
use Rattle.fs_replay.specs.Faults.{IsBadFirst, IsBadNext, IsBadBehind, IsBadAt}
use Rattle.fs_replay.specs.Reading.{entry_at, Reads}
use Rattle.fs_replay.proofs.ActLines.{entry_complete}

no_letter : (act : Act) → letter_of act ≡ 90 → ⊥
no_letter Arrive h = absurd (omega arith)
no_letter Halt h = absurd (omega arith)
no_letter (Command conn block) h = absurd (omega arith)
no_letter (Take conn) h = absurd (omega arith)
no_letter (Close conn how) h = absurd (omega arith)
no_letter (Dialed slot linked) h = absurd (omega arith)
no_letter (Work slot) h = absurd (omega arith)
no_letter (Job job) h = absurd (omega arith)
no_letter (Loaded job note) h = absurd (omega arith)

-- an entry's line does not begin as the last line does
pub no_z : (entry : Entry) (a b : List ℕ) → entry_text entry ++ a ≡ 90 ∷ b → ⊥
unfolding entry_text
no_z entry a b same =
    let heads : letter_of entry.act ≡ 90 = cc in
    no_letter entry.act heads

-- an entry's line is no last line
pub no_entry : (entry : Entry) (count : ℕ) (a b : List ℕ) → entry_text entry ++ a ≡ last_line count ++ b → ⊥
unfolding entry_text last_line
no_entry entry count a b same =
    let heads : letter_of entry.act ≡ 90 = cc in
    no_letter entry.act heads

-- the lines of entries are those of their front, and then the others
pub record Parted (front all : List Entry) (left : List ℕ) (count : ℕ) : Type 0 where
  pub rest : List Entry
  pub whole : all ≡ front ++ rest
  pub text : left ≡ entries_text rest ++ last_line count
  pub fit : All IsFit rest

entry_more : (entry : Entry) (entries : List Entry) (left : List ℕ) → entries_text (entry ∷ entries) ++ left ≡ entry_text entry ++ (entries_text entries ++ left)
unfolding entries_text
entry_more entry entries left = append_assoc (entry_text entry) (entries_text entries) left

head_fit : (entry : Entry) (entries : List Entry) → All IsFit (entry ∷ entries) → IsFit entry
head_fit entry entries all = all 0 entry (omega arith)

tail_fit : (entry : Entry) (entries : List Entry) → All IsFit (entry ∷ entries) → All IsFit entries
tail_fit entry entries all = λ k d below. all (suc k) d (omega arith)

pub parted : (front all : List Entry) (left : List ℕ) (count : ℕ) → All IsFit front → All IsFit all
    → entries_text front ++ left ≡ entries_text all ++ last_line count → Parted front all left count
unfolding entries_text
parted [] all left count front_fit fit same = record { rest = all; whole = refl; text = same; fit = fit }
parted (e ∷ front) [] left count front_fit fit same =
    absurd (no_entry e count (entries_text front ++ left) [] (sym (entry_more e front left) ∙ same ∙ sym (append-nil (last_line count))))
parted (e ∷ front) (a ∷ all) left count front_fit fit same =
    let lines = sym (entry_more e front left) ∙ same ∙ entry_more a all (last_line count) in
    let mine = entry_complete e (entries_text front ++ left) (head_fit e front front_fit) in
    let other = entry_complete a (entries_text all ++ last_line count) (head_fit a all fit) in
    let read : ◌≡◌ {A = Reads Entry} (Ok (e, entries_text front ++ left)) (Ok (a, entries_text all ++ last_line count)) = sym mine ∙ ap entry_at lines ∙ other in
    let both : ◌≡◌ {A = Entry × List ℕ} (e, entries_text front ++ left) (a, entries_text all ++ last_line count) = cc in
    let one : e ≡ a = ap (λ (r : Entry × List ℕ). r.0) both in
    let more = parted front all left count (tail_fit e front front_fit) (tail_fit a all fit) (ap (λ (r : Entry × List ℕ). r.1) both) in
    record {
      rest = more.rest;
      whole = ap (λ (x : Entry). x ∷ all) (sym one) ∙ ap (λ (l : List Entry). e ∷ l) more.whole;
      text = more.text;
      fit = more.fit;
    }

-- a whole text begins with the first line
whole_text : (entries : List Entry) → journal_text entries ≡ first_line ++ (entries_text entries ++ last_line (length entries))
unfolding journal_text lines_text
whole_text entries = append_assoc first_line (entries_text entries) (last_line (length entries))

parted_at : (front all : List Entry) (left : List ℕ) → All IsFit front → All IsFit all → journal_text all ≡ lines_text front ++ left → Parted front all left (length all)
unfolding lines_text
parted_at front all left front_fit fit same =
    parted front all left (length all) front_fit fit
    (append_cancel_left first_line _ _ (sym (append_assoc first_line (entries_text front) left) ∙ sym same ∙ whole_text all))

-- where nothing but the last line follows, the entries are those
only : (front all : List Entry) (count : ℕ) (behind : List ℕ) (p : Parted front all (last_line count ++ behind) (length all)) → (p.rest ≡ [])
unfolding entries_text
only front all count behind p = by p.rest p.text
  where
    by : (rest : List Entry) → last_line count ++ behind ≡ entries_text rest ++ last_line (length all) → rest ≡ []
    by [] text = refl
    by (r ∷ rest) text = absurd (no_entry r count (entries_text rest ++ last_line (length all)) behind (sym (entry_more r rest (last_line (length all))) ∙ sym text))

same_entries : (front all : List Entry) (left : List ℕ) (count : ℕ) (p : Parted front all left count) → p.rest ≡ [] → all ≡ front
same_entries front all left count p none = p.whole ∙ ap (λ (l : List Entry). front ++ l) none ∙ append-nil front

-- a text tells its entries
pub one_journal : (one other : List Entry) → AreFit one → AreFit other → journal_text one ≡ journal_text other → one ≡ other
unfolding journal_text
one_journal one other one_fit other_fit same =
    let p = parted_at one other (last_line (length one) ++ []) one_fit other_fit
    (sym same ∙ ap (λ (l : List ℕ). lines_text one ++ l) (sym (append-nil (last_line (length one))))) in
    sym (same_entries one other _ _ p (only one other (length one) [] p))

bad_first : (bytes : List ℕ) (at : ℕ) (entries : List Entry) → IsBadFirst bytes at → bytes ≡ journal_text entries → ⊥
bad_first bytes at entries bad is = bad.none first_line _ refl (is ∙ whole_text entries)

bad_next : (bytes : List ℕ) (at : ℕ) (entries : List Entry) → IsBadNext bytes at → AreFit entries → bytes ≡ journal_text entries → ⊥
unfolding entries_text
bad_next bytes at entries bad fit is =
    let p = parted_at bad.entries entries bad.left bad.fit fit (sym is ∙ bad.front) in
    by p.rest p.whole p.text p.fit
  where
    by : (rest : List Entry) → entries ≡ bad.entries ++ rest → bad.left ≡ entries_text rest ++ last_line (length entries) → All IsFit rest → ⊥
    by [] whole text all =
        let count = ap length (whole ∙ append-nil bad.entries) in
        bad.fault.none (last_line (length bad.entries)) [] (inr refl) (text ∙ ap last_line count ∙ sym (append-nil _))
    by (r ∷ rest) whole text all =
        bad.fault.none (entry_text r) (entries_text rest ++ last_line (length entries)) (inl (r, (head_fit r rest all, refl)))
        (text ∙ entry_more r rest (last_line (length entries)))

bad_behind : (bytes : List ℕ) (at : ℕ) (entries : List Entry) → IsBadBehind bytes at → AreFit entries → bytes ≡ journal_text entries → ⊥
unfolding journal_text entries_text
bad_behind bytes at entries bad fit is =
    let count = length bad.entries in
    let p = parted_at bad.entries entries (last_line count ++ bad.left) bad.fit fit
    (sym is ∙ bad.front ∙ append_assoc (lines_text bad.entries) (last_line count) bad.left) in
    let none = only bad.entries entries count bad.left p in
    let same = same_entries bad.entries entries _ _ p none in
    let last : last_line count ++ bad.left ≡ last_line count ++ [] =
    p.text ∙ ap (λ (l : List Entry). entries_text l ++ last_line (length entries)) none ∙ ap (λ (l : List Entry). last_line (length l)) same
    ∙ sym (append-nil (last_line count)) in
    bad.some (append_cancel_left (last_line count) bad.left [] last)

-- bytes that are bad somewhere are no journal's text
pub no_journal : (bytes : List ℕ) (at : ℕ) (entries : List Entry) → IsBadAt bytes at → AreFit entries → bytes ≡ journal_text entries → ⊥
no_journal bytes at entries (inl bad) fit is = bad_first bytes at entries bad is
no_journal bytes at entries (inr (inl bad)) fit is = bad_next bytes at entries bad fit is
no_journal bytes at entries (inr (inr bad)) fit is = bad_behind bytes at entries bad fit is
