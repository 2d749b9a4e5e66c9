-- What was written, piece by piece, is the text.
use Rattle.std.proofs.Common.{◌≡◌, ℕ, ◌+◌, ◌<◌, List, [], ◌∷◌, ◌++◌, length, take, get_or, sym, ap, ◌∙◌, append_assoc, codes}
use Rattle.std.specs.List.{flat_map}
use Rattle.std.proofs.lemmas.List.{take_more, flat_map_more}
use Rattle.fs_machine.specs.declared.entry.Entry.{Entry}
use Rattle.fs_replay.specs.Texts.{field, letter_of, act_text, entry_text, entries_text, first_line, last_line, lines_text, journal_text}

-- an entry
pub entry_pushed : (entry : Entry) (old a b : List ℕ) → a ≡ old ++ letter_of entry.act ∷ [] → b ≡ a ++ field entry.moment
    → b ++ act_text entry.act ≡ old ++ entry_text entry
unfolding entry_text
entry_pushed entry old a b first second =
    rw (second, first) (simp append_assoc)

-- one more entry
pub entries_pushed : (entries : List Entry) (i : ℕ) (entry : Entry) (old a b : List ℕ) → i < length entries → entry ≡ get_or entries i entry
    → a ≡ old ++ entries_text (take i entries) → b ≡ a ++ entry_text entry → b ≡ old ++ entries_text (take (i + 1) entries)
unfolding entries_text
entries_pushed entries i entry old a b below is front more =
    let later = take_more entries i entry below ∙ ap (λ (e : Entry). take i entries ++ e ∷ []) (sym is) in
    more ∙ ap (λ (l : List ℕ). l ++ entry_text entry) front ∙ flat_map_more entry_text old (take i entries) entry
    ∙ ap (λ (l : List Entry). old ++ flat_map entry_text l) (sym later)

-- the whole
pub journal_written : (given entries : List Entry) (a b c d : List ℕ) → given ≡ entries → a ≡ first_line → b ≡ a ++ entries_text given → c ≡ b ++ 90 ∷ []
    → d ≡ c ++ (field (length given) ++ codes "\n") → d ≡ journal_text entries
unfolding journal_text lines_text last_line
journal_written given entries a b c d same first second third fourth =
    fourth ∙ rw (third, second, first, same) (append_assoc (first_line ++ entries_text entries) (90 ∷ []) (field (length entries) ++ codes "\n"))
