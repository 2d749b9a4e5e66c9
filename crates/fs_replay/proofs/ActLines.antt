-- The line of an entry is read as it is written, and what is read is written so.
use Rattle.std.proofs.Common.{◌≡◌, inl, inr, ℕ, ◌<◌, ◌^◌, Bool, true, false, nat_eq, List, [], ◌∷◌, ◌++◌, length, drop}
use Rattle.std.proofs.Common.{None, Some, Ok, Err, cond, refl, sym, ap, ◌∙◌, arith, codes, append_assoc}
use Rattle.std.proofs.lemmas.Bool.Decides.{nat_tests}
use Rattle.fs_machine.specs.declared.entry.Entry.{Entry}
use Rattle.fs_machine.specs.declared.entry.Act.{Act}
use Rattle.fs_machine.specs.declared.entry.Act.TheVariants.{Arrive, Command, Take, Close, Dialed, Work, Job, Loaded, Halt}
use Rattle.fs_machine.specs.declared.entry.Closing.{Closing}
use Rattle.fs_machine.specs.declared.entry.Closing.TheVariants.{EndOfInput, Sent, Failed}
use Rattle.fs_replay.specs.declared.acts.Head.{Head}
use Rattle.fs_machine.specs.declared.note.LoadNote.{LoadNote}
use Rattle.fs_replay.specs.Texts.{field, letter_of, closing_text, linked_text, note_words, note_block, act_text, entry_text}
use Rattle.fs_replay.specs.Bounds.{IsFitAct, IsFit}
use Rattle.fs_replay.specs.Reading.{Read, Reads, is_other, begins, word_at, and_then, ended_at, taken_at, work_at, job_at, closing_at, close_at, linked_at, dialed_at, plain_at, head_at, block_at, of_block, of_head, command_at, note_at, of_note, of_job, loaded_at, or_bad, act_at, of_act, of_moment, entry_at, field_at, conn_at, slot_at}
use Rattle.fs_replay.proofs.Blocks.{block_sound, block_complete}
use Rattle.fs_replay.proofs.LoadLines.{note_sound, note_complete, note_begins}
use Rattle.fs_replay.proofs.Numbers.{one_read, one_of, follows, word_is, word_sound, field_complete, field_sound, conn_complete, conn_sound, slot_complete, slot_sound}

-- what was read is what is written
pub record IsActAt (letter : ℕ) (bytes : List ℕ) (act : Act) (left : List ℕ) : Type 0 where
  pub is : letter ≡ letter_of act
  pub text : bytes ≡ act_text act ++ left
  pub fit : IsFitAct act

-- ---- acts that end with a number

ended_sound : (act given : Act) (bytes left : List ℕ) → ended_at given bytes ≡ Some (act, left) → (act ≡ given) × (bytes ≡ 10 ∷ left)
unfolding ended_at
ended_sound act given bytes left is = word_sound (codes "\n") given act bytes left is

ended_complete : (act : Act) (rest : List ℕ) → ended_at act (10 ∷ rest) ≡ Some (act, rest)
unfolding ended_at
ended_complete act rest = refl

-- a number and LF
last_text : (n : ℕ) (bytes mid left : List ℕ) → bytes ≡ field n ++ mid → mid ≡ 10 ∷ left → bytes ≡ (field n ++ codes "\n") ++ left
last_text n bytes mid left front back = front ∙ ap (λ (l : List ℕ). field n ++ l) back ∙ sym (append_assoc (field n) (codes "\n") left)

take_sound : (letter : ℕ) (bytes left : List ℕ) (act : Act) → letter ≡ 84 → taken_at bytes ≡ Some (act, left) → IsActAt letter bytes act left
unfolding taken_at
take_sound letter bytes left act is read =
    let parts = follows (conn_at bytes) (λ conn mid. ended_at (Take conn) mid) act left read in
    let number = conn_sound parts.first bytes parts.mid parts.before in
    let back = ended_sound act (Take parts.first) parts.mid left parts.behind in
    rw back.0 (record { is = is; text = last_text parts.first bytes parts.mid left number.0 back.1; fit = number.1 })

work_sound : (letter : ℕ) (bytes left : List ℕ) (act : Act) → letter ≡ 87 → work_at bytes ≡ Some (act, left) → IsActAt letter bytes act left
unfolding work_at
work_sound letter bytes left act is read =
    let parts = follows (slot_at bytes) (λ slot mid. ended_at (Work slot) mid) act left read in
    let number = slot_sound parts.first bytes parts.mid parts.before in
    let back = ended_sound act (Work parts.first) parts.mid left parts.behind in
    rw back.0 (record { is = is; text = last_text parts.first bytes parts.mid left number.0 back.1; fit = number.1 })

job_sound : (letter : ℕ) (bytes left : List ℕ) (act : Act) → letter ≡ 74 → job_at bytes ≡ Some (act, left) → IsActAt letter bytes act left
unfolding job_at
job_sound letter bytes left act is read =
    let parts = follows (field_at bytes) (λ job mid. ended_at (Job job) mid) act left read in
    let number = field_sound parts.first bytes parts.mid parts.before in
    let back = ended_sound act (Job parts.first) parts.mid left parts.behind in
    rw back.0 (record { is = is; text = last_text parts.first bytes parts.mid left number.0 back.1; fit = number.1 })

alone_sound : (letter : ℕ) (given : Act) (bytes left : List ℕ) (act : Act) → letter ≡ letter_of given → (10 ∷ left ≡ act_text given ++ left) → IsFitAct given
    → ended_at given bytes ≡ Some (act, left) → IsActAt letter bytes act left
alone_sound letter given bytes left act is text fit read =
    let back = ended_sound act given bytes left read in
    rw back.0 (record { is = is; text = back.1 ∙ text; fit = fit })

-- ---- acts that end with a word

closing_sound : (how : Closing) (bytes left : List ℕ) → closing_at bytes ≡ Some (how, left) → bytes ≡ closing_text how ++ left
unfolding closing_at
closing_sound how bytes left is = first (begins (codes " in\n") bytes) refl is
  where
    other : Read Closing
    other = cond (begins (codes " sent\n") bytes) (Some (Sent, drop 6 bytes)) (word_at (codes " failed\n") Failed bytes)

    found : (word : List ℕ) (given : Closing) → begins word bytes ≡ true → word ≡ closing_text given
        → ◌≡◌ {A = Read Closing} (Some (given, drop (length word) bytes)) (Some (how, left)) → bytes ≡ closing_text how ++ left
    found word given here says same =
        let parts = one_read given how (drop (length word) bytes) left same in
        word_is word bytes here ∙ ap (λ (l : List ℕ). word ++ l) parts.1 ∙ ap (λ (w : List ℕ). w ++ left) (says ∙ ap closing_text parts.0)

    second : (t : Bool) → begins (codes " sent\n") bytes ≡ t
        → ◌≡◌ {A = Read Closing} (cond t (Some (Sent, drop 6 bytes)) (word_at (codes " failed\n") Failed bytes)) (Some (how, left)) → bytes ≡ closing_text how ++ left
    second true here same = found (codes " sent\n") Sent here refl same
    second false none same =
        let parts = word_sound (codes " failed\n") Failed how bytes left same in
        parts.1 ∙ ap (λ h. closing_text h ++ left) (sym parts.0)

    first : (t : Bool) → begins (codes " in\n") bytes ≡ t
        → ◌≡◌ {A = Read Closing} (cond t (Some (EndOfInput, drop 4 bytes)) (cond (begins (codes " sent\n") bytes) (Some (Sent, drop 6 bytes)) (word_at (codes " failed\n") Failed bytes))) (Some (how, left))
        → bytes ≡ closing_text how ++ left
    first true here same = found (codes " in\n") EndOfInput here refl same
    first false none same = second (begins (codes " sent\n") bytes) refl same

closing_complete : (how : Closing) (rest : List ℕ) → closing_at (closing_text how ++ rest) ≡ Some (how, rest)
unfolding closing_at
closing_complete EndOfInput rest = refl
closing_complete Sent rest = refl
closing_complete Failed rest = refl

linked_sound : (linked : Bool) (bytes left : List ℕ) → linked_at bytes ≡ Some (linked, left) → bytes ≡ linked_text linked ++ left
unfolding linked_at
linked_sound linked bytes left is = by (begins (codes " 1\n") bytes) refl is
  where
    by : (t : Bool) → begins (codes " 1\n") bytes ≡ t
        → ◌≡◌ {A = Read Bool} (cond t (Some (true, drop 3 bytes)) (word_at (codes " 0\n") false bytes)) (Some (linked, left)) → bytes ≡ linked_text linked ++ left
    by true here same =
        let parts = one_read true linked (drop 3 bytes) left same in
        word_is (codes " 1\n") bytes here ∙ ap (λ (l : List ℕ). codes " 1\n" ++ l) parts.1 ∙ ap (λ b. linked_text b ++ left) parts.0
    by false none same =
        let parts = word_sound (codes " 0\n") false linked bytes left same in
        parts.1 ∙ ap (λ b. linked_text b ++ left) (sym parts.0)

linked_complete : (linked : Bool) (rest : List ℕ) → linked_at (linked_text linked ++ rest) ≡ Some (linked, rest)
unfolding linked_at
linked_complete true rest = refl
linked_complete false rest = refl

close_sound : (letter : ℕ) (bytes left : List ℕ) (act : Act) → letter ≡ 88 → close_at bytes ≡ Some (act, left) → IsActAt letter bytes act left
unfolding close_at
close_sound letter bytes left act is read =
    let parts = follows (conn_at bytes) (λ conn mid. and_then (closing_at mid) (λ how behind. Some (Close conn how, behind))) act left read in
    let number = conn_sound parts.first bytes parts.mid parts.before in
    let word = follows (closing_at parts.mid) (λ how behind. Some (Close parts.first how, behind)) act left parts.behind in
    let same = one_read (Close parts.first word.first) act word.mid left word.behind in
    let back = closing_sound word.first parts.mid word.mid word.before in
    let text = number.0 ∙ ap (λ (l : List ℕ). field parts.first ++ l) (back ∙ ap (λ (l : List ℕ). closing_text word.first ++ l) same.1)
    ∙ sym (append_assoc (field parts.first) (closing_text word.first) left) in
    rw (← same.0) (record { is = is; text = text; fit = number.1 })

dialed_sound : (letter : ℕ) (bytes left : List ℕ) (act : Act) → letter ≡ 68 → dialed_at bytes ≡ Some (act, left) → IsActAt letter bytes act left
unfolding dialed_at
dialed_sound letter bytes left act is read =
    let parts = follows (slot_at bytes) (λ slot mid. and_then (linked_at mid) (λ linked behind. Some (Dialed slot linked, behind))) act left read in
    let number = slot_sound parts.first bytes parts.mid parts.before in
    let word = follows (linked_at parts.mid) (λ linked behind. Some (Dialed parts.first linked, behind)) act left parts.behind in
    let same = one_read (Dialed parts.first word.first) act word.mid left word.behind in
    let back = linked_sound word.first parts.mid word.mid word.before in
    let text = number.0 ∙ ap (λ (l : List ℕ). field parts.first ++ l) (back ∙ ap (λ (l : List ℕ). linked_text word.first ++ l) same.1)
    ∙ sym (append_assoc (field parts.first) (linked_text word.first) left) in
    rw (← same.0) (record { is = is; text = text; fit = number.1 })

-- ---- any act but a command

pub is_letter : (letter n : ℕ) → nat_eq letter n ≡ true → letter ≡ n
is_letter letter n h = grind (arith, nat_tests)

plain_sound : (letter : ℕ) (bytes left : List ℕ) (act : Act) → plain_at letter bytes ≡ Some (act, left) → IsActAt letter bytes act left
unfolding plain_at
plain_sound letter bytes left act read =
    elim (one_of (nat_eq letter 65) _ _ (act, left) read) [
      | inl a ↦ alone_sound letter Arrive bytes left act (is_letter letter 65 a.0) refl tt a.1
      | inr b ↦ elim (one_of (nat_eq letter 72) _ _ (act, left) b.1) [
        | inl a ↦ alone_sound letter Halt bytes left act (is_letter letter 72 a.0) refl tt a.1
        | inr b ↦ elim (one_of (nat_eq letter 84) _ _ (act, left) b.1) [
          | inl a ↦ take_sound letter bytes left act (is_letter letter 84 a.0) a.1
          | inr b ↦ elim (one_of (nat_eq letter 88) _ _ (act, left) b.1) [
            | inl a ↦ close_sound letter bytes left act (is_letter letter 88 a.0) a.1
            | inr b ↦ elim (one_of (nat_eq letter 68) _ _ (act, left) b.1) [
              | inl a ↦ dialed_sound letter bytes left act (is_letter letter 68 a.0) a.1
              | inr b ↦ elim (one_of (nat_eq letter 87) _ _ (act, left) b.1) [
                | inl a ↦ work_sound letter bytes left act (is_letter letter 87 a.0) a.1
                | inr b ↦ elim (one_of (nat_eq letter 74) _ _ (act, left) b.1) [
                  | inl a ↦ job_sound letter bytes left act (is_letter letter 74 a.0) a.1
                  | inr b ↦ absurd (nothing b.1)
                ]
              ]
            ]
          ]
        ]
      ]
    ]
  where
    nothing : ◌≡◌ {A = Read Act} None (Some (act, left)) → ⊥
    nothing same = cc

-- ---- commands

pub head_sound : (bytes left : List ℕ) (head : Head) → head_at bytes ≡ Some (head, left)
    → (bytes ≡ field head.conn ++ (field head.len ++ (10 ∷ left))) × ((head.conn < 2 ^ 32) × (head.len < 2 ^ 64))
unfolding head_at
head_sound bytes left head read =
    let parts = follows (conn_at bytes) (λ conn mid. and_then (field_at mid) (λ len behind. word_at (codes "\n") (record { conn = conn; len = len }) behind)) head left read in
    let number = conn_sound parts.first bytes parts.mid parts.before in
    let next = follows (field_at parts.mid) (λ len behind. word_at (codes "\n") (record { conn = parts.first; len = len }) behind) head left parts.behind in
    let size = field_sound next.first parts.mid next.mid next.before in
    let back = word_sound (codes "\n") _ head next.mid left next.behind in
    rw back.0 (number.0 ∙ ap (λ (l : List ℕ). field parts.first ++ l) (size.0 ∙ ap (λ (l : List ℕ). field next.first ++ l) back.1), (number.1, size.1))

pub head_complete : (conn len : ℕ) (rest : List ℕ) → conn < 2 ^ 32 → len < 2 ^ 64
    → head_at (field conn ++ (field len ++ (10 ∷ rest))) ≡ Some (record { conn = conn; len = len }, rest)
unfolding head_at
head_complete conn len rest conn_fits len_fits =
    rw (conn_complete conn 32 _ conn_fits refl, field_complete len 10 rest len_fits refl) refl

command_pieces : (a b block left : List ℕ) → a ++ (b ++ (10 ∷ (block ++ (10 ∷ left)))) ≡ (a ++ (b ++ codes "\n" ++ block ++ codes "\n")) ++ left
command_pieces a b block left = simp append_assoc

command_text : (conn : ℕ) (block left : List ℕ) → field conn ++ (field (length block) ++ (10 ∷ (block ++ (10 ∷ left)))) ≡ act_text (Command conn block) ++ left
command_text conn block left = command_pieces (field conn) (field (length block)) block left

command_sound : (letter : ℕ) (bytes left : List ℕ) (act : Act) → letter ≡ 67 → command_at bytes ≡ Ok (act, left) → IsActAt letter bytes act left
unfolding command_at
command_sound letter bytes left act is read = first (head_at bytes) refl read
  where
    second : (head : Head) (mid : List ℕ) (r : Reads (List ℕ)) → head_at bytes ≡ Some (head, mid) → block_at head.len mid ≡ r
        → of_block head.conn r ≡ Ok (act, left) → IsActAt letter bytes act left
    second head mid (Err fault) before here same = absurd (cc)
    second head mid (Ok r) before here same =
        let both : ◌≡◌ {A = Act × List ℕ} (Command head.conn r.0, r.1) (act, left) = cc in
        let given : Command head.conn r.0 ≡ act = ap (λ (p : Act × List ℕ). p.0) both in
        let rest : r.1 ≡ left = ap (λ (p : Act × List ℕ). p.1) both in
        let line = head_sound bytes mid head before in
        let block = block_sound head.len mid r.0 r.1 here in
        let size : length r.0 < 2 ^ 64 = rw block.size line.1.1 in
        let text = line.0 ∙ ap (λ (l : List ℕ). field head.conn ++ (field head.len ++ (10 ∷ l))) (block.text ∙ ap (λ (l : List ℕ). r.0 ++ (10 ∷ l)) rest)
        ∙ ap (λ n. field head.conn ++ (field n ++ (10 ∷ (r.0 ++ (10 ∷ left))))) (sym block.size) ∙ command_text head.conn r.0 left in
        rw (← given) (record { is = is; text = text; fit = (line.1.0, size) })

    first : (r : Read Head) → head_at bytes ≡ r → of_head r ≡ Ok (act, left) → IsActAt letter bytes act left
    first None none same = absurd (cc)
    first (Some r) before same = second r.0 r.1 (block_at r.0.len r.1) before refl same

-- ---- loads

loaded_pieces : (a words block left : List ℕ) → a ++ ((words ++ block) ++ left) ≡ (a ++ words ++ block) ++ left
loaded_pieces a words block left = simp append_assoc

loaded_sound : (letter : ℕ) (bytes left : List ℕ) (act : Act) → letter ≡ 76 → loaded_at bytes ≡ Ok (act, left) → IsActAt letter bytes act left
unfolding loaded_at
loaded_sound letter bytes left act is read = first (field_at bytes) refl read
  where
    second : (job : ℕ) (mid : List ℕ) (r : Reads LoadNote) → field_at bytes ≡ Some (job, mid) → note_at mid ≡ r → of_note job r ≡ Ok (act, left)
        → IsActAt letter bytes act left
    second job mid (Err fault) before here same = absurd (cc)
    second job mid (Ok r) before here same =
        let both : ◌≡◌ {A = Act × List ℕ} (Loaded job r.0, r.1) (act, left) = cc in
        let given : Loaded job r.0 ≡ act = ap (λ (p : Act × List ℕ). p.0) both in
        let rest : r.1 ≡ left = ap (λ (p : Act × List ℕ). p.1) both in
        let number = field_sound job bytes mid before in
        let note = note_sound mid r.1 r.0 here in
        let text = number.0 ∙ ap (λ (l : List ℕ). field job ++ l) (note.text ∙ ap (λ (l : List ℕ). (note_words r.0 ++ note_block r.0) ++ l) rest)
        ∙ loaded_pieces (field job) (note_words r.0) (note_block r.0) left in
        rw (← given) (record { is = is; text = text; fit = (number.1, note.fit) })

    first : (r : Read ℕ) → field_at bytes ≡ r → of_job r ≡ Ok (act, left) → IsActAt letter bytes act left
    first None none same = absurd (cc)
    first (Some r) before same = second r.0 r.1 (note_at r.1) before refl same

job_complete : (job : ℕ) (note : LoadNote) (rest : List ℕ) → job < 2 ^ 64
    → field_at (field job ++ ((note_words note ++ note_block note) ++ rest)) ≡ Some (job, (note_words note ++ note_block note) ++ rest)
job_complete job note rest fits =
    let b = note_begins note rest in
    ap (λ (l : List ℕ). field_at (field job ++ l)) b.1 ∙ field_complete job 32 b.0 fits refl ∙ ap (λ (l : List ℕ). Some (job, l)) (sym b.1)

-- ---- acts

act_sound : (letter : ℕ) (bytes left : List ℕ) (act : Act) → act_at letter bytes ≡ Ok (act, left) → IsActAt letter bytes act left
unfolding act_at
act_sound letter bytes left act read = first (nat_eq letter 67) refl read
  where
    plain : (r : Read Act) → plain_at letter bytes ≡ r → or_bad r ≡ Ok (act, left) → IsActAt letter bytes act left
    plain None none same = absurd (cc)
    plain (Some r) here same =
        let both : r ≡ (act, left) = cc in
        plain_sound letter bytes left act (here ∙ ap (λ (p : Act × List ℕ). Some p) both)

    second : (t : Bool) → nat_eq letter 76 ≡ t → ◌≡◌ {A = Reads Act} (cond t (loaded_at bytes) (or_bad (plain_at letter bytes))) (Ok (act, left)) → IsActAt letter bytes act left
    second true is same = loaded_sound letter bytes left act (is_letter letter 76 is) same
    second false other same = plain (plain_at letter bytes) refl same

    first : (t : Bool) → nat_eq letter 67 ≡ t
        → ◌≡◌ {A = Reads Act} (cond t (command_at bytes) (cond (nat_eq letter 76) (loaded_at bytes) (or_bad (plain_at letter bytes)))) (Ok (act, left))
        → IsActAt letter bytes act left
    first true is same = command_sound letter bytes left act (is_letter letter 67 is) same
    first false other same = second (nat_eq letter 76) refl same

-- each act is read as it is written
act_complete : (act : Act) (rest : List ℕ) → IsFitAct act → act_at (letter_of act) (act_text act ++ rest) ≡ Ok (act, rest)
unfolding act_at plain_at ended_at taken_at work_at job_at close_at dialed_at command_at loaded_at
act_complete Arrive rest fit = refl
act_complete Halt rest fit = refl
act_complete (Command conn block) rest fit =
    rw (← command_text conn block rest, head_complete conn (length block) (block ++ (10 ∷ rest)) fit.0 fit.1, block_complete block rest) refl
act_complete (Take conn) rest fit = rw (append_assoc (field conn) (codes "\n") rest, conn_complete conn 10 rest fit refl) refl
act_complete (Close conn EndOfInput) rest fit =
    rw (append_assoc (field conn) (codes " in\n") rest, conn_complete conn 32 _ fit refl, closing_complete EndOfInput rest) refl
act_complete (Close conn Sent) rest fit =
    rw (append_assoc (field conn) (codes " sent\n") rest, conn_complete conn 32 _ fit refl, closing_complete Sent rest) refl
act_complete (Close conn Failed) rest fit =
    rw (append_assoc (field conn) (codes " failed\n") rest, conn_complete conn 32 _ fit refl, closing_complete Failed rest) refl
act_complete (Dialed slot true) rest fit =
    rw (append_assoc (field slot) (codes " 1\n") rest, slot_complete slot 32 _ fit refl, linked_complete true rest) refl
act_complete (Dialed slot false) rest fit =
    rw (append_assoc (field slot) (codes " 0\n") rest, slot_complete slot 32 _ fit refl, linked_complete false rest) refl
act_complete (Work slot) rest fit = rw (append_assoc (field slot) (codes "\n") rest, slot_complete slot 10 rest fit refl) refl
act_complete (Job job) rest fit = rw (append_assoc (field job) (codes "\n") rest, field_complete job 10 rest fit refl) refl
act_complete (Loaded job note) rest fit =
    rw (← loaded_pieces (field job) (note_words note) (note_block note) rest, job_complete job note rest fit.0, note_complete note rest fit.1) refl

-- ---- entries

-- what stands behind a moment begins with a space or LF
behind_moment : (act : Act) (rest : List ℕ) → (c : ℕ) × ((after : List ℕ) × ((is_other c ≡ true) × (act_text act ++ rest ≡ c ∷ after)))
behind_moment Arrive rest = (10, (rest, (refl, refl)))
behind_moment Halt rest = (10, (rest, (refl, refl)))
behind_moment (Command conn block) rest = (32, (_, (refl, refl)))
behind_moment (Take conn) rest = (32, (_, (refl, refl)))
behind_moment (Close conn how) rest = (32, (_, (refl, refl)))
behind_moment (Dialed slot linked) rest = (32, (_, (refl, refl)))
behind_moment (Work slot) rest = (32, (_, (refl, refl)))
behind_moment (Job job) rest = (32, (_, (refl, refl)))
behind_moment (Loaded job note) rest = (32, (_, (refl, refl)))

moment_complete : (moment : ℕ) (act : Act) (rest : List ℕ) → moment < 2 ^ 64 → field_at (field moment ++ (act_text act ++ rest)) ≡ Some (moment, act_text act ++ rest)
moment_complete moment act rest fits =
    let b = behind_moment act rest in
    ap (λ (l : List ℕ). field_at (field moment ++ l)) b.1.1.1 ∙ field_complete moment b.0 b.1.0 fits b.1.1.0
    ∙ ap (λ (l : List ℕ). Some (moment, l)) (sym b.1.1.1)

-- the line of an entry is read as the entry, whatever follows it
pub entry_complete : (entry : Entry) (rest : List ℕ) → IsFit entry → entry_at (entry_text entry ++ rest) ≡ Ok (entry, rest)
unfolding entry_at entry_text
entry_complete entry rest fit =
    rw (append_assoc (field entry.moment) (act_text entry.act) rest, moment_complete entry.moment entry.act rest fit.moment, act_complete entry.act rest fit.act) refl

-- what was read is an entry's line
pub record IsEntryAt (bytes : List ℕ) (entry : Entry) (left : List ℕ) : Type 0 where
  pub text : bytes ≡ entry_text entry ++ left
  pub fit : IsFit entry

pub entry_sound : (bytes left : List ℕ) (entry : Entry) → entry_at bytes ≡ Ok (entry, left) → IsEntryAt bytes entry left
unfolding entry_at entry_text
entry_sound [] left entry read = absurd (cc)
entry_sound (letter ∷ bytes) left entry read = first (field_at bytes) refl read
  where
    second : (moment : ℕ) (mid : List ℕ) (r : Reads Act) → field_at bytes ≡ Some (moment, mid) → act_at letter mid ≡ r
        → of_act moment r ≡ Ok (entry, left) → IsEntryAt (letter ∷ bytes) entry left
    second moment mid (Err fault) before here same = absurd (cc)
    second moment mid (Ok r) before here same =
        let both : ◌≡◌ {A = Entry × List ℕ} (record { moment = moment; act = r.0 }, r.1) (entry, left) = cc in
        let given : ◌≡◌ {A = Entry} (record { moment = moment; act = r.0 }) entry = ap (λ (p : Entry × List ℕ). p.0) both in
        let rest : r.1 ≡ left = ap (λ (p : Entry × List ℕ). p.1) both in
        let number = field_sound moment bytes mid before in
        let act = act_sound letter mid r.1 r.0 here in
        let text = ap (λ n. n ∷ bytes) act.is ∙ ap (λ (l : List ℕ). letter_of r.0 ∷ l) (number.0 ∙ ap (λ (l : List ℕ). field moment ++ l) (act.text ∙ ap (λ (l : List ℕ). act_text r.0 ++ l) rest)
        ∙ sym (append_assoc (field moment) (act_text r.0) left)) in
        rw (← given) (record { text = text; fit = record { moment = number.1; act = act.fit } })

    first : (r : Read ℕ) → field_at bytes ≡ r → of_moment letter r ≡ Ok (entry, left) → IsEntryAt (letter ∷ bytes) entry left
    first None none same = absurd (cc)
    first (Some r) before same = second r.0 r.1 (act_at letter r.1) before refl same
